use Rattle.std.proofs.Common.{◌≡◌, ◌++◌, [], ◌∷◌, true, length, ap, ◌∙◌, sym}
use Rattle.service_hall.proofs.Common.{exchange, with_view}
use Rattle.service_hall.specs.Logs.{is_inside, put_together}
use Rattle.service_hall.specs.LogState.{LogState}
use Rattle.service_hall.proofs.Logging.{put_push, inside_push}
use Rattle.service_hall.proofs.log.Log.push_reserved.Goals as goal

pub invariant_of-self : goal.invariant_of-self
invariant_of-self g c =
    let i = c.self.inside in
    let apart = c.shorten-reply.new.apart in
    let one : is_inside (length apart.items) c.shorten-reply.result ≡ true = ap (λ k. is_inside k c.shorten-reply.result) (sym apart.ok.0) ∙ c.shorten-reply.ensures.inside in
    inside_push i.apart.items apart.items i.entries.items c.push_reserved.new.self.items c.args.event c.shorten-reply.result c.shorten-reply.ensures.longer c.self.invariant c.push_reserved.ensures.items one

pub returns : goal.returns
returns g c =
    let i = c.self.inside in
    let old : put_together i.apart.items i.entries.items ≡ c.args.self.now.items = ap (λ (w : LogState). w.items) c.self.view_is in
    put_push i.apart.items c.shorten-reply.new.apart.items i.entries.items c.push_reserved.new.self.items c.args.event c.shorten-reply.result c.shorten-reply.ensures.longer c.self.invariant c.push_reserved.ensures.items (with_view c.args.reply c.args.view.now) c.shorten-reply.ensures.shown
    ∙ ap (λ j. j ++ exchange c.args.event (with_view c.args.reply c.args.view.now) ∷ []) old
