use Rattle.std.proofs.Common.{ap, sym, subst}
use Rattle.text_player.proofs.Common.{WorldKind, PlayerState, after_end, Says, Stands}
use Rattle.text_player.proofs.StandsLemmas.{stands_said}
use Rattle.text_player.proofs.player.Player.end_line.Goals as goal

pub returns-clause-stands : goal.returns-clause-stands
returns-clause-stands g c = λ start p before now t.
    let kind = ap (λ (q : PlayerState). q.kind) c.self.view_is in
    stands_said g.D.Service.may g.F.Form.text start c.args.world.now c.finish.new.service c.self.inside.responder c.finish.new.self c.self.inside.replies c.finish.new.out
    (after_end c.args.self.now.kind) p before now (subst (λ (k : WorldKind). Says g.D.Service.may g.F.Form.text c.args.world.now c.self.inside.responder c.self.inside.replies c.finish.new.service c.finish.new.self c.finish.new.out (after_end k)) kind c.finish.ensures.says)
    (subst (λ (q : PlayerState). Stands g.D.Service.may g.F.Form.text start c.args.world.now q p before now) (sym c.self.view_is) t)

pub finish-requires-clause-knows : goal.finish-requires-clause-knows
finish-requires-clause-knows g c = λ line q is. (rw (sym (ap (λ (q : PlayerState). q.kind) c.self.view_is)) at c.requires.knows) line q is
