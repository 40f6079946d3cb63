use Rattle.std.proofs.Common.{◌≡◌, ◌++◌, [], ◌∷◌, ap, sym, ◌∙◌, length, length-append, arith}
use Rattle.service_lock.proofs.Common.{option_or, exchange, with_view, kept_of, side_by_side, name_kept, name_given, KeptState}
use Rattle.service_lock.proofs.Keeping.{kept_push}
use Rattle.service_lock.proofs.FirstNames.{name_more}
use Rattle.service_lock.proofs.kept_log.KeptLog.push_reserved.Goals as goal
use Rattle.service_lock.proofs.kept_log.KeptLog.push_reserved.Goals.{After-push_reserved-2}

longer : (c : After-push_reserved-2) → side_by_side c.push_reserved.new.self.items c.push_reserved-2.new.self.items ≡ side_by_side c.self.inside.places.items c.self.inside.log.items ++ kept_of c.args.place (exchange c.args.event (with_view c.args.reply c.args.view.now)) ∷ []
longer c =
    let i = c.self.inside in
    let k = kept_of c.args.place (exchange c.args.event (with_view c.args.reply c.args.view.now)) in
    ap (λ ps. side_by_side ps c.push_reserved-2.new.self.items) c.push_reserved.ensures.items
    ∙ ap (λ xs. side_by_side (i.places.items ++ k.place ∷ []) xs) c.push_reserved-2.ensures
    ∙ kept_push i.places.items i.log.items k.place k.exchange c.self.invariant.0

pub invariant_of-self : goal.invariant_of-self
invariant_of-self c =
    let i = c.self.inside in
    let k = kept_of c.args.place (exchange c.args.event (with_view c.args.reply c.args.view.now)) in
    let many : length c.push_reserved.new.self.items ≡ length c.push_reserved-2.new.self.items = omega (
      arith,
      c.self.invariant.0,
      ap length c.push_reserved.ensures.items,
      ap length c.push_reserved-2.ensures,
      length-append i.places.items (k.place ∷ []),
      length-append i.log.items (k.exchange ∷ []),
    ) in
    let name : c.or-self-inside.result ≡ option_or (name_kept (side_by_side i.places.items i.log.items)) (name_given k.exchange.reply) =
    c.or-self-inside.ensures ∙ ap (λ o. option_or o c.name_given.result) c.self.invariant.1 ∙ ap (option_or (name_kept (side_by_side i.places.items i.log.items))) (c.name_given.ensures c.args.view.now) in
    (many, name ∙ sym (name_more (side_by_side i.places.items i.log.items) k) ∙ sym (ap name_kept (longer c)))

pub returns : goal.returns
returns c = longer c ∙ ap (λ (w : KeptState). w.items ++ kept_of c.args.place (exchange c.args.event (with_view c.args.reply c.args.view.now)) ∷ []) c.self.view_is
