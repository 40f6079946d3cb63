use Rattle.std.proofs.Common.{◌≡◌, ◌+◌, ◌<◌, ◌≤◌, None, length, length-append, map, replicate, set, sym, ap, ◌∙◌, subst, arith}
use Rattle.std.proofs.lemmas.List.{length-replicate, length-set}
use Rattle.model_renaming.specs.declared.over.grid_register.GridValue.TheVariants.{Contents}
use Rattle.model_renaming.specs.over.Grid.{contents_of, made_of, AreContents, with_segments}
use Rattle.model_renaming.proofs.over_lemmas.GridContents.{contents-put, contents_more, made_put, more_made}
use Rattle.model_renaming.proofs.over.grid.Grid.put.Goals as goal
use Rattle.model_renaming.proofs.over.grid.Grid.put.Goals.{After-index_mut}

-- where the segment stands
record Standing (g : _) (c : After-index_mut g) : Type 0 where
  many : length c.add_empty.new.segments.items ≡ length c.self.inside.segments.items + c.saturating_sub-lacking.result
  inside : c.args.place < length c.add_empty.new.segments.items
  fits : length c.self.inside.segments.items + c.saturating_sub-lacking.result ≤ c.self.inside.places

standing : (g : _) (c : After-index_mut g) → Standing g c
standing g c =
    let vs = c.self.inside.segments.items in
    let k = c.saturating_sub-lacking.result in
    let len : c.len.result ≡ length vs = c.len.ensures ∙ c.self.inside.segments.ok.0 in
    let few = c.self.invariant.few in
    let here = c.if-place-self.true in
    let lacking = c.saturating_sub-lacking.ensures in
    let many : length c.add_empty.new.segments.items ≡ length vs + k =
    ap length c.add_empty.ensures.items ∙ length-append vs (replicate k (Contents None)) ∙ ap (λ n. length vs + n) (length-replicate k (Contents None)) in
    record { many = many; inside = grind (arith, many, len, lacking, few, here); fits = grind (arith, len, lacking, few, here) }

pub invariant_of-self : goal.invariant_of-self
invariant_of-self g c =
    let s = standing g (goal.at.invariant_of-self g c).After-index_mut in
    let new = c.add_empty.new.segments.items in
    let many = s.many in
    let fits = s.fits in
    record {
      contents = contents-put new c.args.place c.args.segment (subst AreContents (sym c.add_empty.ensures.items) (contents_more c.self.inside.segments.items c.saturating_sub-lacking.result c.self.invariant.contents));
      empty_is = c.self.invariant.empty_is;
      few = omega (arith, length-set new c.args.place (Contents c.args.segment), many, fits);
      room = omega (arith, c.add_empty.ensures.capacity, c.self.invariant.room);
    }

pub returns-then-place-self : goal.returns-then-place-self
returns-then-place-self g c =
    let s = standing g (goal.at.returns-then-place-self g c).After-index_mut in
    let vs = c.self.inside.segments.items in
    let places = c.self.inside.places in
    let place = c.args.place in
    let segment = c.args.segment in
    let as_were : made_of places (map contents_of c.add_empty.new.segments.items) ≡ made_of places (map contents_of vs) =
    ap (λ l. made_of places (map contents_of l)) c.add_empty.ensures.items ∙ more_made places c.saturating_sub-lacking.result vs s.fits in
    let put : made_of places (map contents_of (set c.add_empty.new.segments.items place (Contents segment))) ≡ set (made_of places (map contents_of vs)) place segment =
    made_put places place c.add_empty.new.segments.items segment s.inside ∙ ap (λ l. set l place segment) as_were in
    (λ i. record { doors = c.self.inside.doors; segments = put i; most = c.self.inside.most }) ∙ ap (λ w. with_segments w (set w.segments place segment)) c.self.view_is
