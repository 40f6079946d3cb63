use Rattle.std.proofs.Common.{◌≡◌, refl, rules, sym, ◌∙◌}
use Rattle.std.specs.Cmp.{booleans_Decides}
use Rattle.std.proofs.lemmas.Slice.Eq.{slice_eq-Decides}
use Rattle.std.proofs.lemmas.Bool.Decides.{Decides-eqb}
use Rattle.service_hall.proofs.slots_copy.SlotsCopy.is_same.Goals as goal

pub returns : goal.returns
returns c = λ same.
    let most : c.args.self.now.most ≡ c.args.other.now.most = search rules in
    let size : c.args.self.now.size ≡ c.args.other.now.size = (Decides-eqb c.args.self.now.size c.args.other.now.size).0 same in
    let bits : c.args.self.now.bits.items ≡ c.args.other.now.bits.items = (slice_eq-Decides booleans_Decides _ _ _ c.eq-bits.ensures).0 c.if-not-bits.false in
    let values : c.args.self.now.values.items ≡ c.args.other.now.values.items = (slice_eq-Decides Decides-eqb _ _ _ c.eq-values.ensures).0 c.if-not-values.false in
    let row : c.args.self.now.competitors.items ≡ c.args.other.now.competitors.items =
    sym c.deref.ensures.value ∙ c.is_one_row-competitors.ensures c.if-not-competitors.false ∙ c.deref-2.ensures.value in
    rw (most, size, bits, row, values) refl
