use Rattle.std.proofs.Common.{◌≡◌, ◌≤◌, inl, inr, refl, ◌+◌, Some, slice_get, false, true, sym, ◌∙◌, subst, arith}
use Rattle.std.proofs.Math.Nat.{eq-or-lt_of_le}
use Rattle.std.proofs.lemmas.Option.{slice_get_within, slice_get-get_or, get_or_from_slice_get}
use Rattle.service_hall.specs.Halls.{desk_of}
use Rattle.service_lock.specs.Words.{IsOwnerOrNone}
use Rattle.service_lock.proofs.names.agrees.Goals as goal

pub returns-then-not-is_owner_or_none : goal.returns-then-not-is_owner_or_none
returns-then-not-is_owner_or_none g c =
    let place = c.loop-place.place in
    let stands = slice_get-get_or c.args.words.now place 0 c.loop-place-test.true in
    ((λ (no : false ≡ true). absurd (cc)), (λ agree. sym c.if-not-is_owner_or_none.true ∙ c.is_owner_or_none.ensures.1 (agree place _ stands)))

pub loop-place-preserved : goal.loop-place-preserved
loop-place-preserved g c place word below stands = elim (eq-or-lt_of_le (let low : place ≤ c.loop-place.place = omega (arith, below) in low)) [
  | inl here ↦ (
      let desk = desk_of c.args.closed.now.hall in
      let at : slice_get c.args.words.now c.loop-place.place ≡ Some word = subst (λ n. slice_get c.args.words.now n ≡ Some word) here stands in
      let is = subst (IsOwnerOrNone desk (c.loop-place.place + 1)) (get_or_from_slice_get c.args.words.now c.loop-place.place word 0 at) (c.is_owner_or_none.ensures.0 c.if-not-is_owner_or_none.false) in
      subst (λ n. IsOwnerOrNone desk (n + 1) word) (sym here) is)
  | inr before ↦ c.loop-place.invariant place word before stands
]

pub returns : goal.returns
returns g c =
    ((λ _ place word stands. c.loop-place.invariant place word (omega (arith, slice_get_within c.args.words.now place word stands, c.loop-place-test.false)) stands), (λ _. refl))
