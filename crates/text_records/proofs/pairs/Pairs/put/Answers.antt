use Rattle.std.proofs.Common.{◌≡◌, ◌∙◌, ℕ, List, length, sym, ap, subst}
use Rattle.text_records.proofs.Common.{false≢true, inserted, HasAt}
use Rattle.std.specs.Prelude.{nat_le, unwrap_or, position}
use Rattle.text_records.proofs.PairLemmas.{put_over, put_between}
use Rattle.text_records.proofs.pairs.Pairs.put.Goals as goal

abbrev IsPlaceFor : ℕ → ℕ → List (ℕ × ℕ) → Type 0
IsPlaceFor id at xs = at ≡ unwrap_or (position (λ pair. nat_le id pair.0) xs) (length xs)

pub returns-then-has_at-clause-put : goal.returns-then-has_at-clause-put
returns-then-has_at-clause-put c =
    let at = c.place_for-at.result in
    let items : List (ℕ × ℕ) = c.self.inside.items.items in
    let place = subst (IsPlaceFor c.args.id at) c.deref.ensures.value c.place_for-at.ensures.place in
    let has = subst (λ (xs : List (ℕ × ℕ)). HasAt xs at c.args.id) c.deref-2.ensures.value (c.has_at.ensures.0 c.if-has_at.true) in
    put_over items (c.args.id, c.args.number) at place has ∙ ap (λ (xs : List (ℕ × ℕ)). inserted xs (c.args.id, c.args.number)) c.self.view_is

pub returns-clause-put : goal.returns-clause-put
returns-clause-put c =
    let at = c.place_for-at.result in
    let items : List (ℕ × ℕ) = c.self.inside.items.items in
    let place = subst (IsPlaceFor c.args.id at) c.deref.ensures.value c.place_for-at.ensures.place in
    let lacks : HasAt items at c.args.id → ⊥ =
    (λ h. false≢true (sym c.if-has_at.false ∙ c.has_at.ensures.1 (subst (λ (xs : List (ℕ × ℕ)). HasAt xs at c.args.id) (sym c.deref-2.ensures.value) h))) in
    c.in_ok-insert.ensures.items ∙ put_between items (c.args.id, c.args.number) at place lacks ∙ ap (λ (xs : List (ℕ × ℕ)). inserted xs (c.args.id, c.args.number)) c.self.view_is
