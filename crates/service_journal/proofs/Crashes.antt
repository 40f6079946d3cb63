-- what a crash leaves of a record
use Rattle.std.proofs.Common.{◌≡◌, ℕ, zero, suc, ◌≤◌, true, List, [], ◌∷◌, ◌++◌, length, take, refl, ap, sym, ◌∙◌, subst, arith}
use Rattle.service_journal.proofs.Common.{Exchange, IsCutOnce, has_no_lf, with_ends, HallState, record_of_hall, hall_after_first}
use Rattle.std.proofs.lemmas.List.{length-map}
use mathlib.Core.List.{IsPrefix}
use Rattle.service_journal.specs.Journals.{without_torn, LeavesHall}
use Rattle.service_journal.proofs.LineText.{head_of, row_of, rows_of, lines_of, lines_no_lf, record_ended}
use Rattle.service_journal.proofs.TornLemmas.{IsTornFrom, torn_lines}

-- bytes that are a hall's record and a rest with no LF are that record once the rest is cut
pub cut_record : (h : HallState) (left rest : List ℕ) → ((bytes : List ℕ) → IsCutOnce bytes) → left ≡ record_of_hall h ++ rest → has_no_lf rest ≡ true → without_torn left ≡ record_of_hall h
cut_record h left rest once is torn =
    let whole : with_ends (lines_of h) ++ rest ≡ left = ap (λ (l : List ℕ). l ++ rest) (sym (record_ended h)) ∙ sym is in
    let cut = once left (lines_of h) rest (record { joined = whole; lines_are = lines_no_lf h; rest_is = torn }) in
    ap with_ends (sym cut.0) ∙ sym (record_ended h)

take_rows : (n : ℕ) (xs : List Exchange) → take n (rows_of xs) ≡ rows_of (take n xs)
take_rows zero xs = refl
take_rows (suc n) [] = refl
take_rows (suc n) (x ∷ xs) = ap (λ (l : List (List ℕ)). row_of x ∷ l) (take_rows n xs)

module _ (once : (bytes : List ℕ) → IsCutOnce bytes) (h : HallState) where
  first_ended : (n : ℕ) → with_ends (take (suc n) (lines_of h)) ≡ record_of_hall (hall_after_first n h)
  first_ended n = ap (λ (l : List (List ℕ)). with_ends (head_of h.config ∷ l)) (take_rows n h.history) ∙ sym (record_ended (hall_after_first n h))

  left_by : (m : ℕ) (left : List ℕ) → IsTornFrom (lines_of h) (suc m) left → LeavesHall h m left
  left_by m left t = by t.count t.many t.few t.is where
    by : (count : ℕ) → suc m ≤ count → count ≤ length (lines_of h) → left ≡ with_ends (take count (lines_of h)) ++ t.rest → LeavesHall h m left
    by zero many few is = absurd (omega arith)
    by (suc n) many few is = record {
      count = n;
      many = omega arith;
      few = omega (arith, length-map h.history row_of);
      is = cut_record (hall_after_first n h) left t.rest once (is ∙ ap (λ (l : List ℕ). l ++ t.rest) (first_ended n)) t.torn;
    }

  -- of a record of which at least the first lines are left, so much that it is the record of the hall as it was then
  pub leaves : (m : ℕ) (left : List ℕ) → m ≤ length h.history → IsPrefix (record_of_hall (hall_after_first m h)) left → IsPrefix left (record_of_hall h) → LeavesHall h m left
  leaves m left few least most =
      left_by m left (torn_lines (lines_of h) left (suc m) (lines_no_lf h) (subst (λ (l : List ℕ). IsPrefix left l) (record_ended h) most)
      (omega (arith, length-map h.history row_of)) (subst (λ (l : List ℕ). IsPrefix l left) (sym (first_ended m)) least))
