-- what is left of lines
use Rattle.std.proofs.Common.{◌≡◌, ◌==◌, ◌⊎◌, inl, inr, ℕ, zero, suc, ◌≤◌, true, not, List, [], ◌∷◌, ◌++◌, length, take, refl, ap, sym, ◌∙◌, arith, append_assoc, length-append}
use Rattle.service_journal.proofs.Common.{list_all, and_parts, has_no_lf, with_ends}
use mathlib.Core.List.{IsPrefix}

-- the bytes are the first lines, some number of at least so many, each with its LF, and what was torn off the next, with none
pub record IsTornFrom (ls : List (List ℕ)) (least : ℕ) (left : List ℕ) : Type 0 where
  pub count : ℕ
  pub many : least ≤ count
  pub few : count ≤ length ls
  pub rest : List ℕ
  pub is : left ≡ with_ends (take count ls) ++ rest
  pub torn : has_no_lf rest ≡ true

-- a prefix of a line with its LF and more is one of the line, or has all of it
Splits : List ℕ → List ℕ → List ℕ → Type 0
Splits l more left = IsPrefix left l ⊎ ((after : List ℕ) × (left ≡ l ++ 10 ∷ after) × IsPrefix after more)

split : (l more left : List ℕ) → IsPrefix left (l ++ 10 ∷ more) → Splits l more left
unfolding Splits
split [] more [] p = inl ([], refl)
split [] more (b ∷ left) p = inr (left, cc (p.1), (p.0, cc (p.1)))
split (x ∷ l) more [] p = inl (x ∷ l, refl)
split (x ∷ l) more (b ∷ left) p =
    let same : b ≡ x = cc (p.1) in
    elim (split l more left (p.0, cc (p.1))) [
      | inl q ↦ inl (q.0, cc (same, q.1))
      | inr q ↦ inr (q.0, cc (same, q.1), q.2)
    ]

no_lf_prefix : (left l : List ℕ) → IsPrefix left l → has_no_lf l ≡ true → has_no_lf left ≡ true
no_lf_prefix [] l p h = refl
no_lf_prefix (b ∷ left) [] p h = absurd (cc (p.1))
no_lf_prefix (b ∷ left) (x ∷ l) p h =
    let same : b ≡ x = cc (p.1) in
    let parts = and_parts (not (x == 10)) (has_no_lf l) h in
    let first : not (b == 10) ≡ true = ap (λ (n : ℕ). not (n == 10)) same ∙ parts.0 in
    rw first (no_lf_prefix left l (p.0, cc (p.1)) parts.1)

-- what stands behind a list in two ways
behind : (l xs ys : List ℕ) → l ++ xs ≡ l ++ ys → xs ≡ ys
behind [] xs ys h = h
behind (x ∷ l) xs ys h = behind l xs ys (cc h)

-- a line with its LF is no beginning of a part of it
not_both : (l more left : List ℕ) → IsPrefix left l → IsPrefix (l ++ 10 ∷ more) left → ⊥
not_both l more left p q =
    let a = sym (ap length p.1) ∙ length-append left p.0 in
    let b = sym (ap length q.1) ∙ length-append (l ++ 10 ∷ more) q.0 in
    let d = length-append l (10 ∷ more) in
    omega arith

-- what is left of these lines, whatever is left
Torn : List (List ℕ) → Type 0
Torn ls = (left : List ℕ) (m : ℕ) → IsPrefix left (with_ends ls) → m ≤ length ls → IsPrefix (with_ends (take m ls)) left → IsTornFrom ls m left

-- one line more
module _ (l : List ℕ) (ls : List (List ℕ)) (h : has_no_lf l ≡ true) (again : Torn ls) where
  none_left : (left : List ℕ) → IsPrefix left l → IsTornFrom (l ∷ ls) 0 left
  none_left left q = record { count = 0; many = omega arith; few = omega arith; rest = left; is = refl; torn = no_lf_prefix left l q h }

  one_more : (left : List ℕ) (m : ℕ) (q : (after : List ℕ) × (left ≡ l ++ 10 ∷ after) × IsPrefix after (with_ends ls)) → m ≤ length ls → IsPrefix (with_ends (take m ls)) q.0 → IsTornFrom (l ∷ ls) (suc m) left
  unfolding Torn
  one_more left m q few least =
      let r = again q.0 m q.2 few least in
      record {
        count = suc r.count;
        many = omega (arith, r.many);
        few = omega (arith, r.few);
        rest = r.rest;
        is = q.1 ∙ ap (λ (w : List ℕ). l ++ 10 ∷ w) r.is ∙ sym (append_assoc l (10 ∷ with_ends (take r.count ls)) r.rest);
        torn = r.torn;
      }

  -- at least as many, one fewer being known
  fewer : (m : ℕ) (left : List ℕ) → IsTornFrom (l ∷ ls) (suc m) left → IsTornFrom (l ∷ ls) 0 left
  fewer m left r = record { count = r.count; many = omega arith; few = r.few; rest = r.rest; is = r.is; torn = r.torn }

  torn_step : (left : List ℕ) (m : ℕ) → m ≤ length (l ∷ ls) → IsPrefix (with_ends (take m (l ∷ ls))) left → Splits l (with_ends ls) left → IsTornFrom (l ∷ ls) m left
  unfolding Splits
  torn_step left zero few least (inl q) = none_left left q
  torn_step left (suc m) few least (inl q) = absurd (not_both l (with_ends (take m ls)) left q least)
  torn_step left zero few least (inr q) = fewer 0 left (one_more left 0 q (omega arith) (q.0, refl))
  torn_step left (suc m) few least (inr q) =
      let whole : l ++ 10 ∷ (with_ends (take m ls) ++ least.0) ≡ l ++ 10 ∷ q.0 = sym (append_assoc l (10 ∷ with_ends (take m ls)) least.0) ∙ least.1 ∙ q.1 in
      one_more left m q (omega arith) (least.0, cc (behind l _ _ whole))

all_torn : (ls : List (List ℕ)) → list_all has_no_lf ls ≡ true → Torn ls
unfolding Torn
all_torn [] h [] m p few least = record { count = 0; many = omega arith; few = omega arith; rest = []; is = refl; torn = refl }
all_torn [] h (b ∷ left) m p few least = absurd (cc (p.1))
all_torn (l ∷ ls) h left m p few least =
    let parts = and_parts (has_no_lf l) (list_all has_no_lf ls) h in
    torn_step l ls parts.0 (all_torn ls parts.1) left m few least (split l (with_ends ls) left p)

pub torn_lines : (ls : List (List ℕ)) (left : List ℕ) (m : ℕ) → list_all has_no_lf ls ≡ true → IsPrefix left (with_ends ls) → m ≤ length ls → IsPrefix (with_ends (take m ls)) left → IsTornFrom ls m left
unfolding Torn
torn_lines ls left m h p few least = all_torn ls h left m p few least
