-- the words of a pool at its end
use Rattle.std.proofs.Common.{eq-eqb, ne_eqb, subst, ◌≡◌, ℕ, zero, suc, ◌+◌, ◌*◌, ◌<◌, ◌≤◌, sym, refl, ap, ◌∙◌, arith, List, [], ◌∷◌, ◌++◌, length, slice_index}
use Rattle.words_pool.proofs.Common.{Final, Seen, at_last, PoolView, own, holding, Call, read_at, IsWordFor, set_places, KeepsPoolRule}
use mathlib.Core.Option.{some, some-ne-none, some-injective}
use mathlib.Core.Logic.{dite}
use native.Mathlib.Decide.{ℕ_discrete}
use lib.ListN.{get_elem?}
use Rattle.words_pool.proofs.Keeping.{at_most_one}
use Rattle.words_pool.proofs.Tallies.{tally_has}

before : (l m : List ℕ) (k : ℕ) → k < length l → get_elem? (l ++ m) k ≡ get_elem? l k
before [] m k h = absurd (omega arith)
before (x ∷ xs) m zero h = refl
before (x ∷ xs) m (suc k) h = before xs m k (omega arith)

-- one word more is read out, of those that `at` tells
pub read_more : (out words : List ℕ) (at : ℕ → ℕ) (i x : ℕ) → length out ≡ i → ((k : ℕ) → k < i → get_elem? out k ≡ get_elem? words (at k)) → get_elem? words (at i) ≡ some x →
    (k : ℕ) → k < i + 1 → get_elem? (out ++ x ∷ []) k ≡ get_elem? words (at k)
read_more out words at i x n h e k lt = dite (ℕ_discrete k i)
    (λ z. ap (λ (j : ℕ). get_elem? (out ++ x ∷ []) j) (z ∙ sym n) ∙ at_last out x (length out) refl ∙ sym e ∙ ap (λ (j : ℕ). get_elem? words (at j)) (sym z))
    (λ z. before out (x ∷ []) k (omega arith) ∙ h k (omega arith))

-- two lists with the same at two places
pub same_index : (ls ms : List ℕ) (i j : ℕ) → get_elem? ls i ≡ get_elem? ms j → slice_index ls i ≡ slice_index ms j
same_index [] [] i j e = refl
same_index [] (b ∷ ms) i zero e = absurd (some-ne-none b (sym e))
same_index [] (b ∷ ms) i (suc j) e = same_index [] ms i j e
same_index (a ∷ ls) [] zero j e = absurd (some-ne-none a e)
same_index (a ∷ ls) [] (suc i) j e = same_index ls [] i j e
same_index (a ∷ ls) (b ∷ ms) zero zero e = some-injective a b e
same_index (a ∷ ls) (b ∷ ms) zero (suc j) e = same_index (a ∷ ls) ms zero j e
same_index (a ∷ ls) (b ∷ ms) (suc i) zero e = same_index ls (b ∷ ms) i zero e
same_index (a ∷ ls) (b ∷ ms) (suc i) (suc j) e = same_index (a ∷ ls) ms (suc i) j e

-- the last word
last_word : (out : List ℕ) (i x : ℕ) → length out ≡ i → slice_index (out ++ x ∷ []) i ≡ x
last_word out i x n = same_index (out ++ x ∷ []) (x ∷ []) i 0 (ap (λ (j : ℕ). get_elem? (out ++ x ∷ []) j) (sym n) ∙ at_last out x (length out) refl)

-- one word more changes nothing of those before
word_before : (out : List ℕ) (x k : ℕ) → k < length out → slice_index (out ++ x ∷ []) k ≡ slice_index out k
word_before out x k h = same_index (out ++ x ∷ []) out k k (before out (x ∷ []) k h)

set_before : (out : List ℕ) (x n : ℕ) → n ≤ length out → set_places (out ++ x ∷ []) n ≡ set_places out n
set_before out x zero h = refl
set_before out x (suc n) h = let a = word_before out x n (omega arith) in let b = set_before out x n (omega arith) in rw (a, b) refl

-- a last look at the next place meets it where its word is not 0
pub met_more : (out : List ℕ) (i x : ℕ) (c : Call) → length out ≡ i → c.met ≡ set_places out i → (read_at i x c).met ≡ set_places (out ++ x ∷ []) (suc i)
met_more out i x c n m =
    let a = last_word out i x n in
    let b = set_before out x i (omega arith) in
    dite (ℕ_discrete x 0)
    (λ z. let e = eq-eqb x 0 z in rw (a, b, e) m)
    (λ z. let e = ne_eqb x 0 z in rw (a, b, e) (ap (λ (l : List ℕ). i ∷ l) m))

pub words_more : (out : List ℕ) (i x : ℕ) (v : PoolView) → length out ≡ i → ((k : ℕ) → k < i → IsWordFor k v (slice_index out k)) → IsWordFor i v x
    → (k : ℕ) → k < suc i → IsWordFor k v (slice_index (out ++ x ∷ []) k)
words_more out i x v n h one k lt = dite (ℕ_discrete k i)
    (λ e. subst (λ (j : ℕ). IsWordFor j v (slice_index (out ++ x ∷ []) j)) (sym e) (subst (λ (y : ℕ). IsWordFor i v y) (sym (last_word out i x n)) one))
    (λ ne. subst (λ (y : ℕ). IsWordFor k v y) (sym (word_before out x k (omega arith))) (h k (omega arith)))

-- what holds of a word by one view does by another that holds as much
pub as_word : (k x : ℕ) (u v : PoolView) → own (holding k) v ≡ own (holding k) u → IsWordFor k u x → IsWordFor k v x
as_word k x u v same h = (h.0, λ has. h.1 (omega arith))

module _ (S : Type 0) (count seat : ℕ) (v : PoolView) (ws : List ℕ) (xs : List S) (out : List ℕ) (last : Final (Seen (KeepsPoolRule {S = S} count) seat v) ws xs)
    (p : ℕ) (lt : p < count) (read : get_elem? out p ≡ get_elem? ws (p * 8)) where
  is_word : slice_index out p ≡ slice_index last.0.words (p * 8)
  is_word = same_index out ws p (p * 8) read ∙ ap (λ (l : List ℕ). slice_index l (p * 8)) (sym last.2)

  -- each word is 0 or 1 at the end
  pub bits_at_end : slice_index out p ≤ 1
  bits_at_end = let a = at_most_one count last.0.words last.0.views last.1.0 p lt in let b = is_word in omega arith

  -- and 1 where the last seat holds the place
  pub held_at_end : 1 ≤ own (holding p) v → slice_index out p ≡ 1
  held_at_end h =
      let a = at_most_one count last.0.words last.0.views last.1.0 p lt in
      let b = is_word in
      let c = last.1.0.held p lt in
      let d = tally_has (holding p) last.0.views seat v last.1.1 in
      omega arith
