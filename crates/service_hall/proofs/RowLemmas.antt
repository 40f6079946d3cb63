-- competitors in a row
use Rattle.std.proofs.Common.{◌≡◌, ℕ, zero, suc, ◌+◌, ◌<◌, List, [], ◌∷◌, Option, Some, None, length, get_or, set, inl, inr, refl, sym, ap, arith, option_map}
use Rattle.std.proofs.lemmas.Bool.Decides.{eqb_tells}
use Rattle.model_steps.proofs.cited.Roster as roster
use Rattle.model_pool.specs.declared.competitor.Competitor.{Competitor}
use Rattle.model_pool.specs.declared.stay.Stay.{Stay}
use Rattle.model_pool.specs.Competitors.{index_of, with_stay}

get_or_any : {A : Type 0} (xs : List A) (i : ℕ) (d e : A) → i < length xs → get_or xs i d ≡ get_or xs i e
get_or_any [] i d e h = absurd (omega arith)
get_or_any (x ∷ xs) zero d e h = refl
get_or_any (x ∷ xs) (suc i) d e h = get_or_any xs i d e (omega (arith, h))

-- one whose index was found stands elsewhere
pub put_at : (xs : List Competitor) (id i : ℕ) (d : Competitor) (stay : Stay) → Some i ≡ index_of id xs → i < length xs →
    set xs i (record { identity = (get_or xs i d).identity; stay = stay }) ≡ with_stay id stay xs
put_at xs id i d stay h inside =
    let f = roster.found (λ x. x.identity) (λ x. x.stay) id xs i (get_or xs i d) refl refl h (get_or_any xs i d (get_or xs i d) inside) in
    rw f.identity (sym (f.put (record { identity = id; stay = stay }) refl))

none_of : (o : Option ℕ) → None ≡ option_map (λ k. k + 1) o → None ≡ o
none_of None h = refl
none_of (Some k) h = absurd (cc)

-- where none is found nothing changes
pub put_absent : (xs : List Competitor) (id : ℕ) (stay : Stay) → None ≡ index_of id xs → xs ≡ with_stay id stay xs
put_absent [] id stay h = refl
put_absent (x ∷ xs) id stay h = elim (eqb_tells x.identity id) [
  | inl w ↦ absurd (let k : None ≡ Some 0 = rw w.0 at h in cc)
  | inr w ↦
      let k : None ≡ option_map (λ k. k + 1) (index_of id xs) = rw w.0 at h in
      rw w.0 (ap (λ (l : List Competitor). x ∷ l) (put_absent xs id stay (none_of (index_of id xs) k)))
]
