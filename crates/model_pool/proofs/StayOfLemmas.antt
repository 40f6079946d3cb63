-- where each identity stands, after a call
use Rattle.std.proofs.Common.{◌≡◌, ℕ, true, not, ◌==◌, List, [], ◌∷◌, ◌++◌, Some, None, length, filter, cond, inl, inr, refl, arith, is_some}
use Rattle.model_pool.proofs.Common.{eqb_tells, nat_tests, set_at, Competitor, Stay, identities, stay_of, with_stay, without}
use Rattle.std.specs.List.{list_any}
use Rattle.std.proofs.lemmas.List.{map-append, length-map}
use Rattle.model_steps.proofs.cited.Roster.{seen-push, seen-put}

-- one more at the end, whose identity was not there
pub stay_of-push : (cs : List Competitor) (new : Competitor) → stay_of new.identity cs ≡ None → (q : ℕ) → stay_of q (cs ++ new ∷ []) ≡ set_at (λ v. stay_of v cs) new.identity (Some new.stay) q
stay_of-push = seen-push (λ c. c.identity) (λ c. c.stay)

-- another state of one who is there
pub stay_of-with_stay : (cs : List Competitor) (id : ℕ) (stay : Stay) → is_some (stay_of id cs) ≡ true → (q : ℕ) → stay_of q (with_stay id stay cs) ≡ set_at (λ v. stay_of v cs) id (Some stay) q
stay_of-with_stay cs id stay = seen-put (λ c. c.identity) (λ c. c.stay) cs (record { identity = id; stay = stay })

-- one less
pub stay_of-without : (cs : List Competitor) (id : ℕ) (q : ℕ) → stay_of q (without id cs) ≡ set_at (λ v. stay_of v cs) id None q
stay_of-without [] id q = grind (arith, nat_tests)
stay_of-without (c ∷ cs) id q =
    let rest : stay_of q (without id cs) ≡ cond (q == id) None (stay_of q cs) = stay_of-without cs id q in
    elim (eqb_tells c.identity id) [ inl w ↦ rw w.0 (grind (arith, nat_tests)) | inr w ↦ rw w.0 (grind (arith, nat_tests)) ]

-- those who compete
pub identities-push : (cs : List Competitor) (new : Competitor) → identities (cs ++ new ∷ []) ≡ identities cs ++ new.identity ∷ []
identities-push cs new = map-append (λ c. c.identity) cs (new ∷ [])

pub identities-with_stay : (cs : List Competitor) (id : ℕ) (stay : Stay) → identities (with_stay id stay cs) ≡ identities cs
identities-with_stay [] id stay = refl
identities-with_stay (c ∷ cs) id stay = let rest = identities-with_stay cs id stay in grind (arith, nat_tests)

pub identities-without : (cs : List Competitor) (id : ℕ) → identities (without id cs) ≡ filter (λ q. not (q == id)) (identities cs)
identities-without [] id = refl
identities-without (c ∷ cs) id = let rest = identities-without cs id in grind (arith, nat_tests)

pub length-identities : (cs : List Competitor) → length (identities cs) ≡ length cs
length-identities cs = length-map cs (λ c. c.identity)

pub competes-identities : (cs : List Competitor) (p : ℕ) → list_any (λ q. q == p) (identities cs) ≡ is_some (stay_of p cs)
competes-identities [] p = refl
competes-identities (c ∷ cs) p = let rest = competes-identities cs p in grind (arith, nat_tests)

-- of two states of one identity the second stays
pub with_stay-twice : (id : ℕ) (a b : Stay) (cs : List Competitor) → with_stay id b (with_stay id a cs) ≡ with_stay id b cs
with_stay-twice id a b [] = refl
with_stay-twice id a b (c ∷ cs) = let rest = with_stay-twice id a b cs in grind (arith, nat_tests)
