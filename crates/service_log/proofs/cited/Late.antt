-- A replica that starts at a later place of the log than the first.
use Rattle.std.proofs.Common.{◌≡◌, false, ℕ, zero, suc, ◌+◌, List, [], ◌∷◌, ◌++◌, length, Some, refl, ap, sym, subst, ◌∙◌, arith, add-zero}
use Rattle.service_log.specs.Groups.{StaysAlike}
use Rattle.service_log.specs.Places.{stands_in}
use Rattle.service_log.specs.Replicas.{IsReplica, IsReplicaFrom, Leads, StandsFrom}
use Rattle.service_log.specs.ReplicaState.{ReplicaState}

-- entries that stand between two places of a log are the last of those that stand from an earlier one on
same_behind : (log : List (List ℕ)) (place : ℕ) (es fs : List (List ℕ)) → StandsFrom (stands_in log) place es → StandsFrom (stands_in log) place fs → length es ≡ length fs → es ≡ fs
same_behind log place [] [] h g n = refl
same_behind log place [] (f ∷ fs) h g n = absurd (omega (arith, n))
same_behind log place (e ∷ es) [] h g n = absurd (omega (arith, n))
same_behind log place (e ∷ es) (f ∷ fs) h g n =
    let one : Some e ≡ Some f = sym h.0 ∙ g.0 in
    let rest = same_behind log (place + 1) es fs h.1 g.1 (omega (arith, n)) in
    cc (one, rest)

last_of : (log : List (List ℕ)) (place more : ℕ) (es fs : List (List ℕ)) → StandsFrom (stands_in log) place es → StandsFrom (stands_in log) (place + more) fs → length es ≡ more + length fs → (xs : List (List ℕ)) × (es ≡ xs ++ fs)
last_of log place zero es fs h g n =
    ([], same_behind log place es fs h (subst (λ (k : ℕ). StandsFrom (stands_in log) k fs) (add-zero place) g) (omega (arith, n)))
last_of log place (suc more) [] fs h g n = absurd (omega (arith, n))
last_of log place (suc more) (e ∷ es) fs h g n =
    let at : place + suc more ≡ (place + 1) + more = omega arith in
    let rest = last_of log (place + 1) more es fs h.1 (subst (λ (k : ℕ). StandsFrom (stands_in log) k fs) at g) (omega (arith, n)) in
    (e ∷ rest.0, ap (λ (l : List (List ℕ)). e ∷ l) rest.1)

module _ {M R : Type 0} (applies : M → List ℕ → R → M → Type 0) where
  leads_split : (a c : M) (es fs : List (List ℕ)) → Leads applies a (es ++ fs) c → (b : M) × Leads applies a es b × Leads applies b fs c
  leads_split a c [] fs led = (a, refl, led)
  leads_split a c (e ∷ es) fs led =
      let rest = leads_split led.1 c es fs led.3 in
      (rest.0, (led.0, led.1, led.2, rest.1), rest.2)

  -- machines that are alike stay so by the same entries
  alike_led : (Alike : M → M → Type 0) → StaysAlike applies Alike → (m n : M) (es : List (List ℕ)) (m' n' : M) → Alike m n → Leads applies m es m' → Leads applies n es n' → Alike m' n'
  alike_led Alike keeps m n [] m' n' alike h g = subst (λ (x : M). Alike x n') h (subst (λ (y : M). Alike m y) g alike)
  alike_led Alike keeps m n (e ∷ es) m' n' alike h g = alike_led Alike keeps h.1 g.1 es m' n' (keeps m n e h.0 g.0 h.1 g.1 alike h.2 g.2) h.3 g.3

  pub late_alike : (Alike : M → M → Type 0) → StaysAlike applies Alike → (start late : M) → ((before : List (List ℕ)) (m : M) → Leads applies start before m → Alike m late) →
      (log : List (List ℕ)) (from : ℕ) (a b : ReplicaState M) → IsReplica applies (stands_in log) start a → IsReplicaFrom applies (stands_in log) from late b →
      a.poisoned ≡ false → b.poisoned ≡ false → a.place ≡ b.place → Alike a.machine b.machine
  late_alike Alike keeps start late there log from a b ha hb wa wb place =
      let ga = ha wa in
      let gb = hb wb in
      let at : from ≡ 0 + from = omega arith in
      let long : length ga.entries ≡ from + length gb.entries = (let p = ga.count in let q = gb.count in omega (arith, p, q, place)) in
      let parts = last_of log 0 from ga.entries gb.entries ga.stood (subst (λ (k : ℕ). StandsFrom (stands_in log) k gb.entries) at gb.stood) long in
      let split = leads_split start a.machine parts.0 gb.entries (subst (λ (es : List (List ℕ)). Leads applies start es a.machine) parts.1 ga.led) in
      alike_led Alike keeps split.0 late gb.entries a.machine b.machine (there parts.0 split.0 split.1) split.2 gb.led
