-- the leases of a front end
use Rattle.std.proofs.Common.{◌≡◌, ◌<◌, ◌≤◌, ◌+◌, ◌-◌, ◌^◌, ◌%◌, ℕ, Bool, true, false, ltb, if◌then◌else◌, List, [], ◌∷◌, length, refl, sym, ap, subst, ◌∙◌, arith}
use Rattle.std.proofs.Math.Nat.{mod-eq_of_lt}
use Rattle.std.proofs.lemmas.Bool.{ltb-true}
use Rattle.service_follow.specs.Batches.{next_count}
use Rattle.service_follow.specs.Leases.{IsUnbroken, Stood, lease_after, lease_at}

-- a lease is no less than the one before, as long as the numbers last
no_less_by : (b : Bool) (lease sent : ℕ) (es : List Stood) → lease + 1 + length es < 2 ^ 64 →
    ((n : ℕ) → n + length es < 2 ^ 64 → n ≤ lease_after n sent es) → lease ≤ lease_after (if b then lease else next_count lease) sent es
no_less_by true lease sent es few rest = rest lease (omega (arith, few))
no_less_by false lease sent es few rest =
    let small : next_count lease ≡ lease + 1 = mod-eq_of_lt (omega (arith, few)) in
    let more = rest (lease + 1) few in
    subst (λ n. lease ≤ lease_after n sent es) (sym small) (omega (arith, more))

pub no_less : (lease sent : ℕ) (es : List Stood) → lease + length es < 2 ^ 64 → lease ≤ lease_after lease sent es
no_less lease sent [] few = omega (arith, few)
no_less lease sent (e ∷ es) few = no_less_by (ltb (e.known - sent) 20) lease e.sent es (omega (arith, few)) (λ n. no_less n e.sent es)

unbroken_by : (b : Bool) (lease sent : ℕ) (e : Stood) (es : List Stood) → ltb (e.known - sent) 20 ≡ b → lease + 1 + length es < 2 ^ 64 →
    lease_after (if b then lease else next_count lease) e.sent es ≡ lease → (lease_after lease e.sent es ≡ lease → IsUnbroken e.sent es) →
    (e.known - sent < 20) × IsUnbroken e.sent es
unbroken_by true lease sent e es is few same rest = (ltb-true (e.known - sent) 20 is, rest same)
unbroken_by false lease sent e es is few same rest =
    let small : next_count lease ≡ lease + 1 = mod-eq_of_lt (omega (arith, few)) in
    let last : lease_after (lease + 1) e.sent es ≡ lease = subst (λ n. lease_after n e.sent es ≡ lease) small same in
    let more = no_less (lease + 1) e.sent es few in
    absurd (let bad : lease + 1 ≤ lease = subst (λ n. lease + 1 ≤ n) last more in omega (arith, bad))

-- while the lease is the same, each entry was known to stand before the lease lapsed
pub unbroken : (lease sent : ℕ) (es : List Stood) → lease + length es < 2 ^ 64 → lease_after lease sent es ≡ lease → IsUnbroken sent es
unbroken lease sent [] few same = tt
unbroken lease sent (e ∷ es) few same =
    unbroken_by (ltb (e.known - sent) 20) lease sent e es refl (omega (arith, few)) same (unbroken lease e.sent es (omega (arith, few)))
