-- probes, one after the other, until one gives a number: they keep the balance, and are what is sought
use Rattle.std.proofs.Common.{◌≡◌, ℕ, zero, suc, ◌+◌, ◌≤◌, ◌<◌, ◌⊎◌, true, false, get_or, List, Some, length, inl, inr, refl, sym, ap, subst, ◌∙◌, arith, is_some}
use Rattle.std.proofs.lemmas.Bool.{cases_Bool}
use Rattle.model_steps.specs.Registers.{answer_of}
use Rattle.model_steps.specs.declared.access.Answer.{Answer}
use Rattle.model_steps.specs.declared.access.Answer.TheVariants.{Value, WasSet, Done}
use Rattle.model_pool.specs.Stay.{stay_found}
use Rattle.model_pool.proofs.Common.{leb_tells, Registers, after_access, Competitor, Stay, Seeking, Settled, probe_access, stay_probed, stay_of, with_stay, set_at-same, Gets}
use Rattle.model_pool.specs.Acquired.{GetsAfter}
use Rattle.model_pool.specs.Sought.{sought_on}
use Rattle.model_pool.proofs.StayOfLemmas.{stay_of-with_stay, with_stay-twice}
use Rattle.model_pool.proofs.Counts.{count, holds, count-with_stay}
use Rattle.model_pool.proofs.Balanced.{IsPlaced, IsBalanced, IsProbed, NobodyHolds, balanced_probed, free_clear, probed_clear, probed_missed, free_last, probed_last, free_only, probed_only}

-- a number that a state holds is free before, and one of the pool
abbrev IsGiven : ℕ → List Competitor → Stay → Type 0
IsGiven size cs (Seeking next) = Unit {0}
IsGiven size cs (Settled number) = NobodyHolds number cs × (1 ≤ number) × (number ≤ size)

-- what a probe leaves
record Leaves (size bit : ℕ) (before after : Registers (Unit {0})) (cs : List Competitor) (stay : Stay) : Type 0 where
  probed : IsProbed size before.bits after.bits cs bit stay
  given : IsGiven size cs stay

one_probe : (size bit : ℕ) (m : Registers (Unit {0})) (cs : List Competitor) (id : ℕ) → IsBalanced size m.bits cs → stay_of id cs ≡ Some (Seeking bit) →
    Leaves size bit m (after_access m (probe_access size (Seeking bit))) cs (stay_probed size (Seeking bit) (answer_of m (probe_access size (Seeking bit))))
one_probe size bit m cs id b here =
    let p : IsPlaced size (Seeking bit) = b.placed id (Seeking bit) here in
    elim (leb_tells (suc bit) size) [
      | inr end ↦
          let past : size ≤ bit = omega (arith, end.1) in
          rw end.0 (record { probed = probed_only size m.bits cs id bit b here past; given = (free_only size m.bits cs id bit b here past, b.first, omega arith) })
      | inl below ↦
          let lt : bit < size = omega (arith, below.1) in
          elim (cases_Bool (get_or m.bits bit false)) [
            | inr clear ↦ rw (below.0, clear) (record { probed = probed_clear size m.bits cs id bit b here lt clear; given = (free_clear size m.bits cs id bit b here lt clear, p.0, omega (arith, lt)) })
            | inl was ↦ elim (leb_tells (suc (bit + 1)) size) [
              | inl more ↦ rw (below.0, was, more.0) (record { probed = probed_missed size m.bits cs id bit b here (omega (arith, more.1)) was; given = tt })
              | inr end ↦
                  let past : size ≤ bit + 1 = omega (arith, end.1) in
                  rw (below.0, was, end.0) (record { probed = probed_last size m.bits cs id bit b here lt past was; given = (free_last size m.bits cs id bit b here lt past was, b.first, omega arith) })
            ]
          ]
    ]

-- the number that probes give was free, and they leave all in balance
pub record IsGot (size n : ℕ) (before after : Registers (Unit {0})) (cs : List Competitor) (id : ℕ) : Type 0 where
  pub balanced : IsBalanced size after.bits (with_stay id (Settled n) cs)
  pub free : NobodyHolds n cs
  pub low : 1 ≤ n
  pub high : n ≤ size
  pub room : length after.bits ≡ length before.bits

pub got_by_probes : (misses size bit n : ℕ) (m new : Registers (Unit {0})) (cs : List Competitor) (id : ℕ) → IsBalanced size m.bits cs → stay_of id cs ≡ Some (Seeking bit) →
    GetsAfter misses size bit m n new → IsGot size n m new cs id
got_by_probes zero size bit n m new cs id b here gets =
    let after = after_access m (probe_access size (Seeking bit)) in
    let l : Leaves size bit m after cs (Settled n) = subst (λ (s : Stay). Leaves size bit m after cs s) gets.0 (one_probe size bit m cs id b here) in
    rw gets.1 (record {
      balanced = balanced_probed size m.bits after.bits cs id bit (Settled n) b here l.probed;
      free = l.given.0;
      low = l.given.1;
      high = l.given.2;
      room = l.probed.room;
    })
got_by_probes (suc misses) size bit n m new cs id b here gets =
    let after = after_access m (probe_access size (Seeking bit)) in
    let on : Stay = Seeking (bit + 1) in
    let l : Leaves size bit m after cs on = subst (λ (s : Stay). Leaves size bit m after cs s) gets.0 (one_probe size bit m cs id b here) in
    let mid : List Competitor = with_stay id on cs in
    let then : IsBalanced size after.bits mid = balanced_probed size m.bits after.bits cs id bit on b here l.probed in
    let stands : stay_of id mid ≡ Some on = stay_of-with_stay cs id on (ap is_some here) id ∙ set_at-same (λ v. stay_of v cs) id (Some on) in
    let rest = got_by_probes misses size (bit + 1) n after new mid id then stands gets.1 in
    let same : count (holds n) mid + 0 ≡ count (holds n) cs + 0 = count-with_stay (holds n) cs id (Seeking bit) on here in
    record {
      balanced = subst (λ (xs : List Competitor). IsBalanced size new.bits xs) (with_stay-twice id on (Settled n) cs) rest.balanced;
      free = omega (arith, same, rest.free);
      low = rest.low;
      high = rest.high;
      room = rest.room ∙ l.probed.room;
    }

-- a probe that goes on goes to the next bit, which there is
goes_on : (size bit k : ℕ) (got : Answer (Unit {0})) → stay_found size bit got ≡ Seeking k → (k ≡ bit + 1) × (bit + 1 < size)
goes_on size bit k (Value v) is = absurd (cc)
goes_on size bit k Done is = absurd (cc)
goes_on size bit k (WasSet false) is = absurd (cc)
goes_on size bit k (WasSet true) is = elim (leb_tells (suc (bit + 1)) size) [
  | inl more ↦ (let e : Seeking (bit + 1) ≡ Seeking k = rw more.0 at is in cc, omega (arith, more.1))
  | inr end ↦ absurd (let e : Settled size ≡ Seeking k = rw end.0 at is in cc)
]

-- so many probes as there are numbers give one
pub sought_gets : (probes size bit : ℕ) (m : Registers (Unit {0})) → 1 ≤ probes → size ≤ probes + bit → Gets size bit m (sought_on probes size (Seeking bit) m).0 (sought_on probes size (Seeking bit) m).1
sought_gets zero size bit m some enough = absurd (omega (arith, some))
sought_gets (suc probes) size bit m some enough =
    let got = answer_of m (probe_access size (Seeking bit)) in
    let after = after_access m (probe_access size (Seeking bit)) in
    elim (stay_probed size (Seeking bit) got) as (λ s. stay_probed size (Seeking bit) got ≡ s → Gets size bit m (sought_on probes size s after).0 (sought_on probes size s after).1) [
      | Settled number ↦ λ e. record { misses = 0; after = (e, refl) }
      | Seeking k ↦ λ e.
          let g = goes_on size bit k got e in
          let rest = sought_gets probes size k after (omega (arith, enough, g.0, g.1)) (omega (arith, enough, g.0)) in
          let next : k ≡ bit + 1 = g.0 in
          record { misses = suc rest.misses; after = (e ∙ ap Seeking next, subst (λ (x : ℕ). GetsAfter rest.misses size x after (sought_on probes size (Seeking k) after).0 (sought_on probes size (Seeking k) after).1) next rest.after) }
    ] refl

-- and only that one
only_sought : (misses probes size bit n : ℕ) (m new : Registers (Unit {0})) → misses < probes → GetsAfter misses size bit m n new → sought_on probes size (Seeking bit) m ≡ (n, new)
only_sought misses zero size bit n m new some gets = absurd (omega (arith, some))
only_sought zero (suc probes) size bit n m new some gets =
    let after = after_access m (probe_access size (Seeking bit)) in
    ap (λ (s : Stay). sought_on probes size s after) gets.0 ∙ ap (λ (b : Registers (Unit {0})). (n, b)) (sym gets.1)
only_sought (suc misses) (suc probes) size bit n m new some gets =
    let after = after_access m (probe_access size (Seeking bit)) in
    ap (λ (s : Stay). sought_on probes size s after) gets.0 ∙ only_sought misses probes size (bit + 1) n after new (omega (arith, some)) gets.1

few_misses : (misses size bit n : ℕ) (m new : Registers (Unit {0})) → GetsAfter misses size bit m n new → (misses ≡ 0) ⊎ (misses + bit < size)
few_misses zero size bit n m new gets = inl refl
few_misses (suc misses) size bit n m new gets =
    let g = goes_on size bit (bit + 1) (answer_of m (probe_access size (Seeking bit))) gets.0 in
    elim (few_misses misses size (bit + 1) n (after_access m (probe_access size (Seeking bit))) new gets.1) [
      | inl none ↦ inr (omega (arith, none, g.1))
      | inr few ↦ inr (omega (arith, few))
    ]

pub gets_sought : (size bit n : ℕ) (m new : Registers (Unit {0})) → 1 ≤ size → Gets size bit m n new → sought_on size size (Seeking bit) m ≡ (n, new)
gets_sought size bit n m new some gets =
    only_sought gets.misses size size bit n m new (elim (few_misses gets.misses size bit n m new gets.after) [ inl none ↦ omega (arith, none, some) | inr few ↦ omega (arith, few) ]) gets.after
