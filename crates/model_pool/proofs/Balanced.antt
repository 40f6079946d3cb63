-- bits and competitors keep in balance: the argument for the last number
use Rattle.std.proofs.Common.{◌≡◌, ◌≢◌, ℕ, suc, ◌+◌, ◌-◌, ◌≤◌, ◌<◌, Bool, true, false, not, ◌==◌, nat_le, List, [], ◌∷◌, ◌++◌, Some, None, length, get_or, set, replicate, max, inl, inr, refl, sym, ap, subst, ◌∙◌, arith, is_some}
use Rattle.model_pool.proofs.Common.{leb_tells, Decides-eqb, nat_tests, Competitor, Stay, Seeking, Settled, held_at, identities, stay_of, with_stay, without, holds_at, set_at-is}
use Rattle.std.proofs.lemmas.List.{get_or-set_same, get_or-set_other, get_or-replicate, length-replicate, length-set, length-append}
use Rattle.model_pool.proofs.StayOfLemmas.{stay_of-push, stay_of-with_stay, stay_of-without, identities-with_stay, length-identities}
use Rattle.model_pool.proofs.Counts.{one, count, competitor, is_of, holds, seeks, reaches, number_of, one_most, count-push, count-with_stay, count-without, count-some, count-absent, count-length, count-none, length-filter, reaches-split}

-- a search is within the bits, or at 1 where there are none; and what is held is within the pool
abbrev pub IsPlaced : ℕ → Stay → Type 0
IsPlaced size (Seeking next) = (1 ≤ next) × (next ≤ max 1 (size - 1))
IsPlaced size (Settled number) = (1 ≤ number) × (number ≤ size)

-- Each bit is set where its number is held, by one, and bits of no number are clear. Of those who hold number i or a larger
-- one, or whose next probe is there, there are no more than numbers from i on: so whoever misses the last bit finds the last
-- number free
pub record IsBalanced (size : ℕ) (bits : List Bool) (cs : List Competitor) : Type 0 where
  pub first : 1 ≤ size
  pub last : size < length bits
  pub held : (i : ℕ) → i < size → one (get_or bits i false) ≡ count (holds i) cs
  pub spare : (i : ℕ) → size ≤ i → get_or bits i false ≡ false
  pub crowd : length cs ≤ size
  pub reach : (i : ℕ) → 1 ≤ i → i ≤ size → count (reaches i) cs + i ≤ size + 1
  pub apart : (p : ℕ) → count (is_of p) cs ≤ 1
  pub placed : (p : ℕ) (stay : Stay) → stay_of p cs ≡ Some stay → IsPlaced size stay

-- bits that are clear read so, and so do those that are not there
clear_at : (n i : ℕ) → get_or (replicate n false) i false ≡ false
clear_at (suc n) (suc i) = clear_at n i
clear_at n i = refl

pub balanced_fresh : (most size : ℕ) → 1 ≤ size → size ≤ most → IsBalanced size (replicate (most + 1) false) []
balanced_fresh most size first last = record {
  first = first;
  last = omega (arith, last, length-replicate (most + 1) false);
  held = λ i h. let lt : i < most + 1 = omega (arith, h, last) in ap one (get_or-replicate (most + 1) i false false lt);
  spare = λ i h. clear_at (most + 1) i;
  crowd = omega arith;
  reach = λ i h k. omega arith;
  apart = λ p. omega arith;
  placed = λ p stay h. absurd (cc);
}

-- one more, at its first probe
pub balanced_entered : (size : ℕ) (bits : List Bool) (cs : List Competitor) (id : ℕ) → IsBalanced size bits cs → stay_of id cs ≡ None → length cs < size → IsBalanced size bits (cs ++ competitor id (Seeking 1) ∷ [])
balanced_entered size bits cs id b absent room =
    let new : Competitor = competitor id (Seeking 1) in
    record {
      first = b.first;
      last = b.last;
      held = λ i h. let pushed : count (holds i) (cs ++ new ∷ []) ≡ count (holds i) cs + 0 = count-push (holds i) cs new in omega (arith, b.held i h);
      spare = b.spare;
      crowd = omega (arith, length-append cs (new ∷ []));
      reach = λ i h k.
          let pushed : count (reaches i) (cs ++ new ∷ []) ≡ count (reaches i) cs + one (nat_le i 1) = count-push (reaches i) cs new in
          let few = count-length (reaches i) cs in
          let before = b.reach i h k in
          grind (arith, nat_tests);
      apart = λ p.
          let pushed : count (is_of p) (cs ++ new ∷ []) ≡ count (is_of p) cs + one (id == p) = count-push (is_of p) cs new in
          let none = count-absent cs id absent in
          let before = b.apart p in
          grind (arith, nat_tests);
      placed = λ p stay h. elim (set_at-is (λ v. stay_of v cs) id (Some (Seeking 1)) p (Some stay) (sym (stay_of-push cs new absent p) ∙ h)) [
        | inl w ↦ let s : Seeking 1 ≡ stay = (let e = w.1 in cc) in subst (λ (x : Stay). IsPlaced size x) s (omega arith, omega arith)
        | inr w ↦ b.placed p stay w.1
      ];
    }

-- a probe of `next` that leaves this state
pub record IsProbed (size : ℕ) (bits after : List Bool) (cs : List Competitor) (next : ℕ) (new : Stay) : Type 0 where
  pub room : length after ≡ length bits
  pub held : (i : ℕ) → i < size → one (get_or after i false) ≡ one (get_or bits i false) + one (holds_at i (held_at new))
  pub spare : (i : ℕ) → size ≤ i → get_or after i false ≡ get_or bits i false
  pub reach : (i : ℕ) → 1 ≤ i → i ≤ size → count (reaches i) cs + one (nat_le i (number_of new)) + i ≤ size + 1 + one (nat_le i next)
  pub placed : IsPlaced size new

pub balanced_probed : (size : ℕ) (bits after : List Bool) (cs : List Competitor) (id next : ℕ) (new : Stay) → IsBalanced size bits cs → stay_of id cs ≡ Some (Seeking next) → IsProbed size bits after cs next new → IsBalanced size after (with_stay id new cs)
balanced_probed size bits after cs id next new b here m = record {
  first = b.first;
  last = omega (arith, b.last, m.room);
  held = λ i h.
      let moved : count (holds i) (with_stay id new cs) + 0 ≡ count (holds i) cs + one (holds_at i (held_at new)) = count-with_stay (holds i) cs id (Seeking next) new here in
      omega (arith, b.held i h, m.held i h);
  spare = λ i h. m.spare i h ∙ b.spare i h;
  crowd =
      let same : length (identities (with_stay id new cs)) ≡ length (identities cs) = ap length (identities-with_stay cs id new) in
      omega (arith, length-identities cs, length-identities (with_stay id new cs), b.crowd);
  reach = λ i h k.
      let moved : count (reaches i) (with_stay id new cs) + one (nat_le i next) ≡ count (reaches i) cs + one (nat_le i (number_of new)) = count-with_stay (reaches i) cs id (Seeking next) new here in
      omega (arith, m.reach i h k);
  apart = λ p.
      let moved : count (is_of p) (with_stay id new cs) + one (id == p) ≡ count (is_of p) cs + one (id == p) = count-with_stay (is_of p) cs id (Seeking next) new here in
      omega (arith, b.apart p);
  placed = λ p stay h.
      let there : is_some (stay_of id cs) ≡ true = rw here refl in
      elim (set_at-is (λ v. stay_of v cs) id (Some new) p (Some stay) (sym (stay_of-with_stay cs id new there p) ∙ h)) [
        | inl w ↦ let s : new ≡ stay = (let e = w.1 in cc) in subst (λ (x : Stay). IsPlaced size x) s m.placed
        | inr w ↦ b.placed p stay w.1
      ];
}

-- nobody holds number i
abbrev pub NobodyHolds : ℕ → List Competitor → Type 0
NobodyHolds i cs = count (holds i) cs ≡ 0

module _ (size : ℕ) (bits : List Bool) (cs : List Competitor) (id next : ℕ) (b : IsBalanced size bits cs) (here : stay_of id cs ≡ Some (Seeking next)) where
  -- who seeks the number is counted
  seeker : 1 ≤ count (seeks next) cs
  seeker = count-some (seeks next) cs id (Seeking next) here ((Decides-eqb next next).1 refl)

  -- the bit was clear: the number is free, and now held
  pub free_clear : next < size → get_or bits next false ≡ false → NobodyHolds next cs
  free_clear below clear = sym (rw clear at (b.held next below))

  pub probed_clear : next < size → get_or bits next false ≡ false → IsProbed size bits (set bits next true) cs next (Settled next)
  probed_clear below clear =
      let p : IsPlaced size (Seeking next) = b.placed id (Seeking next) here in
      record {
        room = length-set bits next true;
        held = λ i h.
            let here_set = get_or-set_same bits next true false (omega (arith, below, b.last)) in
            let spared = get_or-set_other bits next i true false in
            grind (arith, nat_tests);
        spare = λ i h. get_or-set_other bits next i true false (λ e. omega (arith, below, h, e));
        reach = λ i h k. omega (arith, b.reach i h k);
        placed = (p.0, omega arith);
      }

  -- the bit was set: those from the next number on are few
  few : next < size → get_or bits next false ≡ true → count (reaches (next + 1)) cs + 1 + next ≤ size
  few below was =
      let p : IsPlaced size (Seeking next) = b.placed id (Seeking next) here in
      let one_holds : 1 ≡ count (holds next) cs = rw was at (b.held next below) in
      omega (arith, seeker, b.reach next p.0 (omega arith), reaches-split next cs)

  reach_next : next < size → get_or bits next false ≡ true → (i : ℕ) → 1 ≤ i → i ≤ size → count (reaches i) cs + one (nat_le i (next + 1)) + i ≤ size + 1 + one (nat_le i next)
  reach_next below was i h k =
      let all = b.reach i h k in
      let fewer = few below was in
      grind (arith, nat_tests)

  set_again : get_or bits next false ≡ true → (i : ℕ) → i < size → next < size → get_or (set bits next true) i false ≡ get_or bits i false
  set_again was i h below =
      let here_set = get_or-set_same bits next true false (omega (arith, below, b.last)) in
      let spared = get_or-set_other bits next i true false in
      grind (arith, nat_tests)

  -- a further bit is probed next
  pub probed_missed : next + 1 < size → get_or bits next false ≡ true → IsProbed size bits (set bits next true) cs next (Seeking (next + 1))
  probed_missed below was =
      let lt : next < size = omega arith in
      record {
        room = length-set bits next true;
        held = λ i h. rw (set_again was i h lt) (omega arith);
        spare = λ i h. get_or-set_other bits next i true false (λ e. omega (arith, lt, h, e));
        reach = reach_next lt was;
        placed = (omega arith, omega arith);
      }

  -- no further bit is there: the last number is free
  pub free_last : next < size → size ≤ next + 1 → get_or bits next false ≡ true → NobodyHolds size cs
  free_last below end was =
      let e : size ≡ next + 1 = omega arith in
      let same : count (reaches size) cs ≡ count (reaches (next + 1)) cs = ap (λ (k : ℕ). count (reaches k) cs) e in
      omega (arith, few below was, reaches-split size cs)

  pub probed_last : next < size → size ≤ next + 1 → get_or bits next false ≡ true → IsProbed size bits (set bits next true) cs next (Settled size)
  probed_last below end was = record {
    room = length-set bits next true;
    held = λ i h. rw (set_again was i h below) (grind (arith, nat_tests));
    spare = λ i h. get_or-set_other bits next i true false (λ e. omega (arith, below, h, e));
    reach = λ i h k. let e : next + 1 ≡ size = omega arith in subst (λ (n : ℕ). count (reaches i) cs + one (nat_le i n) + i ≤ size + 1 + one (nat_le i next)) e (reach_next below was i h k);
    placed = (b.first, omega arith);
  }

  -- there is no bit at all: the pool has one number, which is free
  pub only : size ≤ next → (size ≡ 1) × (next ≡ 1)
  only past = let p : IsPlaced size (Seeking next) = b.placed id (Seeking next) here in let top : next ≤ max 1 (size - 1) = p.1 in let low : 1 ≤ next = p.0 in let first : 1 ≤ size = b.first in (omega arith, omega arith)

  pub free_only : size ≤ next → NobodyHolds size cs
  free_only past =
      let o = only past in
      let same : next ≡ size = o.1 ∙ sym o.0 in
      let s : 1 ≤ count (seeks size) cs = rw same at seeker in
      omega (arith, b.reach size b.first (omega arith), reaches-split size cs)

  pub probed_only : size ≤ next → IsProbed size bits bits cs next (Settled size)
  probed_only past =
      let o = only past in
      let same : next ≡ size = o.1 ∙ sym o.0 in
      record {
        room = refl;
        held = λ i h. grind (arith, nat_tests);
        spare = λ i h. refl;
        reach = λ i h k. rw same (omega (arith, b.reach i h k));
        placed = (b.first, omega arith);
      }

-- the number is given back
pub balanced_left : (size : ℕ) (bits after : List Bool) (cs : List Competitor) (id number : ℕ) → IsBalanced size bits cs → stay_of id cs ≡ Some (Settled number) → length after ≡ length bits →
    (number < size → get_or after number false ≡ false) → ((i : ℕ) → i < size → i ≢ number → get_or after i false ≡ get_or bits i false) →
    ((i : ℕ) → size ≤ i → get_or after i false ≡ get_or bits i false) → IsBalanced size after (without id cs)
balanced_left size bits after cs id number b here room clears spares beyond = record {
  first = b.first;
  last = omega (arith, b.last, room);
  held = λ i h.
      let fewer : count (holds i) (without id cs) + one (number == i) ≡ count (holds i) cs = count-without (holds i) cs id (Settled number) here (b.apart id) in
      let before = b.held i h in
      let clear = clears in
      let spared = spares i h in
      let most = one_most (get_or bits i false) in
      grind (arith, nat_tests);
  spare = λ i h. beyond i h ∙ b.spare i h;
  crowd = omega (arith, length-filter (λ c. not (c.identity == id)) cs, b.crowd);
  reach = λ i h k. omega (arith, count-without (reaches i) cs id (Settled number) here (b.apart id), b.reach i h k);
  apart = λ p. omega (arith, count-without (is_of p) cs id (Settled number) here (b.apart id), b.apart p);
  placed = λ p stay h. elim (set_at-is (λ v. stay_of v cs) id None p (Some stay) (sym (stay_of-without cs id p) ∙ h)) [
    | inl w ↦ absurd (let e = w.1 in cc)
    | inr w ↦ b.placed p stay w.1
  ];
}

-- a number is held by one at most
pub held_once : (size : ℕ) (bits : List Bool) (cs : List Competitor) → IsBalanced size bits cs → (n : ℕ) → n ≤ size → 1 ≤ n → count (holds n) cs ≤ 1
held_once size bits cs b n high low = elim (leb_tells (suc n) size) [
  | inl w ↦ omega (arith, b.held n w.1, one_most (get_or bits n false))
  | inr w ↦ omega (arith, w.1, b.reach n low high, reaches-split n cs)
]

-- who stands so is within the pool
within_size : (size : ℕ) (stay : Stay) → 1 ≤ size → IsPlaced size stay → number_of stay ≤ size
within_size size (Seeking next) first p = let top : next ≤ max 1 (size - 1) = p.1 in omega arith
within_size size (Settled number) first p = p.1

more_placed : (size more : ℕ) (stay : Stay) → size ≤ more → IsPlaced size stay → IsPlaced more stay
more_placed size more (Seeking next) above p = let top : next ≤ max 1 (size - 1) = p.1 in (p.0, omega arith)
more_placed size more (Settled number) above p = let top : number ≤ size = p.1 in (p.0, omega arith)

-- the pool gets more numbers: the bit of what was the last is set where that is held
pub record IsWidenedBits (size : ℕ) (bits after : List Bool) (cs : List Competitor) : Type 0 where
  pub last : one (get_or after size false) ≡ count (holds size) cs
  pub others : (i : ℕ) → i ≢ size → get_or after i false ≡ get_or bits i false
  pub room : length after ≡ length bits

pub balanced_widened : (size more : ℕ) (bits after : List Bool) (cs : List Competitor) → IsBalanced size bits cs → size < more → more < length bits → IsWidenedBits size bits after cs → IsBalanced more after cs
balanced_widened size more bits after cs b above most m =
    let beyond : (i : ℕ) → size < i → count (reaches i) cs ≡ 0 = λ i h. count-none (reaches i) cs b.apart (λ p stay here.
    let low : number_of stay ≤ size = within_size size stay b.first (b.placed p stay here) in
    elim (leb_tells i (number_of stay)) [ inl w ↦ absurd (omega (arith, w.1, h, low)) | inr w ↦ w.0 ])
    in
    record {
      first = omega (arith, b.first, above);
      last = omega (arith, most, m.room);
      held = λ i h.
          let last = m.last in
          let others = m.others i in
          let before : i < size → one (get_or bits i false) ≡ count (holds i) cs = b.held i in
          let clear : size ≤ i → get_or bits i false ≡ false = b.spare i in
          let none : size < i → count (reaches i) cs ≡ 0 = beyond i in
          let all = reaches-split i cs in
          grind (arith, nat_tests);
      spare = λ i h. m.others i (λ e. omega (arith, h, e, above)) ∙ b.spare i (omega (arith, h, above));
      crowd = omega (arith, b.crowd, above);
      reach = λ i h k. elim (leb_tells i size) [ inl v ↦ omega (arith, b.reach i h v.1, above) | inr v ↦ omega (arith, beyond i v.1, k) ];
      apart = b.apart;
      placed = λ p stay h. more_placed size more stay (omega (arith, above)) (b.placed p stay h);
    }
