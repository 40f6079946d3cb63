-- how many competitors pass a test
use Rattle.std.proofs.Common.{◌≡◌, ℕ, suc, ◌+◌, ◌≤◌, Bool, true, false, ◌==◌, nat_le, List, [], ◌∷◌, ◌++◌, Some, None, length, filter, cond, refl, ap, ◌∙◌, arith}
use Rattle.model_pool.proofs.Common.{Decides-eqb, nat_tests, Competitor, Stay, Seeking, Settled, held_at, stay_of, with_stay, without, holds_at}

abbrev pub one : Bool → ℕ
one true = 1
one false = 0

pub one_most : (b : Bool) → one b ≤ 1
one_most true = omega arith
one_most false = omega arith

abbrev pub count : (Competitor → Bool) → List Competitor → ℕ
count f [] = 0
count f (c ∷ cs) = one (f c) + count f cs

-- an identity that stands so
abbrev pub competitor : ℕ → Stay → Competitor
competitor id stay = record { identity = id; stay = stay }

-- the test that an identity passes
abbrev pub is_of : ℕ → Competitor → Bool
is_of id c = c.identity == id

module _ (f : Competitor → Bool) where
  pub count-push : (cs : List Competitor) (new : Competitor) → count f (cs ++ new ∷ []) ≡ count f cs + one (f new)
  count-push [] new = omega arith
  count-push (c ∷ cs) new = omega (arith, count-push cs new)

  -- the competitor that stands at the head
  head_is : (c : Competitor) (cs : List Competitor) (id : ℕ) (stay : Stay) → c.identity ≡ id → Some c.stay ≡ Some stay → c ≡ competitor id stay
  head_is c cs id stay e h = let s : c.stay ≡ stay = cc in ap (λ (i : ℕ). competitor i c.stay) e ∙ ap (λ (t : Stay). competitor id t) s

  pub count-with_stay : (cs : List Competitor) (id : ℕ) (old new : Stay) → stay_of id cs ≡ Some old → count f (with_stay id new cs) + one (f (competitor id old)) ≡ count f cs + one (f (competitor id new))
  count-with_stay [] id old new h = absurd (cc)
  count-with_stay (c ∷ cs) id old new h =
      let rest : stay_of id cs ≡ Some old → count f (with_stay id new cs) + one (f (competitor id old)) ≡ count f cs + one (f (competitor id new)) = count-with_stay cs id old new in
      let head = head_is c cs id old in
      grind (arith, nat_tests)

  -- some competitor that passes
  pub count-one : (cs : List Competitor) (id : ℕ) (stay : Stay) → stay_of id cs ≡ Some stay → one (f (competitor id stay)) ≤ count f cs
  count-one [] id stay h = absurd (cc)
  count-one (c ∷ cs) id stay h =
      let rest : stay_of id cs ≡ Some stay → one (f (competitor id stay)) ≤ count f cs = count-one cs id stay in
      let head = head_is c cs id stay in
      grind (arith, nat_tests)

  pub count-some : (cs : List Competitor) (id : ℕ) (stay : Stay) → stay_of id cs ≡ Some stay → f (competitor id stay) ≡ true → 1 ≤ count f cs
  count-some cs id stay h passes = rw passes at (count-one cs id stay h)

pub without-absent : (cs : List Competitor) (id : ℕ) → count (is_of id) cs ≡ 0 → without id cs ≡ cs
without-absent [] id h = refl
without-absent (c ∷ cs) id h =
    let rest : count (is_of id) cs ≡ 0 → without id cs ≡ cs = without-absent cs id in
    grind (arith, nat_tests)

pub count-without : (f : Competitor → Bool) (cs : List Competitor) (id : ℕ) (stay : Stay) → stay_of id cs ≡ Some stay → count (is_of id) cs ≤ 1 → count f (without id cs) + one (f (competitor id stay)) ≡ count f cs
count-without f [] id stay h a = absurd (cc)
count-without f (c ∷ cs) id stay h a =
    let rest : stay_of id cs ≡ Some stay → count (is_of id) cs ≤ 1 → count f (without id cs) + one (f (competitor id stay)) ≡ count f cs = count-without f cs id stay in
    let head = head_is f c cs id stay in
    let same = without-absent cs id in
    grind (arith, nat_tests)

pub count-absent : (cs : List Competitor) (id : ℕ) → stay_of id cs ≡ None → count (is_of id) cs ≡ 0
count-absent [] id h = refl
count-absent (c ∷ cs) id h = let rest : stay_of id cs ≡ None → count (is_of id) cs ≡ 0 = count-absent cs id in grind (arith, nat_tests)

-- none passes where nobody that stands somewhere does
pub count-none : (f : Competitor → Bool) (cs : List Competitor) → ((p : ℕ) → count (is_of p) cs ≤ 1) → ((p : ℕ) (stay : Stay) → stay_of p cs ≡ Some stay → f (competitor p stay) ≡ false) → count f cs ≡ 0
count-none f [] apart none = refl
count-none f (c ∷ cs) apart none =
    let own : (c.identity == c.identity) ≡ true = (Decides-eqb c.identity c.identity).1 refl in
    let head : f c ≡ false = none c.identity c.stay (rw own refl) in
    let rest : count f cs ≡ 0 = count-none f cs (λ p. omega (arith, apart p)) (λ p stay h.
    let some = count-some (is_of p) cs p stay h ((Decides-eqb p p).1 refl) in
    let alone = apart p in
    let there = none p stay in
    grind (arith, nat_tests)) in
    rw head (omega (arith, rest))

pub count-length : (f : Competitor → Bool) (cs : List Competitor) → count f cs ≤ length cs
count-length f [] = omega arith
count-length f (c ∷ cs) = omega (arith, count-length f cs, one_most (f c))

pub length-filter : (t : Competitor → Bool) (cs : List Competitor) → length (filter t cs) ≤ length cs
length-filter t [] = omega arith
length-filter t (c ∷ cs) = let i = length-filter t cs in elim (t c) as (λ b. length (cond b (c ∷ filter t cs) (filter t cs)) ≤ suc (length cs)) [ true ↦ omega arith | false ↦ omega arith ]

-- the number that is held, or that the next probe is of
abbrev pub number_of : Stay → ℕ
number_of (Seeking next) = next
number_of (Settled number) = number

-- who holds number i; whose next probe is of i; and who holds i or a larger number, or has its next probe there
abbrev pub holds : ℕ → Competitor → Bool
holds i c = holds_at i (held_at c.stay)

abbrev pub seeks_at : ℕ → Stay → Bool
seeks_at i (Seeking next) = next == i
seeks_at i (Settled number) = false

abbrev pub seeks : ℕ → Competitor → Bool
seeks i c = seeks_at i c.stay

abbrev pub reaches : ℕ → Competitor → Bool
reaches i c = nat_le i (number_of c.stay)

le_split : (i n : ℕ) → one (nat_le i n) ≡ one (nat_le (i + 1) n) + one (n == i)
le_split i n = grind (arith, nat_tests)

stay_split : (i : ℕ) (s : Stay) → one (nat_le i (number_of s)) ≡ one (nat_le (i + 1) (number_of s)) + one (holds_at i (held_at s)) + one (seeks_at i s)
stay_split i (Seeking next) = omega (arith, le_split i next)
stay_split i (Settled number) = omega (arith, le_split i number)

-- who reaches i holds it, seeks it, or reaches the next
pub reaches-split : (i : ℕ) (cs : List Competitor) → count (reaches i) cs ≡ count (reaches (i + 1)) cs + count (holds i) cs + count (seeks i) cs
reaches-split i [] = refl
reaches-split i (c ∷ cs) = omega (arith, stay_split i c.stay, reaches-split i cs)
