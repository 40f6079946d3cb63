-- some identities, as a list
use Rattle.std.proofs.Common.{◌≡◌, ◌≢◌, ℕ, suc, ◌<◌, ◌≤◌, ◌==◌, ◌||◌, Bool, true, false, cond, List, [], ◌∷◌, length, ◌⊎◌, inl, inr, if◌then◌else◌, refl, sym, subst, ◌∙◌, arith}
use Rattle.model_asked.proofs.rounds_lemmas.Common.{eqb_tells, leb_tells}

abbrev pub among : ℕ → List ℕ → Bool
among q [] = false
among q (u ∷ us) = (u == q) || among q us

-- all of them but q
abbrev pub without : ℕ → List ℕ → List ℕ
without q [] = []
without q (u ∷ us) = if u == q then without q us else u ∷ without q us

pub among_without : (q u : ℕ) (us : List ℕ) → u ≢ q → among u us ≡ true → among u (without q us) ≡ true
among_without q u [] n h = absurd (cc)
among_without q u (x ∷ xs) n h = elim (eqb_tells x q) [
  | inl e ↦ rw e.0 (elim (eqb_tells x u) [
    | inl f ↦ absurd (n (sym f.1 ∙ e.1))
    | inr f ↦ among_without q u xs n (rw f.0 at h)
  ])
  | inr e ↦ rw e.0 (elim (eqb_tells x u) [
    | inl f ↦ rw f.0 refl
    | inr f ↦ rw f.0 (among_without q u xs n (rw f.0 at h))
  ])
]

without_few : (q : ℕ) (us : List ℕ) → length (without q us) ≤ length us
without_few q [] = omega arith
without_few q (x ∷ xs) = let i = without_few q xs in elim (x == q) as (λ b. length (cond b (without q xs) (x ∷ without q xs)) ≤ suc (length xs)) [ true ↦ omega arith | false ↦ omega arith ]

pub without_fewer : (q : ℕ) (us : List ℕ) → among q us ≡ true → length (without q us) < length us
without_fewer q [] h = absurd (cc)
without_fewer q (x ∷ xs) h = elim (eqb_tells x q) [
  | inl e ↦ let few = without_few q xs in rw e.0 (omega arith)
  | inr e ↦ let i = without_fewer q xs (rw e.0 at h) in rw e.0 (omega arith)
]

some_among : (q : ℕ) (us : List ℕ) → among q us ≡ true → 1 ≤ length us
some_among q [] h = absurd (cc)
some_among q (x ∷ xs) h = omega arith

-- two of them
pub two_among : (p q : ℕ) (us : List ℕ) → among p us ≡ true → among q us ≡ true → q ≢ p → 2 ≤ length us
two_among p q us a b n =
    let few = without_fewer p us a in
    let one = some_among q (without p us) (among_without p q us n b) in
    omega arith

-- the least of them
pub record IsLeast (p : ℕ) (us : List ℕ) : Type 0 where
  pub there : among p us ≡ true
  pub least : (q : ℕ) → among q us ≡ true → p ≤ q

pub least_of : (u : ℕ) (us : List ℕ) → (p : ℕ) × IsLeast p (u ∷ us)
least_of u [] = (
  u,
  record {
    there = (elim (eqb_tells u u) [ inl e ↦ rw e.0 refl | inr e ↦ absurd (e.1 refl) ]);
    least = λ q h. elim (eqb_tells u q) [ inl e ↦ let s = e.1 in omega arith | inr e ↦ absurd (let no : false ≡ true = rw e.0 at h in cc) ];
  },
)
least_of u (v ∷ vs) =
    let k = least_of v vs in
    elim (leb_tells u k.0) [
      | inl l ↦ (
        u,
        record {
          there = (elim (eqb_tells u u) [ inl e ↦ rw e.0 refl | inr e ↦ absurd (e.1 refl) ]);
          least = λ q h. elim (eqb_tells u q) [ inl e ↦ let s = e.1 in omega arith | inr e ↦ let m = k.1.least q (rw e.0 at h) in let n = l.1 in omega arith ];
        },
      )
      | inr l ↦ (
        k.0,
        record {
          there = (elim (eqb_tells u k.0) [ inl e ↦ rw e.0 refl | inr e ↦ rw e.0 k.1.there ]);
          least = λ q h. elim (eqb_tells u q) [ inl e ↦ let s = e.1 in let n = l.1 in omega arith | inr e ↦ k.1.least q (rw e.0 at h) ];
        },
      )
    ]

-- all of them are so, or one of them is otherwise
pub all_or_one : (P Q : ℕ → Type 0) → ((q : ℕ) → P q ⊎ Q q) → (us : List ℕ) → ((q : ℕ) → among q us ≡ true → P q) ⊎ ((q : ℕ) × (among q us ≡ true) × Q q)
all_or_one P Q tells [] = inl (λ q h. absurd (cc))
all_or_one P Q tells (u ∷ us) = elim (tells u) [
  | inr k ↦ inr (u, (elim (eqb_tells u u) [ inl e ↦ rw e.0 refl | inr e ↦ absurd (e.1 refl) ]), k)
  | inl k ↦ elim (all_or_one P Q tells us) [
    | inr m ↦ inr (m.0, (elim (eqb_tells u m.0) [ inl e ↦ rw e.0 refl | inr e ↦ rw e.0 m.1 ]), m.2)
    | inl m ↦ inl (λ q h. elim (eqb_tells u q) [
      | inl e ↦ subst P e.1 k
      | inr e ↦ m q (rw e.0 at h)
    ])
  ]
]
