-- who is least among those that propose, once each other has proposed twice, proposes twice at most
use Rattle.std.proofs.Common.{◌≡◌, ◌≢◌, ℕ, suc, ◌+◌, ◌<◌, ◌≤◌, ◌==◌, Bool, true, false, not, List, length, Some, is_some, inl, inr, refl, sym, ap, subst, ◌∙◌, arith}
use Rattle.std.proofs.lemmas.Bool.{cases_Bool}
use Rattle.model_asked.proofs.rounds_lemmas.Common.{eqb_tells, leb_tells, value_of, IsRising}
use Rattle.model_asked.proofs.cited.rounds.Numbers.{least_has, own_pair, free_or_taken, next_free}
use Rattle.model_asked.proofs.rounds_lemmas.Counting.{least_below, free_fewer, same_free}
use Rattle.model_asked.proofs.rounds_lemmas.Views.{proposed_by, found, finds, stands_in, rank_higher}
use Rattle.model_asked.proofs.rounds_lemmas.Lists.{among, IsLeast}
use Rattle.model_asked.proofs.rounds_lemmas.Moments.{IsLastOf, IsTwice, IsSteady, last_of, keeps, stays, stood, is_chosen}
use Rattle.model_asked.specs.rounds.Proposals.{is_taken, rank, free_up_to, next_proposal}
use Rattle.model_asked.specs.rounds.Rounds.{Proposals, IsSilent, IsChosen, AreByRule}

-- up to what one proposes next so many numbers are free as its rank says, and below it fewer
next_has : (id s : ℕ) (view : List (ℕ × ℕ)) → value_of id view ≡ Some s → free_up_to (is_taken id view) (next_proposal id view) ≡ rank id view
next_has id s view h =
    let own = own_pair id s view h in
    let a = own.0 in
    let b = own.1 in
    let enough = free_or_taken id view (rank id view + length view) in
    least_has (is_taken id view) (rank id view) (rank id view + length view) (omega arith)

next_least : (id : ℕ) (view : List (ℕ × ℕ)) (m : ℕ) → m < next_proposal id view → free_up_to (is_taken id view) m < rank id view
next_least id view m l = least_below (is_taken id view) (rank id view) (rank id view + length view) m l

module _ (h : Proposals) (last : ℕ) (rule : AreByRule h last) (us : List ℕ) (p : ℕ) (least : IsLeast p us) (from fresh to : ℕ) (a : from ≤ fresh) (b : fresh ≤ to) (c : to ≤ last)
    (steady : IsSteady h from to) (of : (t : ℕ) → from < t → t ≤ to → among (h.whose t) us ≡ true) (twice : (q : ℕ) → among q us ≡ true → q ≢ p → IsTwice h q from fresh) where
  -- one that is not among them is silent
  outside : (q : ℕ) → among q us ≡ false → (i j : ℕ) → from ≤ i → i ≤ j → j ≤ to → h.moment j q ≡ h.moment i q
  outside q none i j l m n = keeps h last rule q i j m (omega arith) (λ t x y w. (let no : true ≡ false = sym (of t (omega arith) (omega arith)) ∙ ap (λ u. among u us) w ∙ none in cc))

  -- from a view of p's on
  module _ (view : List (ℕ × ℕ)) (index : ℕ) (rising : IsRising view) (values : (u : ℕ) → value_of u view ≡ h.moment index u) (late : fresh ≤ index) (early : index ≤ to) where
    -- those that are not among them propose the same all along
    abbrev test : ℕ → Bool
    test u = not (among u us)

    abbrev fixed : ℕ → Bool
    fixed = proposed_by test view

    -- what another of them proposes is high
    high : (q i n : ℕ) → among q us ≡ true → q ≢ p → fresh ≤ i → i ≤ to → h.moment i q ≡ Some n → rank p view < free_up_to fixed n
    high q i n is other l m e =
        let two = twice q is other in
        elim (last_of h q from i (omega arith)) [
          | inl s ↦ absurd (let x = two.within in let y = two.next in let z = two.later in s (suc two.two) (omega arith) (omega arith) two.second)
          | inr k ↦
              let k_within = k.within in
              let k_later = k.later in
              let chosen : IsChosen h k.before (h.whose (suc k.before)) = is_chosen h last rule from to k.before c steady k.later (omega arith) in
              high_by q i n is other k m e two l (subst (λ u. IsChosen h k.before u) k.its chosen)
        ] where
          high_by : (q i n : ℕ) → among q us ≡ true → q ≢ p → (k : IsLastOf h q from i) → i ≤ to → h.moment i q ≡ Some n → IsTwice h q from fresh → fresh ≤ i → IsChosen h k.before q → rank p view < free_up_to fixed n
          high_by q i n is other k m e two l chosen =
              let w = k.within in
              let late_two = two.later in
              let next = two.next in
              let two_within = two.within in
              let seen = chosen.seen.earlier in
              let early_j : chosen.seen.index ≤ to = omega arith in
              -- its last proposal is its second or a later one, so that its view comes after its first
              let second : two.two ≤ k.before = (elim (leb_tells two.two k.before) [ inl f ↦ f.1 | inr f ↦ absurd (let g = f.1 in k.silent (suc two.two) (omega arith) (omega arith) two.second) ]) in
              let late_j : from ≤ chosen.seen.index = (elim (leb_tells from chosen.seen.index) [ inl f ↦ f.1 | inr f ↦ absurd (let g = f.1 in chosen.seen.recent (suc two.one) (omega arith) (omega arith) two.first) ]) in
              let is_next : Some (next_proposal q chosen.seen.view) ≡ Some n = sym chosen.proposes ∙ sym (keeps h last rule q (suc k.before) i w (omega arith) k.silent) ∙ e in
              let same : next_proposal q chosen.seen.view ≡ n = cc in
              let mine : value_of q chosen.seen.view ≡ Some chosen.seen.number = chosen.seen.values q ∙ chosen.seen.own in
              let has : free_up_to (is_taken q chosen.seen.view) n ≡ rank q chosen.seen.view = ap (free_up_to (is_taken q chosen.seen.view)) (sym same) ∙ next_has q chosen.seen.number chosen.seen.view mine in
              let more : (x : ℕ) → fixed x ≡ true → is_taken q chosen.seen.view x ≡ true = (λ x y.
              let f = found test view x rising y in
              let none : among f.0 us ≡ false = (elim (cases_Bool (among f.0 us)) [ inl z ↦ absurd (let no : false ≡ true = rw z at f.1 in cc) | inr z ↦ z ]) in
              let there : value_of f.0 chosen.seen.view ≡ Some x = chosen.seen.values f.0 ∙ outside f.0 none from chosen.seen.index (omega arith) late_j early_j ∙ sym (outside f.0 none from index (omega arith) (omega arith) early) ∙ sym (values f.0) ∙ f.2 in
              finds (λ u. not (u == q)) chosen.seen.view f.0 x there (elim (eqb_tells f.0 q) [
                | inl z ↦ absurd (let no : false ≡ true = sym none ∙ ap (λ u. among u us) z.1 ∙ is in cc)
                | inr z ↦ rw z.0 refl
              ])) in
              let fewer = free_fewer fixed (is_taken q chosen.seen.view) more n in
              let all : (u : ℕ) → stands_in view u ≡ true → stands_in chosen.seen.view u ≡ true = (λ u y.
              ap is_some (chosen.seen.values u) ∙ stays h last rule u from chosen.seen.index late_j (omega arith) (stood h last rule u from index (omega arith) (omega arith) (λ t x z. steady t x (omega arith)) (sym (ap is_some (values u)) ∙ y))) in
              let low = least.least q is in
              let higher = rank_higher p q view chosen.seen.view rising chosen.seen.rising all (ap is_some mine) (omega arith) in
              omega arith

    -- one of them proposes what is taken and is not of those outside
    taken_high : (n : ℕ) → is_taken p view n ≡ true → fixed n ≡ false → rank p view < free_up_to fixed n
    taken_high n t none =
        let f = found (λ u. not (u == p)) view n rising t in
        let other : f.0 ≢ p = (λ w. elim (eqb_tells f.0 p) [ inl z ↦ (let no : false ≡ true = rw z.0 at f.1 in cc) | inr z ↦ z.1 w ]) in
        elim (cases_Bool (among f.0 us)) [
          | inl is ↦ high f.0 index n is other late early (sym (values f.0) ∙ f.2)
          | inr out ↦ absurd (let yes : fixed n ≡ true = finds test view f.0 n f.2 (rw out refl) in let no : true ≡ false = sym yes ∙ none in cc)
        ]

    outside_taken : (n : ℕ) → fixed n ≡ true → is_taken p view n ≡ true
    outside_taken n y =
        let f = found test view n rising y in
        let none : among f.0 us ≡ false = (elim (cases_Bool (among f.0 us)) [ inl z ↦ absurd (let no : false ≡ true = rw z at f.1 in cc) | inr z ↦ z ]) in
        finds (λ u. not (u == p)) view f.0 n f.2 (elim (eqb_tells f.0 p) [
          | inl z ↦ absurd (let no : false ≡ true = sym none ∙ ap (λ u. among u us) z.1 ∙ least.there in cc)
          | inr z ↦ rw z.0 refl
        ])

    -- up to what p proposes next as many are free of those outside as p's rank says
    free_next : (s : ℕ) → value_of p view ≡ Some s → free_up_to fixed (next_proposal p view) ≡ rank p view
    free_next s own = same_free fixed (is_taken p view) outside_taken (rank p view) (next_proposal p view) (next_least p view) taken_high (next_proposal p view) (omega arith) ∙ next_has p s view own

  -- p does not propose three times
  pub settled : (one two three : ℕ) → fresh ≤ one → one < two → two < three → three < to → h.whose (suc one) ≡ p → h.whose (suc two) ≡ p → h.whose (suc three) ≡ p → IsSilent h p (suc two) three → ⊥
  settled one two three l m n o first second third silent =
      let mid : IsChosen h two p = subst (λ u. IsChosen h two u) second (is_chosen h last rule from to two c steady (omega arith) (omega arith)) in
      let end : IsChosen h three p = subst (λ u. IsChosen h three u) third (is_chosen h last rule from to three c steady (omega arith) (omega arith)) in
      let mid_seen = mid.seen.earlier in
      let end_seen = end.seen.earlier in
      let late : fresh ≤ mid.seen.index = (elim (leb_tells fresh mid.seen.index) [ inl f ↦ f.1 | inr f ↦ absurd (let g = f.1 in mid.seen.recent (suc one) (omega arith) (omega arith) first) ]) in
      let early : mid.seen.index ≤ to = omega arith in
      let after : suc two ≤ end.seen.index = (elim (leb_tells (suc two) end.seen.index) [ inl f ↦ f.1 | inr f ↦ absurd (let g = f.1 in end.seen.recent (suc two) (omega arith) (omega arith) second) ]) in
      let x : ℕ = next_proposal p mid.seen.view in
      let still : h.moment end.seen.index p ≡ h.moment (suc two) p = keeps h last rule p (suc two) end.seen.index after (omega arith) (λ t f g. silent t f (omega arith)) in
      let number : Some end.seen.number ≡ Some x = sym end.seen.own ∙ still ∙ mid.proposes in
      let theirs : h.moment end.seen.index end.seen.other ≡ Some x = end.seen.contested ∙ number in
      let mine : value_of p mid.seen.view ≡ Some mid.seen.number = mid.seen.values p ∙ mid.seen.own in
      elim (cases_Bool (among end.seen.other us)) [
        | inl is ↦
            let up = high mid.seen.view mid.seen.index mid.seen.rising mid.seen.values late early end.seen.other end.seen.index x is end.seen.not_own (omega arith) (omega arith) theirs in
            let same = free_next mid.seen.view mid.seen.index mid.seen.rising mid.seen.values late early mid.seen.number mine in
            (omega arith)
        | inr out ↦
            let there : value_of end.seen.other mid.seen.view ≡ Some x = mid.seen.values end.seen.other ∙ outside end.seen.other out from mid.seen.index (omega arith) (omega arith) early ∙ sym (outside end.seen.other out from end.seen.index (omega arith) (omega arith) (omega arith)) ∙ theirs in
            let taken : is_taken p mid.seen.view x ≡ true = finds (λ u. not (u == p)) mid.seen.view end.seen.other x there (elim (eqb_tells end.seen.other p) [ inl z ↦ absurd (end.seen.not_own z.1) | inr z ↦ rw z.0 refl ]) in
            (let no : true ≡ false = sym taken ∙ next_free p mid.seen.number mid.seen.view mine in cc)
      ]
