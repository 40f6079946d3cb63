-- marks that lists of kept events make
use Rattle.std.proofs.Common.{◌≡◌, ℕ, ◌+◌, ◌<◌, ◌≤◌, ◌≢◌, List, [], ◌∷◌, ◌++◌, length, map, sym, ap, ◌∙◌, subst, arith, Bool, true, false, All, ◌==◌, cond, ltb, eqb, take, get_or, slice_get, Some, inl, inr, set, get_or-set_same, get_or-set_other, replicate}
use Rattle.service_lock.proofs.Common.{slice_get_within, Exchange, Kept}
use Rattle.std.specs.List.{count_by}
use Rattle.std.proofs.lemmas.List.Sums.{sum_by-append, sum_by_push}
use Rattle.std.proofs.lemmas.List.{take_more, map-append, get_or-replicate, length-replicate, get_or_past}
use Rattle.std.proofs.lemmas.List.Elements.{All-nil, All-push, All-append}
use Rattle.std.proofs.lemmas.Bool.Decides.{nat_tests, eqb_tells}
use Rattle.service_lock.specs.Kepts.{times, Fits, IsJust}
use Rattle.service_lock.specs.Marks.{IsMarked, AreMarked, mark_at, one_if}

pub map_more : {X Y : Type 0} (f : X → Y) (xs zs : List X) (i : ℕ) (x : X) → zs ≡ xs → i < length zs → x ≡ get_or zs i x → map f (take (i + 1) xs) ≡ map f (take i xs) ++ f x ∷ []
map_more f xs zs i x same l at =
    let l' : i < length xs = omega (arith, ap length same) in
    let at' : get_or xs i x ≡ x = sym (at ∙ ap (λ w. get_or w i x) same) in
    ap (map f) (take_more xs i x l') ∙ map-append f (take i xs) (get_or xs i x ∷ []) ∙ ap (λ y. map f (take i xs) ++ f y ∷ []) at'

pub marked_none : (h : List Exchange) (m : List Bool) → IsMarked h m m []
marked_none h m = record { fits = All-nil _; marked = λ p. omega arith }

-- a mark is put
pub mark_put : (m m'' : List Bool) (i p : ℕ) → i < length m → get_or m i false ≡ false → m'' ≡ set m i true → mark_at p m'' ≡ mark_at p m + cond (eqb i p) 1 0
mark_put m m'' i p l clear put =
    elim (eqb_tells i p) [
      | inl e ↦
          let here : mark_at i (set m i true) ≡ 1 = ap one_if (get_or-set_same m i true false l) in
          let before : mark_at i m ≡ 0 = ap one_if clear in
          let same : cond {A = ℕ} (eqb i p) 1 0 ≡ 1 = ap (λ (b : Bool). one_if b) e.0 in
          let next : mark_at i (set m i true) ≡ mark_at i m + 1 = omega (arith, here, before) in
          let there : mark_at i m'' ≡ mark_at i m + 1 = ap (mark_at i) put ∙ next in
          subst (λ (q : ℕ). mark_at q m'' ≡ mark_at q m + 1) e.1 there ∙ ap (λ k. mark_at p m + k) (sym same)
      | inr e ↦
          let other : p ≢ i = λ q. e.1 (sym q) in
          let same : cond {A = ℕ} (eqb i p) 1 0 ≡ 0 = ap (λ (b : Bool). one_if b) e.0 in
          let kept : mark_at p m'' ≡ mark_at p m = ap (mark_at p) put ∙ ap one_if (get_or-set_other m i p true false other) in
          omega (arith, kept, same)
    ]

pub marked_more : (h : List Exchange) (m m' m'' : List Bool) (ks ks' : List Kept) (k : Kept) → ks' ≡ ks ++ k ∷ [] → length m' ≡ length h → IsMarked h m m' ks → slice_get h k.place ≡ Some k.exchange → get_or m' k.place false ≡ false → m'' ≡ set m' k.place true → IsMarked h m m'' ks'
marked_more h m m' m'' ks ks' k same long w fits clear put =
    let l : k.place < length m' = omega (arith, slice_get_within h k.place k.exchange fits) in
    rw same (record {
      fits = All-push (λ (j : Kept). slice_get h j.place ≡ Some j.exchange) ks k w.fits fits;
      marked = λ p.
          let old = w.marked p in
          let pushed = sum_by_push (λ (j : Kept). cond (j.place == p) 1 0) ks k in
          omega (arith, old, pushed, mark_put m' m'' k.place p l clear put);
    })

pub are_none : (h : List Exchange) (m : List Bool) (left : ℕ) → AreMarked h m m left left []
are_none h m left = record { fits = All-nil _; marked = λ p. omega arith; counted = omega arith }

pub are_more : (h : List Exchange) (m m' m'' : List Bool) (left mid left' : ℕ) (kepts : List (List Kept)) (ks : List Kept) → AreMarked h m m' left mid kepts → IsMarked h m' m'' ks → left' + length ks ≡ mid → AreMarked h m m'' left left' (kepts ++ ks ∷ [])
are_more h m m' m'' left mid left' kepts ks w one count = record {
  fits = All-push (Fits h) kepts ks w.fits one.fits;
  marked = λ p. omega (arith, w.marked p, one.marked p, sum_by_push (λ (js : List Kept). count_by (λ j. j.place == p) js) kepts ks);
  counted = omega (arith, w.counted, count, sum_by_push (λ (js : List Kept). length js) kepts ks);
}

by_test : (t p n : ℕ) → (p < n → t ≡ 1) → (n ≤ p → t ≡ 0) → t ≡ cond (ltb p n) 1 0
by_test t p n below past = grind (arith, nat_tests)

-- two such groups, from no marks to all
pub just : (h : List Exchange) (m m' m'' : List Bool) (start mid left : ℕ) (fs bs : List (List Kept)) → m ≡ replicate (length h) false → length m'' ≡ length h → start ≡ length h → left ≡ 0 → AreMarked h m m' start mid fs → AreMarked h m' m'' mid left bs → All (λ b. b ≡ true) m'' → IsJust h (fs ++ bs)
just h m m' m'' start mid left fs bs clear long all nothing one two full = record {
  once = λ p.
      let a = one.marked p in
      let b = two.marked p in
      let s = sum_by-append (λ (js : List Kept). count_by (λ (j : Kept). j.place == p) js) fs bs in
      by_test (times p (fs ++ bs)) p (length h)
      (λ below.
      let first : mark_at p m ≡ 0 = ap (mark_at p) clear ∙ ap one_if (get_or-replicate (length h) p false false below) in
      let last : mark_at p m'' ≡ 1 = ap one_if (full p false (omega arith)) in
      omega (arith, a, b, s, first, last))
      (λ past.
      let none : length m ≤ p = omega (arith, ap length clear, length-replicate (length h) false) in
      let first : mark_at p m ≡ 0 = ap one_if (get_or_past m p false none) in
      let last : mark_at p m'' ≡ 0 = ap one_if (get_or_past m'' p false (omega arith)) in
      omega (arith, a, b, s, first, last));
  fits = All-append (Fits h) fs bs one.fits two.fits;
  counted = omega (arith, one.counted, two.counted, sum_by-append (λ (js : List Kept). length js) fs bs);
}
