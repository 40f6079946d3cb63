-- a table opens under the rule, and keeps it where a participant goes to a new seat, or to another that takes it in
use Rattle.std.proofs.Common.{◌≡◌, ◌≢◌, ℕ, zero, suc, ◌+◌, ◌-◌, ◌<◌, ⊎_elim, sym, refl, ap, ◌∙◌, subst, arith, List, [], ◌∷◌, ◌++◌, length, set, slice_set, slice_index, take, drop, replicate, get_or, is_some}
use Rattle.words_machine.proofs.Common.{Me, Step, Allows, Splits, Joins, keeps, opening, set_at, set_at-same, set_at-other, own, IsFresh, count_to, fun_ext, ProgramSteps, Each, each_set, each_pushed, each_map, each_both, Stand, SeatView, view_of, unbegun, unbegun_from, undealt_from, WordLaw, IsStand, Shows, IsRunning, KeepsRun, IsAtRest, Looks}
use Rattle.std.proofs.Math.ListN.{length-replicate}
use Rattle.std.proofs.lemmas.List.{set-get_or}
use mathlib.Core.Option.{some, some-ne-none, some-injective}
use lib.ListN.{get_elem?}
use Rattle.atomic_table.proofs.Lists.{at_set, set_again}
use Rattle.model_steps.proofs.cited.CountLemmas.{count_none}
use Rattle.words_machine.proofs.parts_lemmas.Numbered.{IsNumbered, each_numbered, none_twice}
use Rattle.words_machine.proofs.Stepping.{under_rule}

get_or-replicate_same : {A : Type 0} (n i : ℕ) (x : A) → get_or (replicate n x) i x ≡ x
get_or-replicate_same zero i x = refl
get_or-replicate_same (suc n) zero x = refl
get_or-replicate_same (suc n) (suc i) x = get_or-replicate_same n i x

module _ {P R O : Type 0} (program : ProgramSteps P R ℕ O) (law : WordLaw P R O) (n : ℕ) (fresh : IsFresh program law n) where
  abbrev blank : List ℕ
  blank = replicate (law.registers n) 0

  abbrev new : law.State
  new = law.machine.first (law.start_of n)

  -- what the first seat's view says is so
  shows_opening : (seat : ℕ) (v : SeatView P O) → get_elem? (undealt_from 0 n ∷ []) seat ≡ some v → Shows law n new [] (λ _. 0) seat v
  shows_opening zero v e = subst (Shows law n new [] (λ _. 0) 0) (some-injective (undealt_from 0 n) v e) (record {
    stands = each_map (IsNumbered (λ (s : Stand P O). s.number) unbegun 0 n) (IsStand law n new [] (λ _. 0) 0 n)
        (λ s x. let same = sym x.is in record {
          seats_are = refl;
          in_range = x.below;
          seat_is = refl;
          participant_is = fresh.nobody (own s.number) ∙ sym (ap (λ (t : Stand P O). t.participant) same);
          outcome_is = fresh.unreported (own s.number) ∙ sym (ap (λ (t : Stand P O). t.outcome) same);
          accesses_are = ap (λ (t : Stand P O). t.accesses) same ∙ sym (fresh.unmoved (own s.number));
          entered_are = (let a = ap (λ (t : Stand P O). t.entered) same in omega arith);
        }) (unbegun_from 0 (n - 0)) (each_numbered (λ (s : Stand P O). s.number) unbegun (λ number. refl) (n - 0) 0 n (omega arith));
    once = none_twice (λ (s : Stand P O). s.number) unbegun (λ number. refl) (n - 0) 0;
    endings = tt;
  })
  shows_opening (suc seat) v e = absurd (some-ne-none v (sym e))

  -- a table opens under the rule
  pub opens : (S : Type 0) → KeepsRun law {S = S} n (opening blank [] (undealt_from 0 n))
  opens S =
      let none : (i : ℕ) → slice_index blank i ≡ 0 = (λ i. get_or-replicate_same (law.registers n) i 0) in
      record {
        w = new;
        r = [];
        holds = fresh.holds;
        spelled = λ x l. fresh.blank x l ∙ sym (none (law.place n x));
        as_many = length-replicate (law.registers n) 0;
        counted = fresh.unbegun ∙ sym (ap (λ f. count_to f n) (fun_ext (λ k. ap is_some (fresh.nobody (own k)))) ∙ count_none n);
        seat_of = λ _. 0;
        shown = shows_opening;
      }

module _ {P R O : Type 0} (law : WordLaw P R O) where
  module _ (most : ℕ) (w : law.State) (r : List law.Call) (k new seat : ℕ) (seat_of : ℕ → ℕ) where
    -- one that another seat steps stands there still where only k changes its seat
    elsewhere : (seats : ℕ) (s : Stand P O) → s.number ≢ k → IsStand law most w r seat_of seat seats s → IsStand law most w r (set_at seat_of k new) seat seats s
    elsewhere seats s ne x = record {
      seats_are = x.seats_are;
      in_range = x.in_range;
      seat_is = set_at-other seat_of k new s.number ne ∙ x.seat_is;
      participant_is = x.participant_is;
      outcome_is = x.outcome_is;
      accesses_are = x.accesses_are;
      entered_are = x.entered_are;
    }

    -- and so is the whole view of a seat that k does not leave
    shows_elsewhere : (v : SeatView P O) → seat_of k ≢ seat → Shows law most w r seat_of seat v → Shows law most w r (set_at seat_of k new) seat v
    shows_elsewhere v ne s = record {
      stands = each_map (IsStand law most w r seat_of seat v.most) (IsStand law most w r (set_at seat_of k new) seat v.most)
          (λ t x. elsewhere v.most t (λ e. ne (ap seat_of (sym e) ∙ x.seat_is)) x) v.stands s.stands;
      once = s.once;
      endings = s.endings;
    }

  -- the rule with other views, each of which is so
  pub with_views : (n : ℕ) (words : List ℕ) (views others : List (SeatView P O)) (h : IsRunning law n words views) (seat_of : ℕ → ℕ) → ((seat : ℕ) (v : SeatView P O) → get_elem? others seat ≡ some v → Shows law n h.w h.r seat_of seat v) → IsRunning law n words others
  with_views n words views others h seat_of shown = record { w = h.w; r = h.r; holds = h.holds; spelled = h.spelled; as_many = h.as_many; counted = h.counted; seat_of = seat_of; shown = shown }

  -- one that goes to a seat stands there
  moves_to : (most : ℕ) (w : law.State) (r : List law.Call) (new seat : ℕ) (seat_of : ℕ → ℕ) (seats : ℕ) (s : Stand P O) → IsStand law most w r seat_of seat seats s → IsStand law most w r (set_at seat_of s.number new) new seats s
  moves_to most w r new seat seat_of seats s x = record {
    seats_are = x.seats_are;
    in_range = x.in_range;
    seat_is = set_at-same seat_of s.number new;
    participant_is = x.participant_is;
    outcome_is = x.outcome_is;
    accesses_are = x.accesses_are;
    entered_are = x.entered_are;
  }

  module _ {S : Type 0} (n : ℕ) (seat : ℕ) (m : ℕ) (a : Stand P O) (rest : List (Stand P O)) where
    -- the first goes to a new seat
    pub first_dealt : Splits {S = S} {V = SeatView P O} (KeepsRun law n) seat (view_of m (a ∷ rest) []) (view_of m rest []) (view_of m (a ∷ []) [])
    first_dealt s h e =
        let old = h.shown seat (view_of m (a ∷ rest) []) e in
        let left : SeatView P O = view_of m rest [] in
        let right : SeatView P O = view_of m (a ∷ []) [] in
        let new : ℕ = length (set s.views seat left) in
        let seat_of : ℕ → ℕ = set_at h.seat_of a.number new in
        let moved = old.stands.0 in
        let kept_left : Shows law n h.w h.r seat_of seat left = record {
          stands = each_both (IsStand law n h.w h.r h.seat_of seat m) (λ t. t.number ≢ a.number) (IsStand law n h.w h.r seat_of seat m)
              (λ t x ne. elsewhere n h.w h.r a.number new seat h.seat_of m t ne x) rest old.stands.1 old.once.0;
          once = old.once.1;
          endings = tt;
        } in
        let kept_right : Shows law n h.w h.r seat_of new right = record { stands = (moves_to n h.w h.r new seat h.seat_of m a moved, tt); once = (tt, tt); endings = tt } in
        with_views n s.words s.views (set s.views seat left ++ right ∷ []) h seat_of
        (each_pushed (Shows law n h.w h.r seat_of) (set s.views seat left) right
        (each_set (Shows law n h.w h.r seat_of) s.views seat left kept_left
        (λ j u other at. shows_elsewhere n h.w h.r a.number new j h.seat_of u (λ z. other (sym z ∙ moved.seat_is)) (h.shown j u at)))
        kept_right)

    -- another seat's only participant becomes this seat's, before its own
    pub may_unite : (other : ℕ) → Joins {S = S} {V = SeatView P O} (KeepsRun law n) seat (view_of m rest []) other (view_of m (a ∷ []) []) (view_of m (a ∷ rest) []) (view_of 0 [] [])
    may_unite other s h e apart e' =
        let was : get_elem? s.views other ≡ some (view_of m (a ∷ []) []) = ⊎_elim (λ t. absurd (apart t.0)) (λ t. t.1) (at_set s.views seat other (view_of m (a ∷ rest) []) (view_of m (a ∷ []) []) e') in
        let old = h.shown seat (view_of m rest []) e in
        let theirs = (h.shown other (view_of m (a ∷ []) []) was).stands.0 in
        let seat_of : ℕ → ℕ = set_at h.seat_of a.number seat in
        let none_same : Each (λ t. t.number ≢ a.number) rest = each_map (IsStand law n h.w h.r h.seat_of seat m) (λ t. t.number ≢ a.number)
        (λ t x g. apart (sym theirs.seat_is ∙ ap h.seat_of (sym g) ∙ x.seat_is)) rest old.stands in
        let united : Shows law n h.w h.r seat_of seat (view_of m (a ∷ rest) []) = record {
          stands = (
            moves_to n h.w h.r seat other h.seat_of m a theirs,
            each_both (IsStand law n h.w h.r h.seat_of seat m) (λ t. t.number ≢ a.number) (IsStand law n h.w h.r seat_of seat m)
                (λ t x ne. elsewhere n h.w h.r a.number seat seat h.seat_of m t ne x) rest old.stands none_same,
          );
          once = (none_same, old.once);
          endings = tt;
        } in
        let Now : ℕ → SeatView P O → Type 0 = λ j u. j ≢ other → Shows law n h.w h.r seat_of j u in
        let now = each_set Now s.views seat (view_of m (a ∷ rest) []) (λ _. united)
        (λ j u _ f far. shows_elsewhere n h.w h.r a.number seat j h.seat_of u (λ g. far (sym g ∙ theirs.seat_is)) (h.shown j u f)) in
        with_views n s.words s.views (set (set s.views seat (view_of m (a ∷ rest) [])) other (view_of 0 [] [])) h seat_of
        (each_set (Shows law n h.w h.r seat_of) (set s.views seat (view_of m (a ∷ rest) [])) other (view_of 0 [] [])
        (record { stands = tt; once = tt; endings = tt }) (λ j u far f. now j u f far))

  -- a look changes nothing
  pub may_look : {S : Type 0} (n : ℕ) (seat : ℕ) (v : SeatView P O) (slots word : ℕ) (st : Step S) → ((w : law.State) (r : List law.Call) (seat_of : ℕ → ℕ) → Shows law n w r seat_of seat v → v.most ≡ n) → IsAtRest v.stands
      → Allows {S = S} {V = SeatView P O} (KeepsRun law n) slots seat (v, []) word (λ f. f) (Looks law st (v, []))
  may_look n seat v slots word st seats rest s h _ e _ =
      let same_words : slice_set s.words word (slice_index s.words word) ≡ s.words = set-get_or s.words word 0 in
      let same_views : set s.views seat v ≡ s.views = set_again s.views seat v e in
      let kept : IsRunning law n (slice_set s.words word (slice_index s.words word)) (set s.views seat v) = rw (same_words, same_views) h in
      (v, keeps, tt, kept, (refl, rest, (under_rule law n seat s.words s.views v (seats h.w h.r h.seat_of (h.shown seat v e)) h e).0))

  -- the one of the least number that is not yet dealt out comes first
  pub least_first : (number : ℕ) (size : ℕ) → number < size → undealt_from {P = P} {O = O} number size ≡ view_of size (unbegun number ∷ unbegun_from (number + 1) (size - (number + 1))) []
  least_first number size h = let e : size - number ≡ suc (size - (number + 1)) = omega arith in ap (λ count. view_of size (unbegun_from number count) []) e

  module _ (number : ℕ) (size : ℕ) (h : number < size) (before : Me ℕ (SeatView P O)) (is : before ≡ (undealt_from number size, [])) where
    -- and it goes to a new seat
    pub may_deal : (n : ℕ) (seat : ℕ) → Splits {S = ℕ} {V = SeatView P O} (KeepsRun law n) seat before.0 (view_of before.0.most (drop 1 before.0.stands) before.0.endings) (view_of before.0.most (take 1 before.0.stands) [])
    may_deal n seat = subst (λ (v : SeatView P O). Splits {S = ℕ} {V = SeatView P O} (KeepsRun law n) seat v (view_of v.most (drop 1 v.stands) v.endings) (view_of v.most (take 1 v.stands) []))
        (sym (ap (λ (me : Me ℕ (SeatView P O)). me.0) is ∙ least_first number size h)) (first_dealt n seat size (unbegun number) (unbegun_from (number + 1) (size - (number + 1))))

    -- what is left with the seat that was dealt from
    pub left_over : (after : Me ℕ (SeatView P O)) → after ≡ (view_of before.0.most (drop 1 before.0.stands) before.0.endings, before.1) → after ≡ (undealt_from (number + 1) size, [])
    left_over after left = left ∙ ap (λ (me : Me ℕ (SeatView P O)). (view_of me.0.most (drop 1 me.0.stands) me.0.endings, me.1)) is ∙ ap (λ (v : SeatView P O). (view_of v.most (drop 1 v.stands) v.endings, [])) (least_first number size h)

    -- and what the new seat has
    pub dealt_is : (after : Me ℕ (SeatView P O)) → after ≡ (view_of before.0.most (take 1 before.0.stands) [], []) → after ≡ (view_of size (unbegun number ∷ []) [], [])
    dealt_is after left = left ∙ ap (λ (me : Me ℕ (SeatView P O)). (view_of me.0.most (take 1 me.0.stands) [], [])) is ∙ ap (λ (v : SeatView P O). (view_of v.most (take 1 v.stands) [], [])) (least_first number size h)
