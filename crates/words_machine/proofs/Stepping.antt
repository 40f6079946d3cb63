-- the kinds of step by which a participant goes on keep the rule
use Rattle.std.proofs.Common.{◌≡◌, ◌≢◌, ℕ, ◌+◌, ◌<◌, ◌≤◌, inl, inr, Bool, true, false, List, [], ◌∷◌, set, slice_set, slice_index, Option, Some, None, subst, sym, refl, ap, ◌∙◌, arith, is_some}
use Rattle.words_machine.proofs.Common.{Step, Allows, keeps, set_at, set_at-same, set_at-other, outcome_in, answer_in, one_more, moved, IsOnce, begun_of, count_to, fun_ext, ProgramSteps, Read, Write, Value, Done, Answer, Participant, each_set, there_still, each_map, Stand, Ending, SeatView, own, stand_at, lone_view, WordLaw, IsSound, IsStand, IsEnding, Shows, IsRunning, KeepsRun, GoesOn, standing, stand_after, IsUnder, Stands, HasGot, Reads, Writes}
use Rattle.model_steps.proofs.cited.SetAtLemmas.{set_at-as_is}
use Rattle.model_steps.proofs.cited.CountLemmas.{count_more, count_to-lt, count_to-le}
use Rattle.std.proofs.lemmas.List.{length-set, set-get_or, get_or-set_same, get_or-set_other}
use Rattle.std.proofs.lemmas.Bool.Decides.{eqb_tells}
use mathlib.Core.Option.{some}
use lib.ListN.{get_elem?}

-- a view under the rule for so many seats is under the rule for those of which it speaks
module _ {P R O : Type 0} (law : WordLaw P R O) where
  pub under_rule : (most : ℕ) (seat : ℕ) (words : List ℕ) (views : List (SeatView P O)) (v : SeatView P O) → v.most ≡ most → (h : IsRunning law most words views) → get_elem? views seat ≡ some v → IsUnder law v (law.begun_in h.r)
  under_rule most seat words views v same = subst (λ (j : ℕ). (h : IsRunning law j words views) → get_elem? views seat ≡ some v → IsUnder law v (law.begun_in h.r)) same
      (λ h there. (record { words = words; views = views; seat = seat; kept = h; there = there }, refl))

  -- what a step by the participant of one number leaves to all others
  record IsChange (number : ℕ) (w x : law.State) (r t : List law.Call) : Type 0 where
    participants : (q : ℕ) → q ≢ own number → law.self x q ≡ law.self w q
    outcomes : (q : ℕ) → q ≢ own number → law.outcome_of q t ≡ law.outcome_of q r
    ended : (q : ℕ) (o : O) → law.outcome_of q r ≡ Some o → law.outcome_of q t ≡ Some o
    steps : (q : ℕ) → q ≢ own number → law.steps_of q t ≡ law.steps_of q r
    begun : law.begun_in r ≤ law.begun_in t

  module _ (most number : ℕ) (w x : law.State) (r t : List law.Call) (c : IsChange number w x r t) where
    stand_stays : (seat_of : ℕ → ℕ) (seat : ℕ) (seats : ℕ) (s : Stand P O) → s.number ≢ number → IsStand law most w r seat_of seat seats s → IsStand law most x t seat_of seat seats s
    stand_stays seat_of seat seats s ne h =
        let other : own s.number ≢ own number = (λ e. ne (omega arith)) in
        record {
          seats_are = h.seats_are;
          in_range = h.in_range;
          seat_is = h.seat_is;
          participant_is = c.participants (own s.number) other ∙ h.participant_is;
          outcome_is = c.outcomes (own s.number) other ∙ h.outcome_is;
          accesses_are = h.accesses_are ∙ sym (c.steps (own s.number) other);
          entered_are = (let before = h.entered_are in let more = c.begun in omega arith);
        }

    ending_stays : (seats : ℕ) (e : Ending O) → IsEnding law most r seats e → IsEnding law most t seats e
    ending_stays seats e h = record { seats_are = h.seats_are; ended = c.ended (own e.number) e.outcome h.ended }

    view_stays : (seat_of : ℕ → ℕ) (seat j : ℕ) (v : SeatView P O) → seat_of number ≡ seat → j ≢ seat → Shows law most w r seat_of j v → Shows law most x t seat_of j v
    view_stays seat_of seat j v mine other was = record {
      stands = each_map (IsStand law most w r seat_of j v.most) (IsStand law most x t seat_of j v.most)
          (λ s h. stand_stays seat_of j v.most s (λ g. other (sym h.seat_is ∙ ap seat_of g ∙ mine)) h) v.stands was.stands;
      once = was.once;
      endings = each_map (IsEnding law most r v.most) (IsEnding law most t v.most) (λ e h. ending_stays v.most e h) v.endings was.endings;
    }

module _ {P R O : Type 0} (program : ProgramSteps P R ℕ O) (law : WordLaw P R O) where
  module _ (most number identity : ℕ) (w : law.State) (r : List law.Call) where
    has_begun : ℕ → Bool
    has_begun n = is_some (law.self w (own n))

    -- where one stands there is room for it
    pub room_left : (o : Option (Participant P)) → law.self w (own number) ≡ o → number < most → law.begun_in r ≡ begun_of law w most → law.begun_in r + one_more o ≤ most
    unfolding has_begun
    room_left None is low counted = let fewer = count_to-lt has_begun most number low (ap is_some is) in omega arith
    room_left (Some v) is low counted = let few = count_to-le has_begun most in omega arith

    abbrev Once : Option (Participant P) → Type 0
    Once o = IsOnce program law most w r (own number) identity o (standing program law most number identity o)

    -- as many have begun as stand somewhere
    counted_after : (o : Option (Participant P)) → law.self w (own number) ≡ o → number < most → law.begun_in r ≡ begun_of law w most → (once : Once o) → law.begun_in once.r ≡ begun_of law once.w most
    unfolding has_begun
    counted_after o is low counted once =
        let changed : (λ n. is_some (law.self once.w (own n))) ≡ set_at has_begun number true =
        fun_ext (λ n. elim (eqb_tells n number) [
          | inl e ↦ ap (λ k. is_some (law.self once.w (own k))) e.1 ∙ ap is_some once.mine ∙ sym (ap (set_at has_begun number true) e.1 ∙ set_at-same has_begun number true)
          | inr e ↦ let other = e.1 in ap is_some (once.others (own n) (λ x. absurd (omega arith))) ∙ sym (set_at-other has_begun number true n other)
        ]) in
        let count = ap (λ f. count_to f most) changed in
        let more = once.begun in
        elim o as (λ x. law.self w (own number) ≡ x → law.begun_in once.r ≡ law.begun_in r + one_more x → law.begun_in once.r ≡ begun_of law once.w most) [
          | None ↦ λ z b. let one = count_more has_begun number most (ap is_some z) low in omega arith
          | Some v ↦ λ z b. let same = ap (λ f. count_to f most) (set_at-as_is has_begun number true (sym (ap is_some z))) in omega arith
        ] is more

    -- a participant that has ended has ended still, where this one has not
    ended_still : (o : Option (Participant P)) (once : Once o) → law.outcome_of (own number) r ≡ None → (q : ℕ) (x : O) → law.outcome_of q r ≡ Some x → law.outcome_of q once.r ≡ Some x
    ended_still o once none q x is = elim (eqb_tells q (own number)) [
      | inl e ↦ absurd (let gone : law.outcome_of q r ≡ None = ap (λ k. law.outcome_of k r) e.1 ∙ none in cc)
      | inr e ↦ once.outcomes q e.1 ∙ is
    ]

  module _ (sound : IsSound program law) (most seat number identity accesses entered : ℕ) (participant : Option (Participant P)) (goes : GoesOn program law (own number) identity participant) where
    abbrev u : P
    u = standing program law most number identity participant

    abbrev here : Stand P O
    here = stand_at number participant None accesses entered

    -- an access of the participant that stands here, which got this answer and left these words
    module _ (words left : List ℕ) (views : List (SeatView P O)) (h : IsRunning law most words views) (there : get_elem? views seat ≡ some (lone_view most here)) (answer : Answer ℕ) where
      abbrev mine : IsStand law most h.w h.r h.seat_of seat most here
      mine = (h.shown seat (lone_view most here) there).stands.0

      abbrev once : IsOnce program law most h.w h.r (own number) identity participant u
      once = sound.takes most h.w h.r h.holds (own number) identity participant (λ z. omega arith) (let low = mine.in_range in omega arith) mine.participant_is goes (room_left most number identity h.w h.r participant mine.participant_is mine.in_range h.counted)

      abbrev after : SeatView P O
      after = lone_view most (stand_after program law number identity u answer accesses (law.begun_in once.r))

      module _ (heard : answer_in (law.memory h.w) (program.next u) ≡ answer) (spelled : (y : R) → law.IsRegister most y → law.memory once.w y ≡ slice_index left (law.place most y)) (as_many : Rattle.std.proofs.Common.length left ≡ law.registers most) where
        change : IsChange law number h.w once.w h.r once.r
        change = record {
          participants = once.others;
          outcomes = once.outcomes;
          ended = ended_still most number identity h.w h.r participant once mine.outcome_is;
          steps = once.steps;
          begun = (let more = once.begun in omega arith);
        }

        own_shown : Shows law most once.w once.r h.seat_of seat after
        own_shown = record {
          stands = (
            record {
              seats_are = refl;
              in_range = mine.in_range;
              seat_is = mine.seat_is;
              participant_is = once.mine ∙ ap (λ (x : Answer ℕ). Some (moved program law identity u x)) heard;
              outcome_is = once.own_outcome_is mine.outcome_is ∙ ap (λ (x : Answer ℕ). outcome_in (program.note u x)) heard;
              accesses_are = (let before = mine.accesses_are in let one = once.own_steps in omega arith);
              entered_are = omega arith;
            },
            tt,
          );
          once = (tt, tt);
          endings = tt;
        }

        pub kept : IsRunning law most left (set views seat after)
        kept = record {
          w = once.w;
          r = once.r;
          holds = once.holds;
          spelled = spelled;
          as_many = as_many;
          counted = counted_after most number identity h.w h.r participant mine.participant_is mine.in_range h.counted once;
          seat_of = h.seat_of;
          shown = each_set (Shows law most once.w once.r h.seat_of) views seat after own_shown
              (λ j v other at. view_stays law most number h.w once.w h.r once.r change h.seat_of seat j v mine.seat_is other (h.shown j v at));
        }

        pub got_here : {S : Type 0} → HasGot program law {S = S} most number identity u answer (lone_view most here, []) (after, [])
        unfolding kept
        got_here = record { begun = law.begun_in once.r; is = refl; under = under_rule law most seat left (set views seat after) after refl kept (there_still views seat (lone_view most here) there after) }

    module _ {S : Type 0} (slots : ℕ) (st : Step S) (standing_here : Stands program law {S = S} most number identity u (lone_view most here, [])) where
      -- a load
      pub reads : (x : R) (word : ℕ) → word ≡ law.place most x → law.IsRegister most x → program.next u ≡ Read x
          → Allows {S = S} {V = SeatView P O} (KeepsRun law most) slots seat (lone_view most here, []) word (λ n. n) (Reads program law st (lone_view most here, []))
      reads x word at_word low is state h _ e _ =
          let found : ℕ = slice_index state.words word in
          let same_words : slice_set state.words word found ≡ state.words = set-get_or state.words word 0 in
          let heard : answer_in (law.memory h.w) (program.next u) ≡ Value found = ap (answer_in (law.memory h.w)) is ∙ ap Value (h.spelled x low ∙ ap (slice_index state.words) (sym at_word)) in
          let took = once state.words state.words state.views h e (Value found) in
          let spelled : (y : R) → law.IsRegister most y → law.memory took.w y ≡ slice_index state.words (law.place most y) = (λ y l. took.spared y (rw is tt) ∙ h.spelled y l) in
          let now = after state.words state.words state.views h e (Value found) in (
            now,
            keeps,
            tt,
            rw same_words (kept state.words state.words state.views h e (Value found) heard spelled h.as_many),
            record { most = most; number = number; identity = identity; u = u; stands = standing_here; alike = rw is tt; got = got_here state.words state.words state.views h e (Value found) heard spelled h.as_many },
          )

      -- a store
      pub writes : (x : R) (word stored : ℕ) → word ≡ law.place most x → law.IsRegister most x → program.next u ≡ Write x stored
          → Allows {S = S} {V = SeatView P O} (KeepsRun law most) slots seat (lone_view most here, []) word (λ _. stored) (λ _. Writes program law st (lone_view most here, []) stored)
      writes x word stored at_word low is state h _ e _ =
          let left : List ℕ = slice_set state.words word stored in
          let heard : answer_in (law.memory h.w) (program.next u) ≡ Done = ap (answer_in (law.memory h.w)) is in
          let took = once state.words left state.views h e Done in
          let all = h.as_many in
          let inside_word : word < law.registers most = (let l = sound.within most x low in omega arith) in
          let spelled : (y : R) → law.IsRegister most y → law.memory took.w y ≡ slice_index left (law.place most y) = (λ y l. elim (eqb_tells (law.place most y) word) [
            | inl here_is ↦
                let same : y ≡ x = sound.apart most y x l low (here_is.1 ∙ at_word) in
                ap (law.memory took.w) same ∙ took.wrote x stored is ∙ sym (ap (slice_index left) here_is.1 ∙ get_or-set_same state.words word stored 0 (omega arith))
            | inr far ↦
                let other = far.1 in
                let differs : y ≢ x = (λ g. other (ap (law.place most) g ∙ sym at_word)) in
                took.spared y (rw is differs) ∙ h.spelled y l ∙ sym (get_or-set_other state.words word (law.place most y) stored 0 other)
          ]) in
          let many : Rattle.std.proofs.Common.length left ≡ law.registers most = length-set state.words word stored ∙ h.as_many in
          let now = after state.words left state.views h e Done in (
            now,
            keeps,
            tt,
            kept state.words left state.views h e Done heard spelled many,
            record { most = most; number = number; identity = identity; u = u; stands = standing_here; alike = rw is refl; got = got_here state.words left state.views h e Done heard spelled many },
          )
