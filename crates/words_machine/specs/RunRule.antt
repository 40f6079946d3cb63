-- the rule of a table of words: they are the memory of a state that some list of calls leads to, and each view tells of
-- participants of that state
use Rattle.std.specs.Prelude.{◌≡◌, ℕ, ◌<◌, ◌≤◌, List, length, slice_index, Some, is_some}
use mathlib.Core.Option.{some}
use lib.ListN.{get_elem?}
use Rattle.atomic_table.specs.Table.{State}
use Rattle.words_machine.specs.parts.Numbered.{Each, NoneTwice}
use Rattle.model_steps.specs.Count.{count_to}
use Rattle.words_machine.specs.declared.seat_view.Stand.{Stand}
use Rattle.words_machine.specs.declared.seat_view.Ending.{Ending}
use Rattle.words_machine.specs.declared.seat_view.SeatView.{SeatView}
use Rattle.words_machine.specs.SeatViews.{own}
use Rattle.words_machine.specs.WordLaw.{WordLaw}

-- how many of the participants of these numbers have begun
abbrev pub begun_of : {P R O : Type 0} (law : WordLaw P R O) → law.State → ℕ → ℕ
begun_of law w most = count_to (λ number. is_some (law.self w (own number))) most

module _ {P R O : Type 0} (law : WordLaw P R O) (most : ℕ) where
  -- the words are this memory
  abbrev pub Spells : List ℕ → (R → ℕ) → Type 0
  Spells words memory = (x : R) → law.IsRegister most x → memory x ≡ slice_index words (law.place most x)

  -- the participant of this number stands so in a state, after these calls
  pub record IsStand (w : law.State) (r : List law.Call) (seat_of : ℕ → ℕ) (seat : ℕ) (seats : ℕ) (s : Stand P O) : Type 0 where
    pub seats_are : seats ≡ most
    pub in_range : s.number < most
    pub seat_is : seat_of s.number ≡ seat
    pub participant_is : law.self w (own s.number) ≡ s.participant
    pub outcome_is : law.outcome_of (own s.number) r ≡ s.outcome
    pub accesses_are : s.accesses ≡ law.steps_of (own s.number) r
    pub entered_are : s.entered ≤ law.begun_in r

  -- the end that a view tells of is so
  pub record IsEnding (r : List law.Call) (seats : ℕ) (t : Ending O) : Type 0 where
    pub seats_are : seats ≡ most
    pub ended : law.outcome_of (own t.number) r ≡ Some t.outcome

  -- what a view says is so
  pub record Shows (w : law.State) (r : List law.Call) (seat_of : ℕ → ℕ) (seat : ℕ) (v : SeatView P O) : Type 0 where
    pub stands : Each (IsStand w r seat_of seat v.most) v.stands
    pub once : NoneTwice (λ (s : Stand P O). s.number) v.stands
    pub endings : Each (IsEnding r v.most) v.endings

module _ {P R O : Type 0} (law : WordLaw P R O) where
  -- the rule: some list of calls leads to a state whose memory is the words, in which as many of the seats' participants stand
  -- somewhere as have begun, and each participant is one seat's to step, and stands as the view of that seat says
  pub record IsRunning (most : ℕ) (words : List ℕ) (views : List (SeatView P O)) : Type 0 where
    pub w : law.State
    pub r : List law.Call
    pub holds : law.Holds most w r
    pub spelled : Spells law most words (law.memory w)
    pub as_many : length words ≡ law.registers most
    pub counted : law.begun_in r ≡ begun_of law w most
    pub seat_of : ℕ → ℕ
    pub shown : (seat : ℕ) (v : SeatView P O) → get_elem? views seat ≡ some v → Shows law most w r seat_of seat v

  abbrev pub KeepsRun : {S : Type 0} → ℕ → State S (SeatView P O) → Type 0
  KeepsRun most s = IsRunning most s.words s.views
