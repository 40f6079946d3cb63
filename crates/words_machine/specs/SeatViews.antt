-- what a seat knows
use Rattle.std.specs.Prelude.{ℕ, ◌+◌, ◌-◌, List, [], ◌∷◌, Option, Some, None}
use Rattle.words_machine.specs.parts.Numbered.{numbered_from}
use Rattle.model_steps.specs.declared.participant.Participant.{Participant}
use Rattle.words_machine.specs.declared.seat_view.Stand.{Stand}
use Rattle.words_machine.specs.declared.seat_view.Ending.{Ending}
use Rattle.words_machine.specs.declared.seat_view.SeatView.{SeatView}

-- the number by which the machine knows a seat: no seat of a machine is 0
abbrev pub own : ℕ → ℕ
own number = number + 1

module _ {P O : Type 0} where
  abbrev pub stand_at : ℕ → Option (Participant P) → Option O → ℕ → ℕ → Stand P O
  stand_at number participant outcome accesses entered = record { number = number; participant = participant; outcome = outcome; accesses = accesses; entered = entered }

  abbrev pub view_of : ℕ → List (Stand P O) → List (Ending O) → SeatView P O
  view_of most stands endings = record { most = most; stands = stands; endings = endings }

  -- the view of a seat with one participant
  abbrev pub lone_view : ℕ → Stand P O → SeatView P O
  lone_view most s = view_of most (s ∷ []) []

  -- one that has not begun
  abbrev pub unbegun : ℕ → Stand P O
  unbegun number = stand_at number None None 0 0

  -- so many of them, by rising number
  abbrev pub unbegun_from : ℕ → ℕ → List (Stand P O)
  unbegun_from = numbered_from unbegun

  -- the view of the seat that the others are dealt from
  abbrev pub undealt_from : ℕ → ℕ → SeatView P O
  undealt_from number most = view_of most (unbegun_from number (most - number)) []

module _ {O : Type 0} where
  abbrev pub ending_at : ℕ → O → Ending O
  ending_at number outcome = record { number = number; outcome = outcome }

  -- what a participant can tell of its end
  abbrev pub endings_at : ℕ → Option O → List (Ending O)
  endings_at number None = []
  endings_at number (Some outcome) = ending_at number outcome ∷ []

abbrev pub endings_of : {P O : Type 0} → List (Stand P O) → List (Ending O)
endings_of [] = []
endings_of (s ∷ ss) = endings_at s.number s.outcome
