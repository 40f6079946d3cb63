-- the lines of connections that ask who holds numbers, or the terms, are answered, after a turn of the loop
use Rattle.std.specs.Prelude.{◌≡◌, ℕ, List, length, get_or, Option, Some, None}
use Rattle.service_loop.specs.Asking.{MayAnswer}
use Rattle.service_loop.specs.Seats.{RepliesSent, Seating}
use Rattle.service_loop.specs.declared.terms.Query.{Query}

module _ {C : Type 0} (on : Seating C) (answer : Query → List ℕ) where
  -- a connection is answered, and nothing is read or sent; an empty seat stays empty
  abbrev pub SeatAnswers : Option C → Option C → Type 0
  SeatAnswers None None = Unit {0}
  SeatAnswers None (Some c) = ⊥
  SeatAnswers (Some c) None = ⊥
  SeatAnswers (Some c) (Some d) = MayAnswer answer (on.buffers c) (on.buffers d) × (on.left d ≡ on.left c) × (on.gone d ≡ on.gone c)

  -- each is answered so, or is as it was
  pub record QueriesAnswered (seats seats' : List (Option C)) : Type 0 where
    pub each : (i : ℕ) → SeatAnswers (get_or seats i None) (get_or seats' i None)
    pub many : length seats' ≡ length seats

  -- one is
  pub record SeatAnswered (Due : C → Type 0) (key : ℕ) (seats seats' : List (Option C)) : Type 0 where
    pub was : C
    pub is : C
    pub was_there : get_or seats key None ≡ Some was
    pub is_there : get_or seats' key None ≡ Some is
    pub due : Due was
    pub done : Due is → ⊥
    pub answers : SeatAnswers (Some was) (Some is)
    pub others : (i : ℕ) → (i ≡ key → ⊥) → get_or seats' i None ≡ get_or seats i None
    pub many : length seats' ≡ length seats

  -- each is answered, and then some of what waits is sent
  abbrev pub AnsweredAndSent : List (Option C) → List (Option C) → Type 0
  AnsweredAndSent seats seats' = (answered : List (Option C)) × QueriesAnswered seats answered × RepliesSent on answered seats'
