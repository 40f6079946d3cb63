-- the words of a line that are still to be read
use Rattle.std.proofs.Common.{◌≡◌, ℕ, true, false, cond, eqb, List, [], ◌∷◌, ◌++◌, Option, Some, None, Result, Ok, Err, refl}
use Rattle.text_lines.proofs.Common.{Bad, Command, Event, pieces_from, number_in, event_if_both, event_of_two}
use Rattle.text_lines.specs.Meaning.{command_if, command_of_one}
use Rattle.model_asked.specs.declared.bad.Bad.TheVariants.{WrongCount}
use Rattle.model_asked.specs.declared.command.Command.TheVariants as command
use Rattle.text_lines.specs.WordsLeft.{no_word, number_if, one_number, numbers_if, two_numbers}

-- bytes have at least one word, though it may be empty
pub no_word-pieces : (piece bytes : List ℕ) → no_word (pieces_from 32 piece bytes) ≡ Err WrongCount
no_word-pieces piece [] = refl
no_word-pieces piece (b ∷ bs) =
    elim (eqb b 32) as (λ t. no_word (cond t (piece ∷ pieces_from 32 [] bs) (pieces_from 32 (piece ++ b ∷ []) bs)) ≡ Err WrongCount) [
      | true ↦ refl
      | false ↦ no_word-pieces (piece ++ b ∷ []) bs
    ]

-- the event of two numbers, or why there are none
abbrev pub event_by : (ℕ → ℕ → Event) → Result (ℕ × ℕ) Bad → Result Command Bad
event_by event (Err bad) = Err bad
event_by event (Ok both) = Ok (command.Event (event both.0 both.1))

event_by_both : (event : ℕ → ℕ → Event) (one other : Option ℕ) → event_if_both event one other ≡ event_by event (numbers_if one other)
event_by_both event None other = refl
event_by_both event (Some one) None = refl
event_by_both event (Some one) (Some other) = refl

-- an event of two is that of the two numbers which are left
pub event_by_two : (event : ℕ → ℕ → Event) (left : List (List ℕ)) → event_of_two event left ≡ event_by event (two_numbers left)
event_by_two event [] = refl
event_by_two event (word ∷ []) = refl
event_by_two event (word ∷ other ∷ []) = event_by_both event (number_in word) (number_in other)
event_by_two event (word ∷ other ∷ third ∷ more) = refl

-- the question of one number, or why there is none
abbrev pub owner_by : Result ℕ Bad → Result Command Bad
owner_by (Err bad) = Err bad
owner_by (Ok n) = Ok (command.Owner n)

owner_by_number : (o : Option ℕ) → command_if command.Owner o ≡ owner_by (number_if o)
owner_by_number None = refl
owner_by_number (Some n) = refl

-- a question of one is that of the number which is left
pub owner_by_one : (left : List (List ℕ)) → command_of_one command.Owner left ≡ owner_by (one_number left)
owner_by_one [] = refl
owner_by_one (word ∷ []) = owner_by_number (number_in word)
owner_by_one (word ∷ other ∷ more) = refl
