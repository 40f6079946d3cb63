-- what holds of commands that are no events, where it holds of what is none
use Rattle.std.proofs.Common.{ℕ, List, [], ◌∷◌, Option, Some, None, Result, Ok, Err}
use Rattle.model_asked.specs.declared.bad.Bad.{Bad}
use Rattle.model_asked.specs.declared.bad.Bad.TheVariants.{BadNumber, WrongCount}
use Rattle.model_asked.specs.declared.command.Command.{Command}
use Rattle.model_asked.specs.declared.command.Command.TheVariants.{Owner, Quit}
use Rattle.text_lines.specs.Meaning.{command_if, command_of_one, number_in, quit_of}

module _ (P : Result Command Bad → Type 0) (none : (bad : Bad) → P (Err bad)) where
  owner_if : ((n : ℕ) → P (Ok (Owner n))) → (o : Option ℕ) → P (command_if Owner o)
  owner_if each None = none BadNumber
  owner_if each (Some n) = each n

  pub owner_of_one : ((n : ℕ) → P (Ok (Owner n))) → (others : List (List ℕ)) → P (command_of_one Owner others)
  owner_of_one each [] = none WrongCount
  owner_of_one each (word ∷ []) = owner_if each (number_in word)
  owner_of_one each (word ∷ other ∷ more) = none WrongCount

  pub quit_alone : P (Ok Quit) → (others : List (List ℕ)) → P (quit_of others)
  quit_alone it [] = it
  quit_alone it (word ∷ more) = none WrongCount
