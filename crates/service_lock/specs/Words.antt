-- words of a name board beside who has which name
use Rattle.std.specs.Prelude.{◌≡◌, ◌≢◌, ℕ, ◌+◌, List, Some, slice_get}
use Rattle.model_asked.specs.declared.reply.Reply.TheVariants.{Owner}
use Rattle.text_worlds.specs.desk.Desk.{owner_reply}
use Rattle.text_worlds.specs.desk.DeskValue.{DeskValue}

-- this word is 0, or who has the name of this number
abbrev pub IsOwnerOrNone : DeskValue → ℕ → ℕ → Type 0
IsOwnerOrNone w number word = word ≢ 0 → owner_reply w number ≡ Owner (Some word)

-- each word is 0 or who has the name of its number, which is 1 for the first
abbrev pub Agree : DeskValue → List ℕ → Type 0
Agree w words = (place : ℕ) → (word : ℕ) → slice_get words place ≡ Some word → IsOwnerOrNone w (place + 1) word
