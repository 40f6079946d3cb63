-- tokens that a hall gives: a `put` of one more than the slot has (fencing tokens: Kleppmann 2016; that slots give them: ours)
use Rattle.std.specs.Prelude.{◌≡◌, ℕ, suc, nat_lt, if◌then◌else◌, Option, Some, None, Result, Ok}
use Rattle.std.specs.Result.{result_unwrap_or}
use Rattle.model_steps.specs.declared.refusal.Refusal.{Refusal}
use Rattle.model_steps.specs.declared.refusal.Refusal.TheVariants as refusal
use Rattle.model_asked.specs.declared.event.Event.TheVariants.{Put}
use Rattle.model_asked.specs.declared.reply.Reply.TheVariants as reply
use Rattle.model_asked.specs.Replies.{ShownReply}
use Rattle.model_pool.specs.Pool.{number_answer}
use Rattle.model_pool.specs.slots.Tokens.{value_of}
use Rattle.text_worlds.specs.desk.DeskRules.{fetched}
use Rattle.text_worlds.specs.desk.Held.{slots_of}
use Rattle.service_hall.specs.Halls.{desk_of, HallMay}
use Rattle.service_hall.specs.HallState.{HallState}

-- the value in the slot of a number
abbrev pub value_at : HallState → ℕ → ℕ
value_at h number = value_of number (slots_of (desk_of h))

-- the number that an identity holds, or why it holds none
abbrev pub number_in : HallState → ℕ → Result ℕ Refusal
number_in h id = number_answer (slots_of (desk_of h)).pool id

-- the value in the slot of the number that it holds, or 0
abbrev pub held_value : HallState → ℕ → ℕ
held_value h id = result_unwrap_or (fetched (slots_of (desk_of h)).values (number_in h id)) 0

-- one more, if that is a value
abbrev pub token_above : ℕ → Option ℕ
token_above value = if nat_lt value 18446744073709551615 then Some (suc value) else None

-- who puts a token is told it
abbrev pub token_reply : ℕ → ShownReply → ShownReply
token_reply token reply.Ok = reply.Value token
token_reply token r = r

-- the token is put as an event of the history; where there is none, nothing changes
abbrev pub PutsToken : Option ℕ → HallState → ℕ → ShownReply → HallState → Type 0
PutsToken (Some token) h id r u = (said : ShownReply) × HallMay h (Put id token) said u × (r ≡ token_reply token said)
PutsToken None h id r u = (r ≡ reply.Refused refusal.OutOfRange) × (u ≡ h)

-- an identity puts one more than the slot of its number has
abbrev pub Raises : HallState → ℕ → ShownReply → HallState → Type 0
Raises h id r u = PutsToken (token_above (held_value h id)) h id r u

-- this token is the next one of a number that the identity holds: the slot had one less, and has it then
pub record IsNextToken (h : HallState) (id token : ℕ) (u : HallState) : Type 0 where
  pub number : ℕ
  pub holds : number_in h id ≡ Ok number
  pub next : token ≡ suc (value_at h number)
  pub stored : value_at u number ≡ token
