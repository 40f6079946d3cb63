-- the names that were given, by exchanges alone
use Rattle.std.specs.Prelude.{◌≡◌, ℕ, ◌+◌, ◌-◌, ◌*◌, ◌≤◌, ◌⊎◌, List, [], ◌∷◌, Option, Some, None}
use Rattle.model_steps.specs.declared.refusal.Refusal.TheVariants as refusal
use Rattle.model_asked.specs.declared.event.Event.{Event}
use Rattle.model_asked.specs.declared.event.Event.TheVariants as event
use Rattle.model_asked.specs.declared.event.Event.TheVariants.{Begin}
use Rattle.model_asked.specs.declared.exchange.Exchange.{Exchange}
use Rattle.model_asked.specs.Replies.{ShownReply}
use Rattle.model_asked.specs.declared.reply.Reply.TheVariants as reply
use Rattle.model_asked.specs.declared.reply.Reply.TheVariants.{Ok}

-- a step of p was answered that p has the name n
pub record IsNaming (p n : ℕ) (x : Exchange) : Type 0 where
  pub view : List (ℕ × ℕ)
  pub is : x ≡ record { event = event.Step p; reply = reply.Named n view }

-- among these exchanges p was named n
abbrev pub WasNamed : ℕ → ℕ → List Exchange → Type 0
WasNamed p n [] = ⊥
WasNamed p n (x ∷ r) = IsNaming p n x ⊎ WasNamed p n r

-- one more, where this is an accepted `begin`
abbrev pub begun_more : Event → ShownReply → ℕ → ℕ
begun_more (Begin p) Ok b = b + 1
begun_more e r b = b

-- how many have begun
abbrev pub begun_in : List Exchange → ℕ
begun_in [] = 0
begun_in (x ∷ r) = begun_more x.event x.reply (begun_in r)

-- this participant was given the name n, or none was
abbrev pub IsOwnerIn : List Exchange → ℕ → Option ℕ → Type 0
IsOwnerIn r n None = (p : ℕ) → WasNamed p n r → ⊥
IsOwnerIn r n (Some p) = WasNamed p n r

-- for m participants names are from 1 to 2m - 1
pub record IsNumber (most n : ℕ) : Type 0 where
  pub some : 1 ≤ n
  pub small : n ≤ 2 * most - 1

-- the reply is the participant that was given the name in these exchanges, or that none was
pub record TellsOwner (r : List Exchange) (n : ℕ) (reported : ShownReply) : Type 0 where
  pub owner : Option ℕ
  pub is : reported ≡ reply.Owner owner
  pub given : IsOwnerIn r n owner

-- the right reply, after these exchanges, to a question for the owner of a name. It is a refusal if and only if the
-- name is out of range
pub record IsOwnerReply (most : ℕ) (r : List Exchange) (n : ℕ) (reported : ShownReply) : Type 0 where
  pub out_of_range : (IsNumber most n → ⊥) → reported ≡ reply.Refused refusal.OutOfRange
  pub in_range : IsNumber most n → TellsOwner r n reported
