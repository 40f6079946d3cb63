-- the rules of worlds whose participants only begin and step
use Rattle.std.specs.Prelude.{◌≡◌, ◌⊎◌, ◌&&◌, ℕ, zero, suc, Bool, true, false, List, map, Result, Ok, Err}
use Rattle.model_steps.specs.Calls.{Call, reply_of}
use Rattle.model_steps.specs.Calls.Call.{Began, Stepped}
use Rattle.model_steps.specs.declared.refusal.Refusal.{Refusal}
use Rattle.model_steps.specs.declared.refusal.Refusal.TheVariants as refusal
use Rattle.model_steps.specs.World.{after_begin, after_step, begin_refusal, done_unless, may_refuse_step, step_answer}
use Rattle.model_steps.specs.WorldMachine.{WorldParts}
use Rattle.model_steps.specs.WorldState.{WorldState}
use Rattle.model_asked.specs.declared.event.Event.TheVariants.{Begin, Step}
use Rattle.model_asked.specs.declared.exchange.Exchange.{Exchange}
use Rattle.model_asked.specs.declared.reply.Reply.TheVariants as reply
use Rattle.model_asked.specs.Replies.{ShownReply, done_reply}
use Rattle.model_asked.specs.Requests.{Request}
use Rattle.model_asked.specs.Requests.Request.{Take, OwnerOf}

-- only `begin` and `step` are known, and who has the name 0
abbrev pub knows_visits : Request → Bool
knows_visits (Take (Begin p)) = true
knows_visits (Take (Step p)) = true
knows_visits (OwnerOf zero) = true
knows_visits r = false

-- the outcome of `begin` and of `step` and the state after each, whether a step may be refused because an allocation failed instead,
-- and what an accepted step is shown as
pub record VisitRules (T X : Type 0) : Type 0 where
  pub begins : T → ℕ → Result (Unit {0}) Refusal
  pub begun : T → ℕ → T
  pub steps : T → ℕ → Result X Refusal
  pub stepped : T → ℕ → T
  pub lacks : T → ℕ → Bool
  pub shown : X → ShownReply

-- the rules of a world that is a machine, whose accepted steps are shown so
abbrev pub world_rules : {P S R V O X : Type 0} → WorldParts P S R V O X → (X → ShownReply) → VisitRules (WorldState S P) X
world_rules parts shown = record {
  begins = λ w p. done_unless (begin_refusal w p);
  begun = λ w p. after_begin w p (parts.start p);
  steps = λ w p. reply_of parts.shown (step_answer parts.program parts.memory w p);
  stepped = λ w p. after_step parts.program parts.memory w p;
  lacks = λ w p. parts.grows && may_refuse_step parts.program parts.memory w p;
  shown = shown;
}

-- the reply to a step, where an accepted one is shown so
abbrev pub said_reply : {X : Type 0} → (X → ShownReply) → Result X Refusal → ShownReply
said_reply shown (Ok said) = shown said
said_reply shown (Err refusal) = reply.Refused refusal

-- no names are given: that 0 is none is refused for every number of participants, and no other is asked for
abbrev pub NoName : {T : Type 0} → T → ℕ → ShownReply → T → Type 0
NoName w zero r u = (r ≡ reply.Refused refusal.OutOfRange) × (u ≡ w)
NoName w (suc n) r u = ⊥

-- a step has one reply and leaves one state; or, where a growth may be refused, that refusal, with nothing changed
abbrev pub step_may : {T X : Type 0} → VisitRules T X → T → ℕ → ShownReply → T → Type 0
step_may rules w p r u =
    ((r ≡ said_reply rules.shown (rules.steps w p)) × (u ≡ rules.stepped w p))
    ⊎ ((r ≡ reply.Refused refusal.NoMemory) × (u ≡ w) × (rules.lacks w p ≡ true))

-- so may be replied to what is known
abbrev pub visit_may : {T X : Type 0} → VisitRules T X → T → Request → ShownReply → T → Type 0
visit_may rules w (Take (Begin p)) r u = (r ≡ done_reply (rules.begins w p)) × (u ≡ rules.begun w p)
visit_may rules w (Take (Step p)) r u = step_may rules w p r u
visit_may rules w (OwnerOf n) r u = NoName w n r u
visit_may rules w x r u = ⊥

-- the exchange that a call is
abbrev pub exchange_of : {X : Type 0} → (X → ShownReply) → Call X → Exchange
exchange_of shown (Began p answer) = record { event = Begin p; reply = done_reply answer }
exchange_of shown (Stepped p answer) = record { event = Step p; reply = said_reply shown answer }

-- exchanges that are calls which keep a law
pub record IsCallRun {X : Type 0} (shown : X → ShownReply) (Spec : List (Call X) → Type 0) (r : List Exchange) : Type 0 where
  pub calls : List (Call X)
  pub spelled : map (exchange_of shown) calls ≡ r
  pub law : Spec calls
