-- rules: the replies of a structure to events
use Rattle.std.proofs.Common.{◌≡◌, ◌≢◌, Bool, true, ◌⊎◌, inl, inr, sym, ◌∙◌}
use Rattle.model_steps.specs.declared.refusal.Refusal.TheVariants as refusal
use Rattle.model_asked.specs.declared.event.Event.{Event}
use Rattle.model_asked.specs.Replies.{ShownReply}
use Rattle.model_asked.specs.declared.reply.Reply.TheVariants as reply

-- the reply to an event and the state after it, and whether it may be refused because an allocation failed instead
pub record Rules (T : Type 0) : Type 0 where
  pub reply : T → Event → ShownReply
  pub after : T → Event → T
  pub grows : T → Event → Bool

-- an event may have this reply and lead to this state. They are the one reply and the one state, or `NoMemory` with
-- nothing changed if an allocation may fail
abbrev pub may_by : {T : Type 0} → Rules T → T → Event → ShownReply → T → Type 0
may_by rules w e r u =
    ((r ≡ rules.reply w e) × (u ≡ rules.after w e)) ⊎ ((r ≡ reply.Refused refusal.NoMemory) × (u ≡ w) × (rules.grows w e ≡ true))

-- if no allocation fails, rules allow one reply and one state
pub one_by_rules : {T : Type 0} (rules : Rules T) (w u v : T) (e : Event) (a b : ShownReply) → may_by rules w e a u → may_by rules w e b v →
    a ≢ reply.Refused refusal.NoMemory → b ≢ reply.Refused refusal.NoMemory → (a ≡ b) × (u ≡ v)
one_by_rules rules w u v e a b (inl x) (inl y) na nb = (x.0 ∙ sym y.0, x.1 ∙ sym y.1)
one_by_rules rules w u v e a b (inl x) (inr y) na nb = absurd (nb y.0)
one_by_rules rules w u v e a b (inr x) y na nb = absurd (na x.0)
