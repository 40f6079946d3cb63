-- there is an answer to each request
use Rattle.std.proofs.Common.{◌≡◌, ◌⊎◌, ◌==◌, ◌∙◌, ℕ, Bool, List, [], ◌∷◌, if◌then◌else◌, true, false, inl, inr, refl, ap, sym}
use Rattle.std.proofs.lemmas.Bool.Decides.{eqb_tells}
use Rattle.model_steps.specs.declared.refusal.Refusal.TheVariants as refusal
use Rattle.model_asked.specs.Replies.{ShownReply}
use Rattle.model_asked.specs.declared.event.Event.TheVariants.{Begin, Step, Enter, Probe, Seek, Leave, Put, Get, Widen}
use Rattle.model_asked.specs.declared.reply.Reply.TheVariants as reply
use Rattle.model_asked.specs.Requests.{Request}
use Rattle.model_asked.specs.Requests.Request.{Take, OwnerOf}
use Rattle.service_follow.specs.AskingState.{AskingState}
use Rattle.service_follow.specs.NotingState.{NotingState}
use Rattle.service_follow.specs.Readings.{AskingSays}
use Rattle.service_follow.specs.ReplyQueueState.{ReplyQueueState}
use Rattle.service_follow.specs.Said.{IsNext, NotingSays, ReplyQueueReplies}

pub noting_answers : (w : NotingState) (q : Request) → (r : ShownReply) × (u : NotingState) × NotingSays w q r u
noting_answers w q = (reply.Refused refusal.NoMemory, record w { lost = true }, λ well. absurd (let bad : true ≡ false = well in cc))

pub asking_answers : (w : AskingState) (q : Request) → (r : ShownReply) × (u : AskingState) × AskingSays w q r u
asking_answers w q = (reply.Refused refusal.NoMemory, record w { lost = true }, λ well. absurd (let bad : true ≡ false = well in cc))

-- the numbers of a request: its kind, whom or what it names, and a value
kind : Request → ℕ
kind (Take (Begin p)) = 0
kind (Take (Step p)) = 1
kind (Take (Enter p)) = 2
kind (Take (Probe p)) = 3
kind (Take (Leave p)) = 4
kind (Take (Put p v)) = 5
kind (Take (Get p)) = 6
kind (Take (Widen p)) = 7
kind (Take (Seek p)) = 8
kind (OwnerOf n) = 9

named : Request → ℕ
named (Take (Begin p)) = p
named (Take (Step p)) = p
named (Take (Enter p)) = p
named (Take (Probe p)) = p
named (Take (Leave p)) = p
named (Take (Put p v)) = p
named (Take (Get p)) = p
named (Take (Widen p)) = p
named (Take (Seek p)) = p
named (OwnerOf n) = n

value : Request → ℕ
value (Take (Put p v)) = v
value (Take (Begin p)) = 0
value (Take (Step p)) = 0
value (Take (Enter p)) = 0
value (Take (Probe p)) = 0
value (Take (Leave p)) = 0
value (Take (Get p)) = 0
value (Take (Widen p)) = 0
value (Take (Seek p)) = 0
value (OwnerOf n) = 0

-- the request of these numbers
made : ℕ → ℕ → ℕ → Request
made k p v =
    if k == 0 then Take (Begin p) else if k == 1 then Take (Step p) else if k == 2 then Take (Enter p) else if k == 3 then Take (Probe p) else if k == 4 then Take (Leave p)
    else if k == 5 then Take (Put p v) else if k == 6 then Take (Get p) else if k == 7 then Take (Widen p) else if k == 8 then Take (Seek p) else OwnerOf p

made_back : (q : Request) → made (kind q) (named q) (value q) ≡ q
unfolding made kind named value
made_back (Take (Begin p)) = refl
made_back (Take (Step p)) = refl
made_back (Take (Enter p)) = refl
made_back (Take (Probe p)) = refl
made_back (Take (Leave p)) = refl
made_back (Take (Put p v)) = refl
made_back (Take (Get p)) = refl
made_back (Take (Widen p)) = refl
made_back (Take (Seek p)) = refl
made_back (OwnerOf n) = refl

-- two requests are one, or they are not
one_or_not : (p q : Request) → (p ≡ q) ⊎ (p ≡ q → ⊥)
one_or_not p q = elim (eqb_tells (kind p) (kind q)) [
  | inl k ↦ elim (eqb_tells (named p) (named q)) [
    | inl n ↦ elim (eqb_tells (value p) (value q)) [
      | inl v ↦ inl (sym (made_back p) ∙ ap (λ (x : ℕ). made x (named p) (value p)) k.1 ∙ ap (λ (x : ℕ). made (kind q) x (value p)) n.1 ∙ ap (λ (x : ℕ). made (kind q) (named q) x) v.1 ∙ made_back q)
      | inr v ↦ inr (λ is. v.1 (ap value is))
    ]
    | inr n ↦ inr (λ is. n.1 (ap named is))
  ]
  | inr k ↦ inr (λ is. k.1 (ap kind is))
]

-- a queue of replies of which another request is next is poisoned
poisoned_by : (left : List (Request × ShownReply)) (poisoned : Bool) (q : Request) → (poisoned ≡ false → IsNext left q → ⊥) →
    (r : ShownReply) × (u : ReplyQueueState) × ReplyQueueReplies (record { left = left; poisoned = poisoned }) q r u
poisoned_by left poisoned q other = (reply.Refused refusal.NoMemory, record { left = left; poisoned = true }, inr (refl, other))

answers_of : (left : List (Request × ShownReply)) (poisoned : Bool) (q : Request) →
    (r : ShownReply) × (u : ReplyQueueState) × ReplyQueueReplies (record { left = left; poisoned = poisoned }) q r u
answers_of left true q = poisoned_by left true q (λ well next. absurd (let bad : true ≡ false = well in cc))
answers_of [] false q = poisoned_by [] false q (λ well next. next)
answers_of (x ∷ left) false q = elim (one_or_not x.0 q) [
  | inl is ↦ (x.1, record { left = left; poisoned = false }, inl (refl, refl, ap (λ (a : Request). (a, x.1) ∷ left) is))
  | inr not_it ↦ poisoned_by (x ∷ left) false q (λ well next. not_it next)
]

pub reply_queue_answers : (w : ReplyQueueState) (q : Request) → (r : ShownReply) × (u : ReplyQueueState) × ReplyQueueReplies w q r u
reply_queue_answers w q = answers_of w.left w.poisoned q
