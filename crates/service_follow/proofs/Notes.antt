-- what the next note of a queue of replies says
use Rattle.std.proofs.Common.{◌≡◌, ℕ, zero, suc, ◌+◌, Bool, true, false, List, [], ◌∷◌, drop, map, Some, None, slice_get, inl, inr, refl, ap, sym, subst, ◌∙◌, ◌≤◌, length, arith, add-one}
use Rattle.service_follow.proofs.Common.{ShownReply, Request, ReplyQueueState}
use Rattle.service_follow.specs.declared.note.Note.{Note}
use Rattle.service_follow.specs.Said.{IsNext, ReplyQueueReplies, request_of, said_by, reply_queue_of}

-- it stands before all that are left
next_said : (notes : List Note) (next : ℕ) (note : Note) → slice_get notes next ≡ Some note → drop next (map said_by notes) ≡ said_by note ∷ drop (suc next) (map said_by notes)
next_said [] next note h = absurd (let bad : None ≡ Some note = h in cc)
next_said (x ∷ notes) zero note h = let same : x ≡ note = cc h in ap (λ n. said_by n ∷ map said_by notes) same
next_said (x ∷ notes) (suc next) note h = next_said notes next note h

said_is : (note : Note) (q : Request) (r : ShownReply) → request_of note.asked ≡ q → r ≡ (said_by note).1 → said_by note ≡ (q, r)
said_is note q r asked reported = ap (λ p. (p, (said_by note).1)) asked ∙ ap (λ s. (q, s)) (sym reported)

pub says_next : (poisoned : Bool) (notes : List Note) (next : ℕ) (note : Note) (w : ReplyQueueState) (q : Request) (r : ShownReply) → record { left = drop next (map said_by notes); poisoned = poisoned } ≡ w →
    slice_get notes next ≡ Some note → request_of note.asked ≡ q → r ≡ (said_by note).1 → ReplyQueueReplies w q r (record { left = drop (next + 1) (map said_by notes); poisoned = poisoned })
says_next true notes next note w q r is there asked reported = inr (refl, λ well. absurd (let no_way : true ≡ false = ap (λ (t : ReplyQueueState). t.poisoned) is ∙ well in cc))
says_next false notes next note w q r is there asked reported =
    let left : drop next (map said_by notes) ≡ (q, r) ∷ drop (next + 1) (map said_by notes) =
    next_said notes next note there ∙ (ap (λ p. p ∷ drop (suc next) (map said_by notes)) (said_is note q r asked reported) ∙ ap (λ k. (q, r) ∷ drop k (map said_by notes)) (sym (add-one next))) in
    inl (ap (λ (t : ReplyQueueState). t.poisoned) (sym is), refl, ap (λ (t : ReplyQueueState). t.left) (sym is) ∙ left)

-- a queue of replies on which nothing is left has said all its notes
none_left : (notes : List Note) (next : ℕ) → drop next (map said_by notes) ≡ [] → length notes ≤ next
none_left [] next h = omega arith
none_left (x ∷ notes) zero h = absurd (cc h)
none_left (x ∷ notes) (suc next) h = let rest = none_left notes next h in omega (arith, rest)

pub all_said : (poisoned : Bool) (notes : List Note) (next : ℕ) → record { left = drop next (map said_by notes); poisoned = poisoned } ≡ reply_queue_of [] → (poisoned ≡ false) × (length notes ≤ next)
all_said poisoned notes next is = (ap (λ (t : ReplyQueueState). t.poisoned) is, none_left notes next (ap (λ (t : ReplyQueueState). t.left) is))

-- and one that has said all its notes has nothing left
pub none_behind : (notes : List Note) (next : ℕ) → length notes ≤ next → drop next (map said_by notes) ≡ []
none_behind [] zero h = refl
none_behind [] (suc next) h = refl
none_behind (x ∷ notes) zero h = absurd (omega (arith, h))
none_behind (x ∷ notes) (suc next) h = none_behind notes next (omega (arith, h))

pub used_up : (poisoned : Bool) (notes : List Note) (next : ℕ) → poisoned ≡ false → length notes ≤ next → record { left = drop next (map said_by notes); poisoned = poisoned } ≡ reply_queue_of []
used_up poisoned notes next well all =
    ap (λ (s : Bool). let t : ReplyQueueState = record { left = drop next (map said_by notes); poisoned = s } in t) well ∙ ap reply_queue_of (none_behind notes next all)

-- a queue of replies on which nothing is left has no next request
pub none_next : (poisoned : Bool) (notes : List Note) (next : ℕ) (w : ReplyQueueState) (q : Request) → record { left = drop next (map said_by notes); poisoned = poisoned } ≡ w → length notes ≤ next → IsNext w.left q → ⊥
none_next poisoned notes next w q is all =
    let none : w.left ≡ [] = ap (λ (t : ReplyQueueState). t.left) (sym is) ∙ none_behind notes next all in
    λ it. subst (λ (l : List (Request × ShownReply)). IsNext l q) none it

-- and where the next note is of another request, that one is next
pub another_next : (poisoned : Bool) (notes : List Note) (next : ℕ) (note : Note) (w : ReplyQueueState) (q : Request) → record { left = drop next (map said_by notes); poisoned = poisoned } ≡ w →
    slice_get notes next ≡ Some note → (request_of note.asked ≡ q → ⊥) → IsNext w.left q → ⊥
another_next poisoned notes next note w q is there other =
    let left : w.left ≡ said_by note ∷ drop (suc next) (map said_by notes) = ap (λ (t : ReplyQueueState). t.left) (sym is) ∙ next_said notes next note there in
    λ it. other (subst (λ (l : List (Request × ShownReply)). IsNext l q) left it)
