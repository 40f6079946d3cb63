-- The notes from the next one on are those that are left.
use Rattle.std.proofs.Common.{◌≡◌, ◌∙◌, ◌-◌, ℕ, List, length, take, drop, map, ap, sym, arith, length-drop}
use Rattle.std.proofs.lemmas.List.{drop-map, take_all}
use Rattle.service_follow.specs.Said.{said_by}
use Rattle.service_follow.specs.ReplyQueueState.{ReplyQueueState}
use Rattle.service_follow.specs.declared.note.Note.{Note}
use Rattle.service_follow.proofs.reply_queue.ReplyQueue.notes.Goals as goal

left_notes : (notes : List Note) (next : ℕ) → map said_by (take (length notes - next) (drop next notes)) ≡ drop next (map said_by notes)
left_notes notes next =
    let whole : take (length notes - next) (drop next notes) ≡ drop next notes = take_all (length notes - next) (drop next notes) (omega (arith, length-drop next notes)) in
    ap (map said_by) whole ∙ sym (drop-map said_by next notes)

pub returns : goal.returns
returns c = ap (λ (l : List Note). map said_by (take (length l - c.self.inside.next) (drop c.self.inside.next l))) c.deref.ensures.value ∙
    (left_notes c.self.inside.notes.items c.self.inside.next ∙ ap (λ (t : ReplyQueueState). t.left) c.self.view_is)
