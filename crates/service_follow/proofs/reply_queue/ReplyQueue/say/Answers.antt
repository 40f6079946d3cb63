-- The next note is said, where it is of this request, and else the queue of replies is poisoned.
use Rattle.std.proofs.Common.{rules, ◌≡◌, Some, slice_get, ap, inr, refl, sym, true, false, ◌∙◌}
use Rattle.std.proofs.lemmas.Option.{slice_get-get_or}
use Rattle.service_follow.specs.Said.{request_of}
use Rattle.model_asked.specs.Replies.{with_view}
use Rattle.service_follow.proofs.Notes.{another_next, says_next}
use Rattle.service_follow.proofs.reply_queue.ReplyQueue.say.Goals as goal

pub returns-then-not-is_of : goal.returns-then-not-is_of
returns-then-not-is_of c =
    let at = c.in-Some.ensures.lookup in
    let there : slice_get c.self.inside.notes.items c.self.inside.next ≡ Some c.in-Some.note.now =
    slice_get-get_or c.self.inside.notes.items c.self.inside.next c.in-Some.note.now (search rules) ∙ ap Some (search rules) in
    let other : request_of c.in-Some.note.now.asked ≡ request_of c.args.asked → ⊥ = λ same.
    let yes = c.is_of.ensures.1 same in
    absurd (let bad : true ≡ false = sym yes ∙ c.if-not-is_of.true in cc) in
    inr (refl, λ well. another_next c.self.inside.poisoned c.self.inside.notes.items c.self.inside.next c.in-Some.note.now c.args.self.now (request_of c.args.asked) c.self.view_is there other)

pub returns : goal.returns
returns c =
    let at = c.in-Some.ensures.lookup in
    let there : slice_get c.self.inside.notes.items c.self.inside.next ≡ Some c.in-Some.note.now =
    slice_get-get_or c.self.inside.notes.items c.self.inside.next c.in-Some.note.now (search rules) ∙ ap Some (search rules) in
    let asked : request_of c.in-Some.note.now.asked ≡ request_of c.args.asked = c.is_of.ensures.0 c.if-not-is_of.false in
    says_next c.self.inside.poisoned c.self.inside.notes.items c.self.inside.next c.in-Some.note.now c.args.self.now (request_of c.args.asked) (with_view c.tell.result c.tell.new.view)
    c.self.view_is there asked c.tell.ensures
