-- It is where nothing is left, and only there.
use Rattle.std.proofs.Common.{rules, ◌≡◌, ◌≤◌, ◌∙◌, false, length, sym}
use Rattle.service_follow.proofs.Notes.{all_said, used_up}
use Rattle.service_follow.proofs.reply_queue.ReplyQueue.is_used_up.Goals as goal

pub returns-then-not-self : goal.returns-then-not-self
returns-then-not-self c =
    let notes = c.self.inside.notes.items in
    let next = c.self.inside.next in (
      λ yes.
          let well : c.self.inside.poisoned ≡ false = search rules in
          let all : length notes ≤ next = search rules in
          sym c.self.view_is ∙ used_up c.self.inside.poisoned notes next well all,
      λ is.
          let said = all_said c.self.inside.poisoned notes next (c.self.view_is ∙ is) in
          let all : length notes ≤ next = said.1 in
          search rules,
    )
