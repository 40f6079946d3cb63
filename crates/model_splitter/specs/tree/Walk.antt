-- a walk from node to node of a tree
use Rattle.std.specs.Prelude.{◌≡◌, ℕ, ◌+◌, ◌-◌, ◌*◌, ◌^◌, min, true, false, if◌then◌else◌, Option, option_and_then}
use Rattle.model_steps.specs.declared.access.Access.{Access}
use Rattle.model_steps.specs.declared.access.Access.TheVariants.{Read, Write, TestAndSet, Clear, Nothing}
use Rattle.model_steps.specs.declared.access.Answer.{Answer}
use Rattle.model_steps.specs.declared.access.Answer.TheVariants.{Value, WasSet, Done}
use Rattle.model_steps.specs.declared.note.Note.{Note}
use Rattle.model_steps.specs.declared.note.Note.TheVariants.{Quiet}
use Rattle.model_steps.specs.Steps.{ProgramSteps}
use Rattle.model_splitter.specs.declared.stage.VisitStage.{VisitStage}
use Rattle.model_splitter.specs.Visitor.{access_of, visitor_at, stage_by}
use Rattle.model_splitter.specs.Walk.{gone_on, note_at_door, place_at_door}
use Rattle.model_splitter.specs.declared.tree.register.TreeRegister.{TreeRegister}
use Rattle.model_splitter.specs.declared.tree.register.TreeRegister.TheVariants.{Mark, X, Y}
use Rattle.model_splitter.specs.declared.tree.register.TreeValue.{TreeValue}
use Rattle.model_splitter.specs.declared.tree.register.TreeValue.TheVariants.{Word, Contents as Held}
use Rattle.model_splitter.specs.declared.tree.walker.Walker.{Walker}

-- the node that down leads to, up to the largest number of a place
abbrev pub left_child : ℕ → ℕ
left_child k = min (k * 2) (2 ^ 128 - 1)

-- the node that right leads to
abbrev pub right_child : ℕ → ℕ
right_child k = min (left_child k + 1) (2 ^ 128 - 1)

-- a walk before node k, whose mark it writes next
abbrev pub walker_at : ℕ → ℕ → Walker
walker_at id k = record { visitor = visitor_at id (X k) (Y k); place = k; is_marking = true }

-- a walk that begins, before the root
abbrev pub walk_of : ℕ → Walker
walk_of id = walker_at id 1

-- an access to words, to registers that may hold segments too
abbrev pub in_words : Access TreeRegister ℕ → Access TreeRegister TreeValue
in_words (Read r) = Read r
in_words (Write r word) = Write r (Word word)
in_words (TestAndSet r) = TestAndSet r
in_words (Clear r) = Clear r
in_words Nothing = Nothing

-- the word in an answer, which a visit takes. A segment has none
abbrev pub reported : Answer TreeValue → Answer ℕ
reported (Value (Word word)) = Value word
reported (Value (Held segment)) = Done
reported (WasSet was) = WasSet was
reported Done = Done

-- the access of the next step: the mark's, and then those of the visit
abbrev pub next_access : Walker → Access TreeRegister TreeValue
next_access u = if u.is_marking then Write (Mark u.place) (Word 1) else in_words (access_of u.visitor)

abbrev pub visit_on : Walker → VisitStage → Walker
visit_on u s = record u { visitor = record u.visitor { stage = s } }

-- the walk whose visit is at this stage. After a visit that ends right or down it is before the next node
abbrev pub walked_to : Walker → VisitStage → Walker
walked_to u s = gone_on (visit_on u) (walker_at u.visitor.identity (right_child u.place)) (walker_at u.visitor.identity (left_child u.place)) s

-- the walk after an answer
abbrev pub walker_after : Walker → Answer TreeValue → Walker
walker_after u got = if u.is_marking then record u { is_marking = false } else walked_to u (stage_by u.visitor (reported got))

-- the note of a walk after an answer
abbrev pub walker_note : Walker → Answer TreeValue → Note ℕ
walker_note u got = if u.is_marking then Quiet else note_at_door u.place (stage_by u.visitor (reported got))

abbrev pub walker_steps : ProgramSteps Walker TreeRegister TreeValue ℕ
walker_steps = record { next = next_access; resumed = walker_after; note = walker_note }

-- the place at which a walk has ended
abbrev pub place_of : Walker → Option ℕ
place_of u = place_at_door u.place u.visitor.stage

abbrev pub place_by : Option Walker → Option ℕ
place_by walk = option_and_then place_of walk

-- the walk visits the registers of the node before which it is
pub record StandsAtNode (u : Walker) : Type 0 where
  pub x : u.visitor.x ≡ X u.place
  pub y : u.visitor.y ≡ Y u.place
