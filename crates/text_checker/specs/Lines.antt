-- what lines a record has of exchanges, and when lines are those of a run
use Rattle.std.specs.Prelude.{List, [], Ok}
use Rattle.model_steps.specs.Calls.Call.{Began, Stepped}
use Rattle.model_steps.specs.Runs.{Run}
use Rattle.model_renaming.specs.declared.reply.Reply.TheVariants as step
use Rattle.model_renaming.specs.RenameObject.{RenameTerms}
use Rattle.model_pool.specs.declared.probe.Probe.TheVariants as probe
use Rattle.model_pool.specs.PoolState.{PoolStart}
use Rattle.model_pool.specs.Calls.Call.{Entered, Probed, Sought, Left as HasLeft}
use Rattle.model_pool.specs.slots.SlotCalls.SlotCall.{Pooled, Stored, Extended}
use Rattle.model_asked.specs.declared.event.Event.{Event}
use Rattle.model_asked.specs.declared.event.Event.TheVariants.{Begin, Step, Enter, Probe, Seek, Leave, Put, Widen}
use Rattle.model_asked.specs.declared.exchange.Exchange.{Exchange}
use Rattle.text_worlds.specs.desk.DeskCalls.{DeskCall, exchange_of}
use Rattle.text_worlds.specs.desk.DeskCalls.DeskCall.{Renamed, Slotted}
use Rattle.text_records.specs.declared.line.Line.{Line}
use Rattle.text_records.specs.declared.reported.Reported.{Reported}
use Rattle.text_records.specs.declared.reported.Reported.TheVariants.{Ok as Accepted, Place, Proposed, Named, Spent, Missed, Got, Left}
use Rattle.text_checker.specs.ObjectRun.{DeskObject, fresh_desk_object, AllowsCall, after_call, IsObjectRun}
use Rattle.text_records.specs.Lines.{IsLineOf, AreLinesOf}

-- lines are those of a run where there is a choice of the views that are not written with which they are the lines of
-- exchanges that the objects can make
pub record AreLinesOfRun (terms : RenameTerms) (start : PoolStart) (lines : List Line) : Type 0 where
  pub exchanges : List Exchange
  pub spelled : AreLinesOf exchanges lines
  pub run : IsObjectRun terms start exchanges

-- the same, line by line: a line can follow where it is that of a call to which the objects may give its reply
pub record CanFollow (terms : RenameTerms) (o : DeskObject) (l : Line) : Type 0 where
  pub call : DeskCall
  pub spelled : IsLineOf (exchange_of call) l
  pub allowed : AllowsCall terms o call

-- the objects after an event with what is reported of its reply
abbrev pub after_reported : DeskObject → Event → Reported → DeskObject
after_reported o (Begin p) Accepted = after_call o (Renamed (Began p (Ok tt)))
after_reported o (Step p) (Place place) = after_call o (Renamed (Stepped p (Ok (step.Placed place))))
after_reported o (Step p) (Proposed number) = after_call o (Renamed (Stepped p (Ok (step.Proposed number))))
after_reported o (Step p) (Named name shown) = after_call o (Renamed (Stepped p (Ok (step.Named name []))))
after_reported o (Step p) Spent = after_call o (Renamed (Stepped p (Ok step.Spent)))
after_reported o (Enter p) Accepted = after_call o (Slotted (Pooled (Entered p (Ok tt))))
after_reported o (Probe p) Missed = after_call o (Slotted (Pooled (Probed p (Ok probe.Missed))))
after_reported o (Probe p) (Got number) = after_call o (Slotted (Pooled (Probed p (Ok (probe.Got number)))))
after_reported o (Seek p) (Got number) = after_call o (Slotted (Pooled (Sought p (Ok number))))
after_reported o (Leave p) (Left number) = after_call o (Slotted (Pooled (HasLeft p (Ok number))))
after_reported o (Put p value) Accepted = after_call o (Slotted (Stored p value (Ok tt)))
after_reported o (Widen more) Accepted = after_call o (Slotted (Extended more 0 (Ok tt)))
after_reported o e t = o

abbrev pub after_line : DeskObject → Line → DeskObject
after_line o l = after_reported o l.event l.reported

-- each of these lines can follow those before it, and the objects are then in this state
abbrev pub Follow : RenameTerms → PoolStart → List Line → DeskObject → Type 0
Follow terms start lines o = Run after_line (CanFollow terms) (fresh_desk_object start) lines o
