-- segments in a row, by their places from 0
use Rattle.std.specs.Prelude.{ℕ, ◌+◌, nat_lt, nat_le, if◌then◌else◌, Bool, false, List, length, Option, Some, None, slice_index_or, slice_set}
use Rattle.model_steps.specs.declared.access.Access.{Access}
use Rattle.model_steps.specs.declared.access.Access.TheVariants.{Write, Nothing}
use Rattle.model_steps.specs.declared.note.Note.TheVariants.{Quiet}
use Rattle.model_steps.specs.Steps.{MemorySteps, ProgramSteps}
use Rattle.model_steps.specs.declared.record.Record.{Record}
use Rattle.model_snapshot.specs.declared.fixed.FixedWalker.{FixedWalker}
use Rattle.model_snapshot.specs.declared.fixed.FixedWalk.{FixedWalk}
use Rattle.model_snapshot.specs.Walks.{WalkSteps}

abbrev pub register_of : List (Option Record) → ℕ → Option Record × Bool
register_of segments place = (slice_index_or segments place None, false)

abbrev pub after_access : List (Option Record) → Access ℕ (Option Record) → List (Option Record)
after_access segments (Write place new) = slice_set segments place new
after_access segments a = segments

abbrev pub fixed_steps : MemorySteps (List (Option Record)) ℕ (Option Record)
fixed_steps = record { register = register_of; after = after_access; may_refuse = λ m a. false }

-- a participant that has its place makes no access
abbrev pub walker_steps : ProgramSteps FixedWalker ℕ (Option Record) ℕ
walker_steps = record { next = λ w. Nothing; resumed = λ w got. w; note = λ w got. Quiet }

abbrev pub next_place : FixedWalk → ℕ
next_place w = if nat_lt w.at w.most then w.at + 1 else w.at

-- by rising place
abbrev pub fixed_walks : WalkSteps FixedWalk ℕ (Option Record)
fixed_walks = record {
  next = λ w. w.at;
  place = λ w. Some w.at;
  resumed = λ w got. record { at = next_place w; most = w.most };
  is_over = λ w got. nat_le w.most (next_place w);
  segment = λ place. place;
  stored = λ segment. segment;
  content = λ value. value;
}

abbrev pub fixed_place : FixedWalker → Option ℕ
fixed_place w = Some w.place

-- a participant has as its place the number of those that began before it
abbrev pub fixed_walker : ℕ → ℕ → FixedWalker
fixed_walker begun id = record { place = begun }

abbrev pub fixed_walk : List (Option Record) → FixedWalk
fixed_walk segments = record { at = 0; most = length segments }
