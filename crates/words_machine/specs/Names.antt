-- recursive renaming as a machine of programs over words
use Rattle.std.specs.Prelude.{ℕ, ◌+◌, ◌-◌, ◌*◌, ◌%◌, ◌==◌, ◌≤◌, if◌then◌else◌, List}
use Rattle.model_steps.specs.Calls as calls
use Rattle.model_steps.specs.Machine.{Reaches}
use Rattle.model_recursion.specs.Calls.{SeatCall, calls_of}
use Rattle.model_recursion.specs.Machine.{Naming, naming, word_at, MayStart}
use Rattle.model_recursion.specs.Program.{namer_of}
use Rattle.model_recursion.specs.Ranges.{IsInstance}
use Rattle.words_machine.specs.WordLaw.{WordLaw}
use Rattle.model_recursion.specs.declared.namer.Cell.{Cell}
use Rattle.model_recursion.specs.declared.namer.Namer.{Namer}

-- these calls led to this state
pub record IsKnown (most : ℕ) (w : Naming) (r : List SeatCall) : Type 0 where
  pub may : MayStart most
  pub after : Reaches naming most w r

-- a word that is there
pub record IsCell (most : ℕ) (c : Cell) : Type 0 where
  pub from : 1 ≤ c.level
  pub to : c.level ≤ most
  pub instance : IsInstance most c.level c.first
  pub some : 1 ≤ c.seat
  pub few : c.seat ≤ most

-- an instance of a level: those that go up have the even numbers, and those that go down the odd ones
abbrev pub slot_of : ℕ → ℕ → ℕ
slot_of most first = if first % 2 == 1 then first - 1 else 2 * most - 1 - first

-- the levels from the highest down, the instances of each, and the seats of each: m^3 words
abbrev pub place_of : ℕ → Cell → ℕ
place_of most c = ((most - c.level) * (most - c.level) + slot_of most c.first) * most + (c.seat - 1)

abbrev pub cells : ℕ → ℕ
cells most = most * most * most

-- a seat begins with any identity but 0
abbrev pub names_law : WordLaw Namer Cell ℕ
names_law = record {
  State = Naming;
  Start = ℕ;
  Call = SeatCall;
  machine = naming;
  start_of = λ most. most;
  memory = λ w c. word_at w.word c;
  self = λ w. w.self;
  outcome_of = λ p r. calls.outcome_of p (calls_of r);
  steps_of = λ p r. calls.steps_of p (calls_of r);
  begun_in = λ r. calls.begun_in (calls_of r);
  Holds = IsKnown;
  MayStart = MayStart;
  MayBegin = λ p identity. 1 ≤ identity;
  start = namer_of;
  bound = λ most. most * (most + 1);
  IsRegister = IsCell;
  registers = cells;
  place = place_of;
}
