-- what those who watch a server are told
use Rattle.std.specs.Prelude.{ℕ, ◌-◌, Bool, true, ◌&&◌, Option, Some, None, option_map}
use Rattle.service_loop.specs.declared.watching.LoopNumbers.{LoopNumbers}
use Rattle.service_watch.specs.declared.numbers.Numbers.{Numbers}
use Rattle.service_watch.specs.declared.numbers.Tally.{Tally}

-- a log answers, or there is none
abbrev pub may_answer : Option Bool → Bool
may_answer None = true
may_answer (Some answers) = answers

-- the ticks since a place of the log came, where there is one
abbrev pub age_of : Option ℕ → ℕ → ℕ → Option ℕ
age_of place tick placed = option_map (λ at. tick - placed) place

-- each number of the loop stands under its own name, and those of the persister stand as it tells them
abbrev pub numbers_of : LoopNumbers → Tally → ℕ → Numbers
numbers_of loops tally placed = record {
  clients = loops.clients;
  accepted = loops.accepted;
  faults = loops.faults;
  lines = loops.lines;
  ticks = loops.ticks;
  releases = loops.releases;
  refusals = loops.refusals;
  audit_lines_lost = loops.audit_lines_lost;
  ready = loops.learnt && may_answer tally.log_answers;
  tally = tally;
  log_age = age_of tally.log_place loops.ticks placed;
}
