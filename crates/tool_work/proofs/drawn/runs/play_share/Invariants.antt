use Rattle.std.proofs.Common.{◌≡◌, ◌+◌, ◌<◌, ℕ, Option, length, get_or}
use Rattle.tool_work.proofs.drawn_lemmas.Common.{IsReportedOf, Tally}
use Rattle.tool_work.proofs.drawn.runs.play_share.Given as goal

abbrev pub invariant-loop-i : goal.invariant-loop-i
invariant-loop-i g l = record {
  long : length l.tallies ≡ length l.fn.tallies;
  reported : (k : ℕ) (d : Option Tally) → k < l.i → IsReportedOf l.config l.plan.seed l.plan.ids l.plan.steps (l.first + k) (get_or l.tallies k d);
}
