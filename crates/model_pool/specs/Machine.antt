-- the pool after a list of calls
use Rattle.std.specs.Prelude.{◌≡◌, ◌≤◌}
use Rattle.model_steps.specs.Machine.{Machine}
use Rattle.model_steps.specs.Runs.{AnswersAsDue}
use Rattle.model_pool.specs.PoolObject.{fresh_object, Answers, after}
use Rattle.model_pool.specs.Calls.{Call}
use Rattle.model_pool.specs.Calls.Call.{Entered, Probed, Sought, Left, Widened}
use Rattle.model_pool.specs.Law.{PoolSpec}
use Rattle.model_pool.specs.PoolState.{PoolStart, PoolState}
use Rattle.model_pool.specs.Sought.{seek_answer, after_seek}
use Rattle.model_pool.specs.Pool.{fresh_pool, enter_answer, after_enter, probe_answer, after_probe, number_answer, after_leave, widen_answer, after_widen}

-- the pool after a call
abbrev pub next : PoolState → Call → PoolState
next w (Entered id reply) = after_enter w id
next w (Probed id reply) = after_probe w id
next w (Sought id reply) = after_seek w id
next w (Left id reply) = after_leave w id
next w (Widened more reply) = after_widen w more

-- the reply is the one that the call gets
abbrev pub IsReply : PoolState → Call → Type 0
IsReply w (Entered id reply) = reply ≡ enter_answer w id
IsReply w (Probed id reply) = reply ≡ probe_answer w id
IsReply w (Sought id reply) = reply ≡ seek_answer w id
IsReply w (Left id reply) = reply ≡ number_answer w id
IsReply w (Widened more reply) = reply ≡ widen_answer w more

-- a pool of from 1 to 65,536 numbers, and what it keeps
abbrev pub pool : Machine PoolStart PoolState Call
pool = record {
  MayStart = λ start. (1 ≤ start.size) × (start.size ≤ start.most) × (start.most ≤ 65536);
  first = fresh_pool;
  next = next;
  IsReply = IsReply;
  Spec = PoolSpec;
  RefusesAsDue = λ start r. AnswersAsDue after Answers (fresh_object start) r;
}
