use Rattle.std.proofs.Common.{◌≡◌, ◌+◌, length, vec_len}
use Rattle.service_lock.proofs.matching.with_sessions.Given as goal

abbrev pub invariant-loop-session : goal.invariant-loop-session
invariant-loop-session g l = l.whole.parts + length l.session-iterator.rest.items ≡ l.fn.rest.parts + vec_len l.fn.sessions
