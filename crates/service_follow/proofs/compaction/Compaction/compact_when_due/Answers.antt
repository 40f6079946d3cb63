-- The hall went on at each turn, and told nothing but compactions.
use Rattle.service_follow.proofs.Moves.{told_then}
use Rattle.service_follow.proofs.compaction.Compaction.compact_when_due.Goals as goal

pub loop-preserved : goal.loop-preserved
loop-preserved g c = told_then g.S.Store.stands _ _ _ _ _ _ c.args.log.now c.loop.log c.turn.new.log c.loop.invariant c.turn.ensures.told

pub returns-in_err-turn : goal.returns-in_err-turn
returns-in_err-turn g c = record { told = told_then g.S.Store.stands _ _ _ _ _ _ c.args.log.now c.loop.log c.turn.new.log c.loop.invariant c.turn.ensures.told }
