-- The entry of events stands behind the one that was read last.
use Rattle.std.proofs.Common.{inl, inr, sym, ◌∙◌}
use Rattle.service_follow.proofs.compaction.Compaction.put_told.Goals as goal

pub returns-clause-told : goal.returns-clause-told
returns-clause-told g c = inr (inl (record { count = _; before = _; lines = _; is = c.in_ok-put_more.ensures; behind = sym c.under_way.ensures ∙ c.in-Some.is }))
