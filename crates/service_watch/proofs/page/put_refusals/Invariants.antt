use Rattle.std.proofs.Common.{◌≡◌, ◌++◌, take, codes}
use Rattle.service_watch.specs.Page.{refusals_text}
use Rattle.service_watch.proofs.page.put_refusals.Given as goal

-- the refusals so far
abbrev pub invariant-loop-at : goal.invariant-loop-at
invariant-loop-at l = l.page.items ≡ l.initial.page.items ++ refusals_text (codes "slotctl_refusals_total") 1 (take l.at l.refusals)
