use Rattle.std.proofs.Common.{◌≡◌, ◌++◌, drop}
use Rattle.service_follow.specs.Tellings.{stay_texts}
use Rattle.service_follow.proofs.compaction.push_stays.Given as goal

-- what was appended so far, and the stays that are left, are all
abbrev pub invariant-loop-stay : goal.invariant-loop-stay
invariant-loop-stay l = l.entry.items ++ stay_texts (drop l.stay-index l.kept) ≡ l.fn.entry.items ++ stay_texts l.kept
