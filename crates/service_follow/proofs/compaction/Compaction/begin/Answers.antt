-- The entry that begins is one of a compaction that is due.
use Rattle.std.proofs.Common.{rules, inl, subst, sym}
use Rattle.service_follow.specs.Tellings.{IsDue}
use Rattle.service_follow.specs.declared.compaction.Due.{Due}
use Rattle.service_follow.proofs.compaction.Compaction.begin.Goals as goal

pub offer-requires : goal.offer-requires
offer-requires g c =
    let due = subst (λ (d : Due). IsDue d c.args.log.now.stays.machine) (sym c.is_to_begin.ensures.same.1) (c.is_to_begin.ensures.due (search rules)) in
    inl (record { count = _; terms = _; is = c.in-Ok.ensures; due_is = due })
