use Rattle.std.proofs.Common.{◌≡◌}
use Rattle.text_records.specs.declared.reported.Reported.TheVariants as reported
use Rattle.text_checker.proofs.Judging.{due_none}
use Rattle.text_checker.proofs.checker.Checker.follow.Goals as goal

pub returns-in-Ok : goal.returns-in-Ok
returns-in-Ok c =
    let is : c.args.reported.now ≡ reported.Ok = c.in-Ok.is in
    rw (c.in-Begin.is, is) (λ terms o h due few. c.begin.ensures terms o h (due_none _ due.refusal))
