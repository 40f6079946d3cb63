use Rattle.text_checker.proofs.Runs.{taken_on, reported_fault}
use Rattle.text_checker.proofs.checker.Checker.judge.Goals as goal

pub returns-in-Ok : goal.returns-in-Ok
returns-in-Ok c = λ terms start lines h few. taken_on terms start lines c.args.line.now c.args.self.now c.take_line.new.self h few (λ o. c.in-Ok.ensures terms o)

pub returns-in-Err : goal.returns-in-Err
returns-in-Err c = rw c.reported.ensures (reported_fault c.args.line.now c.args.self.now c.take_line.new.self c.in-Err.fault c.in-Err.ensures)
