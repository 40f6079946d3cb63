use Rattle.std.proofs.Common.{subst}
use Rattle.text_checker.specs.Stages.{StandsAfter}
use Rattle.text_checker.proofs.records.Stages.{all_said, over_said}
use Rattle.text_checker.proofs.judge.verdict_of.Goals as goal

pub returns-in-Judging : goal.returns-in-Judging
returns-in-Judging c = λ lines h. all_said lines c.in-Judging.field-0 (subst (StandsAfter lines) c.in-Judging.is h)

pub returns-in-Over : goal.returns-in-Over
returns-in-Over c = λ lines h. over_said lines c.in-Over.verdict (subst (StandsAfter lines) c.in-Over.is h)
