use Rattle.text_checker.proofs.records.OneVerdict.{one_verdict}
use Rattle.text_checker.proofs.Runs.{run_follows, follows_run, at_fault}
use Rattle.text_checker.proofs.laws.law_of_records.Goals as goal

pub returns-clause-run : goal.returns-clause-run
returns-clause-run c = run_follows

pub returns-clause-follow : goal.returns-clause-follow
returns-clause-follow c = follows_run

pub returns-clause-fault : goal.returns-clause-fault
returns-clause-fault c = at_fault

pub returns-clause-yes : goal.returns-clause-yes
returns-clause-yes c = λ lines v said also. one_verdict lines said v also
