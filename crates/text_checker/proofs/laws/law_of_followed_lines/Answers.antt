use Rattle.text_checker.proofs.Runs.{run_follows, follows_run, at_fault, after_is}
use Rattle.text_checker.proofs.laws.law_of_followed_lines.Goals as goal

pub returns-clause-run : goal.returns-clause-run
returns-clause-run c = run_follows

pub returns-clause-follow : goal.returns-clause-follow
returns-clause-follow c = follows_run

pub returns-clause-fault : goal.returns-clause-fault
returns-clause-fault c = at_fault

pub returns-clause-call : goal.returns-clause-call
returns-clause-call c = after_is
