use Rattle.text_checker.proofs.DeskRuns.{desk_run, lines_of_all}
use Rattle.text_checker.proofs.laws.law_of_desk_runs.Goals as goal

pub returns-clause-object : goal.returns-clause-object
returns-clause-object c = desk_run

pub returns-clause-lines : goal.returns-clause-lines
returns-clause-lines c = λ terms bounds start r d shows. record { exchanges = r; spelled = lines_of_all shows r; run = desk_run terms bounds start r d }
