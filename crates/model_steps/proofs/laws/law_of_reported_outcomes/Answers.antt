use Rattle.model_steps.proofs.cited.ReportedLemmas.{reported_quiet, reported_begun, reported_stepped}
use Rattle.model_steps.proofs.laws.law_of_reported_outcomes.Goals as goal

pub returns-clause-quiet : goal.returns-clause-quiet
returns-clause-quiet g c = reported_quiet

pub returns-clause-begun : goal.returns-clause-begun
returns-clause-begun g c = reported_begun

pub returns-clause-stepped : goal.returns-clause-stepped
returns-clause-stepped g c = reported_stepped
