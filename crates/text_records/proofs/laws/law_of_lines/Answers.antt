use Rattle.text_records.proofs.cited.Once.{line_once, header_once}
use Rattle.text_records.proofs.cited.Headers.{header_named}
use Rattle.text_records.proofs.cited.Narrow.{line_narrow, line_fits}
use Rattle.text_records.proofs.laws.law_of_lines.Goals as goal

pub returns-clause-line : goal.returns-clause-line
returns-clause-line c = line_once

pub returns-clause-header : goal.returns-clause-header
returns-clause-header c = header_once

pub returns-clause-names : goal.returns-clause-names
returns-clause-names c = header_named

pub returns-clause-asked : goal.returns-clause-asked
returns-clause-asked c = line_narrow

pub returns-clause-narrow : goal.returns-clause-narrow
returns-clause-narrow c = line_fits
