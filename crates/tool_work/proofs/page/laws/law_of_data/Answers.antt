use Rattle.tool_work.proofs.page_lemmas.TagLemmas.{accesses, data_clean, events, number, registers, standings, tells}
use Rattle.tool_work.proofs.page.laws.law_of_data.Goals as goal

pub returns-clause-all : goal.returns-clause-all
returns-clause-all c = data_clean

pub returns-clause-events : goal.returns-clause-events
returns-clause-events c = events

pub returns-clause-registers : goal.returns-clause-registers
returns-clause-registers c = registers

pub returns-clause-standings : goal.returns-clause-standings
returns-clause-standings c = standings

pub returns-clause-accesses : goal.returns-clause-accesses
returns-clause-accesses c = accesses

pub returns-clause-replies : goal.returns-clause-replies
returns-clause-replies c = tells

pub returns-clause-numbers : goal.returns-clause-numbers
returns-clause-numbers c = number
