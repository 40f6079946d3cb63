use Rattle.text_player.proofs.cited.ProgressLemmas.{after_bytes-append, asked-all, asked-over, asked-whole, asked_begins, over-whole, until_first}
use Rattle.text_player.proofs.SaysLemmas.{after_end-over}
use Rattle.text_player.proofs.laws.law_of_progress.Goals as goal

pub returns-clause-joined : goal.returns-clause-joined
returns-clause-joined c = after_bytes-append

pub returns-clause-whole : goal.returns-clause-whole
returns-clause-whole c = asked-whole

pub returns-clause-quits : goal.returns-clause-quits
returns-clause-quits c = over-whole

pub returns-clause-all : goal.returns-clause-all
returns-clause-all c = asked-all

pub returns-clause-begins : goal.returns-clause-begins
returns-clause-begins c = asked_begins

pub returns-clause-ended : goal.returns-clause-ended
returns-clause-ended c = asked-over

pub returns-clause-over : goal.returns-clause-over
returns-clause-over c = after_end-over

pub returns-clause-first : goal.returns-clause-first
returns-clause-first c = until_first
