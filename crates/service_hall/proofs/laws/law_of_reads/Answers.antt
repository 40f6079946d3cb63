use Rattle.model_asked.specs.declared.event.Event.{Event}
use Rattle.service_hall.proofs.cited.ReadingLemmas.{barred_reply, like_stored, read_history, read_reply, read_transcript, stored_run}
use Rattle.service_hall.proofs.laws.law_of_reads.Goals as goal

pub returns : goal.returns
returns c = record {
  transcript = read_transcript;
  without = stored_run;
  history = read_history;
  replies = λ rules h u before behind x p. read_reply rules h u before x behind p;
  barred = λ rules h u before behind x. barred_reply rules h u before x behind;
  alike = λ h u id. like_stored h u (Event.Get id);
}
