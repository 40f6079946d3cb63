use Rattle.text_checker.proofs.records.Recording.{transcript_record, transcript_said, transcript_yes}
use Rattle.text_checker.proofs.laws.law_of_recorded_transcripts.Goals as goal

pub returns-clause-says : goal.returns-clause-says
returns-clause-says c = transcript_record

pub returns-clause-said : goal.returns-clause-said
returns-clause-said c = transcript_said

pub returns-clause-yes : goal.returns-clause-yes
returns-clause-yes c = transcript_yes
