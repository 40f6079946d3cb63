use Rattle.model_steps.proofs.cited.ParticipantLemmas.{participant_of-push, participant_of-put, length-with_participant, identity_of, some_begun}
use Rattle.model_steps.proofs.laws.law_of_participants.Goals as goal

pub returns-clause-begun : goal.returns-clause-begun
returns-clause-begun g c = participant_of-push

pub returns-clause-put : goal.returns-clause-put
returns-clause-put g c = participant_of-put

pub returns-clause-many : goal.returns-clause-many
returns-clause-many g c = length-with_participant

pub returns-clause-identity : goal.returns-clause-identity
returns-clause-identity g c = identity_of

pub returns-clause-some : goal.returns-clause-some
returns-clause-some g c = some_begun
