use Rattle.model_splitter.proofs.cited.DoorKept.{law_of}
use Rattle.words_machine.proofs.parts.laws.law_of_the_rule.Goals as goal

pub returns-clause-split : goal.returns-clause-split
returns-clause-split c = λ seats words views kept. law_of kept.x kept.y kept.stage kept.lawful.door

pub returns-clause-met : goal.returns-clause-met
returns-clause-met c = λ seats words views kept seat v vs there. let s = (kept.shown seat _ there).0.0 in (s.stage_is, s.turn_is, s.meets)
