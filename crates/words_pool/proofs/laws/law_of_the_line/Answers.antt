use Rattle.words_pool.proofs.Crowding.{adaptive, comes_next}
use Rattle.words_pool.proofs.Lining.{stands}
use Rattle.words_pool.proofs.laws.law_of_the_line.Goals as goal

pub returns-clause-stands : goal.returns-clause-stands
returns-clause-stands c = λ count words views place seat v kept there h. stands count words views kept place seat v there h

pub returns-clause-small : goal.returns-clause-small
returns-clause-small c = λ count words views seat call past kept there is. adaptive views kept.crowd seat call past there is

pub returns-clause-next : goal.returns-clause-next
returns-clause-next c = λ count words next views seat d e past kept there rests comes after. comes_next views kept.crowd seat d e past there rests comes after.crowd
