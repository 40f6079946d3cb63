use Rattle.std.proofs.Common.{arith}
use Rattle.model_asked.proofs.cited.rounds.Whole.{closed_form, more_proposals}
use Rattle.model_renaming.proofs.laws.law_of_steps_among.Goals as goal

pub returns-clause-proposals : goal.returns-clause-proposals
returns-clause-proposals c = closed_form

pub returns-clause-four : goal.returns-clause-four
returns-clause-four c = λ b l. let m = more_proposals b 4 l in omega arith

pub returns-clause-eight : goal.returns-clause-eight
returns-clause-eight c = λ b l. let m = more_proposals b 8 l in omega arith

pub returns-clause-four_by_half : goal.returns-clause-four_by_half
returns-clause-four_by_half c = λ b l. let m = more_proposals b 4 l in omega arith

pub returns-clause-nine_by_half : goal.returns-clause-nine_by_half
returns-clause-nine_by_half c = λ b l. let m = more_proposals b 9 l in omega arith
