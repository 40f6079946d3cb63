use Rattle.text_checker.proofs.Following.{can_follow, follows_keeps}
use Rattle.text_checker.proofs.laws.law_of_reasons.Goals as goal

pub returns : goal.returns
returns c = λ terms o l. (follows_keeps terms o l, can_follow terms o l.event l.reported)
