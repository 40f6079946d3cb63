use Rattle.std.proofs.Common.{refl}
use Rattle.text_checker.proofs.judges_lemmas.Deciding.{stand, conflict_reported}
use Rattle.text_checker.proofs.judges_lemmas.seats.People.{there}
use Rattle.text_checker.proofs.judges.names.Names.has_conflict.Goals as goal

pub returns-in-Some : goal.returns-in-Some
returns-in-Some c = λ terms o h some.
    let is = there c.args.id c.find.ensures refl c.in-Some.is in
    let s = stand terms c.args.self.now o c.args.id c.in-Some.standing h is some in
    conflict_reported terms c.args.self.now o c.args.id c.in-Some.standing h is some c.was_crowded.result (c.was_crowded.ensures o.last h.turns.rows h.turns.held s.since s.small)
