use Rattle.std.proofs.Common.{refl, arith, sym}
use Rattle.std.proofs.lemmas.Bool.{le-ltb}
use Rattle.text_checker.proofs.judges_lemmas.seats.Past.{shown_by}
use Rattle.text_checker.proofs.judges.moments.Moments.has_shown.Goals as goal

pub returns-in-Some : goal.returns-in-Some
returns-in-Some c = λ last rows h. shown_by c.args.self.now last rows c.args.since c.args.row.now _ _ h c.in-Some.ensures.value refl

pub returns-in-None : goal.returns-in-None
returns-in-None c = λ last rows h. shown_by c.args.self.now last rows c.args.since c.args.row.now _ _ h c.in-None.ensures.value (sym (le-ltb c.args.since 0 (omega arith)))
