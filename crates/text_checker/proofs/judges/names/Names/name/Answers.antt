use Rattle.std.proofs.Common.{[], refl}
use Rattle.text_checker.proofs.judges_lemmas.seats.Names.{named}
use Rattle.text_checker.proofs.judges_lemmas.seats.People.{there}
use Rattle.text_checker.proofs.judges.names.Names.name.Goals as goal

pub returns : goal.returns
returns c = λ terms o h none.
    named terms c.args.self.now (record { participants = c.put.new.self; moments = c.args.self.now.moments; most = c.args.self.now.most; limit = c.args.self.now.limit }) o c.args.id
    c.in-Some.standing _ h (there c.args.id c.find.ensures refl c.in-Some.is) c.put.ensures refl refl c.args.name [] refl refl
