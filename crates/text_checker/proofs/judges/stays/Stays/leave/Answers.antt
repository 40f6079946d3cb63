use Rattle.std.proofs.Common.{refl}
use Rattle.text_checker.proofs.judges_lemmas.StayLemmas.{left}
use Rattle.text_checker.proofs.judges.stays.Stays.leave.Goals as goal

pub returns : goal.returns
returns c = λ o h n held.
    left c.args.self.now (record { most = c.args.self.now.most; size = c.args.self.now.size; competitors = c.remove.new.self; values = c.args.self.now.values }) o c.args.id n h c.remove.ensures refl refl refl
