use Rattle.std.proofs.Common.{refl, arith}
use Rattle.text_checker.proofs.judges_lemmas.StayLemmas.{got}
use Rattle.text_checker.proofs.judges_lemmas.seats.People.{there}
use Rattle.text_checker.proofs.judges.stays.Stays.gain.Goals as goal

pub returns : goal.returns
returns c = λ o h none free.
    got c.args.self.now (record { most = c.args.self.now.most; size = c.args.self.now.size; competitors = c.put.new.self; values = c.args.self.now.values }) o c.args.id c.in-Some.stay c.saturating_add.result h
    (there c.args.id c.find.ensures refl c.in-Some.is) none (λ few. grind (arith, c.saturating_add.ensures, few)) refl refl refl c.args.number free c.put.ensures
