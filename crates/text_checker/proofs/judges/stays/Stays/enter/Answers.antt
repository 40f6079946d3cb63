use Rattle.std.proofs.Common.{refl}
use Rattle.std.proofs.lemmas.Result.{on_ok_weaker}
use Rattle.text_checker.proofs.judges_lemmas.StayLemmas.{entered, may_enter}
use Rattle.text_checker.proofs.judges.stays.Stays.enter.Goals as goal

pub returns : goal.returns
returns c = on_ok_weaker c.push.result (λ pushed o h none.
    entered c.args.self.now (record { most = c.args.self.now.most; size = c.args.self.now.size; competitors = c.push.new.self; values = c.args.self.now.values }) o c.args.id h none
    (pushed (may_enter c.args.self.now o c.args.id h none)) refl refl refl) c.push.ensures
