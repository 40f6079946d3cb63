use Rattle.std.proofs.Common.{◌≡◌, ◌-◌, ◌++◌, ◌∙◌, take, length, replicate, vec_len, ap, refl, arith}
use Rattle.text_checker.proofs.judges_lemmas.StayLemmas.{widened}
use Rattle.text_checker.proofs.judges.stays.Stays.widen.Goals as goal

pub returns : goal.returns
returns c = λ o h none.
    let many : vec_len c.args.self.now.values ≡ length c.args.self.now.values.items = omega (arith, c.args.self.now.values.ok.0) in
    let values : c.resize.new.self.items ≡ take c.args.more c.args.self.now.values.items ++ replicate (c.args.more - length c.args.self.now.values.items) 0 =
    c.in_ok-resize.ensures.items ∙ ap (λ n. take c.args.more c.args.self.now.values.items ++ replicate (c.args.more - n) 0) many in
    widened c.args.self.now (record { most = c.args.self.now.most; size = c.args.more; competitors = c.args.self.now.competitors; values = c.resize.new.self }) o c.args.more h none refl refl refl values
