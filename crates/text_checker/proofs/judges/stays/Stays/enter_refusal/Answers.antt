use Rattle.text_checker.proofs.judges.stays.Stays.enter_refusal.Goals as goal

pub returns : goal.returns
returns c = λ o h. cc (h.competes c.args.id)
