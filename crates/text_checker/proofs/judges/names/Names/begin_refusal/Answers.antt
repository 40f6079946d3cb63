use Rattle.text_checker.proofs.judges.names.Names.begin_refusal.Goals as goal

pub returns : goal.returns
returns c = λ terms o h. cc (h.people.begun c.args.id)
