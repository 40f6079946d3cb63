use Rattle.std.proofs.Common.{◌≡◌, ◌++◌, ◌∷◌, [], refl, ap, ◌∙◌}
use Rattle.std.proofs.lemmas.Result.{on_ok_weaker}
use Rattle.model_steps.specs.Participant.{beginner}
use Rattle.text_checker.proofs.judges_lemmas.seats.Names.{first_standing, begun, may_begin}
use Rattle.text_checker.proofs.judges.names.Names.begin.Goals as goal

pub returns : goal.returns
returns c = on_ok_weaker c.push.result (λ pushed terms o h none.
    begun terms c.args.self.now (record { participants = c.push.new.self; moments = c.args.self.now.moments; most = c.args.self.now.most; limit = c.args.self.now.limit }) o c.args.id h none
    (pushed (may_begin terms c.args.self.now o c.args.id h none).0 ∙ ap (λ k. c.args.self.now.participants ++ beginner c.args.id (first_standing k) ∷ []) c.count.ensures.count) refl refl refl) c.push.ensures
