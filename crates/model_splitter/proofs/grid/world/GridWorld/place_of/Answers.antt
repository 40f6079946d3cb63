use Rattle.std.proofs.Common.{rules, ◌≡◌, ◌∙◌}
use Rattle.model_splitter.specs.grid.Machine.{place_in}
use Rattle.model_splitter.proofs.cited.grid.GridTied.{place_always}
use Rattle.model_splitter.proofs.grid.world.GridWorld.place_of.Goals as goal

pub returns-in_err-program-clause-answered : goal.returns-in_err-program-clause-answered
returns-in_err-program-clause-answered g c = λ most r a.
    let value : c.from_residual.result ≡ place_in c.args.self.now c.args.id = search rules in
    value ∙ place_always c.args.self.now c.args.id most r a

pub returns-clause-answered : goal.returns-clause-answered
returns-clause-answered g c = λ most r a.
    let value : c.place.result ≡ place_in c.args.self.now c.args.id = search rules in
    value ∙ place_always c.args.self.now c.args.id most r a
