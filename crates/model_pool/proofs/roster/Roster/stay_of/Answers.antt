use Rattle.std.proofs.Common.{sym, ap, ◌∙◌}
use Rattle.model_pool.specs.Competitors.{stay_of}
use Rattle.model_pool.specs.Roster.{IsEntry}
use Rattle.model_pool.proofs.RosterLemmas.{stay_here}
use Rattle.model_pool.proofs.roster.Roster.stay_of.Goals as goal

pub returns : goal.returns
returns g c =
    let f : IsEntry c.self.inside.entries.items c.args.id c.in-Some.at = rw c.deref.ensures.value at c.in-Some.ensures.found in
    ap (λ e. e.stay) (c.index.ensures ∙ f.is _) ∙ sym (stay_here c.self.inside.entries.items c.args.id c.in-Some.at f.stay c.self.invariant.0 f.inside f.is) ∙ ap (λ r. stay_of c.args.id r.competitors) c.self.view_is
