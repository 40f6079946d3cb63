use Rattle.std.proofs.Common.{◌≢◌, subst}
use Rattle.words_names.specs.Seats.{RenamedId, renamed_by}
use Rattle.words_names.proofs.Naming.{distinct_names}
use Rattle.words_names.proofs.names.Names.meet.Goals as goal

pub returns-clause-distinct : goal.returns-clause-distinct
returns-clause-distinct g c =
    subst (λ (x : RenamedId). x.name ≢ c.args.other.now.name) c.one.view_is
    (subst (λ (x : RenamedId). (renamed_by c.one.inside.seat).name ≢ x.name) c.other.view_is (distinct_names _ _ c.meet.ensures.met))
