-- What is offered is a change to its own terms.
use Rattle.std.proofs.Common.{◌≡◌, ◌∙◌}
use Rattle.service_follow.specs.Batches.{next_count}
use Rattle.service_follow.specs.Terms.{change_entry}
use Rattle.service_follow.specs.declared.hall_terms.ToldTerms.{ToldTerms}
use Rattle.service_follow.proofs.Moves.{changed_one, is_change}
use Rattle.service_follow.proofs.log_persister.LogPersister.offer_change.Goals as goal

pub returns : goal.returns
returns g c =
    let now = c.args.self.now in
    let told : ToldTerms = record { terms = now.terms; was = c.terms_before.result } in
    let text : c.deref.result.now ≡ change_entry now.token (next_count now.count) told = c.deref.ensures.value ∙ c.in-Ok.ensures in
    changed_one g.S.Store.stands now.token now.terms now.log c.offer.new.self _ c.deref.result.now c.offer.ensures.moved c.offer.ensures.adds (is_change now.token c.deref.result.now (next_count now.count) told text)
