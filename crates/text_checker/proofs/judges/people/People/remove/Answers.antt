use Rattle.std.proofs.Common.{rules, ◌≡◌, ◌==◌, not, ap, sym, ◌∙◌, subst}
use Rattle.std.proofs.lemmas.Fn.{filter_same}
use Rattle.model_steps.specs.Participant.{AreDistinct}
use Rattle.text_checker.proofs.judges_lemmas.StayLemmas.{without, distinct_without}
use Rattle.text_checker.proofs.judges.people.People.remove.Goals as goal
use Rattle.text_checker.proofs.judges.people.People.remove.Goals.{After-retain}

kept : (g : _) (c : After-retain g) → c.retain.new.self.items ≡ without c.args.id c.self.inside.list.items
kept g c = filter_same _ (λ x. not (x.identity == c.args.id)) _ (λ x b f' k. search rules) _ _ c.retain.ensures.filtered

pub returns : goal.returns
returns g c = kept g (goal.at.returns g c).After-retain ∙ ap (without c.args.id) c.self.view_is

pub invariant_of-self : goal.invariant_of-self
invariant_of-self g c = subst AreDistinct (sym (kept g (goal.at.invariant_of-self g c).After-retain)) (distinct_without c.self.inside.list.items c.args.id c.self.invariant)
