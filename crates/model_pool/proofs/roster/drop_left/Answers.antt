use Rattle.std.proofs.Common.{rules, ◌≡◌, filter, length, sym, ap, ◌∙◌, is_some}
use Rattle.std.proofs.lemmas.Fn.{filter_same}
use Rattle.model_pool.specs.Roster.{live}
use Rattle.model_pool.proofs.RosterLemmas.{live_kept, few_kept}
use Rattle.model_pool.proofs.roster.drop_left.Goals as goal
use Rattle.model_pool.proofs.roster.drop_left.Goals.{After-retain}

kept : (g : _) (c : After-retain g) → c.retain.new.self.items ≡ filter (λ e. is_some e.stay) c.args.entries.now.items
kept g c = filter_same _ (λ e. is_some e.stay) _ (λ x b f' k. search rules) _ _ c.retain.ensures.filtered

pub returns-clause-same : goal.returns-clause-same
returns-clause-same g c = ap live (kept g (goal.at.returns-clause-same g c).After-retain) ∙ live_kept c.args.entries.now.items

pub returns-clause-few : goal.returns-clause-few
returns-clause-few g c =
    let same = kept g (goal.at.returns-clause-few g c).After-retain in
    c.retain.new.self.ok.0 ∙ ap length same ∙ few_kept c.args.entries.now.items ∙ ap (λ es. length (live es)) (sym same)
