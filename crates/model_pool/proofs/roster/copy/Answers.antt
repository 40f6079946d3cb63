use Rattle.std.proofs.Common.{◌≡◌, ◌++◌, ◌∷◌, [], List, None, true, not, sym, ap, ◌∙◌, is_ok, get_or}
use Rattle.model_pool.specs.declared.competitor.Competitor.{Competitor}
use Rattle.std.proofs.lemmas.List.{append-nil}
use Rattle.model_pool.proofs.RosterLemmas.{entry, copied_one}
use Rattle.model_pool.proofs.roster.copy.Goals as goal
use Rattle.model_pool.proofs.roster.copy.Goals.{in-Some+else-is_err, in_default}

pub loop-entry-preserved : goal.loop-entry-preserved
loop-entry-preserved g c =
    let one = copied_one c.args.entries.now c.loop-entry.entry-index (entry 0 None) c.args.out.now.items c.loop-entry-test.true in
    let id = (get_or c.args.entries.now c.loop-entry.entry-index (entry 0 None)).identity in
    elim c.match-entry.branch [
      | in-Some+else-is_err w ↦
          let ok : is_ok w.push.result ≡ true = w.is_err.ensures.negation ∙ ap not w.if-is_err.false in
          ap (λ v. v.items) w.out-is ∙ (rw ok at w.push.ensures.items) ∙ ap (λ (xs : List Competitor). xs ++ record { identity = id; stay = w.in-Some.stay } ∷ []) c.loop-entry.invariant ∙ sym (rw w.in-Some.is at one)
      | in_default w ↦ ap (λ v. v.items) w.out-is ∙ c.loop-entry.invariant ∙ sym ((rw w.in_default.is at one) ∙ append-nil _)
    ]
