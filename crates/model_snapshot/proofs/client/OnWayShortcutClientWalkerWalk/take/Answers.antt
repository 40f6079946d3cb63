use Rattle.std.proofs.Common.{sym, ◌∙◌}
use Rattle.std.proofs.lemmas.Option.{none-some}
use Rattle.model_snapshot.proofs.WayLemmas.{Walked, comes, goes, placed_goes_on}
use Rattle.model_snapshot.proofs.client.OnWayShortcutClientWalkerWalk.take.Goals as goal
use Rattle.model_snapshot.proofs.client.OnWayShortcutClientWalkerWalk.take.Goals.{After-ends}

walked : (g : _) (c : After-ends g) → Walked g.W.Walker.StepProgram.steps g.W.Walker.PlaceWalker.place_of g.W.Walk.SegmentWalk.walks g.W.StepMemory.steps c.args.memory.now c.walk_on.new.self c.args.program.now c.walk_on.new._walker c.in-Ok-Some.note
walked g c = record {
  placing = c.in-Placing.is;
  says = rw c.in-Ok-Some.field-0-is at c.in-Ok-Some.ensures.note;
  resumed = rw c.in-Ok-Some.field-0-is at c.in-Ok-Some.ensures.after;
  leaves = rw c.in-Ok-Some.field-0-is at c.in-Ok-Some.ensures.memory;
}

pub returns-then-ends : goal.returns-then-ends
returns-then-ends g c =
    let h = comes _ _ _ _ _ _ _ _ _ (walked g (goal.at.returns-then-ends g c).After-ends) (sym c.ends.ensures ∙ c.if-ends.true) in
    record {
      takes = c.in-Placing.is;
      after = h.after;
      note = h.says;
      goes_on = placed_goes_on c.in-Ok-Some.note;
      memory = h.leaves;
      kept = λ e. absurd (none-some _ (sym e));
      memory_kept = λ e. absurd (none-some _ (sym e));
      no_memory = tt;
    }

pub returns-else-ends : goal.returns-else-ends
returns-else-ends g c =
    let h = goes _ _ _ _ _ _ _ _ _ (walked g (goal.at.returns-else-ends g c).After-ends) (sym c.ends.ensures ∙ c.if-ends.false) in
    record {
      takes = c.in-Placing.is;
      after = h.after;
      note = h.says;
      goes_on = placed_goes_on c.in-Ok-Some.note;
      memory = h.leaves;
      kept = λ e. absurd (none-some _ (sym e));
      memory_kept = λ e. absurd (none-some _ (sym e));
      no_memory = tt;
    }
