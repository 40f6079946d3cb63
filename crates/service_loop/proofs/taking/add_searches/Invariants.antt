use Rattle.std.proofs.Common.{◌≡◌, ◌≤◌, ◌-◌, ◌++◌, ◌∷◌, [], replicate}
use Rattle.model_asked.specs.declared.event.Event.TheVariants as event
use Rattle.text_lines.specs.Events.{event_lines}
use Rattle.service_loop.specs.Searching.{searching}
use Rattle.service_loop.proofs.taking.add_searches.Given as goal

abbrev pub invariant-loop-said : goal.invariant-loop-said
invariant-loop-said g l = record {
  few : l.said ≤ l.most;
  empty : l.words ≡ [];
  added : l.lines.items ≡ l.fn.lines.items ++ event_lines (event.Enter l.identity ∷ replicate l.said (searching l.wide l.identity));
}

abbrev pub decreases-loop-said : goal.decreases-loop-said
decreases-loop-said g l = l.most - l.said
