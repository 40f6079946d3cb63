use Rattle.model_splitter.proofs.tree_lemmas.nodes.Kept.{put_kept}
use Rattle.model_splitter.proofs.tree.tree.Tree.make.Goals.{in-Ok, in-Err}
use Rattle.model_splitter.proofs.tree.tree.Tree.make.Goals as goal

pub returns-clause-after : goal.returns-clause-after
returns-clause-after g c = elim c.match-insert.branch [
  | in-Ok w ↦ rw (w.result-is, ← c.self.view_is) (put_kept c.self.inside.nodes.entries c.insert.new.self.entries c.args.place _ (λ q. rw (← c.new.ensures) (w.in-Ok.ensures.updates.0 q)))
  | in-Err w ↦ rw w.result-is tt
]
