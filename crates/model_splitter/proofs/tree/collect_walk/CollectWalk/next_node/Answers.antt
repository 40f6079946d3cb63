use Rattle.std.proofs.Common.{Some, sym, ap, ◌∙◌}
use Rattle.model_splitter.specs.tree.CollectWalk.{node_after}
use Rattle.model_splitter.proofs.tree_lemmas.nodes.Numbers.{child_fits, child_too_far}
use Rattle.model_splitter.proofs.tree.collect_walk.CollectWalk.next_node.Goals as goal

pub returns-in-Some : goal.returns-in-Some
returns-in-Some c =
    let h = c.in-Some.ensures in
    let at = c.args.self.now.at in
    rw c.if-not-self.false (ap Some h.1 ∙ sym (child_fits at (node_after at) h.0))

pub returns-in-None : goal.returns-in-None
returns-in-None c =
    let at = c.args.self.now.at in
    rw c.if-not-self.false (c.after_subtree-in-None.ensures ∙ sym (child_too_far at (node_after at) (λ h. c.in-None.ensures h)))
