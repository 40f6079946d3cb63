use Rattle.std.proofs.Common.{◌∙◌, sym}
use Rattle.model_splitter.proofs.tree_lemmas.nodes.Kept.{get_kept}
use Rattle.model_splitter.proofs.tree.tree.Tree.registers_at.Goals as goal

pub returns : goal.returns
returns g c = rw (← c.self.view_is) (c.get.ensures.value ∙ sym (get_kept c.self.inside.nodes.entries c.args.place))
