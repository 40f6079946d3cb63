use Rattle.model_splitter.proofs.tree_lemmas.TreeProved.{tree_law, tree_due, tree_nodes, tree_begins}
use Rattle.model_splitter.proofs.tree.world.TreeWorld.begin.Goals as goal

pub returns : goal.returns
returns g c =
    let answer = rw c.self.view_is at c.begin.ensures.answer in
    let state = rw (c.new.ensures, c.self.view_is) at c.begin.ensures.after in
    record {
      answer = answer;
      state = state;
      unchanged_on_error = rw c.self.view_is at c.begin.ensures.unchanged_on_error;
      after = tree_begins c.args.self.now c.begin.new.self c.args.id c.begin.result state answer;
      law = tree_law c.begin.new.self;
      due = tree_due c.begin.new.self;
      nodes = tree_nodes c.begin.new.self;
    }
