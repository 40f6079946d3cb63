use Rattle.std.proofs.Common.{rules, ◌≡◌, Err}
use Rattle.model_splitter.proofs.tree_lemmas.CallsAsked.{no_begin, begin_call}
use Rattle.model_splitter.proofs.tree_lemmas.TreeProved.{tree_collects}
use Rattle.model_splitter.proofs.tree.world.TreeWorld.collect_begin.Goals as goal

pub returns-in_err-idle_client-clause-after : goal.returns-in_err-idle_client-clause-after
returns-in_err-idle_client-clause-after g c =
    let h = no_begin c.args.self.now c.args.id c.in_err-idle_client.field-0.0 c.in_err-idle_client.ensures.refused in
    let is : c.from_residual.result ≡ Err c.in_err-idle_client.field-0.0 = search rules in
    rw is (tree_collects c.args.self.now c.args.self.now c.args.id _ h.state h.answer)

pub returns-clause-after : goal.returns-clause-after
returns-clause-after g c =
    let client = c.in_ok-idle_client.ensures.fits in
    let h = begin_call c.args.self.now c.args.id _ client.0 client.1 c.set.new.self c.set.result
    (rw c.self.view_is at c.set.ensures.answer) (rw (c.collecting-client.ensures, c.self.view_is) at c.set.ensures.after) in
    tree_collects c.args.self.now c.set.new.self c.args.id c.set.result h.state h.answer
