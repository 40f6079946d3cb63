use Rattle.std.proofs.Common.{rules, ◌≡◌, Err, refl, sym, ap, ◌∙◌}
use Rattle.model_splitter.proofs.tree_lemmas.WorldCommon.{tree_steps, Note}
use Rattle.model_splitter.specs.declared.tree.client.TreeReply.{TreeReply}
use Rattle.model_steps.specs.Calls.{reply_of}
use Rattle.model_splitter.proofs.tree_lemmas.StoreLemmas.{local_store, unchanged_store}
use Rattle.model_splitter.proofs.tree_lemmas.CallsAsked.{no_store, store_call}
use Rattle.model_splitter.proofs.tree_lemmas.TreeProved.{tree_law, tree_due, tree_stores}
use Rattle.model_splitter.proofs.tree.world.TreeWorld.store.Goals as goal
use Rattle.model_splitter.proofs.tree.world.TreeWorld.store.Goals.{Joined-step, in-Ok, in-Err}

said : (g : _) (c : Joined-step g) → c.match-step.result ≡ reply_of (λ (note : Note TreeReply). tt {0}) c.step.result
said g c = elim c.match-step.branch [
  | in-Ok w ↦ w.result-is ∙ sym (ap (reply_of (λ (note : Note TreeReply). tt {0})) w.in-Ok.is)
  | in-Err w ↦ w.result-is ∙ sym (ap (reply_of (λ (note : Note TreeReply). tt {0})) w.in-Err.is)
]

pub returns-in_err-idle_client : goal.returns-in_err-idle_client
returns-in_err-idle_client g c =
    let h = no_store c.args.self.now c.args.id c.args.value c.in_err-idle_client.field-0.0 c.in_err-idle_client.ensures.refused in
    let is : c.from_residual.result ≡ Err c.in_err-idle_client.field-0.0 = search rules in
    rw is (record {
      answer = h.answer;
      state = h.state;
      unchanged_on_error = refl;
      after = tree_stores c.args.self.now c.args.self.now c.args.id c.args.value _ h.state h.answer;
      law = tree_law c.args.self.now;
      due = tree_due c.args.self.now;
      local = unchanged_store tree_steps c.args.self.now c.args.id;
    })

pub returns : goal.returns
returns g c =
    let client = c.in_ok-idle_client.ensures.fits in
    let set = rw (c.storing-client.ensures, c.self.view_is) at c.set.ensures.after in
    let h = store_call c.args.self.now c.args.id c.args.value _ client.0 client.1 c.set.new.self c.step.new.self set c.step.result
    c.step.ensures.answer c.step.ensures.after c.step.ensures.no_memory c.match-step.result (said g (goal.at.returns g c).Joined-step) in
    record {
      answer = h.answer;
      state = h.state;
      unchanged_on_error = h.refused;
      after = tree_stores c.args.self.now c.step.new.self c.args.id c.args.value c.match-step.result h.state h.answer;
      law = tree_law c.step.new.self;
      due = tree_due c.step.new.self;
      local = local_store tree_steps c.args.self.now c.set.new.self c.step.new.self c.args.id c.args.value _ (sym client.0) set c.step.ensures.local;
    }
