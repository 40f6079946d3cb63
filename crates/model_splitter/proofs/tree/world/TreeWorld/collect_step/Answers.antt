use Rattle.std.proofs.Common.{rules, ◌≡◌, Ok, Err, refl, sym, ap, ◌∙◌}
use Rattle.model_splitter.proofs.tree_lemmas.WorldCommon.{client_steps, tree_steps}
use Rattle.model_splitter.specs.tree.Client.{view_reported}
use Rattle.model_steps.specs.Calls.{reply_of}
use Rattle.model_steps.proofs.cited.LocalityLemmas.{unchanged_local}
use Rattle.model_splitter.proofs.tree_lemmas.CallsAsked.{no_collect, collect_step, view_alike, refused_too}
use Rattle.model_splitter.proofs.tree_lemmas.TreeProved.{tree_law, tree_due, tree_reads_on, tree_stays_collecting}
use Rattle.model_splitter.proofs.tree.world.TreeWorld.collect_step.Goals as goal
use Rattle.model_splitter.proofs.tree.world.TreeWorld.collect_step.Goals.{Joined-step, in-Ok, in-Err}

said : (g : _) (c : Joined-step g) → c.match-step.result ≡ reply_of view_reported c.step.result
said g c = elim c.match-step.branch [
  | in-Ok w ↦ w.result-is ∙ ap Ok w.view_reported.ensures ∙ sym (ap (reply_of view_reported) w.in-Ok.is)
  | in-Err w ↦ w.result-is ∙ sym (ap (reply_of view_reported) w.in-Err.is)
]

pub returns-in_err-collecting_client : goal.returns-in_err-collecting_client
returns-in_err-collecting_client g c =
    let h = no_collect c.args.self.now c.args.id c.in_err-collecting_client.field-0.0 c.in_err-collecting_client.ensures.refused in
    let is : c.from_residual.result ≡ Err c.in_err-collecting_client.field-0.0 = search rules in
    rw is (record {
      answer = h.answer;
      state = h.state;
      unchanged_on_error = refl;
      after = tree_reads_on c.args.self.now c.args.self.now c.args.id _ h.state h.answer;
      law = tree_law c.args.self.now;
      due = tree_due c.args.self.now;
      local = unchanged_local client_steps tree_steps c.args.id c.args.self.now;
      alike = λ other alike. h.answer ∙ view_alike c.args.self.now other c.args.id alike;
      stands_alike = tree_stays_collecting c.args.self.now c.args.self.now c.args.id h.state;
    })

pub returns : goal.returns
returns g c =
    let reported = said g (goal.at.returns g c).Joined-step in
    let client = c.in_ok-collecting_client.ensures.fits in
    let h = collect_step c.args.self.now c.args.id _ client.0 c.step.new.self c.step.result
    (rw c.self.view_is at c.step.ensures.answer) (rw c.self.view_is at c.step.ensures.after) client.1 (rw c.self.view_is at c.step.ensures.no_memory) c.match-step.result reported in
    record {
      answer = h.answer;
      state = h.state;
      unchanged_on_error = rw reported (refused_too view_reported _ c.step.result (rw c.self.view_is at c.step.ensures.unchanged_on_error));
      after = tree_reads_on c.args.self.now c.step.new.self c.args.id c.match-step.result h.state h.answer;
      law = tree_law c.step.new.self;
      due = tree_due c.step.new.self;
      local = rw c.self.view_is at c.step.ensures.local;
      alike = λ other alike. h.answer ∙ view_alike c.args.self.now other c.args.id alike;
      stands_alike = tree_stays_collecting c.args.self.now c.step.new.self c.args.id h.state;
    }
