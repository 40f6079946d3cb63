use Rattle.std.proofs.Common.{rules, ◌≡◌, ◌≢◌, Ok, Err, refl, sym, ap, ◌∙◌}
use Rattle.model_splitter.proofs.tree_lemmas.WorldCommon.{NoMemory, client_steps, tree_steps}
use Rattle.model_splitter.specs.tree.Client.{place_reported}
use Rattle.model_steps.specs.Calls.{reply_of}
use Rattle.model_steps.proofs.cited.LocalityLemmas.{unchanged_local}
use Rattle.model_splitter.proofs.tree_lemmas.CallsAsked.{no_way, not_for_memory, way_step, place_alike, lacked_too, kept_too, refused_too}
use Rattle.model_splitter.proofs.tree_lemmas.TreeProved.{tree_law, tree_due, tree_nodes, tree_goes_on, tree_stays}
use Rattle.model_splitter.proofs.tree.world.TreeWorld.step.Goals as goal
use Rattle.model_splitter.proofs.tree.world.TreeWorld.step.Goals.{Joined-step, in-Ok, in-Err}

said : (g : _) (c : Joined-step g) → c.match-step.result ≡ reply_of place_reported c.step.result
said g c = elim c.match-step.branch [
  | in-Ok w ↦ w.result-is ∙ ap Ok w.place_reported.ensures ∙ sym (ap (reply_of place_reported) w.in-Ok.is)
  | in-Err w ↦ w.result-is ∙ sym (ap (reply_of place_reported) w.in-Err.is)
]

pub returns-in_err-placing_client : goal.returns-in_err-placing_client
returns-in_err-placing_client g c =
    let why = c.in_err-placing_client.field-0.0 in
    let h = no_way c.args.self.now c.args.id why c.in_err-placing_client.ensures.refused in
    let goes : why ≢ NoMemory = not_for_memory c.args.self.now c.args.id why c.in_err-placing_client.ensures.refused in
    let is : c.from_residual.result ≡ Err why = search rules in
    rw is (record {
      answer = h.answer;
      state = h.state;
      unchanged_on_error = refl;
      no_memory = λ e. absurd (goes (cc));
      after = tree_goes_on c.args.self.now c.args.self.now c.args.id _ h.state h.answer (λ e. refl) (λ e. absurd (goes (cc)));
      law = tree_law c.args.self.now;
      due = tree_due c.args.self.now;
      nodes = tree_nodes c.args.self.now;
      local = unchanged_local client_steps tree_steps c.args.id c.args.self.now;
      alike = λ goes other alike. h.answer goes ∙ place_alike c.args.self.now other c.args.id alike;
      stands_alike = λ goes. tree_stays c.args.self.now c.args.self.now c.args.id (h.state goes);
    })

pub returns : goal.returns
returns g c =
    let reported = said g (goal.at.returns g c).Joined-step in
    let client = c.in_ok-placing_client.ensures.fits in
    let h = way_step c.args.self.now c.args.id _ client.0 c.step.new.self c.step.result
    (rw c.self.view_is at c.step.ensures.answer) (rw c.self.view_is at c.step.ensures.after) client.1 c.match-step.result reported in
    record {
      answer = h.answer;
      state = h.state;
      unchanged_on_error = rw reported (refused_too place_reported _ c.step.result (rw c.self.view_is at c.step.ensures.unchanged_on_error));
      no_memory = λ e. (rw c.self.view_is at c.step.ensures.no_memory) (lacked_too place_reported c.step.result (sym reported ∙ e));
      after = tree_goes_on c.args.self.now c.step.new.self c.args.id c.match-step.result h.state h.answer (λ e. kept_too place_reported _ c.step.result (rw c.self.view_is at c.step.ensures.unchanged_on_error) (sym reported ∙ e)) (λ e. (rw c.self.view_is at c.step.ensures.no_memory) (lacked_too place_reported c.step.result (sym reported ∙ e)));
      law = tree_law c.step.new.self;
      due = tree_due c.step.new.self;
      nodes = tree_nodes c.step.new.self;
      local = rw c.self.view_is at c.step.ensures.local;
      alike = λ goes other alike. h.answer goes ∙ place_alike c.args.self.now other c.args.id alike;
      stands_alike = λ goes. tree_stays c.args.self.now c.step.new.self c.args.id (h.state goes);
    }
