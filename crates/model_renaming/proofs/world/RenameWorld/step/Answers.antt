use Rattle.std.proofs.Common.{◌≢◌, Err, sym, ◌∙◌}
use Rattle.model_renaming.proofs.Common.{NoMemory}
use Rattle.model_renaming.proofs.ShortReplies.{refused_short, accepted_short, kept_short}
use Rattle.model_renaming.proofs.world.RenameWorld.step.Goals as goal
use Rattle.model_renaming.proofs.world.RenameWorld.step.Goals.{After-with_in}

-- what is accepted of the reply with its view is accepted of the reply
made : (g : _) (c : After-with_in g) → c.with_in.result ≢ Err NoMemory → c.step_short-outcome.result ≢ Err NoMemory
made g c goes = accepted_short c.step_short-outcome.result c.step_short-outcome.new.view NoMemory (λ e. goes (c.with_in.ensures ∙ e))

pub returns : goal.returns
returns g c =
    let s = (goal.at.returns g c).After-with_in in
    let short = c.step_short-outcome.ensures in
    record {
      answer = λ goes. c.with_in.ensures ∙ short.answer (made g s goes);
      state = λ goes. short.state (made g s goes);
      unchanged_on_error = rw c.with_in.ensures (kept_short _ c.step_short-outcome.result c.step_short-outcome.new.view short.unchanged_on_error);
      no_memory = λ e. short.no_memory (refused_short c.step_short-outcome.result c.step_short-outcome.new.view NoMemory (sym c.with_in.ensures ∙ e));
      after = rw c.with_in.ensures short.after;
      law = short.law;
      local = rw c.with_in.ensures short.local;
      own = short.own;
    }
