-- what is played of a world that is a machine keeps its law
use Rattle.std.proofs.Common.{◌≡◌, ◌≤◌, ℕ, List, [], inr, Err, refl, sym, subst}
use Rattle.std.proofs.lemmas.Bool.{and_parts}
use Rattle.model_steps.specs.declared.refusal.Refusal.TheVariants as refusal
use Rattle.model_steps.specs.Calls.{reply_of}
use Rattle.model_steps.specs.Calls.Call.{Stepped}
use Rattle.model_steps.specs.Machine.{Reaches, IsProved}
use Rattle.model_steps.specs.World.{after_begin, after_step, begin_refusal, done_unless, step_answer, may_refuse_step}
use Rattle.model_steps.specs.WorldMachine.{WorldParts, world_machine, fresh_world}
use Rattle.model_steps.specs.WorldState.{WorldState}
use Rattle.model_steps.proofs.cited.WorldMachineLemmas.{begin_leads_on, step_leads_on}
use Rattle.model_asked.specs.Config.{most_in}
use Rattle.model_asked.specs.declared.config.Config.{Config}
use Rattle.model_asked.specs.declared.kind.WorldKind.{WorldKind}
use Rattle.model_asked.specs.Replies.{ShownReply}
use Rattle.text_player.specs.Runs.{Runs}
use Rattle.text_player.specs.Turns.{Turn, exchanges}
use Rattle.text_worlds.specs.lemmas.VisitProofs.{call_run}
use Rattle.text_worlds.specs.Visits.{visit_may, world_rules, IsCallRun}

-- a config lets no more take part than its world does
pub fits_in : (kind : WorldKind) (c : Config) → c.world ≡ kind → c.m ≤ most_in kind
fits_in kind c is = subst (λ (k : WorldKind). c.m ≤ most_in k) is c.in_range.1

module _ {P S R V O X : Type 0} (parts : WorldParts P S R V O X) (shown : X → ShownReply) where
  pub world_lawful : IsProved (world_machine parts) → (most : ℕ) (w u : WorldState S P) → parts.MayStart most → w ≡ fresh_world parts most →
      (ts : List Turn) → Runs (visit_may (world_rules parts shown)) w ts u → IsCallRun shown parts.Spec (exchanges ts)
  world_lawful proved most w u may fresh ts run =
      call_run (world_rules parts shown) (Reaches (world_machine parts) most)
      (λ t r p a. begin_leads_on parts t (after_begin t p (parts.start p)) p (done_unless (begin_refusal t p)) refl refl most r a)
      (λ t r p a. step_leads_on parts t (after_step parts.program parts.memory t p) p (reply_of parts.shown (step_answer parts.program parts.memory t p)) refl refl most r a)
      (λ t r p a lack. proved.call t t (Stepped p (Err refusal.NoMemory)) refl (inr (refl, (and_parts parts.grows (may_refuse_step parts.program parts.memory t p) lack).1)) most r a)
      parts.Spec (λ t r a. proved.law t most r a) w u (subst (λ (t : WorldState S P). Reaches (world_machine parts) most t []) (sym fresh) (proved.fresh most may)) ts run
