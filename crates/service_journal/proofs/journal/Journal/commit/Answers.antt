use Rattle.std.proofs.Common.{◌≡◌, ◌∙◌, List, ℕ, sym, subst}
use Rattle.service_journal.proofs.Common.{longer_by, synced_all, WriteAheadState, HasSynced}
use mathlib.Core.List.{IsPrefix}
use Rattle.service_journal.proofs.Commits.{keeps_all, keeps_part, all_written, known_before}
use Rattle.service_journal.proofs.journal.Journal.commit.Goals as goal

pub returns-in-Ok-clause-stands : goal.returns-in-Ok-clause-stands
returns-in-Ok-clause-stands g c = λ stands. record {
  well = c.write.ensures.same ∙ c.if-self.false;
  known = λ t is.
      let before = known_before _ _ t c.in-Ok.ensures.written is in
      subst (λ (x : WriteAheadState). HasSynced x t) (sym c.mark_committed.ensures)
      (all_written c.law_of_lines.ensures.once c.args.write_ahead.now before.0 (stands.known before.0 before.1) c.waiting.ensures.few t (subst (λ (l : List ℕ). t ≡ synced_all (longer_by before.0 l)) c.waiting.ensures.lines before.2));
}

pub returns-in-Ok-clause-any_moment : goal.returns-in-Ok-clause-any_moment
returns-in-Ok-clause-any_moment g c = λ stands. (
  λ s is.
      let after = c.in-Ok.ensures.written.0 s is in
      (after.0, after.1, keeps_all c.law_of_lines.ensures.once c.args.write_ahead.now s (stands.known s is) c.waiting.ensures.few after.0 (subst (λ (l : List ℕ). after.0 ≡ synced_all (longer_by s l)) c.waiting.ensures.lines after.2)),
  c.in-Ok.ensures.written.1,
)

pub returns-in-Err-clause-any_moment : goal.returns-in-Err-clause-any_moment
returns-in-Err-clause-any_moment g c = λ stands. (
  λ s is.
      let after = c.in-Err.ensures.written.0 s is in
      (after.0, after.1, keeps_part c.law_of_lines.ensures.once c.args.write_ahead.now s (stands.known s is) c.waiting.ensures.few after.0 (subst (λ (l : List ℕ). (part : List ℕ) × IsPrefix part l × (after.0 ≡ longer_by s part)) c.waiting.ensures.lines after.2)),
  c.in-Err.ensures.written.1,
)
