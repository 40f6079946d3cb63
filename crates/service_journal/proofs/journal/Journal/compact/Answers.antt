use Rattle.std.proofs.Common.{◌≡◌, ◌⊎◌, ◌∙◌, List, ℕ, inl, inr, refl, sym, subst}
use Rattle.service_journal.proofs.Common.{replaced_by, WriteAheadState, record_of_hall, HasSynced}
use Rattle.service_journal.proofs.Commits.{known_before}
use Rattle.service_journal.proofs.Compacts.{leaves_either, replaced_synced}
use Rattle.service_journal.proofs.journal.Journal.compact.Goals as goal

pub returns-in_default-clause-any_moment : goal.returns-in_default-clause-any_moment
returns-in_default-clause-any_moment g c = λ stands. (
  λ s is. (
    s,
    is,
    record {
      is = inl refl;
      leaves = leaves_either c.law_of_lines.ensures.once c.args.write_ahead.now c.args.hall s (stands.known s is) c.waiting.ensures.few;
    },
  ),
  λ none. none,
)

pub returns-then-not-can_replace-clause-any_moment : goal.returns-then-not-can_replace-clause-any_moment
returns-then-not-can_replace-clause-any_moment g c = λ stands. (
  λ s is. (
    s,
    is,
    record {
      is = inl refl;
      leaves = leaves_either c.law_of_lines.ensures.once c.args.write_ahead.now c.args.hall s (stands.known s is) c.waiting.ensures.few;
    },
  ),
  λ none. none,
)

pub returns-in-Ok-replace-clause-stands : goal.returns-in-Ok-replace-clause-stands
returns-in-Ok-replace-clause-stands g c = λ stands. record {
  well = c.if-self.false;
  known = λ t is.
      let before = known_before _ _ t c.in-Ok-replace.ensures is in
      let record_is : c.deref-2.result.now ≡ record_of_hall c.args.hall = c.deref-2.ensures.value ∙ c.in-Ok.ensures in
      subst (λ (x : WriteAheadState). HasSynced x t) (sym c.replace_hall.ensures)
      (replaced_synced c.args.hall before.0 t (subst (λ (l : List ℕ). t ≡ replaced_by before.0 l) record_is before.2));
}

pub returns-in-Ok-replace-clause-any_moment : goal.returns-in-Ok-replace-clause-any_moment
returns-in-Ok-replace-clause-any_moment g c = λ stands. (
  λ s is.
      let after = c.in-Ok-replace.ensures.0 s is in
      let record_is : c.deref-2.result.now ≡ record_of_hall c.args.hall = c.deref-2.ensures.value ∙ c.in-Ok.ensures in (
        after.0,
        after.1,
        record {
          is = inr (subst (λ (l : List ℕ). after.0 ≡ replaced_by s l) record_is after.2);
          leaves = leaves_either c.law_of_lines.ensures.once c.args.write_ahead.now c.args.hall s (stands.known s is) c.waiting.ensures.few;
        },
      ),
  c.in-Ok-replace.ensures.1,
)

pub returns-in-Err-clause-any_moment : goal.returns-in-Err-clause-any_moment
returns-in-Err-clause-any_moment g c = λ stands. (
  λ s is.
      let after = c.in-Err.ensures.0 s is in
      let record_is : c.deref-2.result.now ≡ record_of_hall c.args.hall = c.deref-2.ensures.value ∙ c.in-Ok.ensures in (
        after.0,
        after.1,
        record {
          is = subst (λ (l : List ℕ). (after.0 ≡ s) ⊎ (after.0 ≡ replaced_by s l)) record_is after.2;
          leaves = leaves_either c.law_of_lines.ensures.once c.args.write_ahead.now c.args.hall s (stands.known s is) c.waiting.ensures.few;
        },
      ),
  c.in-Err.ensures.1,
)
