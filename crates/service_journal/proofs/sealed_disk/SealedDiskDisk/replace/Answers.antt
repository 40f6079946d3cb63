use Rattle.std.proofs.Common.{◌≡◌, List, [], ℕ, inl, inr, Option, Result, Ok, Err, ap, subst, ◌∙◌}
use Rattle.text_lines.specs.Lines.{rest_of}
use Rattle.text_records.specs.Seals.{lines_in}
use Rattle.text_records.specs.declared.seals.LineForm.TheVariants.{Plain, Sealed}
use Rattle.service_journal.specs.DiskState.{DiskState}
use Rattle.service_journal.specs.Disks.{Changes, IsReplaced, replaced_by}
use Rattle.service_journal.specs.SealedDisks.{opened_state, seen}
use Rattle.service_journal.proofs.SealedLemmas.{changes_seen, seen_replaced}
use Rattle.service_journal.proofs.sealed_disk.SealedDiskDisk.replace.Goals as goal

module _ {E : Type 0} (text : (l : List ℕ) → rest_of l ≡ [] → lines_in Plain (lines_in Sealed l) ≡ l) (lines : List ℕ) (none : rest_of lines ≡ []) where
  replaced : (r : Result (Unit {0}) E) (s t : DiskState) → IsReplaced (lines_in Sealed lines) r s t → IsReplaced lines r (opened_state s) (opened_state t)
  replaced (Ok done) s t is = ap opened_state is ∙ seen_replaced text s lines none
  replaced (Err why) s t (inl is) = inl (ap opened_state is)
  replaced (Err why) s t (inr is) = inr (ap opened_state is ∙ seen_replaced text s lines none)

pub returns : goal.returns
returns g c =
    let state = g.D.Disk.state in
    let bytes = c.args.bytes.now in
    let is = c.as_slice.ensures ∙ c.in_ok-text.ensures.0 in
    subst (λ (o : Option DiskState). Changes (IsReplaced bytes c.replace.result) o (seen (state c.replace.new.self))) c.self.view_is
    (changes_seen (state c.self.inside.disk) (state c.replace.new.self) c.replace.ensures (λ s t known step.
    replaced c.law_of_seals.ensures.text bytes c.in_ok-text.ensures.1 c.replace.result s t (subst (λ (l : List ℕ). IsReplaced l c.replace.result s t) is step)))
