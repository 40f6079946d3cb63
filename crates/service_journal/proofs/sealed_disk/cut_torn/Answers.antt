use Rattle.std.proofs.Common.{◌≡◌, ◌≤◌, List, ℕ, take, length, subst, arith}
use Rattle.service_journal.specs.Disks.{Changes}
use Rattle.service_journal.specs.Journals.{without_torn}
use Rattle.service_journal.proofs.SealedLemmas.{IsLeft, if_err, kept_lines, left_all, left_cut, lines_same}
use Rattle.service_journal.proofs.sealed_disk.cut_torn.Goals as goal
use Rattle.service_journal.proofs.sealed_disk.cut_torn.Goals.{then-whole-len+in_ok-cut, else-whole-len}

pub returns-in_err-bytes-clause-spared : goal.returns-in_err-bytes-clause-spared
returns-in_err-bytes-clause-spared g c =
    let read = c.in_err-bytes.ensures in
    if_err c.from_residual.result _ (lines_same c.law_of_lines.ensures.cut _ _ ((λ s is. let a = read.0 s is in (a.0, a.1, a.2.0)), read.1))

pub returns-clause-whole : goal.returns-clause-whole
returns-clause-whole g c =
    let state = g.D.Disk.state in
    let bytes = c.in_ok-bytes.bytes.items in
    let whole = c.whole_length-whole.result in
    let front : take whole bytes ≡ without_torn bytes = subst (λ (l : List ℕ). take whole l ≡ without_torn l) c.deref.ensures.value c.whole_length-whole.ensures.whole in
    let left : Changes (IsLeft bytes whole) (state c.args.disk.now) (state c.if-whole-len.disk) = elim c.if-whole-len.branch [
      | then-whole-len+in_ok-cut w ↦ rw w.disk-is (left_cut bytes whole _ _ _ c.in_ok-bytes.ensures ((λ s is. let a = w.in_ok-cut.ensures.0 s is in (a.0, a.1, a.2.1)), w.in_ok-cut.ensures.1))
      | else-whole-len w ↦ rw w.disk-is (left_all bytes whole _ _ (omega (arith, w.if-whole-len.false)) c.in_ok-bytes.ensures)
    ] in
    kept_lines bytes whole front _ _ _ left c.in_ok-sync.ensures
