-- The first bytes stand there still, whichever call failed.
use Rattle.std.proofs.Common.{inl}
use Rattle.service_journal.proofs.OpeningLemmas.{always_err, front_cut, front_same, front_unsynced, front_written}
use Rattle.service_journal.specs.Disks.{Changes}
use Rattle.service_journal.specs.Journals.{KeepsFront}
use Rattle.service_journal.proofs.journal.mend.Goals as goal
use Rattle.service_journal.proofs.journal.mend.Goals.{then-whole-total+in_ok-cut, else-whole-total}

pub returns-in_err-cut-clause-front : goal.returns-in_err-cut-clause-front
returns-in_err-cut-clause-front g c = always_err c.from_residual.result _ (front_cut c.args.whole _ _ c.in_err-cut.ensures)

pub returns-in_err-append-clause-front : goal.returns-in_err-append-clause-front
returns-in_err-append-clause-front g c =
    let state = g.D.Disk.state in
    let front : Changes (KeepsFront c.args.whole) (state c.args.disk.now) (state c.if-whole-total.disk) = elim c.if-whole-total.branch [
      | then-whole-total+in_ok-cut w ↦ rw w.disk-is (front_cut c.args.whole _ _ ((λ s is. let a = w.in_ok-cut.ensures.0 s is in (a.0, a.1, inl a.2.0)), w.in_ok-cut.ensures.1))
      | else-whole-total w ↦ rw w.disk-is (front_same c.args.whole _)
    ] in
    always_err c.from_residual-in_err-append.result _ (front_written c.args.whole _ _ _ front c.in_err-append.ensures)

pub returns-in_err-sync-clause-front : goal.returns-in_err-sync-clause-front
returns-in_err-sync-clause-front g c =
    let state = g.D.Disk.state in
    let front : Changes (KeepsFront c.args.whole) (state c.args.disk.now) (state c.if-whole-total.disk) = elim c.if-whole-total.branch [
      | then-whole-total+in_ok-cut w ↦ rw w.disk-is (front_cut c.args.whole _ _ ((λ s is. let a = w.in_ok-cut.ensures.0 s is in (a.0, a.1, inl a.2.0)), w.in_ok-cut.ensures.1))
      | else-whole-total w ↦ rw w.disk-is (front_same c.args.whole _)
    ] in
    always_err c.from_residual-in_err-sync.result _ (front_unsynced c.args.whole _ _ _ _ front c.in_ok-append.ensures c.in_err-sync.ensures)
