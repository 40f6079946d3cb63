use Rattle.std.proofs.Common.{◌≡◌, ◌∙◌, ◌++◌, List, ℕ, length, refl, sym, ap, subst}
use Rattle.service_journal.proofs.Common.{header_line, DiskState, WriteAheadState, HasSynced, IsHallOf, IsMended, missing_in, IsRecovered}
use Rattle.service_journal.proofs.Commits.{known_before}
use Rattle.service_journal.proofs.FaultLemmas.{on_err}
use Rattle.service_journal.proofs.OpeningLemmas.{grown, hall_of_bytes, lines_kept, spared, synced_record}
use Rattle.service_journal.specs.Disks.{Changes}
use Rattle.service_journal.specs.Journals.{GrowsFrom}
use Rattle.service_journal.specs.OpenFaults.{IsSpared}
use Rattle.service_journal.specs.declared.opening.OpenFault.{OpenFault}
use Rattle.service_journal.specs.declared.opening.OpenFault.TheVariants as fault
use Rattle.service_journal.proofs.journal.restored.Goals as goal

pub returns-clause-synced : goal.returns-clause-synced
returns-clause-synced g c = λ t is.
    let after = known_before _ _ t c.in_ok-mend.ensures.mended is in
    let before = known_before _ _ after.0 c.in_ok-bytes.ensures after.1 in
    let bytes = c.in_ok-bytes.bytes.items in
    let hall = c.in_ok-hall.hall in
    let whole = c.in_ok-hall.whole in
    let r : IsRecovered c.args.config bytes hall whole = subst (λ (l : List ℕ). IsRecovered c.args.config l hall whole) c.deref.ensures.value c.in_ok-hall.ensures.hall in
    let m : IsMended c.len.result whole (missing_in whole c.as_slice-2.result.now) after.0 t = subst (λ (l : List ℕ). IsMended c.len.result whole l after.0 t) c.missing.ensures after.2 in
    subst (λ (x : WriteAheadState). HasSynced x t) (sym c.in_ok-write_ahead.ensures)
    (synced_record c.args.config bytes c.as_slice-2.result.now hall whole c.len.result after.0 t r (c.as_slice-2.ensures ∙ c.print_header.ensures.text ∙ ap (λ (l : List ℕ). l ++ header_line c.args.config) c.in_ok-header.ensures) (before.2.1 ∙ ap (λ (s : DiskState). s.contents) (sym before.2.0)) (sym (c.len.ensures ∙ c.in_ok-bytes.bytes.ok.0)) m)

pub returns-clause-hall : goal.returns-clause-hall
returns-clause-hall g c = λ s is.
    let read = c.in_ok-bytes.ensures.0 s is in
    let hall = c.in_ok-hall.hall in
    let whole = c.in_ok-hall.whole in
    let r : IsRecovered c.args.config s.contents hall whole = subst (λ (l : List ℕ). IsRecovered c.args.config l hall whole) (c.deref.ensures.value ∙ read.2.1) c.in_ok-hall.ensures.hall in
    subst (λ (x : WriteAheadState). IsHallOf x.hall s.contents) (sym c.in_ok-write_ahead.ensures) (hall_of_bytes c.law_of_lines.ensures.once c.args.config s.contents hall whole r)

pub returns-in_err-bytes-clause-spared : goal.returns-in_err-bytes-clause-spared
returns-in_err-bytes-clause-spared g c =
    let same : Changes (λ s t. t ≡ s) (g.D.Disk.state c.args.disk.now) (g.D.Disk.state c.read.new.self) = ((λ s is. let a = c.in_err-bytes.ensures.0 s is in (a.0, a.1, a.2.0)), c.in_err-bytes.ensures.1) in
    spared c.law_of_lines.ensures.cut c.from_residual.result _ _ same

pub returns-in_err-hall-clause-spared : goal.returns-in_err-hall-clause-spared
returns-in_err-hall-clause-spared g c =
    let same : Changes (λ s t. t ≡ s) (g.D.Disk.state c.args.disk.now) (g.D.Disk.state c.read.new.self) = ((λ s is. let a = c.in_ok-bytes.ensures.0 s is in (a.0, a.1, a.2.0)), c.in_ok-bytes.ensures.1) in
    spared c.law_of_lines.ensures.cut c.from_residual-in_err-hall.result _ _ same

pub returns-in_err-mend-clause-spared : goal.returns-in_err-mend-clause-spared
returns-in_err-mend-clause-spared g c =
    let state = g.D.Disk.state in
    let bytes = c.in_ok-bytes.bytes.items in
    let hall = c.in_ok-hall.hall in
    let whole = c.in_ok-hall.whole in
    let r : IsRecovered c.args.config bytes hall whole = subst (λ (l : List ℕ). IsRecovered c.args.config l hall whole) c.deref.ensures.value c.in_ok-hall.ensures.hall in
    let kept = lines_kept c.law_of_lines.ensures.cut c.law_of_lines.ensures.once c.args.config bytes hall whole r (state c.args.disk.now) (state c.read.new.self) (state c.mend.new.disk) c.in_ok-bytes.ensures c.in_err-mend.ensures.front in
    let why = c.in_err-mend.field-0.0 in
    on_err (λ f. f ≡ fault.Disk why) _ c.from_residual-in_err-mend.result c.from_residual-in_err-mend.ensures.1 (λ e is. subst (λ (f : OpenFault). Changes (IsSpared f) (state c.args.disk.now) (state c.mend.new.disk)) (sym is) kept)

pub returns-clause-grows : goal.returns-clause-grows
returns-clause-grows g c =
    let state = g.D.Disk.state in
    let bytes = c.in_ok-bytes.bytes.items in
    let hall = c.in_ok-hall.hall in
    let whole = c.in_ok-hall.whole in
    let r : IsRecovered c.args.config bytes hall whole = subst (λ (l : List ℕ). IsRecovered c.args.config l hall whole) c.deref.ensures.value c.in_ok-hall.ensures.hall in
    let many : c.len.result ≡ length bytes = c.len.ensures ∙ c.in_ok-bytes.bytes.ok.0 in
    grown c.law_of_lines.ensures.cut c.law_of_lines.ensures.once c.args.config bytes hall whole r (state c.args.disk.now) (state c.read.new.self) (state c.mend.new.disk) c.in_ok-bytes.ensures
    (subst (λ (n : ℕ). Changes (GrowsFrom n whole) (state c.read.new.self) (state c.mend.new.disk)) many c.in_ok-mend.ensures.grows)

pub returns-in_err-write_ahead-clause-spared : goal.returns-in_err-write_ahead-clause-spared
returns-in_err-write_ahead-clause-spared g c =
    let same : Changes (λ s t. t ≡ s) (g.D.Disk.state c.args.disk.now) (g.D.Disk.state c.read.new.self) = ((λ s is. let a = c.in_ok-bytes.ensures.0 s is in (a.0, a.1, a.2.0)), c.in_ok-bytes.ensures.1) in
    spared c.law_of_lines.ensures.cut c.from_residual-in_err-write_ahead.result _ _ same
