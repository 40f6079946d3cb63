use Rattle.std.proofs.Common.{◌≡◌, ℕ, length, ap, ◌∙◌, arith}
use Rattle.service_journal.proofs.Common.{record_of_hall, hall_after_first}
use Rattle.service_journal.proofs.Compacts.{all_lines}
use Rattle.service_journal.proofs.record.record_of.Goals as goal

pub loop-place-init : goal.loop-place-init
loop-place-init c = c.in-Ok.ensures

pub loop-place-preserved : goal.loop-place-preserved
loop-place-preserved c = c.in_ok-put_event.ensures c.loop-place.invariant

pub returns : goal.returns
returns c =
    let all : c.loop-place.place ≡ length c.args.hall.now.history = (let end = c.loop-place-test.false in let many = c.len-place-end.ensures in let within = c.loop-place.auto.place-end in omega arith) in
    c.loop-place.invariant ∙ ap (λ (n : ℕ). record_of_hall (hall_after_first n c.args.hall.now)) all ∙ all_lines c.args.hall.now
