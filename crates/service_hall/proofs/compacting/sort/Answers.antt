use Rattle.std.proofs.Common.{◌≡◌, true, false, Some, sym, ◌∙◌, slice_get}
use Rattle.std.proofs.lemmas.Result.{on_ok_weaker}
use Rattle.service_hall.specs.DeskParts.{is_renaming}
use Rattle.service_hall.proofs.RebuiltLemmas.{one_taken_over, one_followed}
use Rattle.service_hall.proofs.compacting.sort.Goals as goal

pub returns : goal.returns
returns c = λ s.
    let at : slice_get c.args.hall.now.history c.args.place ≡ Some c.in-Some.exchange = sym c.in-Some.ensures in
    let is : is_renaming c.in-Some.exchange.event ≡ true = sym c.is_renaming.ensures ∙ c.if-not-is_renaming.false in
    one_taken_over c.args.hall.now c.args.place c.in-Some.exchange at c.len.ensures.lawful c.args.new.now c.take.new.self c.args.old.now s c.in_ok-take.ensures.taken is

pub returns-then-not-is_renaming : goal.returns-then-not-is_renaming
returns-then-not-is_renaming c = on_ok_weaker c.follow.result (λ follow s.
    let at : slice_get c.args.hall.now.history c.args.place ≡ Some c.in-Some.exchange = sym c.in-Some.ensures in
    let is : is_renaming c.in-Some.exchange.event ≡ false = sym c.is_renaming.ensures ∙ c.if-not-is_renaming.true in
    one_followed c.args.hall.now c.args.place c.in-Some.exchange at c.len.ensures.lawful c.args.new.now c.args.old.now c.follow.new.self s is follow) c.follow.ensures
