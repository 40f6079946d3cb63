use Rattle.std.proofs.Common.{◌≡◌, false, sym, subst, ◌∙◌}
use Rattle.model_asked.specs.Replies.{is_refusal, with_view}
use Rattle.service_hall.specs.HallState.{HallState}
use Rattle.service_hall.specs.Rebuilt.{IsCopied}
use Rattle.service_hall.proofs.RebuiltLemmas.{taken, copied_on, goes_on}
use Rattle.service_hall.proofs.rebuilding.Rebuilding.take.Goals as goal

pub returns-clause-taken : goal.returns-clause-taken
returns-clause-taken c =
    let reply = with_view c.apply_short-reply.result c.apply_short-reply.new.view in
    let accepted : is_refusal reply ≡ false = sym (c.is_refusal.ensures c.apply_short-reply.new.view) ∙ c.if-is_refusal.false in
    let t = taken c.args.self.now.hall c.args.event reply c.apply_short-reply.new.self c.apply_short-reply.ensures accepted in
    record {
      accepted = t.0;
      hall = t.1;
      copied = λ is. subst (λ (u : HallState). IsCopied u c.follow.new.self) (sym t.1) (copied_on c.args.self.now.hall c.args.event c.args.self.now.slots c.follow.new.self t.0 c.in_ok-follow.ensures is);
    }

pub returns-clause-pool : goal.returns-clause-pool
returns-clause-pool c = λ is. goes_on c.args.self.now _ c.args.event (returns-clause-taken c) is
