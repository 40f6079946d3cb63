use Rattle.std.proofs.Common.{◌≡◌, ◌∙◌, true, false, [], inl, inr, sym, refl}
use Rattle.service_loop.proofs.BuffersLemmas.{full_or_asks, or_true}
use Rattle.service_loop.proofs.connection.Connection.take_last.Goals as goal

pub returns-then-has_input : goal.returns-then-has_input
returns-then-has_input g c = record {
  takes = (let t = c.take.ensures.takes in (t.0, t.1, inr t.2));
  all = λ whole on some. full_or_asks c.take.new.self (c.take.ensures.full whole some);
  stream = refl;
  stage = refl;
  room = (c.requires.room.0, c.take.ensures.empty);
}

pub returns-else-has_input : goal.returns-else-has_input
returns-else-has_input g c = record {
  takes = ([], refl, inl c.finish.ensures);
  all = λ whole on some. absurd (let ends : true ≡ false = or_true c.args.self.now.buffers.ended ∙ sym c.finish.ensures.ended_is ∙ on in cc);
  stream = refl;
  stage = refl;
  room = c.requires.room;
}
