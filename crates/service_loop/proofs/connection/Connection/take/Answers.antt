use Rattle.std.proofs.Common.{[], inr, arith, refl}
use Rattle.std.proofs.KnownBytes.{Consumes-nil}
use Rattle.service_loop.proofs.BuffersLemmas.{takes_idle, takes_some, full_or_asks}
use Rattle.service_loop.proofs.OwnLemmas.{none_of_none}
use Rattle.service_loop.proofs.connection.Connection.take.Goals as goal

pub returns-then-not-may_take : goal.returns-then-not-may_take
returns-then-not-may_take g c = record {
  takes = ([], refl, takes_idle _ _ c.args.self.now.buffers (Consumes-nil (g.S.Stream.left c.args.self.now.stream)), λ on. none_of_none c.args.self.now.buffers.in_line);
  all = c.if-not-may_take.ensures.none refl;
  unsent = refl;
  stage = refl;
  room = c.requires.room;
}

pub returns-then-not-waits_for_more : goal.returns-then-not-waits_for_more
returns-then-not-waits_for_more g c =
    let left = g.S.Stream.left c.args.self.now.stream in
    let t = c.take.ensures.takes in
    record {
      takes = (t.0, t.1, takes_some t.0 left left [] c.args.self.now.buffers c.take.new.self (omega arith) (Consumes-nil left) t.2, t.3 refl);
      all = λ whole on some. full_or_asks c.take.new.self (c.take.ensures.full whole some);
      unsent = refl;
      stage = refl;
      room = (c.requires.room.0, c.take.ensures.empty);
    }

pub returns-then-self : goal.returns-then-self
returns-then-self g c = record { takes = c.read.ensures.takes; all = c.read.ensures.all; unsent = c.read.ensures.unsent; stage = c.read.ensures.stage; room = c.read.ensures.room }

pub returns-else-self : goal.returns-else-self
returns-else-self g c = record {
  takes = ([], refl, takes_idle _ _ c.args.self.now.buffers (Consumes-nil (g.S.Stream.left c.args.self.now.stream)), λ on. none_of_none c.args.self.now.buffers.in_line);
  all = λ whole on some. inr (c.if-not-waits_for_more.ensures.none refl some);
  unsent = refl;
  stage = refl;
  room = c.requires.room;
}

pub take-requires-clause-whole : goal.take-requires-clause-whole
take-requires-clause-whole g c = c.if-not-may_take.ensures.whole refl

pub take-requires-clause-few : goal.take-requires-clause-few
take-requires-clause-few g c = omega (arith, c.if-not-waits_for_more.ensures.most)

pub take-requires-clause-count : goal.take-requires-clause-count
take-requires-clause-count g c = c.if-not-may_take.ensures.count refl

pub read-requires-clause-whole : goal.read-requires-clause-whole
read-requires-clause-whole g c = c.if-not-may_take.ensures.whole refl

pub read-requires-clause-reply : goal.read-requires-clause-reply
read-requires-clause-reply g c = c.if-not-may_take.ensures.reply refl

pub read-requires-clause-count : goal.read-requires-clause-count
read-requires-clause-count g c = c.if-not-may_take.ensures.count refl

pub read-requires-clause-line : goal.read-requires-clause-line
read-requires-clause-line g c = c.if-not-waits_for_more.ensures.line refl
