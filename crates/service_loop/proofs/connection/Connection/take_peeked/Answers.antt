use Rattle.std.proofs.Common.{[], Option, refl, subst, sym}
use Rattle.service_loop.proofs.Common.{TakesPeeked, Peek}
use Rattle.service_loop.proofs.BuffersLemmas.{peeked_nothing, peeked_first, peeked_end}
use Rattle.service_loop.proofs.connection.Connection.take_peeked.Goals as goal

pub returns-in_default-clause-takes : goal.returns-in_default-clause-takes
returns-in_default-clause-takes g c = ([], refl, peeked_nothing c.args.self.now.peek (g.S.Stream.left c.args.self.now.stream) c.args.self.now.buffers)

pub returns-then-not-may_take-clause-takes : goal.returns-then-not-may_take-clause-takes
returns-then-not-may_take-clause-takes g c = ([], refl, peeked_nothing c.args.self.now.peek (g.S.Stream.left c.args.self.now.stream) c.args.self.now.buffers)

pub returns-then-may_read-clause-takes : goal.returns-then-may_read-clause-takes
returns-then-may_read-clause-takes g c =
    let a = c.take_first.ensures.takes in
    let b = c.take_end.ensures.takes in
    let all = c.if-may_read.ensures in
    let left = g.S.Stream.left c.args.self.now.stream in
    let left' = g.S.Stream.left c.take_end.new.self.stream in
    let s = c.args.self.now.buffers in (
      a.0,
      a.1,
      subst (λ (l : Option Peek). TakesPeeked a.0 l left s left' c.take_end.new.self.buffers) (sym c.in-Some.is)
          (peeked_end c.in-Some.peek left left' s c.take_first.new.self c.take_end.new.self.buffers a.0 c.if-peek.true a.2 (all.whole refl) (all.none refl) b),
    )

pub returns-else-peek-clause-takes : goal.returns-else-peek-clause-takes
returns-else-peek-clause-takes g c =
    let a = c.take_first.ensures.takes in
    let left = g.S.Stream.left c.args.self.now.stream in
    let s = c.args.self.now.buffers in (
      a.0,
      a.1,
      subst (λ (l : Option Peek). TakesPeeked a.0 l left s left c.take_first.new.self) (sym c.in-Some.is) (peeked_first a.0 c.in-Some.peek left s c.take_first.new.self a.2),
    )

pub returns-in_default-clause-unsent : goal.returns-in_default-clause-unsent
returns-in_default-clause-unsent g c = refl

pub returns-in_default-clause-stage : goal.returns-in_default-clause-stage
returns-in_default-clause-stage g c = refl

pub returns-in_default-clause-room : goal.returns-in_default-clause-room
returns-in_default-clause-room g c = c.requires.room

pub returns-then-not-may_take-clause-unsent : goal.returns-then-not-may_take-clause-unsent
returns-then-not-may_take-clause-unsent g c = refl

pub returns-then-not-may_take-clause-stage : goal.returns-then-not-may_take-clause-stage
returns-then-not-may_take-clause-stage g c = refl

pub returns-then-not-may_take-clause-room : goal.returns-then-not-may_take-clause-room
returns-then-not-may_take-clause-room g c = c.requires.room

pub returns-then-may_read-clause-unsent : goal.returns-then-may_read-clause-unsent
returns-then-may_read-clause-unsent g c = c.take_end.ensures.unsent

pub returns-then-may_read-clause-stage : goal.returns-then-may_read-clause-stage
returns-then-may_read-clause-stage g c = c.take_end.ensures.stage

pub returns-then-may_read-clause-room : goal.returns-then-may_read-clause-room
returns-then-may_read-clause-room g c = c.take_end.ensures.room

pub returns-else-peek-clause-unsent : goal.returns-else-peek-clause-unsent
returns-else-peek-clause-unsent g c = refl

pub returns-else-peek-clause-stage : goal.returns-else-peek-clause-stage
returns-else-peek-clause-stage g c = refl

pub returns-else-peek-clause-room : goal.returns-else-peek-clause-room
returns-else-peek-clause-room g c = (c.requires.room.0, c.take_first.ensures.empty)
