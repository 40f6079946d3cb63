use Rattle.std.proofs.Common.{◌≡◌, rules, ◌≤◌, ◌<◌, ℕ, List, Option, [], inr, length, take, refl, ap, sym, subst, ◌∙◌}
use Rattle.std.specs.Io.KnownBytes.{Consumes, IsAtEnd}
use Rattle.service_loop.specs.Asking.{MayAsk}
use Rattle.service_loop.specs.BuffersState.{BuffersState}
use Rattle.service_loop.specs.ConnectionBuffers.{TakesNoOwn, TakesOf}
use Rattle.service_loop.proofs.BuffersLemmas.{full_or_asks, takes_none, takes_some, consumes_kept}
use Rattle.service_loop.proofs.OwnLemmas.{last_own, none_of_none}
use Rattle.service_loop.proofs.connection.Connection.read.Goals as goal

pub returns-in-Err-clause-all : goal.returns-in-Err-clause-all
returns-in-Err-clause-all g c = λ whole on some.
    let same : c.note_fault.new.buffers.inbox ≡ c.args.self.now.buffers.inbox = ap (λ (q : BuffersState). q.inbox) c.note_fault.ensures.buffers in
    inr (subst MayAsk (sym same) (c.requires.none (subst (λ (l : List ℕ). 0 < length l) same some)))

pub returns-after-self-clause-all : goal.returns-after-self-clause-all
returns-after-self-clause-all g c = λ whole on some. full_or_asks c.take.new.self (c.take.ensures.full whole some)

pub returns-in-Ok-eq0-clause-all : goal.returns-in-Ok-eq0-clause-all
returns-in-Ok-eq0-clause-all g c = c.take_last.ensures.all

pub returns-in-Err-clause-takes : goal.returns-in-Err-clause-takes
returns-in-Err-clause-takes g c =
    let left = g.S.Stream.left c.args.self.now.stream in
    let left' = g.S.Stream.left c.read_into.new.stream in
    let is = c.note_fault.ensures.buffers in (
      [],
      refl,
      takes_none left left' c.args.self.now.buffers c.note_fault.new.buffers (consumes_kept left left' c.in-Err.ensures.bytes) (ap (λ (q : BuffersState). q.responder) is) (ap (λ (q : BuffersState). q.ended) is) (ap (λ (q : BuffersState). q.in_line) is)
          (λ h. (ap (λ (q : BuffersState). q.inbox) is, ap (λ (q : BuffersState). q.outbox) is, c.note_fault.ensures.whole h)),
      λ on. none_of_none c.args.self.now.buffers.in_line,
    )

pub returns-after-self-clause-takes : goal.returns-after-self-clause-takes
returns-after-self-clause-takes g c =
    let left = g.S.Stream.left c.args.self.now.stream in
    let left' = g.S.Stream.left c.read_into.new.stream in
    let came = take c.in-Ok.count c.deref.result.now in
    let few : length came ≤ 65536 = search rules in
    let gave : Consumes left left' came = rw c.deref.ensures.value c.in-Ok.ensures.bytes.0 in
    let t = c.take.ensures.takes in
    (t.0, t.1, takes_some t.0 left left' came c.args.self.now.buffers c.take.new.self few gave t.2, t.3 refl)

pub returns-in-Ok-eq0-clause-takes : goal.returns-in-Ok-eq0-clause-takes
returns-in-Ok-eq0-clause-takes g c =
    let left = g.S.Stream.left c.args.self.now.stream in
    let left' = g.S.Stream.left c.read_into.new.stream in
    let gave : Consumes left left' [] = search rules in
    let end : IsAtEnd left' = search rules in
    let t = c.take_last.ensures.takes in
    let s = c.args.self.now.buffers in
    let s' = c.take_last.new.self.buffers in
    let stream : g.S.Stream.left c.take_last.new.self.stream ≡ left' = ap (λ x. g.S.Stream.left x) c.take_last.ensures.stream in
    let of = subst (λ (l : Option (List ℕ)). (of : TakesOf t.0 left s l s') × TakesNoOwn s of.takes.taken) (sym stream) (last_own t.0 left left' s s' gave end t.2 c.requires.line) in
    (t.0, t.1, of.0, of.1)

pub returns-after-self-clause-room : goal.returns-after-self-clause-room
returns-after-self-clause-room g c = (c.read_into.ensures.room.0, c.take.ensures.empty)

pub returns-in-Ok-eq0-clause-room : goal.returns-in-Ok-eq0-clause-room
returns-in-Ok-eq0-clause-room g c = c.take_last.ensures.room

pub returns-in-Err-clause-room : goal.returns-in-Err-clause-room
returns-in-Err-clause-room g c = c.read_into.ensures.room

pub returns-after-self-clause-unsent : goal.returns-after-self-clause-unsent
returns-after-self-clause-unsent g c = c.read_into.ensures.same

pub returns-in-Ok-eq0-clause-unsent : goal.returns-in-Ok-eq0-clause-unsent
returns-in-Ok-eq0-clause-unsent g c = ap (λ x. g.S.Stream.gone x) c.take_last.ensures.stream ∙ c.read_into.ensures.same

pub returns-in-Err-clause-unsent : goal.returns-in-Err-clause-unsent
returns-in-Err-clause-unsent g c = c.read_into.ensures.same

pub returns-in-Ok-eq0-clause-stage : goal.returns-in-Ok-eq0-clause-stage
returns-in-Ok-eq0-clause-stage g c = c.take_last.ensures.stage

pub returns-after-self-clause-stage : goal.returns-after-self-clause-stage
returns-after-self-clause-stage g c = refl

pub returns-in-Err-clause-stage : goal.returns-in-Err-clause-stage
returns-in-Err-clause-stage g c = refl
