use Rattle.std.proofs.Common.{ap, refl, subst, take, true, false, [], ℕ, ◌≡◌, ◌++◌, ◌∙◌}
use Rattle.service_loop.proofs.Common.{Consumes, Consumes-nil}
use Rattle.std.proofs.lemmas.List.{take-append-le}
use Rattle.service_loop.specs.Gathering.{GathersOf}
use Rattle.service_loop.specs.BuffersState.{BuffersState}
use Rattle.service_loop.proofs.GatherLemmas.{gathers_kept, gathers_none, gathers_refused, gathers_some}
use Rattle.service_loop.proofs.BuffersLemmas.{consumes_kept}
use Rattle.service_loop.proofs.connection.Connection.gather_bytes.Goals as goal

pub returns-in-Err-clause-gathers : goal.returns-in-Err-clause-gathers
returns-in-Err-clause-gathers g c =
    let left = g.S.Stream.left c.args.self.now.stream in
    let left' = g.S.Stream.left c.read_some.new.self in
    gathers_kept left left' c.args.self.now.buffers c.note_fault.new.buffers (consumes_kept left left' c.in-Err.ensures.bytes) c.note_fault.ensures.buffers c.note_fault.ensures.whole

pub returns-in-Err-clause-peek : goal.returns-in-Err-clause-peek
returns-in-Err-clause-peek g c = (refl, refl, refl, refl, λ h. h)

pub returns-in-Err-clause-unsent : goal.returns-in-Err-clause-unsent
returns-in-Err-clause-unsent g c = c.read_some.ensures.same

pub returns-in-Ok-eq0-clause-peek : goal.returns-in-Ok-eq0-clause-peek
returns-in-Ok-eq0-clause-peek g c = c.note_end.ensures.peek

pub returns-after-self-clause-peek : goal.returns-after-self-clause-peek
returns-after-self-clause-peek g c = (refl, refl, refl, refl, λ h. h)

pub returns-after-self-clause-unsent : goal.returns-after-self-clause-unsent
returns-after-self-clause-unsent g c = c.read_some.ensures.same

pub returns-then-not-self : goal.returns-then-not-self
returns-then-not-self g c =
    let left = g.S.Stream.left c.args.self.now.stream in
    let buffers = c.args.self.now.buffers in
    record {
      gathers = gathers_none left left buffers (Consumes-nil left);
      unsent = refl;
      stage = refl;
      peek = (refl, refl, refl, refl, λ h. h);
    }

pub returns-in-Ok-eq0-clause-gathers : goal.returns-in-Ok-eq0-clause-gathers
returns-in-Ok-eq0-clause-gathers g c =
    let left = g.S.Stream.left c.args.self.now.stream in
    let left' = g.S.Stream.left c.read_some.new.self in
    let buffers = c.args.self.now.buffers in
    let none : Consumes left left' [] = subst (λ (n : ℕ). Consumes left left' (take n c.read_some.new.buf)) c.in-Ok-eq0.field-0-test c.in-Ok-eq0.ensures.bytes.0 in
    rw c.note_end.ensures.same (gathers_none left left' buffers none)

pub returns-in-Ok-eq0-clause-unsent : goal.returns-in-Ok-eq0-clause-unsent
returns-in-Ok-eq0-clause-unsent g c = ap (λ s. g.S.Stream.gone s.stream) c.note_end.ensures.same ∙ c.read_some.ensures.same

pub returns-in-Ok-eq0-clause-stage : goal.returns-in-Ok-eq0-clause-stage
returns-in-Ok-eq0-clause-stage g c = ap (λ s. s.stage) c.note_end.ensures.same

pub returns-in-Err-clause-stage : goal.returns-in-Err-clause-stage
returns-in-Err-clause-stage g c = refl

pub returns-after-self-clause-stage : goal.returns-after-self-clause-stage
returns-after-self-clause-stage g c = refl

pub returns-after-self-clause-gathers : goal.returns-after-self-clause-gathers
returns-after-self-clause-gathers g c =
    let left = g.S.Stream.left c.args.self.now.stream in
    let left' = g.S.Stream.left c.read_some.new.self in
    let buffers = c.args.self.now.buffers in
    let buf = c.read_some.new.buf in
    let came = take c.in-Ok.count buf in
    elim c.add.result as (λ b. c.add.result ≡ b → GathersOf left buffers left' c.add.new.self) [
      | true ↦ λ is. gathers_some left left' came buffers c.add.new.self c.in-Ok.ensures.bytes.0
          (c.add.ensures.added is ∙ ap (λ l. (let r : BuffersState = record buffers { inbox = buffers.inbox ++ l } in r)) (take-append-le c.in-Ok.count buf _ c.in-Ok.ensures.bound.0))
      | false ↦ λ is. gathers_refused left left' came buffers c.add.new.self c.in-Ok.ensures.bytes.0 (c.add.ensures.refused is)
    ] refl
