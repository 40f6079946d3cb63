-- What was served stands later than all before.
use Rattle.std.proofs.Common.{rules, ◌≡◌, ap, inl, inr, sym, ◌∙◌, arith}
use Rattle.service_log.specs.ReplicaState.{ReplicaState}
use Rattle.service_hall.specs.HallState.{HallState}
use Rattle.service_follow.specs.Entries.{behind_first_line}
use Rattle.service_follow.specs.Leases.{lease_at}
use Rattle.service_follow.specs.Marks.{mark_of}
use Rattle.service_follow.specs.declared.marks.Mark.TheVariants.{Ordinary}
use Rattle.service_follow.specs.declared.sessions.Sessions.{Sessions}
use Rattle.service_follow.proofs.Heads.{waited_more}
use Rattle.service_follow.proofs.Moves.{moved_then}
use Rattle.service_follow.proofs.log_persister.LogPersister.serve_batch.Goals as goal

pub returns-in_default-clause-prefetched : goal.returns-in_default-clause-prefetched
returns-in_default-clause-prefetched g c = λ known.
    let last = c.in_default.ensures.at_last in
    let before = (c.loop-tries.invariant.moved.later last.0).1 in
    let ordinary : mark_of c.args.self.now.batch.items ≡ Ordinary = ap mark_of (sym c.deref.ensures.value) ∙ c.is_ordinary.ensures (search rules) in
    let batch = c.deref-in-loop-tries.ensures.value ∙ ap (λ b. b.items) c.loop-tries.invariant.batch in
    let place : c.serve.new.self.replica.place ≡ c.serve.new.self.stays.place = ap (λ (r : ReplicaState HallState). r.place) c.serve.ensures.part in
    record {
      prefetched = record {
        batch = c.deref-in-loop-tries.result.now;
        lines_are = ap behind_first_line batch;
        ordinary = ap mark_of batch ∙ ordinary;
        due = c.in_default.ensures.due;
        later = (let p = last.1 in omega (arith, before, p, place));
        known = sym c.is_blind.ensures ∙ c.if-is_blind.false;
      };
      batch_is = batch;
    }

pub loop-tries-preserved : goal.loop-tries-preserved
loop-tries-preserved g c = record {
  batch = c.loop-tries.invariant.batch;
  head = c.loop-tries.invariant.head;
  sessions = c.loop-tries.invariant.sessions;
  silent = c.in-Err.ensures.unanswered;
  moved = moved_then g.S.Store.stands c.args.self.now.log c.loop-tries.self.log c.serve.new.self c.loop-tries.invariant.moved c.serve.ensures.moved;
  waited = waited_more g.T.Pause.waited c.loop-tries._tries c.loop-tries.self.pause c.again.new.self c.loop-tries.invariant.waited (c.again.ensures.waited (search rules));
}

pub returns-then-not-again-clause-patient : goal.returns-then-not-again-clause-patient
returns-then-not-again-clause-patient g c = λ lost. inl (c.again.ensures.over (search rules))

pub returns-clause-patient : goal.returns-clause-patient
returns-clause-patient g c = λ lost. inr (c.loop-tries._tries, search rules, c.loop-tries.invariant.waited)

pub returns-in_default-clause-lease : goal.returns-in_default-clause-lease
returns-in_default-clause-lease g c = λ known.
    let now = c.seconds.result in
    (now, c.seconds.ensures, ap (λ (s : Sessions). s.lease) c.renew.ensures ∙ ap (λ (s : Sessions). lease_at s.lease s.sent now) c.loop-tries.invariant.sessions)

pub returns-in_default-clause-well : goal.returns-in_default-clause-well
returns-in_default-clause-well g c = λ known. ap (λ (r : ReplicaState HallState). r.poisoned) c.serve.ensures.part ∙ c.in_default.ensures.due.is_well
