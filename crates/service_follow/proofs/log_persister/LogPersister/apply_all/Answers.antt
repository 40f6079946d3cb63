-- Fewer entries were applied than there are places, or all places are used.
use Rattle.std.proofs.Common.{◌≡◌, ◌<◌, ℕ, ◌+◌, inl, inr, refl, arith}
use Rattle.std.proofs.lemmas.Bool.{cases_lt}
use Rattle.service_follow.specs.Hosted.{IsAtEnd}
use Rattle.service_follow.proofs.Moves.{moved_self, moved_then}
use Rattle.service_follow.proofs.log_persister.LogPersister.apply_all.Goals as goal
use Rattle.service_follow.proofs.log_persister.LogPersister.apply_all.Goals.{else-loop-test, then-loop-test+in-Err+in_default-of_cause+then-not-again}

at_end : (lacks : ℕ → Type 0) (from n place : ℕ) → place ≡ from + n → (n < 10000000000000000 → IsAtEnd lacks place) → IsAtEnd lacks place
at_end lacks from n place count stopped =
    elim (cases_lt n 10000000000000000) [
      | inl fewer ↦ stopped fewer
      | inr all ↦ inl (omega (arith, count, all))
    ]

pub returns-in_default-clause-all : goal.returns-in_default-clause-all
returns-in_default-clause-all g c =
    at_end (g.S.Store.lacks c.catch_up.new.self.store) c.loop.self.log.replica.place c.in_default.field-0 c.catch_up.new.self.replica.place c.in_default.ensures.count c.in_default.ensures.stopped

pub loop-init : goal.loop-init
loop-init g c = record { moved = moved_self g.S.Store.stands c.args.self.now.log; terms = refl; own = (refl, refl, refl, refl) }

pub loop-preserved : goal.loop-preserved
loop-preserved g c = record {
  moved = moved_then g.S.Store.stands c.args.self.now.log c.loop.self.log c.catch_up.new.self c.loop.invariant.moved c.catch_up.ensures.moved;
  terms = c.loop.invariant.terms;
  own = c.loop.invariant.own;
}

pub returns-clause-moved : goal.returns-clause-moved
returns-clause-moved g c = elim c.loop-test.branch [
  | else-loop-test w ↦ rw w.self-is c.loop.invariant.moved
  | then-loop-test+in-Err+in_default-of_cause+then-not-again w ↦ rw w.self-is (moved_then g.S.Store.stands c.args.self.now.log c.loop.self.log w.catch_up.new.self c.loop.invariant.moved w.catch_up.ensures.moved)
]

pub returns-clause-own : goal.returns-clause-own
returns-clause-own g c = elim c.loop-test.branch [
  | else-loop-test w ↦ rw w.self-is c.loop.invariant.own
  | then-loop-test+in-Err+in_default-of_cause+then-not-again w ↦ rw w.self-is c.loop.invariant.own
]
