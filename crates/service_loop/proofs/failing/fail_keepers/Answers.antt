use Rattle.std.proofs.Common.{◌≡◌, ℕ, true, inl, inr, get_or, None, sym, subst, arith}
use Rattle.std.proofs.lemmas.Bool.{cases_lt}
use Rattle.std.proofs.lemmas.List.{get_or_past}
use Rattle.model_pool.specs.stays.Stays.{keeps_any}
use Rattle.service_loop.proofs.Common.{cases_eq, seats_of}
use Rattle.service_loop.proofs.SendingLemmas.{unsent_more, unsent_none}
use Rattle.service_loop.specs.Attending.{number_at}
use Rattle.service_loop.specs.Keepers.{SeatFails}
use Rattle.service_loop.proofs.failing.fail_keepers.Goals as goal

pub loop-key-init : goal.loop-key-init
loop-key-init g c = record { fail = λ i below. absurd (omega (arith, below)); unsent = unsent_none (seats_of g.S.Stream.left g.S.Stream.gone) c.args.seats.now }

pub loop-key-preserved : goal.loop-key-preserved
loop-key-preserved g c =
    let i = c.loop-key.invariant in
    let e = c.in_ok-fail_keeper_at.ensures in
    let key = c.loop-key.key in
    record {
      fail = λ j below keeps. elim (cases_eq j key) as (λ _. SeatFails (get_or c.fail_keeper_at.new.seats j None)) [
        | inl same ↦ subst (λ (k : ℕ). SeatFails (get_or c.fail_keeper_at.new.seats k None)) (sym same)
            (e.fails (subst (λ (k : ℕ). keeps_any (number_at c.args.numbers.now k) c.args.stays.now ≡ true) same keeps))
        | inr other ↦ subst (λ x. SeatFails x) (sym (e.others j other)) (i.fail j (omega (arith, below, other)) keeps)
      ];
      unsent = unsent_more (seats_of g.S.Stream.left g.S.Stream.gone) c.args.seats.now c.loop-key.seats c.fail_keeper_at.new.seats i.unsent e.unsent;
    }

pub loop-key-smaller : goal.loop-key-smaller
loop-key-smaller g c = omega (arith, c.loop-key-test.true, c.in_ok-fail_keeper_at.ensures.many)

pub returns-clause-fail : goal.returns-clause-fail
returns-clause-fail g c = λ i keeps. elim (cases_lt i c.loop-key.key) as (λ _. SeatFails (get_or c.loop-key.seats i None)) [
  | inl below ↦ c.loop-key.invariant.fail i below keeps
  | inr past ↦ subst (λ x. SeatFails x) (sym (get_or_past c.loop-key.seats i None (let end = c.loop-key-test.false in omega (arith, past, end)))) tt
]

pub returns-clause-unsent : goal.returns-clause-unsent
returns-clause-unsent g c = c.loop-key.invariant.unsent
