use Rattle.std.proofs.Common.{arith, sym, ap, ◌≡◌, ◌∙◌, ◌+◌, ◌++◌, ◌∷◌, [], add-one}
use Rattle.words_machine.specs.parts.Seats.{SplitterId, first_seats}
use Rattle.words_machine.specs.parts.SplitterView.{undealt_from}
use Rattle.words_machine.proofs.parts.raw_splitter.RawSplitter.new.Goals as goal

pub deal-requires-clause-undealt : goal.deal-requires-clause-undealt
deal-requires-clause-undealt g c =
    let i = c.loop-number.invariant in
    i.undealt ∙ ap (λ n. (undealt_from c.loop-number.number n, [])) (sym i.seats)

pub deal-requires-clause-range : goal.deal-requires-clause-range
deal-requires-clause-range g c =
    let i = c.loop-number.invariant in
    (omega (arith, c.loop-number-test.true, i.seats), omega (arith, c.loop-number-test.true, i.few))

pub push_reserved-requires : goal.push_reserved-requires
push_reserved-requires g c =
    let i = c.loop-number.invariant in
    omega (arith, c.loop-number-test.true, i.count, i.room)

pub loop-number-preserved : goal.loop-number-preserved
loop-number-preserved g c =
    let i = c.loop-number.invariant in
    let number = c.loop-number.number in
    let splitter : SplitterId = c.in_ok-splitter.splitter in
    record {
      seats = i.seats;
      few = i.few;
      ours = c.deal.ensures.ours;
      undealt = c.deal.ensures.undealt ∙ ap (λ n. (undealt_from (number + 1) n, [])) i.seats;
      dealt = c.push_reserved.ensures.items ∙ (ap (λ xs. xs ++ c.deal.result ∷ []) i.dealt ∙ (ap (λ x. first_seats splitter number ++ x ∷ []) c.deal.ensures.seat ∙ sym (ap (first_seats splitter) (add-one number))));
      count = omega (arith, c.push_reserved.ensures.len, i.count);
      room = omega (arith, c.push_reserved.ensures.capacity, i.room);
    }

pub returns-clause-splitter : goal.returns-clause-splitter
returns-clause-splitter g c = c.loop-number.invariant.seats

pub returns-clause-seats : goal.returns-clause-seats
returns-clause-seats g c =
    let all : c.loop-number.number ≡ c.args.seats = omega (arith, c.loop-number-test.false, c.loop-number.auto.number-end) in
    c.loop-number.invariant.dealt ∙ ap (first_seats c.in_ok-splitter.splitter) all
