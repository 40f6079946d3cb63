use Rattle.std.proofs.Common.{rules, ◌≡◌, ◌≤◌, ◌<◌, ℕ, List, ◌+◌, true, false, length, sym, ◌∙◌, arith}
use Rattle.model_asked.specs.rounds.Proposals.{is_taken, free_up_to}
use Rattle.model_asked.proofs.cited.rounds.Numbers.{free_or_taken, others_few, least_is}
use Rattle.model_renaming.proofs.proposal.nth_free.Goals as goal

-- the next number that is looked at has a mark
in_table : (id : ℕ) (view : List (ℕ × ℕ)) (rank left at : ℕ) → length view ≤ 64 → rank ≤ 64 → left + free_up_to (is_taken id view) at ≡ rank → 0 < left → at + 1 < 129
in_table id view rank left at few low count more =
    let a = free_or_taken id view at in
    let b = others_few id view in
    omega arith

pub overflow_add-at : goal.overflow_add-at
overflow_add-at c =
    let a = free_or_taken c.args.id c.args.pairs.now c.loop-left.at in
    let b = others_few c.args.id c.args.pairs.now in
    let d = c.loop-left.invariant.count in
    let e = c.requires.few in
    let f = c.requires.low in
    let l : c.loop-left.at + 1 < 1000 = omega arith in
    search rules

pub loop-left-smaller-then-not-taken-at : goal.loop-left-smaller-then-not-taken-at
loop-left-smaller-then-not-taken-at c =
    let a = free_or_taken c.args.id c.args.pairs.now c.loop-left.at in
    let b = others_few c.args.id c.args.pairs.now in
    let d = c.loop-left.invariant.count in
    let t = c.loop-left-test.true in
    omega arith

pub loop-left-smaller : goal.loop-left-smaller
loop-left-smaller c =
    let a = free_or_taken c.args.id c.args.pairs.now c.loop-left.at in
    let b = others_few c.args.id c.args.pairs.now in
    let d = c.loop-left.invariant.count in
    let t = c.loop-left-test.true in
    omega arith

pub bounds-taken-at : goal.bounds-taken-at
bounds-taken-at c = in_table c.args.id c.args.pairs.now c.args.rank c.loop-left.left c.loop-left.at c.requires.few c.requires.low c.loop-left.invariant.count c.loop-left-test.true

pub loop-left-preserved-then-not-taken-at : goal.loop-left-preserved-then-not-taken-at
loop-left-preserved-then-not-taken-at c =
    let free : is_taken c.args.id c.args.pairs.now (c.loop-left.at + 1) ≡ false = sym (c.taken_numbers-taken.ensures (c.loop-left.at + 1) (in_table c.args.id c.args.pairs.now c.args.rank c.loop-left.left c.loop-left.at c.requires.few c.requires.low c.loop-left.invariant.count c.loop-left-test.true)) ∙ c.if-not-taken-at.true in
    search rules

pub loop-left-preserved : goal.loop-left-preserved
loop-left-preserved c =
    let held : is_taken c.args.id c.args.pairs.now (c.loop-left.at + 1) ≡ true = sym (c.taken_numbers-taken.ensures (c.loop-left.at + 1) (in_table c.args.id c.args.pairs.now c.args.rank c.loop-left.left c.loop-left.at c.requires.few c.requires.low c.loop-left.invariant.count c.loop-left-test.true)) ∙ c.if-not-taken-at.false in
    search rules

pub returns : goal.returns
returns c =
    let a = free_or_taken c.args.id c.args.pairs.now c.loop-left.at in
    let b = others_few c.args.id c.args.pairs.now in
    let d = c.loop-left.invariant.count in
    let t = c.loop-left-test.false in
    sym (least_is (is_taken c.args.id c.args.pairs.now) c.args.rank (c.args.rank + length c.args.pairs.now) c.loop-left.at (omega arith) (omega arith) c.loop-left.invariant.least)
