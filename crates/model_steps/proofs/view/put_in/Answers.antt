use Rattle.std.proofs.Common.{◌≡◌, ◌+◌, drop, set, length, ◌∙◌, arith, add-zero}
use Rattle.std.proofs.lemmas.List.{length-set}
use Rattle.model_steps.proofs.cited.ViewLemmas.{put_equal, put_below, put_above, rest_set, rest_kept, drop_further, take_cut}
use Rattle.model_steps.proofs.view.put_in.Goals as goal
use Rattle.model_steps.proofs.view.put_in.Goals.{Then-carried-here-2, then-carried-here+else-carried-here-2, else-carried-here}

-- what stands behind the pair that was put
rest : (c : Then-carried-here-2) → drop (c.loop-i.i + 1) (set c.loop-i.pairs c.loop-i.i c.loop-i.carried) ≡ drop (c.loop-i.i + 1) c.args.pairs.now
rest c = rest_set c.loop-i.pairs c.args.pairs.now c.args.len c.loop-i.i c.loop-i.carried c.args.pair (omega arith) c.requires.room c.loop-i.auto.pairs c.loop-i.invariant.done c.loop-i.invariant.rest

same_length : (c : Then-carried-here-2) → length (set c.loop-i.pairs c.loop-i.i c.loop-i.carried) ≡ length c.args.pairs.now
same_length c = length-set c.loop-i.pairs c.loop-i.i c.loop-i.carried ∙ c.loop-i.auto.pairs

pub returns-then-carried-here-2-clause-pairs : goal.returns-then-carried-here-2-clause-pairs
returns-then-carried-here-2-clause-pairs c =
    rw add-zero (take_cut (c.loop-i.i + 1) c.args.len (set c.loop-i.pairs c.loop-i.i c.loop-i.carried) c.args.pairs.now (same_length c) (omega arith) (rest c)
    ∙ put_equal c.loop-i.pairs c.args.pairs.now c.args.len c.loop-i.i c.loop-i.carried c.args.pair (omega arith) c.requires.room c.loop-i.auto.pairs c.loop-i.invariant.done c.loop-i.invariant.rest c.if-carried-here-2.true)

pub returns-then-carried-here-2-clause-rest : goal.returns-then-carried-here-2-clause-rest
returns-then-carried-here-2-clause-rest c = drop_further (c.loop-i.i + 1) (c.args.len + 1) (set c.loop-i.pairs c.loop-i.i c.loop-i.carried) c.args.pairs.now (same_length c) (omega arith) (rest c)

pub returns-then-carried-here-2-clause-same : goal.returns-then-carried-here-2-clause-same
returns-then-carried-here-2-clause-same c = λ _. drop_further (c.loop-i.i + 1) c.args.len (set c.loop-i.pairs c.loop-i.i c.loop-i.carried) c.args.pairs.now (same_length c) (omega arith) (rest c)

pub loop-i-preserved : goal.loop-i-preserved
loop-i-preserved c = elim c.if-carried-here.branch [
  | then-carried-here+else-carried-here-2 w ↦ rw (w.pairs-is, w.carried-is) (record {
    done = put_below c.loop-i.pairs c.args.pairs.now c.args.len c.loop-i.i c.loop-i.carried c.args.pair (omega arith) c.requires.room c.loop-i.auto.pairs c.loop-i.invariant.done c.loop-i.invariant.rest c.requires.rising (omega arith);
    rest = rest_set c.loop-i.pairs c.args.pairs.now c.args.len c.loop-i.i c.loop-i.carried c.args.pair (omega arith) c.requires.room c.loop-i.auto.pairs c.loop-i.invariant.done c.loop-i.invariant.rest;
  })
  | else-carried-here w ↦ rw (w.pairs-is, w.carried-is) (record {
    done = put_above c.loop-i.pairs c.args.pairs.now c.args.len c.loop-i.i c.loop-i.carried c.args.pair (omega arith) c.requires.room c.loop-i.auto.pairs c.loop-i.invariant.done c.loop-i.invariant.rest (omega arith);
    rest = rest_kept c.loop-i.pairs c.args.pairs.now c.args.len c.loop-i.i c.loop-i.carried c.args.pair (omega arith) c.requires.room c.loop-i.auto.pairs c.loop-i.invariant.done c.loop-i.invariant.rest;
  })
]
