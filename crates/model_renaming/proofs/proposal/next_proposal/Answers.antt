use Rattle.std.proofs.Common.{◌≡◌, ◌≤◌, arith, length}
use Rattle.model_asked.specs.rounds.Proposals.{rank}
use Rattle.model_asked.proofs.cited.rounds.Numbers.{rank_few}
use Rattle.model_renaming.proofs.proposal.next_proposal.Goals as goal

pub nth_free-requires-clause-few : goal.nth_free-requires-clause-few
nth_free-requires-clause-few c = rw c.pairs-pairs.ensures.pairs c.pairs-pairs.ensures.few

pub nth_free-requires-clause-low : goal.nth_free-requires-clause-low
nth_free-requires-clause-low c =
    let few : length c.pairs-pairs.result.now ≤ 64 = rw c.pairs-pairs.ensures.pairs c.pairs-pairs.ensures.few in
    let r = rank_few c.args.id c.pairs-pairs.result.now in
    let e : c.rank.result ≡ rank c.args.id c.pairs-pairs.result.now = c.rank.ensures in
    omega arith
