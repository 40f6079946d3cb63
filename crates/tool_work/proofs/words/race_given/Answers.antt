use Rattle.std.proofs.Common.{arith}
use Rattle.clap.specs.Words.{found_of, rows_of}
use Rattle.tool_work.proofs.ConfigLemmas.{raced, unless_some}
use Rattle.tool_work.proofs.words.race_given.Goals as goal

pub returns-in_err-threads : goal.returns-in_err-threads
returns-in_err-threads c = unless_some c.from_residual.result _ _ c.from_residual.ensures (λ given h. c.in_err-threads.ensures given.threads (let fits = given.in_range in omega arith) h.threads)

pub returns-in_err-rounds : goal.returns-in_err-rounds
returns-in_err-rounds c = unless_some c.from_residual-in_err-rounds.result _ _ c.from_residual-in_err-rounds.ensures (λ given h. c.in_err-rounds.ensures given.rounds (let fits = given.in_range in omega arith) h.rounds)

pub returns-in_err-seed : goal.returns-in_err-seed
returns-in_err-seed c = unless_some c.from_residual-in_err-seed.result _ _ c.from_residual-in_err-seed.ensures (λ given h. c.in_err-seed.ensures given.seed (let fits = given.in_range in omega arith) h.seed)

pub returns : goal.returns
returns c =
    raced (rows_of (found_of c.args.matches.now)) c.in_ok-threads.threads c.in_ok-rounds.rounds c.in_ok-seed.seed c.new.result
    c.in_ok-threads.ensures c.in_ok-rounds.ensures c.in_ok-seed.ensures c.new.ensures.values c.new.ensures.range
