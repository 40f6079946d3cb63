use Rattle.std.proofs.Common.{arith}
use Rattle.clap.specs.Words.{found_of, rows_of}
use Rattle.tool_work.proofs.ConfigLemmas.{most_fits, size_fits, unless_some}
use Rattle.tool_work.proofs.HostLemmas.{hall_made}
use Rattle.tool_work.proofs.words.hall_given.Goals as goal

pub returns-in_err-asked : goal.returns-in_err-asked
returns-in_err-asked c = unless_some c.from_residual.result _ _ c.from_residual.ensures (λ given h. c.in_err-asked.ensures h.asked h.names)

pub returns-in_err-m : goal.returns-in_err-m
returns-in_err-m c = unless_some c.from_residual-in_err-m.result _ _ c.from_residual-in_err-m.ensures (λ given h. c.in_err-m.ensures given.m (most_fits given) h.m)

pub returns-in_err-k : goal.returns-in_err-k
returns-in_err-k c = unless_some c.from_residual-in_err-k.result _ _ c.from_residual-in_err-k.ensures (λ given h. c.in_err-k.ensures given.k (size_fits given) h.k)

pub returns-in_err-limit : goal.returns-in_err-limit
returns-in_err-limit c = unless_some c.from_residual-in_err-limit.result _ _ c.from_residual-in_err-limit.ensures (λ given h. c.in_err-limit.ensures given.limit (let fits = given.in_range in omega arith) h.limit)

pub returns : goal.returns
returns c =
    rw c.ok.ensures.value (hall_made (rows_of (found_of c.args.matches.now)) c.in_ok-asked.asked c.hall_world.result c.in_ok-m.m c.in_ok-k.k c.in_ok-limit.limit c.new.result
    c.in_ok-asked.ensures c.hall_world.ensures c.in_ok-m.ensures c.in_ok-k.ensures c.in_ok-limit.ensures c.new.ensures.ok c.new.ensures.range)
