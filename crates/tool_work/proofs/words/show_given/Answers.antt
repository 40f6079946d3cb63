use Rattle.std.proofs.Common.{arith}
use Rattle.clap.specs.Words.{found_of, rows_of}
use Rattle.tool_work.proofs.ConfigLemmas.{shown, unless_some}
use Rattle.tool_work.proofs.words.show_given.Goals as goal

pub returns-in_err-from : goal.returns-in_err-from
returns-in_err-from c = unless_some c.from_residual.result _ _ c.from_residual.ensures (λ given h. c.in_err-from.ensures given.from (let fits = given.in_range in omega arith) h.from)

pub returns-in_err-count : goal.returns-in_err-count
returns-in_err-count c = unless_some c.from_residual-in_err-count.result _ _ c.from_residual-in_err-count.ensures (λ given h. c.in_err-count.ensures given.count (let fits = given.in_range in omega arith) h.count)

pub returns : goal.returns
returns c =
    shown (rows_of (found_of c.args.matches.now)) c.in_ok-from.from c.in_ok-count.count c.new.result c.in_ok-from.ensures c.in_ok-count.ensures c.new.ensures.values c.new.ensures.range
