use Rattle.std.proofs.Common.{arith}
use Rattle.clap.specs.Words.{found_of, rows_of}
use Rattle.tool_work.proofs.ConfigLemmas.{served, unless_some}
use Rattle.tool_work.proofs.words.serve_given.Goals as goal

pub returns-in_err-config : goal.returns-in_err-config
returns-in_err-config c = unless_some c.from_residual.result _ _ c.from_residual.ensures (λ given h. c.in_err-config.ensures given.config h.config)

pub returns-in_err-port : goal.returns-in_err-port
returns-in_err-port c = unless_some c.from_residual-in_err-port.result _ _ c.from_residual-in_err-port.ensures (λ given h. c.in_err-port.ensures given.port (let fits = given.in_range in omega arith) h.port)

pub returns-in_err-workers : goal.returns-in_err-workers
returns-in_err-workers c = unless_some c.from_residual-in_err-workers.result _ _ c.from_residual-in_err-workers.ensures (λ given h. c.in_err-workers.ensures given.workers (let fits = given.in_range in omega arith) h.workers)

pub returns-in_err-count : goal.returns-in_err-count
returns-in_err-count c = unless_some c.from_residual-in_err-count.result _ _ c.from_residual-in_err-count.ensures (λ given h. c.in_err-count.ensures given.count (let fits = given.in_range in omega arith) h.count)

pub returns : goal.returns
returns c =
    served (rows_of (found_of c.args.matches.now)) c.in_ok-config.config c.in_ok-port.port c.in_ok-workers.workers c.in_ok-count.count c.new.result
    c.in_ok-config.ensures c.in_ok-port.ensures c.in_ok-workers.ensures c.in_ok-count.ensures c.new.ensures.values c.new.ensures.range
