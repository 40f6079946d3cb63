use Rattle.std.proofs.Common.{arith}
use Rattle.clap.specs.Words.{found_of, rows_of}
use Rattle.tool_work.proofs.ConfigLemmas.{unless_some}
use Rattle.tool_work.proofs.HostLemmas.{hosted}
use Rattle.tool_work.proofs.words.host_given.Goals as goal

pub returns-in_err-config : goal.returns-in_err-config
returns-in_err-config c = unless_some c.from_residual.result _ _ c.from_residual.ensures (λ given h. c.in_err-config.ensures given.config h.config)

pub returns-in_err-admissions : goal.returns-in_err-admissions
returns-in_err-admissions c = unless_some c.from_residual-in_err-admissions.result _ _ c.from_residual-in_err-admissions.ensures (λ given h. c.in_err-admissions.ensures given.admissions h.admissions)

pub returns-in_err-endpoints : goal.returns-in_err-endpoints
returns-in_err-endpoints c = unless_some c.from_residual-in_err-endpoints.result _ _ c.from_residual-in_err-endpoints.ensures (λ given h. c.in_err-endpoints.ensures given.endpoints h.endpoints)

pub returns-in_err-clients : goal.returns-in_err-clients
returns-in_err-clients c = unless_some c.from_residual-in_err-clients.result _ _ c.from_residual-in_err-clients.ensures (λ given h. c.in_err-clients.ensures given.clients (let fits = given.in_range in omega arith) h.clients)

pub returns-in_err-holding : goal.returns-in_err-holding
returns-in_err-holding c = unless_some c.from_residual-in_err-holding.result _ _ c.from_residual-in_err-holding.ensures (λ given h. c.in_err-holding.ensures given.holding h.holding)

pub returns-in_err-keeping : goal.returns-in_err-keeping
returns-in_err-keeping c = unless_some c.from_residual-in_err-keeping.result _ _ c.from_residual-in_err-keeping.ensures (λ given h. c.in_err-keeping.ensures given.keeping h.keeping)

pub returns-in_err-stores_reads : goal.returns-in_err-stores_reads
returns-in_err-stores_reads c = unless_some c.from_residual-in_err-stores_reads.result _ _ c.from_residual-in_err-stores_reads.ensures (λ given h. c.in_err-stores_reads.ensures given.stores_reads h.reads)

pub returns : goal.returns
returns c =
    hosted (rows_of (found_of c.args.matches.now)) c.in_ok-config.config c.in_ok-admissions.admissions c.in_ok-endpoints.endpoints c.in_ok-clients.clients c.idle_given-idle.result c.in_ok-holding.holding c.in_ok-stores_reads.stores_reads c.in_ok-keeping.keeping c.flag_given-verbose.result c.text_given-log.result c.text_given-pools.result c.new.result
    c.in_ok-config.ensures c.in_ok-admissions.ensures c.in_ok-endpoints.ensures c.in_ok-clients.ensures c.idle_given-idle.ensures c.in_ok-holding.ensures c.in_ok-stores_reads.ensures c.in_ok-keeping.ensures c.flag_given-verbose.ensures c.text_given-log.ensures c.text_given-pools.ensures c.new.ensures.sizes c.new.ensures.others c.new.ensures.files c.new.ensures.admissions c.new.ensures.range (omega arith)
