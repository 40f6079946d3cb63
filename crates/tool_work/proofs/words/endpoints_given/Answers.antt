use Rattle.std.proofs.Common.{arith}
use Rattle.clap.specs.Words.{found_of, rows_of}
use Rattle.tool_work.proofs.ConfigLemmas.{unless_some}
use Rattle.tool_work.proofs.HostLemmas.{reached}
use Rattle.tool_work.proofs.words.endpoints_given.Goals as goal

pub returns-in_err-address : goal.returns-in_err-address
returns-in_err-address c = unless_some c.from_residual.result _ _ c.from_residual.ensures (λ e h. c.in_err-address.ensures e.address h.address)

pub returns-in_err-mode : goal.returns-in_err-mode
returns-in_err-mode c = unless_some c.from_residual-in_err-mode.result _ _ c.from_residual-in_err-mode.ensures (λ e h. c.in_err-mode.ensures e.mode (let fits = e.in_range in omega arith) h.mode)

pub returns-in_err-metrics_address : goal.returns-in_err-metrics_address
returns-in_err-metrics_address c = unless_some c.from_residual-in_err-metrics_address.result _ _ c.from_residual-in_err-metrics_address.ensures (λ e h. c.in_err-metrics_address.ensures e.metrics_address h.metrics_address)

pub returns : goal.returns
returns c =
    reached (rows_of (found_of c.args.matches.now)) c.in_ok-address.address c.in_ok-metrics_address.metrics_address c.port_given-port.result c.port_given-metrics.result c.text_given-unix.result c.in_ok-mode.mode c.text_given-admin.result c.flag_given-owners.result c.new.result
    c.in_ok-address.ensures c.port_given-port.ensures c.text_given-unix.ensures c.in_ok-mode.ensures c.text_given-admin.ensures c.flag_given-owners.ensures c.in_ok-metrics_address.ensures c.port_given-metrics.ensures
    c.new.ensures.clients c.new.ensures.owners c.new.ensures.watchers c.new.ensures.range
