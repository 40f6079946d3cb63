use Rattle.clap.specs.Words.{found_of, rows_of}
use Rattle.tool_work.proofs.ConfigLemmas.{played, unless_some}
use Rattle.tool_work.proofs.words.play_given.Goals as goal

pub returns-in_err-config : goal.returns-in_err-config
returns-in_err-config c = unless_some c.from_residual.result _ _ c.from_residual.ensures (λ given h. c.in_err-config.ensures given.config h.config)

pub returns : goal.returns
returns c = played (rows_of (found_of c.args.matches.now)) c.in_ok-config.config c.flag_given.result c.new.result c.in_ok-config.ensures c.flag_given.ensures c.new.ensures.values c.new.ensures.written
