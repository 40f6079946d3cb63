use Rattle.std.proofs.Common.{ap, ap₂, sym, ◌∙◌}
use Rattle.std.proofs.lemmas.List.Sums.{fold_more}
use Rattle.clap.specs.Words.{App, with_subcommand}
use Rattle.tool_work.proofs.Common.{app_of}
use Rattle.tool_work.specs.CommandLine.{with_entry}
use Rattle.tool_work.proofs.command_line.with_subcommands.Goals as goal

pub loop-subcommand-preserved : goal.loop-subcommand-preserved
loop-subcommand-preserved c =
    let is = c.in_ok-command.ensures in
    let more = fold_more with_entry (app_of c.args.program) c.args.subcommands.now c.loop-subcommand.subcommand-index _ c.loop-subcommand-test.true in
    c.in_ok-program.ensures.shape is.local ∙ ap₂ with_subcommand c.loop-subcommand.invariant (ap (λ (a : App). a.top) (is.shape ∙ c.manual.ensures)) ∙ sym more
