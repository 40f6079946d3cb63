use Rattle.std.proofs.Common.{ap, codes, true, ◌≡◌, ◌∙◌}
use Rattle.tool_work.proofs.Common.{app_of, app_of_fields, new_app}
use Rattle.clap.specs.Words.{App}
use Rattle.clap.specs.Simple.{on_top}
use Rattle.tool_work.specs.CommandLine.{bare_app}
use Rattle.tool_work.proofs.command_line.slotctl_command.Goals as goal

pub returns : goal.returns
returns c =
    let reported : App = on_top (λ s. record s { has_version = true }) (new_app (codes "slotctl")) in
    let version_is : app_of c.version.result ≡ reported = ap app_of_fields c.version.ensures ∙ ap (on_top (λ s. record s { has_version = true })) c.new.ensures.app in
    let about_is : app_of c.about.result ≡ reported = ap app_of_fields c.about.ensures ∙ version_is in
    let bare_is : app_of c.subcommand_required-program.result ≡ bare_app =
    ap app_of_fields c.subcommand_required-program.ensures ∙ ap (on_top (λ s. record s { subcommand_required = true })) about_is in
    c.with_subcommands.ensures bare_app bare_is
