use Rattle.std.proofs.Common.{ap, ap₂, sym, ◌||◌, ◌∙◌}
use Rattle.std.proofs.lemmas.List.Sums.{fold_more}
use Rattle.tool_work.proofs.Common.{app_of_fields, new_app, with_rule}
use Rattle.tool_work.specs.CommandLine.{with_choice}
use Rattle.tool_work.proofs.command_line.command_of.Goals as goal

pub loop-choice-init : goal.loop-choice-init
loop-choice-init c = record {
  shape = ap app_of_fields c.after_help-command.ensures ∙ ap app_of_fields c.about.ensures ∙ c.new.ensures.app;
  local = ap (λ f. f.has_globals) c.after_help-command.ensures ∙ ap (λ f. f.has_globals) c.about.ensures ∙ c.new.ensures.local;
}

pub loop-choice-preserved : goal.loop-choice-preserved
loop-choice-preserved c =
    let was = c.loop-choice.invariant in
    let option = c.option_of.ensures in
    let more = fold_more with_choice (new_app c.args.manual.name.now) c.args.manual.choices.now c.loop-choice.choice-index _ c.loop-choice-test.true in
    record {
      shape = c.in_ok-command.ensures.shape option.local ∙ ap₂ with_rule was.shape option.rule ∙ sym more;
      local = c.in_ok-command.ensures.globals ∙ ap₂ ◌||◌ was.local option.local;
    }
