use Rattle.std.proofs.Common.{rules}
use Rattle.std.specs.Option.{option_copied}
use Rattle.model_asked.specs.declared.event.Event.TheVariants.{Put}
use Rattle.text_lines.specs.WordsLeft.{words_left}
use Rattle.text_lines.proofs.WordLemmas.{event_by_two, owner_by_one}
use Rattle.text_lines.proofs.parse.slot_command_of.Goals as goal

pub returns-in_err-id : goal.returns-in_err-id
returns-in_err-id c = search (rules, event_by_two Put (words_left (option_copied c.args.others)))

pub returns-in_err-only_number-3 : goal.returns-in_err-only_number-3
returns-in_err-only_number-3 c = search (rules, owner_by_one (words_left (option_copied c.args.others)))
