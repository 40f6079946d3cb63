use Rattle.std.proofs.Common.{Some, sym, ap, ◌∙◌, option_map}
use Rattle.text_records.specs.Json.{count_members}
use Rattle.text_records.proofs.JsonLemmas.{count-members_view}
use Rattle.text_records.proofs.object.keys.Goals as goal

pub returns-in-Some : goal.returns-in-Some
returns-in-Some c = ap Some (c.len.ensures.len ∙ sym (count-members_view c.in-Some.members.now.entries)) ∙ ap (option_map count_members) c.in-Some.ensures
