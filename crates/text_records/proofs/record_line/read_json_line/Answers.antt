use Rattle.text_records.proofs.Values.{json_some, json_none, line_said}
use Rattle.serde_json.specs.View.{view}
use Rattle.text_records.proofs.record_line.read_json_line.Goals as goal

pub returns-in_default : goal.returns-in_default
returns-in_default c = λ l e. json_none c.args.bytes.now c.in_ok-value.field-0 c.in_default.is c.in_ok-value.ensures e.value e.json

pub returns : goal.returns
returns c = line_said c.args.kind c.args.version c.args.bytes.now (view c.in-Some.value) c.line_of.result c.requires (json_some c.args.bytes.now c.in_ok-value.field-0 c.in-Some.value c.in-Some.is c.in_ok-value.ensures) c.line_of.ensures
