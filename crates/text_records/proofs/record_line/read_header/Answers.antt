use Rattle.text_records.proofs.Values.{json_some, header_said}
use Rattle.serde_json.specs.View.{view}
use Rattle.text_records.proofs.record_line.read_header.Goals as goal

pub returns : goal.returns
returns c = header_said c.args.bytes.now (view c.in-Some.value) c.header.result c.if-bytes-gt-LINE_MOST.false (json_some c.args.bytes.now c.in_ok-value.field-0 c.in-Some.value c.in-Some.is c.in_ok-value.ensures) c.header.ensures
