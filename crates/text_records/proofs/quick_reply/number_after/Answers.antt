use Rattle.std.proofs.lemmas.Option.{IfSome_then}
use Rattle.text_records.proofs.quick_reply.number_after.Goals as goal

pub returns : goal.returns
returns c = IfSome_then c.last_number.result c.last_number.ensures (λ n s. record { rest = c.in_ok-after_front.field-0.now; split = c.in_ok-after_front.ensures.rest; number = s })
