use Rattle.std.proofs.Common.{[], ◌∷◌, ◌++◌}
use Rattle.text_lines.specs.Events.{event_words}
use Rattle.tool_work.proofs.drawn_lemmas.ResultLemmas.{handed_on}
use Rattle.tool_work.proofs.drawn.schedule.put_line.Goals as goal

pub returns-in_err-make_room-clause-within : goal.returns-in_err-make_room-clause-within
returns-in_err-make_room-clause-within g c =
    let fault = handed_on c.from_residual.result c.in_err-make_room.field-0.0 c.from_residual.ensures.1 in
    rw fault (λ text rest before way. c.in_err-make_room.ensures.within text ((event_words c.args.event ++ 10 ∷ []) ++ rest) before way)
