use Rattle.std.proofs.Common.{refl, arith}
use Rattle.text_player.proofs.responder.Responder.new.Goals as goal

pub returns : goal.returns
returns g c =
    let e = c.new-2.ensures in
    (refl, record { asked_is = refl; line_is = c.in_ok-line.ensures; over_is = refl; counts = record { lines = e.0; accepted = e.1; refused = e.2; bad = e.3; all = omega (arith, e.0, e.1, e.2, e.3) } })
