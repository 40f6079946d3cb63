use Rattle.text_player.proofs.player.Player.new.Goals as goal

pub returns : goal.returns
returns g c =
    let silent = c.in_ok-responder.ensures in
    record { kind_is = silent.0; line = silent.1.line_is; replies = c.in_ok-replies.ensures; counts = silent.1.counts; over = silent.1.over_is }
