use Rattle.text_player.proofs.playing.play_on.Goals as goal

-- the kind is that of the player
pub returns-clause-played : goal.returns-clause-played
returns-clause-played g c = rw c.in_ok-player.ensures.fresh.kind_is at c.run.ensures.played

pub returns-clause-unchanged : goal.returns-clause-unchanged
returns-clause-unchanged g c = λ e. absurd (c.run.ensures.never e)
