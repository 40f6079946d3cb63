use Rattle.text_player.specs.Played.{reading, writing}
use Rattle.text_player.specs.lemmas.PlayedProofs.{played_weaker}
use Rattle.text_player.specs.Runs.{IsRunTo, CanRun}
use Rattle.text_player.specs.Texts.{replies_of}
use Rattle.text_worlds.specs.Transcripts.{IsTranscriptOf}
use Rattle.text_worlds.proofs.TranscriptLemmas.{transcript_of_run}
use Rattle.text_worlds.proofs.playing.play_in.Goals as goal

pub play_on-requires-clause-knows : goal.play_on-requires-clause-knows
play_on-requires-clause-knows g c = g.met.D.World.meant c.args.config.world c.requires.serves

pub returns : goal.returns
returns g c =
    let config = c.args.config in
    let may = g.D.Service.may in
    let world = c.in_ok-world.world in
    let fresh = c.in_ok-world.ensures.fresh in
    let IsTranscript = IsTranscriptOf (g.D.World.IsRunIn config) config.m (g.D.World.fresh config) may in
    let transcript = transcript_of_run (g.D.World.IsRunIn config) config.m (g.D.World.fresh config) may (g.met.D.World.lawful config) (g.met.D.World.tells config) in
    played_weaker replies_of (IsRunTo may world c.play_on.new.world) (CanRun may world) IsTranscript IsTranscript
    (λ ts run. transcript world c.play_on.new.world ts fresh run)
    (λ ts run. transcript world run.0 ts fresh run.1)
    config.world (reading g.R.Read.remaining g.R.Source.calls g.R.Source.failed c.args.reader.now c.play_on.new.reader) (writing g.W.Write.contents g.W.Sink.failed c.args.writer.now c.play_on.new.writer)
    c.play_on.result c.play_on.ensures.played
