-- What is played in a world of a kind is a transcript of the config's world.
use Rattle.std.proofs.Common.{inl, inr, sym, subst}
use Rattle.text_player.specs.Played.{IsPlayedIn, reading, writing}
use Rattle.model_asked.specs.declared.kind.WorldKind.{WorldKind}
use Rattle.text_worlds.specs.IsTranscript.{IsTranscriptByKind}
use Rattle.text_worlds.proofs.playing.play.Goals as goal

pub returns-in-Splitter-clause-every : goal.returns-in-Splitter-clause-every
returns-in-Splitter-clause-every g c =
    let config = c.args.config in
    subst (λ (kind : WorldKind). IsPlayedIn (IsTranscriptByKind kind config) config.world (reading g.R.Read.remaining g.R.Source.calls g.R.Source.failed c.args.reader.now c.play_in.new.reader)
    (writing g.W.Write.contents g.W.Sink.failed c.args.writer.now c.play_in.new.writer) c.play_in.result) (sym c.in-Splitter.is) c.play_in.ensures

pub returns-in-Grid-clause-every : goal.returns-in-Grid-clause-every
returns-in-Grid-clause-every g c =
    let config = c.args.config in
    subst (λ (kind : WorldKind). IsPlayedIn (IsTranscriptByKind kind config) config.world (reading g.R.Read.remaining g.R.Source.calls g.R.Source.failed c.args.reader.now c.play_in-in-Grid.new.reader)
    (writing g.W.Write.contents g.W.Sink.failed c.args.writer.now c.play_in-in-Grid.new.writer) c.play_in-in-Grid.result) (sym c.in-Grid.is) c.play_in-in-Grid.ensures

pub returns-in-Rename-clause-every : goal.returns-in-Rename-clause-every
returns-in-Rename-clause-every g c =
    let config = c.args.config in
    let Played : WorldKind → Type 0 = λ (kind : WorldKind). IsPlayedIn (IsTranscriptByKind kind config) config.world (reading g.R.Read.remaining g.R.Source.calls g.R.Source.failed c.args.reader.now c.play_in-in-Rename.new.reader)
    (writing g.W.Write.contents g.W.Sink.failed c.args.writer.now c.play_in-in-Rename.new.writer) c.play_in-in-Rename.result in
    elim c.in-Rename.is as (λ _. Played config.world) [
      | inl is ↦ subst Played (sym is) c.play_in-in-Rename.ensures
      | inr (inl is) ↦ subst Played (sym is) c.play_in-in-Rename.ensures
      | inr (inr is) ↦ subst Played (sym is) c.play_in-in-Rename.ensures
    ]
