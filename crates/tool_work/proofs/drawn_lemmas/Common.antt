-- The names that several proofs of this crate cite, passed on from one place. Declares nothing.
pub use Rattle.std.specs.Io.KnownBytes.{Appends}
pub use Rattle.std.proofs.lemmas.Result.{on_ok_weaker, on_err_weaker}
pub use Rattle.rand_pcg.specs.Lcg.{Lcg}
pub use Rattle.rand_pcg.specs.Pcg.{pcg32}
pub use Rattle.model_asked.specs.declared.config.Config.{Config}
pub use Rattle.model_asked.specs.declared.event.Event.{Event}
pub use Rattle.model_asked.specs.declared.event.Event.TheVariants.{Begin, Step}
pub use Rattle.text_lines.specs.UnderWay.{IsUnderWay, GoesFrom}
pub use Rattle.text_lines.specs.Events.{event_words, event_lines}
pub use Rattle.text_lines.specs.Written.{HasPartOf}
pub use Rattle.tool_work.specs.declared.drawn.tally.Tally.{Tally}
pub use Rattle.tool_work.specs.drawn.Schedule.{begins_from, opened, schedule, steps_drawn}
pub use Rattle.tool_work.specs.drawn.Runs.{PlaysFrom, HasDrawn, IsReportedOf}
