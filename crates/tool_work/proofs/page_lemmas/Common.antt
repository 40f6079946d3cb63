-- The names that several proofs of this crate cite, passed on from one place. Declares nothing.
pub use Rattle.model_asked.specs.declared.config.Config.{Config}
pub use Rattle.text_player.specs.Records.{header_line}
pub use Rattle.model_pool.specs.declared.competitor.Competitor.{Competitor}
pub use Rattle.text_worlds.specs.desk.DeskValue.{DeskValue}
pub use Rattle.text_worlds.specs.declared.desk.coming.Coming.{Coming}
pub use Rattle.text_records.specs.declared.line.Line.{Line}
pub use Rattle.tool_work.specs.declared.page.stretch.Stretch.{Stretch}
pub use Rattle.tool_work.specs.declared.page.sheet.Sheet.{Sheet}
pub use Rattle.tool_work.specs.declared.page.form.Form.{Form}
pub use Rattle.tool_work.specs.declared.page.form.Form.TheVariants.{Data, Item}
pub use Rattle.tool_work.specs.page.Access.{with_reached}
pub use Rattle.tool_work.specs.page.Row.{access_in, row_of, done_at, desk_next, reached_in, rows, replayed}
pub use Rattle.tool_work.specs.page.State.{name_fact, state, stranger}
pub use Rattle.tool_work.specs.page.Page.{closing_data, ending, page_between, page_head, page_middle, page_tail, whole_before}
pub use Rattle.tool_work.specs.page.Still.{begun_in, item_of}
pub use Rattle.tool_work.specs.declared.page.done.Done.{Done}
