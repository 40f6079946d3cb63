-- The names that several proofs of this crate cite, passed on from one place. Declares nothing.
pub use Rattle.std.proofs.lemmas.List.{append-nil, take-append-drop}
pub use Rattle.std.proofs.lemmas.Grind.{flat_map-append}
pub use Rattle.std.proofs.lemmas.Option.{same_Some}
pub use Rattle.std.specs.List.{list_all}
pub use Rattle.std.proofs.lemmas.Bool.Decides.{nat_tests}
pub use Rattle.std.proofs.lemmas.Bool.{and_parts}
pub use Rattle.model_asked.specs.declared.exchange.Exchange.{Exchange}
pub use Rattle.model_asked.specs.declared.config.Config.{Config}
pub use Rattle.model_asked.specs.declared.event.Event.{Event}
pub use Rattle.model_asked.specs.Replies.{ShownReply, with_view}
pub use Rattle.text_lines.specs.Lines.{IsCutOnce, has_no_lf, with_ends}
pub use Rattle.text_player.specs.Records.{exchange_line, header_line}
pub use Rattle.text_worlds.specs.desk.DeskCalls.{exchange}
pub use Rattle.service_hall.specs.HallState.{HallState}
pub use Rattle.service_hall.specs.Compactions.{IsCompacted}
pub use Rattle.service_journal.specs.DiskState.{DiskState}
pub use Rattle.service_journal.specs.Disks.{longer_by, synced_all, replaced_by}
pub use Rattle.service_journal.specs.WriteAheadState.{WriteAheadState}
pub use Rattle.service_journal.specs.WriteAheads.{record_of_hall, waiting_of, write_ahead_of, hall_after_first}
pub use Rattle.service_journal.specs.Journals.{HasSynced, KeepsHandedOn, LeavesHall, IsHallOf, IsMended, missing_in}
pub use Rattle.service_journal.specs.Openings.{IsRecovered}
