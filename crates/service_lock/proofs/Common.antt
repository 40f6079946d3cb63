-- The names that several proofs of this crate cite, passed on from one place. Declares nothing.
pub use Rattle.std.proofs.lemmas.List.{append-nil, map-append}
pub use Rattle.model_steps.specs.declared.refusal.Refusal.{Refusal}
pub use Rattle.model_asked.specs.declared.config.Config.{Config}
pub use Rattle.model_asked.specs.declared.event.Event.TheVariants.{Step, Begin}
pub use Rattle.model_asked.specs.declared.exchange.Exchange.{Exchange}
pub use Rattle.model_asked.specs.Replies.{ShownReply, is_refusal, with_view}
pub use Rattle.text_player.specs.Runs.{Runs}
pub use Rattle.text_player.specs.Turns.{Turn, exchanges}
pub use Rattle.text_player.specs.Turns.Turn.{Answered, Reported, Ended, Misread}
pub use Rattle.text_worlds.specs.desk.DeskCalls.{exchange}
pub use Rattle.service_lock.specs.declared.kept.Kept.{Kept}
pub use Rattle.service_lock.specs.CallerState.{CallerState}
pub use Rattle.service_lock.specs.Kepts.{IsTaken, IsKept, IsSound, Fits, KeepsUnless}
pub use Rattle.service_lock.specs.KeptLogs.{kept_of, side_by_side}
pub use Rattle.std.proofs.lemmas.Bool.Decides.{nat_tests}
pub use Rattle.std.proofs.lemmas.Option.{slice_get_within}
pub use Rattle.std.specs.Option.{option_or}
pub use Rattle.model_asked.specs.declared.event.Event.{Event}
pub use Rattle.model_asked.specs.declared.reply.Reply.TheVariants.{Ok, Refused}
pub use Rattle.text_worlds.specs.desk.Desk.{owner_reply}
pub use Rattle.service_hall.specs.HallState.{HallState}
pub use Rattle.service_hall.specs.Halls.{desk_of, SatisfiesSpec, HallMay, hall_of}
pub use Rattle.service_lock.specs.Marks.{IsMarked}
pub use Rattle.service_lock.specs.KeptNames.{name_given, name_kept}
pub use Rattle.service_lock.specs.KeptState.{KeptState}
