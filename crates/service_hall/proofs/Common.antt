-- The names that several proofs of this crate cite, passed on from one place. Declares nothing.
pub use Rattle.std.proofs.lemmas.List.{append-nil, map-append}
pub use Rattle.std.proofs.lemmas.Bool.Decides.{nat_tests}
pub use Rattle.std.proofs.lemmas.Option.{slice_get_within}
pub use Rattle.std.specs.Option.{option_or}
pub use Rattle.model_steps.specs.declared.refusal.Refusal.{Refusal}
pub use Rattle.model_asked.specs.declared.config.Config.{Config}
pub use Rattle.model_asked.specs.declared.event.Event.{Event}
pub use Rattle.model_asked.specs.declared.event.Event.TheVariants.{Begin, Step}
pub use Rattle.model_asked.specs.declared.exchange.Exchange.{Exchange}
pub use Rattle.model_asked.specs.declared.reply.Reply.TheVariants.{Ok, Refused}
pub use Rattle.model_asked.specs.Replies.{ShownReply, is_refusal, with_view}
pub use Rattle.text_player.specs.Runs.{Runs}
pub use Rattle.text_player.specs.Turns.{Turn, exchanges}
pub use Rattle.text_player.specs.Turns.Turn.{Answered, Reported, Ended, Misread}
pub use Rattle.text_worlds.specs.desk.Desk.{desk_rules, desk_reply, desk_after, desk_refusal, owner_reply}
pub use Rattle.text_worlds.specs.desk.DeskCalls.{exchange}
pub use Rattle.text_worlds.specs.desk.DeskValue.{DeskValue}
pub use Rattle.text_worlds.specs.desk.DeskValue.DeskValue.{OverGrid, OverTree}
pub use Rattle.text_worlds.specs.desk.Names.{IsOwnerReply}
pub use Rattle.text_worlds.specs.desk.Rules.{may_by}
pub use Rattle.service_hall.specs.HallState.{HallState}
pub use Rattle.service_hall.specs.Halls.{desk_of, SatisfiesSpec, full_unless, hall_refusal, longer, reply_unless, after_unless, HallMay, hall_of}
