-- The names that several proofs of this crate cite, passed on from one place. Declares nothing.
pub use Rattle.std.proofs.lemmas.List.{append-nil, take_all}
pub use Rattle.model_asked.specs.Replies.{ShownReply}
pub use Rattle.model_asked.specs.Requests.{Request}
pub use Rattle.model_asked.specs.declared.kind.WorldKind.{WorldKind}
pub use Rattle.model_asked.specs.Requests.Request.{Take, OwnerOf}
pub use Rattle.model_asked.specs.declared.config.Config.{Config}
pub use Rattle.text_player.specs.Runs.{NoneRefusedGrowth, Runs}
pub use Rattle.text_player.specs.Turns.{Turn}
pub use Rattle.text_player.specs.Turns.Turn.{Answered, Reported, Ended, Misread}
pub use Rattle.service_hall.specs.HallState.{HallState}
pub use Rattle.service_hall.specs.Serving.{HallServes}
pub use Rattle.service_follow.specs.Entries.{HallApplies, behind_first_line, TakesBytes}
pub use Rattle.service_follow.specs.Said.{said, reply_queue_of, ReplyQueueReplies, NotingSays}
pub use Rattle.service_follow.specs.ReplyQueueState.{ReplyQueueState}
pub use Rattle.service_follow.specs.NotingState.{NotingState}
