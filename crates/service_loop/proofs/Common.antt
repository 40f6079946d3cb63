-- The names that several proofs of this crate cite, passed on from one place. Declares nothing.
pub use Rattle.std.proofs.lemmas.List.{append-nil, get_or-set_same, get_or-set_other, length-set, get_or_default}
pub use Rattle.std.proofs.lemmas.Bool.{cases_eq, eq-eqb, ne_eqb}
pub use Rattle.std.specs.Io.KnownBytes.{Consumes, Appends}
pub use Rattle.std.proofs.KnownBytes.{Consumes-nil}
pub use Rattle.std.proofs.Math.Seq.{take-add}
pub use Rattle.model_asked.specs.declared.kind.WorldKind.{WorldKind}
pub use Rattle.model_asked.specs.Replies.{ShownReply}
pub use Rattle.model_asked.specs.Requests.{Request}
pub use Rattle.text_lines.specs.Lines.{with_ends}
pub use Rattle.text_player.specs.Runs.{Runs}
pub use Rattle.text_player.specs.lemmas.RunProofs.{runs-append}
pub use Rattle.text_player.specs.Shared.{TurnLog, turns_of, tagged}
pub use Rattle.text_player.specs.lemmas.SharedProofs.{all-append, all-tagged, of-append, of-same, of-other}
pub use Rattle.text_player.specs.Turns.{Turn}
pub use Rattle.service_loop.specs.Seats.{Seating, SeatIs, SeatIdle, EachIs, seats_of}
pub use Rattle.service_loop.specs.BuffersState.{BuffersState}
pub use Rattle.service_loop.specs.Gathering.{Gathered, SeatAsks, SeatBroken, SeatPeeked}
pub use Rattle.service_loop.specs.Reported.{HasPeeked, SeatLines, all_lines, bytes_of, requests_seen}
pub use Rattle.service_loop.specs.ConnectionBuffers.{TakesPeeked}
pub use Rattle.service_loop.specs.declared.peek.Peek.{Peek}
pub use Rattle.service_loop.specs.SharedBuffers.{AreShared}
pub use Rattle.service_loop.specs.declared.peek.Limits.{Limits}
