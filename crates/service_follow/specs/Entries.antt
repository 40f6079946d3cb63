-- entries of a log that are applied to a hall
use Rattle.std.specs.Prelude.{◌≡◌, ◌==◌, ◌&&◌, if◌then◌else◌, ℕ, Bool, false, not, List, [], ◌∷◌, ◌++◌, map, Option, Some, None, Result, slice_get}
use Rattle.model_asked.specs.declared.bad.Bad.{Bad}
use Rattle.model_asked.specs.declared.command.Command.{Command}
use Rattle.model_asked.specs.declared.kind.WorldKind.{WorldKind}
use Rattle.model_asked.specs.Replies.{ShownReply}
use Rattle.model_asked.specs.Requests.{Request}
use Rattle.text_player.specs.Progress.{Progress, after_bytes, at_start}
use Rattle.text_player.specs.Runs.{NoneRefusedGrowth, Runs}
use Rattle.text_player.specs.Says.{Spoke}
use Rattle.text_player.specs.ResponderState.{ResponderState}
use Rattle.text_player.specs.Turns.{Turn, asked}
use Rattle.service_hall.specs.HallState.{HallState}
use Rattle.service_hall.specs.Reading.{Serves}
use Rattle.service_hall.specs.declared.reads.Reads.{Reads}
use Rattle.service_hall.specs.declared.reads.Reads.TheVariants.{Logged, Plain}
use Rattle.service_hall.specs.declared.rules.Rules.{Rules}
use Rattle.service_follow.specs.Said.{said, reply_queue_of}
use Rattle.service_follow.specs.ReplyQueueState.{ReplyQueueState}

-- an entry is a first line, which is passed over, and then lines of commands
abbrev pub behind_first_line : List ℕ → List ℕ
behind_first_line [] = []
behind_first_line (b ∷ bs) = if b == 10 then bs else behind_first_line bs

-- what the lines of an entry ask for, up to `quit`
abbrev pub asked_in : WorldKind → List ℕ → List (Result Command Bad)
asked_in kind entry = (after_bytes kind at_start (behind_first_line entry)).asked

-- a byte is there, and is this one
abbrev pub is_there : Option ℕ → ℕ → Bool
is_there None byte = false
is_there (Some b) byte = b == byte

-- the reads of an entry are plain where a space and a `p` stand behind its token and its count, and else they are logged
abbrev pub reads_of : List ℕ → Reads
reads_of entry = if is_there (slice_get entry 49) 32 && is_there (slice_get entry 50) 112 then Plain else Logged

-- An entry bars something where a hyphen stands in its place, and a space before the two places and behind the token and the count. An entry of an
-- older version has no such bytes in its first line, and bars nothing
abbrev pub bars : ℕ → List ℕ → Bool
bars place entry = is_there (slice_get entry 49) 32 && (is_there (slice_get entry 55) 32 && is_there (slice_get entry place) 45)

-- it gives tokens where a `t` stands behind these two places
abbrev pub gives_tokens : List ℕ → Bool
gives_tokens entry = is_there (slice_get entry 49) 32 && (is_there (slice_get entry 55) 32 && is_there (slice_get entry 58) 116)

-- the rules of an entry: whether its reads are plain, whether it bars `widen`, or `begin` and `step`, and whether it gives tokens
abbrev pub rules_of : List ℕ → Rules
rules_of entry = record { reads = reads_of entry; widening = not (bars 56 entry); naming = not (bars 57 entry); tokens = gives_tokens entry }

-- The hall was so, and answered what the lines of the entry ask for, in order, with no growth refused. It did so by the rules of the entry.
-- The answers are on the queue of replies, and it is so
pub record HallApplies (h : HallState) (entry : List ℕ) (reply_queue : ReplyQueueState) (u : HallState) : Type 0 where
  pub turns : List Turn
  pub asked_is : map asked turns ≡ asked_in h.config.world entry
  pub run : Runs (Serves (rules_of entry)) h turns u
  pub granted : NoneRefusedGrowth turns
  pub reply_queue_is : reply_queue ≡ reply_queue_of (said turns)

-- by these turns, which the rules allow, a service goes from w to u, and a transcript takes these bytes
pub record TakesBytes {T : Type 0} (may : T → Request → ShownReply → T → Type 0) (w : T) (s : ResponderState) (bytes : List ℕ) (u : T) (s' : ResponderState) : Type 0 where
  pub more : List Turn
  pub run : Runs may w more u
  pub goes_on : (turns : List Turn) (p : Progress) → Spoke turns s p → Spoke (turns ++ more) s' (after_bytes s.kind p bytes)
