-- runs: none after an allocation failure, one after a prefix, and one by a weaker relation
use Rattle.std.proofs.Common.{◌≡◌, ℕ, ◌+◌, ◌≤◌, List, [], ◌++◌, Result, Ok, Err, IfOk, refl, ◌∙◌, arith}
use Rattle.std.specs.Io.KnownBytes.{Appends}
use Rattle.std.proofs.KnownBytes.{Appends-nil}
use Rattle.model_asked.specs.declared.bad.Bad.{Bad}
use Rattle.model_asked.specs.declared.command.Command.{Command}
use Rattle.model_asked.specs.declared.kind.WorldKind.{WorldKind}
use Rattle.text_lines.specs.declared.fault.Fault.{Fault}
use Rattle.text_lines.specs.declared.fault.Fault.TheVariants.{Read, Write, Memory}
use Rattle.text_lines.specs.Lines.{lines, whole_lines}
use Rattle.text_lines.specs.lemmas.WrittenProofs.{appends_more, part_after}
use Rattle.text_player.specs.declared.playing.TheConstants.{MOST_READS}
use Rattle.text_player.specs.declared.summary.Summary.{Summary}
use Rattle.text_player.specs.Asked.{asked_by}
use Rattle.text_player.specs.Played.{Reading, Writing, writing_from, IsReported, PlayedToEnd, PlayedToReadFault, PlayedToWriteFault, IsPlayed}
use Rattle.text_player.specs.Turns.{Turn}

-- a run that writes a text after a prefix is one that writes both. A transcript by one relation is one by a weaker
-- relation
module _ (head : List ℕ) (text : List Turn → List ℕ) (P P' Q Q' : List Turn → Type 0)
    (weaker : (ts : List Turn) → P ts → Q ts) (weaker' : (ts : List Turn) → P' ts → Q' ts)
    (kind : WorldKind) {R W : Type 0} (reading : Reading R) (writing : Writing W) (mid : W)
    (begun : Appends (writing.contents writing.old) (writing.contents mid) head) (unfailed : writing.failed mid ≡ writing.failed writing.old) where
  abbrev whole : List Turn → List ℕ
  whole ts = head ++ text ts

  abbrev reported_after : (all : List (Result Command Bad)) →
      IsReported text P all (writing.contents mid) (writing.contents writing.new) → IsReported whole Q all (writing.contents writing.old) (writing.contents writing.new)
  reported_after all t = record {
    turns = t.turns;
    asked_is = t.asked_is;
    transcript = weaker t.turns t.transcript;
    gained = appends_more (writing.contents writing.old) (writing.contents mid) (writing.contents writing.new) head (text t.turns) (whole t.turns) begun t.gained refl;
  }

  end_after : (s : Summary) → PlayedToEnd kind reading (writing_from writing mid) text P s → PlayedToEnd kind reading writing whole Q s
  end_after s t = record {
    input = t.input;
    input_is = t.input_is;
    reported = reported_after (asked_by kind (lines t.input)) t.reported;
    counts = t.counts;
    got = t.got;
    left = t.left;
    of_input = t.of_input;
    read = t.read;
    ended = t.ended;
    no_read_failed = t.no_read_failed;
    no_write_failed = t.no_write_failed ∙ unfailed;
  }

  ok_after : (result : Result Summary Fault) → IfOk result (λ s. PlayedToEnd kind reading (writing_from writing mid) text P s) →
      IfOk result (λ s. PlayedToEnd kind reading writing whole Q s)
  ok_after (Ok s) t = end_after s t
  ok_after (Err f) t = tt

  read_after : PlayedToReadFault kind reading (writing_from writing mid) text P → PlayedToReadFault kind reading writing whole Q
  read_after t = record {
    why = t.why;
    got = t.got;
    read = t.read;
    going = t.going;
    reported = reported_after (asked_by kind (whole_lines t.got)) t.reported;
    no_write_failed = t.no_write_failed ∙ unfailed;
  }

  write_after : PlayedToWriteFault kind reading (writing_from writing mid) text P P' → PlayedToWriteFault kind reading writing whole Q Q'
  write_after t = record {
    why = omega (arith, t.why, unfailed);
    input = t.input;
    input_is = t.input_is;
    reported = record {
      turns = t.reported.turns;
      others = t.reported.others;
      asked_is = t.reported.asked_is;
      transcript = weaker t.reported.turns t.reported.transcript;
      whole = weaker' (t.reported.turns ++ t.reported.others) t.reported.whole;
      part = part_after (writing.contents writing.old) (writing.contents mid) (writing.contents writing.new) head (text t.reported.turns) (whole t.reported.turns) begun refl t.reported.part;
    };
    got = t.got;
    left = t.left;
    of_input = t.of_input;
    read = t.read;
    no_read_failed = t.no_read_failed;
  }

  pub played_after : (result : Result Summary Fault) → (result ≡ Err Memory → mid ≡ writing.old) →
      IsPlayed text P P' kind reading (writing_from writing mid) result → IsPlayed whole Q Q' kind reading writing result
  played_after result same t = record {
    ok = ok_after result t.ok;
    read_fault = λ e. read_after (t.read_fault e);
    write_fault = λ e. write_after (t.write_fault e);
    memory = λ e. ((t.memory e).0, (t.memory e).1 ∙ same e);
    reads = t.reads;
  }

-- with nothing before it
pub played_weaker : (text : List Turn → List ℕ) (P P' Q Q' : List Turn → Type 0) → ((ts : List Turn) → P ts → Q ts) → ((ts : List Turn) → P' ts → Q' ts) →
    (kind : WorldKind) {R W : Type 0} (reading : Reading R) (writing : Writing W) (result : Result Summary Fault) →
    IsPlayed text P P' kind reading writing result → IsPlayed text Q Q' kind reading writing result
played_weaker text P P' Q Q' weaker weaker' kind reading writing result t =
    played_after [] text P P' Q Q' weaker weaker' kind reading writing writing.old (Appends-nil (writing.contents writing.old)) refl result (λ e. refl) t

-- what holds of a run that ended so
abbrev pub EndedBy : (List Turn → List ℕ) → (List Turn → Type 0) → (List Turn → Type 0) → WorldKind → {R W : Type 0} → Reading R → Writing W → Result Summary Fault → Type 0
EndedBy text IsTranscript MayTranscript kind reading writing (Ok s) = PlayedToEnd kind reading writing text IsTranscript s
EndedBy text IsTranscript MayTranscript kind reading writing (Err Read) = PlayedToReadFault kind reading writing text IsTranscript
EndedBy text IsTranscript MayTranscript kind reading writing (Err Write) = PlayedToWriteFault kind reading writing text IsTranscript MayTranscript
EndedBy text IsTranscript MayTranscript kind reading writing (Err Memory) = (reading.new ≡ reading.old) × (writing.new ≡ writing.old)

-- the theorem of a run, by how it ended
pub as_played : (text : List Turn → List ℕ) (IsTranscript MayTranscript : List Turn → Type 0) (kind : WorldKind) {R W : Type 0} (reading : Reading R) (writing : Writing W) (result : Result Summary Fault) →
    EndedBy text IsTranscript MayTranscript kind reading writing result → reading.calls reading.new ≤ reading.calls reading.old + MOST_READS → IsPlayed text IsTranscript MayTranscript kind reading writing result
as_played text IsTranscript MayTranscript kind reading writing result ended reads = record {
  ok = elim result as (λ r. EndedBy text IsTranscript MayTranscript kind reading writing r → IfOk r (λ s. PlayedToEnd kind reading writing text IsTranscript s)) [ Ok s ↦ λ end. end | Err f ↦ λ fault. tt ] ended;
  read_fault = λ e. rw e at ended;
  write_fault = λ e. rw e at ended;
  memory = λ e. rw e at ended;
  reads = reads;
}

-- where memory was refused nothing is read and nothing written
pub unplayed : (text : List Turn → List ℕ) (IsTranscript MayTranscript : List Turn → Type 0) (kind : WorldKind)
    {R W : Type 0} (reading : Reading R) (writing : Writing W) → reading.new ≡ reading.old → writing.new ≡ writing.old →
    IsPlayed text IsTranscript MayTranscript kind reading writing (Err Memory)
unplayed text IsTranscript MayTranscript kind reading writing unread unwritten = as_played text IsTranscript MayTranscript kind reading writing (Err Memory) (unread, unwritten) (rw unread (omega arith))
