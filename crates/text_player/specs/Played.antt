-- what a run has read and written, for readers and writers that report their bytes. One that reports none is `None`, of
-- whose bytes nothing is claimed
use Rattle.std.specs.Prelude.{◌≡◌, ℕ, ◌+◌, ◌<◌, ◌≤◌, ◌⊎◌, ◌++◌, false, true, List, length, map, Option, Some, None, Result, Err, IfOk}
use Rattle.std.specs.Io.KnownBytes.{Appends, Consumes}
use Rattle.model_asked.specs.declared.bad.Bad.{Bad}
use Rattle.model_asked.specs.declared.command.Command.{Command}
use Rattle.model_asked.specs.declared.kind.WorldKind.{WorldKind}
use Rattle.text_lines.specs.declared.fault.Fault.{Fault}
use Rattle.text_lines.specs.declared.fault.Fault.TheVariants.{Read, Write, Memory}
use Rattle.text_lines.specs.Lines.{lines, whole_lines}
use Rattle.text_lines.specs.Written.{HasPartOf}
use Rattle.text_player.specs.declared.playing.TheConstants.{READ_BYTES, MOST_READS}
use Rattle.text_player.specs.declared.summary.Summary.{Summary}
use Rattle.text_player.specs.Turns.{Turn, asked, answers_of}
use Rattle.text_player.specs.Asked.{asked_by, asks_quit}
use Rattle.text_player.specs.Counts.{CountsAnswers}
use Rattle.text_player.specs.Texts.{replies_of}

-- a reader before a call and after it, as a contract sees it. It has the bytes that are left, if it reports them, the
-- number of reads, and the number of reads that failed
pub record Reading (R : Type 0) : Type 0 where
  pub remaining : R → Option (List ℕ)
  pub calls : R → ℕ
  pub failed : R → ℕ
  pub old : R
  pub new : R

abbrev pub reading : {R : Type 0} → (R → Option (List ℕ)) → (R → ℕ) → (R → ℕ) → R → R → Reading R
reading remaining calls failed old new = record { remaining = remaining; calls = calls; failed = failed; old = old; new = new }

-- a writer before a call and after it, as a contract sees it. It has the bytes that were written, if it reports them,
-- and the number of writes that failed
pub record Writing (W : Type 0) : Type 0 where
  pub contents : W → Option (List ℕ)
  pub failed : W → ℕ
  pub old : W
  pub new : W

abbrev pub writing : {W : Type 0} → (W → Option (List ℕ)) → (W → ℕ) → W → W → Writing W
writing contents failed old new = record { contents = contents; failed = failed; old = old; new = new }

-- the rest of a call whose writer is now this one
abbrev pub writing_from : {W : Type 0} → Writing W → W → Writing W
writing_from writing mid = record writing { old = mid }

-- the input is the bytes that the reader reports, or some bytes if it reports none
abbrev pub IsInput : Option (List ℕ) → List ℕ → Type 0
IsInput None input = Unit {0}
IsInput (Some bytes) input = bytes ≡ input

-- there are turns to all requests, and they are a transcript. The writer has gained their text
pub record IsReported (text : List Turn → List ℕ) (IsTranscript : List Turn → Type 0) (all : List (Result Command Bad)) (before now : Option (List ℕ)) : Type 0 where
  pub turns : List Turn
  pub asked_is : map asked turns ≡ all
  pub transcript : IsTranscript turns
  pub gained : Appends before now (text turns)

-- there are turns to the first requests, and they are a transcript that may go on to all requests. The writer has
-- gained a prefix of their text
pub record IsPartlyReported (text : List Turn → List ℕ) (IsTranscript MayTranscript : List Turn → Type 0) (all : List (Result Command Bad)) (before now : Option (List ℕ)) : Type 0 where
  pub turns : List Turn
  pub others : List Turn
  pub asked_is : map asked (turns ++ others) ≡ all
  pub transcript : IsTranscript turns
  pub whole : MayTranscript (turns ++ others)
  pub part : HasPartOf before now (text turns)

module _ (kind : WorldKind) {R : Type 0} (reading : Reading R) where
  -- these bytes were read, the last of them by one read. No `quit` was before that read
  pub record HasRead (got : List ℕ) : Type 0 where
    pub mid : R
    pub earlier : List ℕ
    pub last : List ℕ
    pub parts : got ≡ earlier ++ last
    pub came : Consumes (reading.remaining reading.old) (reading.remaining mid) earlier
    pub going : asks_quit (asked_by kind (whole_lines earlier)) ≡ false
    pub gave : Consumes (reading.remaining mid) (reading.remaining reading.new) last
    pub once : reading.calls reading.new ≡ reading.calls mid + 1
    pub few : length last ≤ READ_BYTES

  module _ {W : Type 0} (writing : Writing W) (text : List Turn → List ℕ) where
    -- the run ended with all of the input, or by `quit`. The turns to the lines of the input are a transcript. The
    -- writer has gained their text, and the summary counts their answers. No read and no write failed
    pub record PlayedToEnd (IsTranscript : List Turn → Type 0) (s : Summary) : Type 0 where
      pub input : List ℕ
      pub input_is : IsInput (reading.remaining reading.old) input
      pub reported : IsReported text IsTranscript (asked_by kind (lines input)) (writing.contents writing.old) (writing.contents writing.new)
      pub counts : CountsAnswers (answers_of reported.turns) s
      pub got : List ℕ
      pub left : List ℕ
      pub of_input : input ≡ got ++ left
      pub read : HasRead got
      pub ended : (got ≡ input) ⊎ (asks_quit (asked_by kind (whole_lines got)) ≡ true)
      pub no_read_failed : reading.failed reading.new ≡ reading.failed reading.old
      pub no_write_failed : writing.failed writing.new ≡ writing.failed writing.old

    -- a read failed, or the limit of reads was reached. There are turns to the whole lines of what was read, and their
    -- text is written. `quit` was not among them
    pub record PlayedToReadFault (IsTranscript : List Turn → Type 0) : Type 0 where
      pub why : (reading.failed reading.new ≡ reading.failed reading.old + 1) ⊎ ((reading.calls reading.new ≡ reading.calls reading.old + MOST_READS) × (reading.failed reading.new ≡ reading.failed reading.old))
      pub got : List ℕ
      pub read : Consumes (reading.remaining reading.old) (reading.remaining reading.new) got
      pub going : asks_quit (asked_by kind (whole_lines got)) ≡ false
      pub reported : IsReported text IsTranscript (asked_by kind (whole_lines got)) (writing.contents writing.old) (writing.contents writing.new)
      pub no_write_failed : writing.failed writing.new ≡ writing.failed writing.old

    -- a write failed. The writer has gained a prefix of the text of the input
    pub record PlayedToWriteFault (IsTranscript MayTranscript : List Turn → Type 0) : Type 0 where
      pub why : writing.failed writing.old < writing.failed writing.new
      pub input : List ℕ
      pub input_is : IsInput (reading.remaining reading.old) input
      pub reported : IsPartlyReported text IsTranscript MayTranscript (asked_by kind (lines input)) (writing.contents writing.old) (writing.contents writing.new)
      pub got : List ℕ
      pub left : List ℕ
      pub of_input : input ≡ got ++ left
      pub read : HasRead got
      pub no_read_failed : reading.failed reading.new ≡ reading.failed reading.old

-- the theorem of a run that writes this text. Its turns are a transcript, and may go on to one of the whole input
pub record IsPlayed (text : List Turn → List ℕ) (IsTranscript MayTranscript : List Turn → Type 0) (kind : WorldKind) {R W : Type 0} (reading : Reading R) (writing : Writing W) (result : Result Summary Fault) : Type 0 where
  pub ok : IfOk result (λ s. PlayedToEnd kind reading writing text IsTranscript s)
  pub read_fault : result ≡ Err Read → PlayedToReadFault kind reading writing text IsTranscript
  pub write_fault : result ≡ Err Write → PlayedToWriteFault kind reading writing text IsTranscript MayTranscript
  pub memory : result ≡ Err Memory → (reading.new ≡ reading.old) × (writing.new ≡ writing.old)
  pub reads : reading.calls reading.new ≤ reading.calls reading.old + MOST_READS

-- the same for a run that writes replies, and whose turns show the allocation failures
abbrev pub IsPlayedIn : (List Turn → Type 0) → WorldKind → {R W : Type 0} → Reading R → Writing W → Result Summary Fault → Type 0
IsPlayedIn IsTranscript kind reading writing result = IsPlayed replies_of IsTranscript IsTranscript kind reading writing result
