-- what is reported of a record that a reader gives
use Rattle.std.specs.Prelude.{◌≡◌, ◌≢◌, ◌⊎◌, ◌+◌, ◌<◌, ◌≤◌, ◌++◌, ◌∷◌, ◌^◌, ℕ, List, [], length, Result, Err, IfOk, IfErr, codes, decimal}
use Rattle.std.specs.Io.KnownBytes.{Appends, Consumes}
use Rattle.text_checker.specs.Migrated.{IsMigratedTo}
use Rattle.text_checker.specs.Reasons.{reason_number}
use Rattle.text_checker.specs.Verdict.{IsVerdict}
use Rattle.text_checker.specs.declared.verdict.Verdict.{Verdict}
use Rattle.text_checker.specs.declared.verdict.Verdict.TheVariants.{Yes, No, BadRecord, NoMemory}
use Rattle.text_lines.specs.Written.{HasPartOf}
use Rattle.text_lines.specs.declared.fault.Fault.{Fault}
use Rattle.text_lines.specs.declared.fault.Fault.TheVariants.{Read, Write, Memory}
use Rattle.text_player.specs.Played.{Reading, Writing, IsInput}
use Rattle.text_player.specs.declared.playing.TheConstants.{MOST_READS, READ_BYTES}

-- the line of a verdict; an allocation failure has none
abbrev pub verdict_text : Verdict → List ℕ
verdict_text Yes = codes "yes" ++ 10 ∷ []
verdict_text (No number why) = codes "no " ++ decimal number ++ codes " " ++ decimal (reason_number why) ++ 10 ∷ []
verdict_text (BadRecord number) = codes "bad record " ++ decimal number ++ 10 ∷ []
verdict_text NoMemory = []

-- the status that tells a verdict: 0 for yes
abbrev pub verdict_status : Verdict → ℕ
verdict_status Yes = 0
verdict_status (No number why) = 1
verdict_status (BadRecord number) = 1
verdict_status NoMemory = 1

-- the reader gave all of this to its end, and no read failed
pub record IsWhole {R : Type 0} (reading : Reading R) (input : List ℕ) : Type 0 where
  pub all : IsInput (reading.remaining reading.old) input
  pub read : Consumes (reading.remaining reading.old) (reading.remaining reading.new) input
  pub no_read_failed : reading.failed reading.new ≡ reading.failed reading.old

-- the reader gave all of an input of which this is the verdict, and it says something
pub record IsJudgedWhole {R : Type 0} (reading : Reading R) (v : Verdict) : Type 0 where
  pub input : List ℕ
  pub whole : IsWhole reading input
  pub verdict : IsVerdict input v
  pub some : v ≢ NoMemory

-- one read failed, or the limit of reads was reached
abbrev pub HasFailedRead : {R : Type 0} → Reading R → Type 0
HasFailedRead reading = (reading.failed reading.new ≡ reading.failed reading.old + 1) ⊎ ((reading.calls reading.new ≡ reading.calls reading.old + MOST_READS) × (reading.failed reading.new ≡ reading.failed reading.old))

-- a reader that was called so often may be read by way of such a chunk: its count is one of 64 bits, and the chunk has the bytes of one read
pub record MayRead (calls : ℕ) (bytes : List ℕ) : Type 0 where
  pub reads : calls < 2 ^ 64
  pub chunk : length bytes ≡ READ_BYTES

-- A reader was read to its end, and this is so of what was made of that; or a read failed; or an allocation, and no read. It was read as often as the limit
-- says, at most
pub record HasReadTo {R V : Type 0} (reading : Reading R) (Made : Reading R → V → Type 0) (result : Result V Fault) : Type 0 where
  pub ok : IfOk result (Made reading)
  pub read_fault : result ≡ Err Read → HasFailedRead reading
  pub memory : result ≡ Err Memory → reading.failed reading.new ≡ reading.failed reading.old
  pub only : IfErr result (λ fault. (fault ≡ Read) ⊎ (fault ≡ Memory))
  pub reads : reading.calls reading.new ≤ reading.calls reading.old + MOST_READS

-- what is reported of an input with this verdict: its line
abbrev pub IsVerdictText : List ℕ → Verdict → List ℕ → Type 0
IsVerdictText input v text = text ≡ verdict_text v

-- the same, but where it is yes the record of version 2
abbrev pub IsRecordText : List ℕ → Verdict → List ℕ → Type 0
IsRecordText input Yes text = IsMigratedTo input text
IsRecordText input v text = text ≡ verdict_text v

-- of the whole input this is the verdict, and what is written of the text that tells of it meets this
pub record IsReportedOf {R : Type 0} (Tells : List ℕ → Verdict → List ℕ → Type 0) (reading : Reading R) (Wrote : List ℕ → Type 0) (v : Verdict) : Type 0 where
  pub input : List ℕ
  pub whole : IsWhole reading input
  pub verdict : IsVerdict input v
  pub some : v ≢ NoMemory
  pub text : List ℕ
  pub tells : Tells input v text
  pub wrote : Wrote text

-- a record is read to its end and judged, and the text that tells of it is written: with the status of its verdict; at a write
-- fault a prefix of it; and nothing where a read failed, or where none did and memory was refused
pub record IsJudged {R W : Type 0} (Tells : List ℕ → Verdict → List ℕ → Type 0) (reading : Reading R) (writing : Writing W) (result : Result ℕ Fault) : Type 0 where
  pub ok : IfOk result (λ status. (v : Verdict) × (status ≡ verdict_status v) × IsReportedOf Tells reading (Appends (writing.contents writing.old) (writing.contents writing.new)) v)
  pub no_write_failed : IfOk result (λ status. writing.failed writing.new ≡ writing.failed writing.old)
  pub write_fault : result ≡ Err Write → (writing.failed writing.old < writing.failed writing.new) × ((v : Verdict) × IsReportedOf Tells reading (HasPartOf (writing.contents writing.old) (writing.contents writing.new)) v)
  pub read_fault : result ≡ Err Read → HasFailedRead reading × (writing.new ≡ writing.old)
  pub memory : result ≡ Err Memory → (writing.new ≡ writing.old) × (reading.failed reading.new ≡ reading.failed reading.old)
  pub reads : reading.calls reading.new ≤ reading.calls reading.old + MOST_READS

-- a record is checked: its verdict is written
abbrev pub IsChecked : {R W : Type 0} → Reading R → Writing W → Result ℕ Fault → Type 0
IsChecked reading writing result = IsJudged IsVerdictText reading writing result

-- a record is written again in version 2, or its verdict where that is another than yes
abbrev pub IsRewritten : {R W : Type 0} → Reading R → Writing W → Result ℕ Fault → Type 0
IsRewritten reading writing result = IsJudged IsRecordText reading writing result
