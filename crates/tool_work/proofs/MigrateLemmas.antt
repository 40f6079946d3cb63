-- how the migration of a record ends
use Rattle.std.proofs.Common.{◌≡◌, ◌≢◌, refl, ℕ, List, Ok}
use Rattle.tool_work.proofs.Common.{IsMigrated, NoMemory, Verdict, Yes, Writing}
use Rattle.text_checker.specs.Verdict.{IsVerdict}
use Rattle.tool_work.specs.Checked.{verdict_text, verdict_status, IsRecordText}

-- yes says something
pub yes_says : Yes ≢ NoMemory
yes_says e = cc

module _ {W : Type 0} (writing : Writing W) (bytes : List ℕ) where
  -- with another verdict than yes nothing is written
  pub unwritten : (v : Verdict) → v ≢ Yes → IsMigrated writing bytes (Ok v) → IsVerdict bytes v × (writing.new ≡ writing.old)
  unwritten Yes other h = absurd (other refl)
  unwritten v other h = h

-- and its line tells of it
pub line_tells : (bytes : List ℕ) (v : Verdict) → v ≢ Yes → IsRecordText bytes v (verdict_text v)
line_tells bytes Yes other = absurd (other refl)
line_tells bytes v other = refl

pub status_one : (v : Verdict) → v ≢ Yes → 1 ≡ verdict_status v
status_one Yes other = absurd (other refl)
status_one v other = refl
