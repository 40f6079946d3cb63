-- how the check of a record ends
use Rattle.std.proofs.Common.{◌≡◌, ◌∙◌, ◌⊎◌, ◌+◌, ◌<◌, ◌≤◌, inl, inr, sym, subst, ℕ, List, Result, Ok, Err}
use Rattle.tool_work.proofs.Common.{Verdict, Reading, Writing, Appends, HasPartOf, Fault, Read, Write, Memory, MOST_READS}
use Rattle.tool_work.specs.Checked.{HasFailedRead, IsJudged, IsReportedOf, verdict_status}

not_of_write : (fault : Fault) → (fault ≡ Read) ⊎ (fault ≡ Memory) → (let o : Result ℕ Fault = Err fault in o ≡ Err Write) → ⊥
not_of_write fault (inl is) at = cc
not_of_write fault (inr is) at = cc

-- a call that came to its end had no fault
no_fault : {X : Type 0} {x : X} {fault : Fault} → (let o : Result X Fault = Ok x in o ≡ Err fault) → ⊥
no_fault at = cc

pub memory_is_no_read : {X : Type 0} → Memory ≡ Read → X
memory_is_no_read at = absurd (cc)

of_read : (fault : Fault) → (let o : Result ℕ Fault = Err fault in o ≡ Err Read) → fault ≡ Read
of_read fault at = cc

of_memory : (fault : Fault) → (let o : Result ℕ Fault = Err fault in o ≡ Err Memory) → fault ≡ Memory
of_memory fault at = cc

not_of_others : (fault other : Fault) → fault ≡ Write → (other ≡ Write → ⊥) → (let o : Result ℕ Fault = Err fault in o ≡ Err other) → ⊥
not_of_others fault other is differs at = differs (let same : fault ≡ other = cc in sym same ∙ is)

module _ {R W : Type 0} (Tells : List ℕ → Verdict → List ℕ → Type 0) (reading : Reading R) (writing : Writing W) (reads : reading.calls reading.new ≤ reading.calls reading.old + MOST_READS) where
  -- the record was not read to its end, and nothing is written
  pub unread : writing.new ≡ writing.old → (result : Result ℕ Fault) (fault : Fault) → result ≡ Err fault → (fault ≡ Read) ⊎ (fault ≡ Memory) → (fault ≡ Read → HasFailedRead reading) → (fault ≡ Memory → reading.failed reading.new ≡ reading.failed reading.old)
      → IsJudged Tells reading writing result
  unread unwritten result fault is only failed unfailed = subst (λ (o : Result ℕ Fault). IsJudged Tells reading writing o) (sym is) (record {
    ok = tt;
    no_write_failed = tt;
    write_fault = λ at. absurd (not_of_write fault only at);
    read_fault = λ at. (failed (of_read fault at), unwritten);
    memory = λ at. (unwritten, unfailed (of_memory fault at));
    reads = reads;
  })

  -- the verdict is reported whole
  pub all_reported : (status : ℕ) (v : Verdict) → status ≡ verdict_status v → IsReportedOf Tells reading (Appends (writing.contents writing.old) (writing.contents writing.new)) v → writing.failed writing.new ≡ writing.failed writing.old
      → IsJudged Tells reading writing (Ok status)
  all_reported status v is reported unfailed = record {
    ok = (v, is, reported);
    no_write_failed = unfailed;
    write_fault = λ at. absurd (no_fault at);
    read_fault = λ at. absurd (no_fault at);
    memory = λ at. absurd (no_fault at);
    reads = reads;
  }

  -- the verdict is not written to its end
  pub half_reported : (result : Result ℕ Fault) (fault : Fault) → result ≡ Err fault → fault ≡ Write → writing.failed writing.old < writing.failed writing.new → (v : Verdict)
      → IsReportedOf Tells reading (HasPartOf (writing.contents writing.old) (writing.contents writing.new)) v → IsJudged Tells reading writing result
  half_reported result fault is write failed v reported = subst (λ (o : Result ℕ Fault). IsJudged Tells reading writing o) (sym is) (record {
    ok = tt;
    no_write_failed = tt;
    write_fault = λ at. (failed, (v, reported));
    read_fault = λ at. absurd (not_of_others fault Read write (λ e. cc) at);
    memory = λ at. absurd (not_of_others fault Memory write (λ e. cc) at);
    reads = reads;
  })
