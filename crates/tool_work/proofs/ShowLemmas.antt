-- how the showing of a record ends
use Rattle.std.proofs.Common.{◌≡◌, ◌∙◌, ◌⊎◌, ◌+◌, ◌≤◌, inl, inr, sym, subst, ℕ, List, Result, Ok, Err}
use Rattle.tool_work.proofs.Common.{Verdict, IsShown, Reading, Writing, Fault, Read, Write, Memory, MOST_READS}
use Rattle.tool_work.specs.declared.page.stretch.Stretch.{Stretch}
use Rattle.tool_work.specs.Checked.{HasFailedRead, IsWhole}
use Rattle.tool_work.specs.Shown.{IsShownFor}

not_of_write : (fault : Fault) → (fault ≡ Read) ⊎ (fault ≡ Memory) → (let o : Result Verdict Fault = Err fault in o ≡ Err Write) → ⊥
not_of_write fault (inl is) at = cc
not_of_write fault (inr is) at = cc

of_read : (fault : Fault) → (let o : Result Verdict Fault = Err fault in o ≡ Err Read) → fault ≡ Read
of_read fault at = cc

of_memory : (fault : Fault) → (let o : Result Verdict Fault = Err fault in o ≡ Err Memory) → fault ≡ Memory
of_memory fault at = cc

not_of_others : (fault other : Fault) → fault ≡ Write → (other ≡ Write → ⊥) → (let o : Result Verdict Fault = Err fault in o ≡ Err other) → ⊥
not_of_others fault other is differs at = differs (let same : fault ≡ other = cc in sym same ∙ is)

module _ (s : Stretch) {R W : Type 0} (reading : Reading R) (writing : Writing W) (reads : reading.calls reading.new ≤ reading.calls reading.old + MOST_READS) where
  -- the record was not read to its end, and nothing is written
  pub unread_shown : writing.new ≡ writing.old → (result : Result Verdict Fault) (fault : Fault) → result ≡ Err fault → (fault ≡ Read) ⊎ (fault ≡ Memory) → (fault ≡ Read → HasFailedRead reading) → (fault ≡ Memory → reading.failed reading.new ≡ reading.failed reading.old)
      → IsShownFor s reading writing result
  unread_shown unwritten result fault is only failed unfailed = subst (λ (o : Result Verdict Fault). IsShownFor s reading writing o) (sym is) (record {
    ok = tt;
    write_fault = λ at. absurd (not_of_write fault only at);
    read_fault = λ at. (failed (of_read fault at), unwritten);
    memory = λ at. (unwritten, unfailed (of_memory fault at));
    reads = reads;
  })

  -- the page is not written to its end
  pub half_shown : (result : Result Verdict Fault) (fault : Fault) → result ≡ Err fault → (input : List ℕ) → IsWhole reading input → IsShown writing input s (Err fault) → IsShownFor s reading writing result
  half_shown result fault is input whole shown = subst (λ (o : Result Verdict Fault). IsShownFor s reading writing o) (sym is) (record {
    ok = tt;
    write_fault = λ at. (input, whole, subst (λ (f : Fault). IsShown writing input s (Err f)) shown.0 shown);
    read_fault = λ at. absurd (not_of_others fault Read shown.0 (λ e. cc) at);
    memory = λ at. absurd (not_of_others fault Memory shown.0 (λ e. cc) at);
    reads = reads;
  })

  -- it is written, or another verdict keeps it from being written
  pub all_shown : (v : Verdict) (input : List ℕ) → IsWhole reading input → IsShown writing input s (Ok v) → IsShownFor s reading writing (Ok v)
  all_shown v input whole shown = record {
    ok = (input, whole, shown);
    write_fault = λ at. absurd cc;
    read_fault = λ at. absurd cc;
    memory = λ at. absurd cc;
    reads = reads;
  }
