-- what was read of an input
use Rattle.std.proofs.Common.{◌≡◌, ◌≢◌, ◌∙◌, ◌++◌, ◌+◌, ◌≤◌, inl, inr, ap, refl, subst, ℕ, List, Option, Some, None, Ok, Err}
use Rattle.tool_work.proofs.Common.{append-nil, Verdict, NoMemory}
use Rattle.std.specs.Io.KnownBytes.{Consumes, IsAtEnd}
use Rattle.text_lines.specs.declared.fault.Fault.TheVariants.{Read, Memory}
use Rattle.text_player.specs.Played.{IsInput, Reading}
use Rattle.text_player.specs.declared.playing.TheConstants.{MOST_READS}
use Rattle.tool_work.specs.Checked.{HasFailedRead, HasReadTo}
use Rattle.text_checker.specs.declared.judge.Judge.{Judge}
use Rattle.text_checker.specs.Stages.{HasTakenAll}
use Rattle.text_checker.specs.Verdict.{IsSaid, IsSaidOfRows}

-- a reader at its end gave all that it had
pub read_all : (had left : Option (List ℕ)) (got : List ℕ) → Consumes had left got → IsAtEnd left → IsInput had got
read_all None left got came end = tt
read_all (Some h) None got came end = absurd came
read_all (Some h) (Some l) got came end = came ∙ ap (λ t. got ++ t) end ∙ append-nil got

-- bytes were read, and all of them taken by a judge
pub record HasReadAndTaken (had left : Option (List ℕ)) (j : Judge) : Type 0 where
  pub seen : List ℕ
  pub came : Consumes had left seen
  pub taken : HasTakenAll seen j

-- what is said of lines says something
pub said_some : (lines : List (List ℕ)) (v : Verdict) → IsSaid lines v → v ≢ NoMemory
said_some lines v (inl s) = λ none. subst (IsSaidOfRows s.header s.rows) none s.said
said_some lines v (inr bad) = λ none. (let e = bad.0 in cc)

module _ {R V : Type 0} (reading : Reading R) (Made : Reading R → V → Type 0) where
  -- what was read to its end, and what was not
  pub read_to : (v : V) → Made reading v → reading.calls reading.new ≤ reading.calls reading.old + MOST_READS → HasReadTo reading Made (Ok v)
  read_to v made few = record { ok = made; read_fault = λ fault. absurd cc; memory = λ fault. absurd cc; only = tt; reads = few }

  pub read_failed : HasFailedRead reading → reading.calls reading.new ≤ reading.calls reading.old + MOST_READS → HasReadTo reading Made (Err Read)
  read_failed failed few = record { ok = tt; read_fault = λ _. failed; memory = λ fault. absurd cc; only = inl refl; reads = few }

  pub read_lacked : reading.failed reading.new ≡ reading.failed reading.old → reading.calls reading.new ≤ reading.calls reading.old + MOST_READS → HasReadTo reading Made (Err Memory)
  read_lacked well few = record { ok = tt; read_fault = λ fault. absurd cc; memory = λ _. well; only = inr refl; reads = few }
