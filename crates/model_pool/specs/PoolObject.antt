-- the pool as an object with a free choice: it gives out any number that nobody holds (Moir and Anderson 1995)
use Rattle.std.specs.Prelude.{◌≡◌, ◌≢◌, ℕ, ◌+◌, ◌-◌, ◌≤◌, Bool, not, List, [], ◌∷◌, ◌++◌, length, filter, Option, Some, None, Result, Ok, Err, ◌==◌, nat_le, max, if◌then◌else◌, is_some, ok_or, MatchOption}
use Rattle.std.specs.List.{list_any}
use Rattle.model_steps.specs.declared.refusal.Refusal.{Refusal}
use Rattle.model_steps.specs.declared.refusal.Refusal.TheVariants.{ZeroIdentity, Crowded, NotCompeting, AlreadyCompeting, Holding, NotHolding}
use Rattle.model_steps.specs.Runs.{Run}
use Rattle.model_steps.specs.SetAt.{set_at}
use Rattle.model_steps.specs.World.{done_unless}
use Rattle.model_pool.specs.declared.probe.Probe.{Probe}
use Rattle.model_pool.specs.declared.probe.Probe.TheVariants.{Missed, Got}
use Rattle.model_pool.specs.Calls.{Call}
use Rattle.model_pool.specs.Calls.Call.{Entered, Probed, Sought, Left, Widened}
use Rattle.model_pool.specs.PoolState.{PoolStart}
use Rattle.model_pool.specs.Widening.{widen_refusal}

-- the most numbers that it may get, the present size, and the identities that compete. Of each identity it has the number that it holds, if any, and how
-- many accepted probes it has made in its present stay
pub record PoolObject : Type 0 where
  pub most : ℕ
  pub size : ℕ
  pub competing : List ℕ
  pub held : ℕ → Option ℕ
  pub probes : ℕ → ℕ

-- the object that begins so, in which no one competes
abbrev pub fresh_object : PoolStart → PoolObject
fresh_object start = record { most = start.most; size = start.size; competing = []; held = λ p. None; probes = λ p. 0 }

abbrev pub competes : PoolObject → ℕ → Bool
competes o p = list_any (λ q. q == p) o.competing

-- why `enter` is refused: the first of these that holds
abbrev pub no_entry : PoolObject → ℕ → Option Refusal
no_entry o p =
    if p == 0 then Some ZeroIdentity
    else if competes o p then Some AlreadyCompeting
    else if nat_le o.size (length o.competing) then Some Crowded
    else None

-- why `probe` is refused: the first of these that holds
abbrev pub no_probe : PoolObject → ℕ → Option Refusal
no_probe o p =
    if not (competes o p) then Some NotCompeting
    else if is_some (o.held p) then Some Holding
    else None

-- the number that p holds, or why there is none: the first of these reasons that holds
abbrev pub number_in : PoolObject → ℕ → Result ℕ Refusal
number_in o p = if not (competes o p) then Err NotCompeting else ok_or (o.held p) NotHolding

-- this one holds the number, or nobody does
abbrev pub IsHolderIn : PoolObject → ℕ → Option ℕ → Type 0
IsHolderIn o number holder = MatchOption holder ((p : ℕ) → o.held p ≢ Some number) (λ p. o.held p ≡ Some number)

-- a number of the pool that nobody holds
pub record IsFree (o : PoolObject) (n : ℕ) : Type 0 where
  pub first : 1 ≤ n
  pub last : n ≤ o.size
  pub unheld : (q : ℕ) → o.held q ≢ Some n

-- what a probe may answer: any free number, or that it missed. But the probe numbered max(1, size - 1) of a stay, by the
-- present size, is never missed
abbrev pub MayAnswer : PoolObject → ℕ → Result Probe Refusal → Type 0
MayAnswer o p (Ok Missed) = (no_probe o p ≡ None) × (o.probes p + 1 ≢ max 1 (o.size - 1))
MayAnswer o p (Ok (Got n)) = (no_probe o p ≡ None) × IsFree o n
MayAnswer o p (Err refusal) = no_probe o p ≡ Some refusal

-- what probing until a number is got may answer: any free number
abbrev pub MayGive : PoolObject → ℕ → Result ℕ Refusal → Type 0
MayGive o p (Ok n) = (no_probe o p ≡ None) × IsFree o n
MayGive o p (Err refusal) = no_probe o p ≡ Some refusal

-- the reply is one that the object may give to the call
abbrev pub Answers : PoolObject → Call → Type 0
Answers o (Entered p reply) = reply ≡ done_unless (no_entry o p)
Answers o (Probed p reply) = MayAnswer o p reply
Answers o (Sought p reply) = MayGive o p reply
Answers o (Left p reply) = reply ≡ number_in o p
Answers o (Widened more reply) = reply ≡ done_unless (widen_refusal o.most o.size more)

-- the object after a call. A refusal changes nothing, and a widening the size alone
abbrev pub after : PoolObject → Call → PoolObject
after o (Entered p (Ok done)) = record o { competing = o.competing ++ p ∷ []; probes = set_at o.probes p 0 }
after o (Probed p (Ok Missed)) = record o { probes = set_at o.probes p (o.probes p + 1) }
after o (Probed p (Ok (Got n))) = record o { held = set_at o.held p (Some n); probes = set_at o.probes p (o.probes p + 1) }
after o (Sought p (Ok n)) = record o { held = set_at o.held p (Some n); probes = set_at o.probes p (o.probes p + 1) }
after o (Left p (Ok n)) = record o { competing = filter (λ q. not (q == p)) o.competing; held = set_at o.held p None }
after o (Widened more (Ok done)) = record o { size = more }
after o c = o

-- the object, begun so, may answer these calls so, and is then in that state
abbrev pub IsRun : PoolStart → List Call → PoolObject → Type 0
IsRun start r o = Run after Answers (fresh_object start) r o
