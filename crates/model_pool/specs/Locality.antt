-- the frame of a call: a competitor reads of the others one bit alone, and changes of the pool that bit and its own
-- state alone (this project's profile)
use Rattle.std.specs.Prelude.{◌≡◌, ◌≢◌, ℕ, Option, Some, None, Result, IfOk, OnOk, unwrap_or}
use Rattle.model_steps.specs.declared.access.Access.{Access}
use Rattle.model_steps.specs.declared.access.Answer.{Answer}
use Rattle.model_steps.specs.declared.refusal.Refusal.{Refusal}
use Rattle.model_steps.specs.Registers.{register_of, answer_of, after_access}
use Rattle.model_steps.specs.Steps.{Spares, AgreeAt}
use Rattle.model_pool.specs.declared.probe.Probe.{Probe}
use Rattle.model_pool.specs.declared.stay.Stay.{Stay}
use Rattle.model_pool.specs.Stay.{probe_access, stay_probed, probe_reply, leave_access, held_at}
use Rattle.model_pool.specs.Competitors.{stay_of}
use Rattle.model_pool.specs.PoolState.{PoolState}
use Rattle.model_pool.specs.Widening.{widen_access}

-- p has the same state in two pools
abbrev pub StandAlike : ℕ → PoolState → PoolState → Type 0
StandAlike p one other = stay_of p one.competitors ≡ stay_of p other.competitors

-- a call of a competitor, as three functions of the size, of its own state, and of the answer to its one access. They
-- are the access, the reply and the new state, which is none if it competes no more
pub record OwnSteps (O : Type 0) : Type 0 where
  pub access : ℕ → Stay → Access ℕ (Unit {0})
  pub reply : ℕ → Stay → Answer (Unit {0}) → O
  pub stay : ℕ → Stay → Answer (Unit {0}) → Option Stay

abbrev pub probe_steps : OwnSteps Probe
probe_steps = record {
  access = probe_access;
  reply = λ size stay got. probe_reply (stay_probed size stay got);
  stay = λ size stay got. Some (stay_probed size stay got);
}

abbrev pub leave_steps : OwnSteps ℕ
leave_steps = record {
  access = leave_access;
  reply = λ size stay got. unwrap_or (held_at stay) 0;
  stay = λ size stay got. None;
}

module _ {O : Type 0} (steps : OwnSteps O) where
  -- what the bits answer to the one access
  abbrev pub got_in : PoolState → Stay → Answer (Unit {0})
  got_in w stay = answer_of w.bits (steps.access w.size stay)

  -- an accepted call of p makes the one access that p's own state names. Its reply and p's new state are functions of
  -- that state and the answer. Nothing else changes, and no bit does if p does not compete
  pub record ChangesOnly (p : ℕ) (old new : PoolState) (result : Result O Refusal) : Type 0 where
    pub access : (stay : Stay) → stay_of p old.competitors ≡ Some stay → OnOk result (new.bits ≡ after_access old.bits (steps.access old.size stay))
    pub reply : (stay : Stay) → stay_of p old.competitors ≡ Some stay → IfOk result (λ x. x ≡ steps.reply old.size stay (got_in old stay))
    pub own : (stay : Stay) → stay_of p old.competitors ≡ Some stay → OnOk result (stay_of p new.competitors ≡ steps.stay old.size stay (got_in old stay))
    pub others : (q : ℕ) → q ≢ p → stay_of q new.competitors ≡ stay_of q old.competitors
    pub registers : (stay : Stay) → stay_of p old.competitors ≡ Some stay → (r : ℕ) → Spares (steps.access old.size stay) r → register_of new.bits r ≡ register_of old.bits r
    pub absent : stay_of p old.competitors ≡ None → new.bits ≡ old.bits
    pub size : new.size ≡ old.size

  -- p has the same state in two pools of one size, and they have the same bit if p's own state names one
  pub record Indistinguishable (p : ℕ) (one other : PoolState) : Type 0 where
    pub size : one.size ≡ other.size
    pub stay : stay_of p one.competitors ≡ stay_of p other.competitors
    pub bit : (stay : Stay) → stay_of p one.competitors ≡ Some stay → AgreeAt (register_of one.bits) (register_of other.bits) (steps.access one.size stay)

-- `widen` leaves each own state as it is, and of the bits changes at most that of what was the last number
pub record IsWidened (old new : PoolState) (result : Result (Unit {0}) Refusal) : Type 0 where
  pub access : OnOk result (new.bits ≡ after_access old.bits (widen_access old))
  pub registers : (r : ℕ) → r ≢ old.size → register_of new.bits r ≡ register_of old.bits r
  pub stays : (p : ℕ) → stay_of p new.competitors ≡ stay_of p old.competitors
