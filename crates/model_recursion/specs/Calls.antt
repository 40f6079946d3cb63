-- the calls of seats with their replies, and the errors that are due to them
use Rattle.std.specs.Prelude.{◌≡◌, ℕ, ◌==◌, ◌||◌, nat_lt, if◌then◌else◌, map, List, ◌∷◌, ◌++◌, Option, Some, None, is_some, Result, Ok, Err}
use Rattle.model_steps.specs.declared.refusal.Refusal.{Refusal}
use Rattle.model_steps.specs.declared.refusal.Refusal.TheVariants.{ZeroIdentity, AlreadyBegun, OutOfRange}
use Rattle.model_steps.specs.Calls.{Call}
use Rattle.model_steps.specs.Calls.Call.{Began, Stepped}
use Rattle.model_steps.specs.Due.{has_begun, step_due}
use Rattle.model_steps.specs.World.{done_unless}

-- a call with its reply: a seat begins for an identity, or makes a step, which returns its name once it gets one
pub data SeatCall : Type 0 where
  Begin : ℕ → ℕ → Result (Unit {0}) Refusal → SeatCall
  Step : ℕ → Result (Option ℕ) Refusal → SeatCall

-- the same, with no identity
abbrev pub call_of : SeatCall → Call (Option ℕ)
call_of (Begin p identity reply) = Began p reply
call_of (Step p reply) = Stepped p reply

abbrev pub calls_of : List SeatCall → List (Call (Option ℕ))
calls_of = map call_of

-- the error that is due to `begin` of seat p of `most`, for an identity, after these calls: the first of these that holds
abbrev pub begin_due : ℕ → List SeatCall → ℕ → ℕ → Option Refusal
begin_due most r p identity =
    if (p == 0) || nat_lt most p then Some OutOfRange
    else if identity == 0 then Some ZeroIdentity
    else if has_begun p (calls_of r) then Some AlreadyBegun
    else None

-- after these calls, a call returns an error if and only if that error is due
abbrev pub IsRefusedAsDue : ℕ → List SeatCall → SeatCall → Type 0
IsRefusedAsDue most r (Begin p identity reply) = reply ≡ done_unless (begin_due most r p identity)
IsRefusedAsDue most r (Step p (Ok said)) = step_due is_some (calls_of r) p ≡ None
IsRefusedAsDue most r (Step p (Err why)) = step_due is_some (calls_of r) p ≡ Some why

-- this holds of each call of the list, after those before it
abbrev pub RefusesAsDue : ℕ → List SeatCall → Type 0
RefusesAsDue most r = (before : List SeatCall) (h : SeatCall) (rest : List SeatCall) → r ≡ before ++ h ∷ rest → IsRefusedAsDue most before h
