-- the words of all instances, and the machine of the seats that share them
use Rattle.std.specs.Prelude.{◌≡◌, ℕ, ◌≤◌, ◌==◌, ◌||◌, nat_lt, if◌then◌else◌, is_some, option_and_then, option_map, Option, Some, None, Ok, Err}
use Rattle.model_steps.specs.declared.access.Access.{Access}
use Rattle.model_steps.specs.declared.access.Access.TheVariants.{Read, Write}
use Rattle.model_steps.specs.declared.access.Answer.{Answer}
use Rattle.model_steps.specs.declared.access.Answer.TheVariants.{Value, Done}
use Rattle.model_steps.specs.declared.participant.Participant.{Participant}
use Rattle.model_steps.specs.declared.refusal.Refusal.{Refusal}
use Rattle.model_steps.specs.declared.refusal.Refusal.TheVariants.{ZeroIdentity, AlreadyBegun, NotBegun, Finished, OutOfRange}
use Rattle.model_steps.specs.Calls.{outcome_in}
use Rattle.model_steps.specs.Machine.{Machine}
use Rattle.model_steps.specs.Note.{ends}
use Rattle.model_steps.specs.Participant.{beginner}
use Rattle.model_steps.specs.SetAt.{set_at}
use Rattle.model_steps.specs.World.{done_unless}
use Rattle.model_recursion.specs.Calls.{SeatCall, calls_of, RefusesAsDue}
use Rattle.model_recursion.specs.Calls.SeatCall.{Begin, Step}
use Rattle.model_recursion.specs.Law.{NamingSpec}
use Rattle.model_recursion.specs.Program.{namer_of, next_access, namer_after, namer_note, name_at, phase_of}
use Rattle.model_recursion.specs.declared.namer.Cell.{Cell}
use Rattle.model_recursion.specs.declared.namer.Namer.{Namer}

-- the words: by level, first name and seat
abbrev pub Words : Type 0
Words = ℕ → ℕ → ℕ → ℕ

abbrev pub word_at : Words → Cell → ℕ
word_at word c = word c.level c.first c.seat

abbrev pub with_word : Words → Cell → ℕ → Words
with_word word c v = set_at word c.level (set_at (word c.level) c.first (set_at (word c.level c.first) c.seat v))

-- the words after an access, and what it answers
abbrev pub words_after : Words → Access Cell ℕ → Words
words_after word (Write c v) = with_word word c v
words_after word a = word

abbrev pub answer_to : Words → Access Cell ℕ → Answer ℕ
answer_to word (Read c) = Value (word_at word c)
answer_to word a = Done

-- how many seats there are, the words, and where each seat stands that has begun, with its identity
pub record Naming : Type 0 where
  pub most : ℕ
  pub word : Words
  pub self : ℕ → Option (Participant Namer)

abbrev pub fresh : ℕ → Naming
fresh most = record { most = most; word = λ x f q. 0; self = λ p. None }

abbrev pub got_by : Naming → Namer → Answer ℕ
got_by w u = answer_to w.word (next_access u)

-- a participant after this answer to its access
abbrev pub moved : Participant Namer → Answer ℕ → Participant Namer
moved v got = record { identity = v.identity; program = namer_after v.program got; ended = ends (namer_note v.program got) }

-- seat p has begun for this identity
abbrev pub after_begin : Naming → ℕ → ℕ → Naming
after_begin w p identity = record { most = w.most; word = w.word; self = set_at w.self p (Some (beginner identity (namer_of w.most p identity))) }

abbrev pub after_step : Naming → ℕ → Option (Participant Namer) → Naming
after_step w p None = w
after_step w p (Some v) = record { most = w.most; word = words_after w.word (next_access v.program); self = set_at w.self p (Some (moved v (got_by w v.program))) }

-- a call that is refused changes nothing
abbrev pub next : Naming → SeatCall → Naming
next w (Begin p identity (Ok done)) = after_begin w p identity
next w (Begin p identity (Err why)) = w
next w (Step p (Ok said)) = after_step w p (w.self p)
next w (Step p (Err why)) = w

-- why `begin` is refused: the first of these that holds
abbrev pub begin_refusal : Naming → ℕ → ℕ → Option Refusal
begin_refusal w p identity =
    if (p == 0) || nat_lt w.most p then Some OutOfRange
    else if identity == 0 then Some ZeroIdentity
    else if is_some (w.self p) then Some AlreadyBegun
    else None

-- why a step is refused
abbrev pub step_refusal : Option (Participant Namer) → Option Refusal
step_refusal None = Some NotBegun
step_refusal (Some v) = if v.ended then Some Finished else None

-- what a step returns that is not refused: the name of the seat, once it gets one
abbrev pub Says : Naming → Option (Participant Namer) → Option ℕ → Type 0
Says w None said = ⊥
Says w (Some v) said = said ≡ outcome_in (namer_note v.program (got_by w v.program))

abbrev pub IsReply : Naming → SeatCall → Type 0
IsReply w (Begin p identity reply) = reply ≡ done_unless (begin_refusal w p identity)
IsReply w (Step p (Ok said)) = (step_refusal (w.self p) ≡ None) × Says w (w.self p) said
IsReply w (Step p (Err why)) = step_refusal (w.self p) ≡ Some why

-- from 1 to 64 seats
pub record MayStart (most : ℕ) : Type 0 where
  pub some : 1 ≤ most
  pub few : most ≤ 64

abbrev pub naming : Machine ℕ Naming SeatCall
naming = record { MayStart = MayStart; first = fresh; next = next; IsReply = IsReply; Spec = λ most r. NamingSpec most (calls_of r); RefusesAsDue = RefusesAsDue }

abbrev pub program_in : Naming → ℕ → Option Namer
program_in w p = option_map (λ v. v.program) (w.self p)

-- the name of a seat, once it has one
abbrev pub name_by : Option (Participant Namer) → Option ℕ
name_by o = option_and_then (λ v. name_at (phase_of v.program)) o
