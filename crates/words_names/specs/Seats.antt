-- names over words and their seats, as callers see them
use Rattle.std.specs.Prelude.{ℕ, ◌==◌, ◌≤◌, nat_le, Bool, if◌then◌else◌, List, Option, Some, None}
use Rattle.std.specs.List.{list_any}
use Rattle.model_steps.specs.declared.refusal.Refusal.{Refusal}
use Rattle.model_steps.specs.declared.refusal.Refusal.TheVariants.{ZeroIdentity, AlreadyBegun, Full}
use Rattle.model_recursion.specs.declared.namer.Namer.{Namer}
use Rattle.words_machine.specs.Ids.{WordsId, EndedRun}

-- which names they are, and for how many seats: which words they are
abbrev pub NamesId : Type 0
NamesId = WordsId

-- from 1 to 64 seats
pub record IsSize (most : ℕ) : Type 0 where
  pub some : 1 ≤ most
  pub few : most ≤ 64

-- the seats that are still to be dealt: of which names, how many were dealt, and to which identities, in order
pub record DealerId : Type 0 where
  pub names : NamesId
  pub dealt : ℕ
  pub known : List ℕ

abbrev pub dealer_of : NamesId → ℕ → List ℕ → DealerId
dealer_of names dealt known = record { names = names; dealt = dealt; known = known }

-- a seat was dealt to this identity
abbrev pub is_known : ℕ → List ℕ → Bool
is_known identity known = list_any (λ y. y == identity) known

-- why no seat is dealt to an identity: the first of these that holds
abbrev pub no_deal : DealerId → ℕ → Option Refusal
no_deal d identity =
    if identity == 0 then Some ZeroIdentity
    else if is_known identity d.known then Some AlreadyBegun
    else if nat_le d.names.most d.dealt then Some Full
    else None

-- which seat of which names it is, and for which identity
pub record SeatId : Type 0 where
  pub names : NamesId
  pub number : ℕ
  pub identity : ℕ

abbrev pub seat_of : NamesId → ℕ → ℕ → SeatId
seat_of names number identity = record { names = names; number = number; identity = identity }

-- a seat that was renamed: of which names, which seat, for which identity, and its name; how many had begun when it got the name,
-- itself among them; and how many accesses it made
pub record RenamedId : Type 0 where
  pub names : NamesId
  pub number : ℕ
  pub identity : ℕ
  pub name : ℕ
  pub entered : ℕ
  pub accesses : ℕ

-- as the run of its program over the words ended
abbrev pub renamed_by : EndedRun Namer ℕ → RenamedId
renamed_by e = record { names = e.words; number = e.number; identity = e.identity; name = e.outcome; entered = e.entered; accesses = e.accesses }

-- that a seat of these names, for this identity, has this name
pub record ClaimId : Type 0 where
  pub names : NamesId
  pub number : ℕ
  pub identity : ℕ
  pub name : ℕ

abbrev pub claim_at : NamesId → ℕ → ℕ → ℕ → ClaimId
claim_at names number identity name = record { names = names; number = number; identity = identity; name = name }

abbrev pub claim_of : RenamedId → ClaimId
claim_of e = claim_at e.names e.number e.identity e.name
