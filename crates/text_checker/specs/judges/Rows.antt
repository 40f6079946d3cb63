-- the row that a view is
use Rattle.std.specs.Prelude.{◌≡◌, ℕ, ◌<◌, ◌≤◌, ◌↔◌, List, length, Option, Some, None, slice_index, MatchOption}
use Rattle.model_steps.specs.View.{IsRising, value_of}
use Rattle.model_snapshot.specs.Snapshot.{IsMoment}
use Rattle.model_renaming.specs.RenameObject.{RenameObject}
use Rattle.text_checker.specs.declared.judges.standing.Turn.{Turn}
use Rattle.text_checker.specs.judges.Moments.{SomeSince}
use Rattle.text_checker.specs.judges.Standing.{reported_in}

-- an identity has this seat, and the number is one that is proposed
pub record HasPair (turns : ℕ → Option Turn) (p n seat : ℕ) : Type 0 where
  pub turn : Turn
  pub is : turns p ≡ Some turn
  pub at : turn.seat ≡ seat
  pub positive : 1 ≤ n
  pub small : n < 128

-- there is no such pair in any moment
abbrev pub LacksPair : (ℕ → Option Turn) → ℕ → ℕ → Type 0
LacksPair turns p n = (t : Turn) → turns p ≡ Some t → 1 ≤ n → n < 128 → ⊥

-- the row says what the pairs say
pub record IsRowOf (turns : ℕ → Option Turn) (many : ℕ) (view : List (ℕ × ℕ)) (row : List ℕ) : Type 0 where
  pub wide : length row ≡ 64
  pub says : (q : ℕ) → value_of q view ≡ reported_in row (turns q)
  pub unused : (seat : ℕ) → many ≤ seat → slice_index row seat ≡ 0

-- a rising view is a moment exactly where this is its row; where there is none, it is no moment
abbrev pub TellsMoments : RenameObject → (ℕ → List ℕ) → List (ℕ × ℕ) → Option (List ℕ) → Type 0
TellsMoments o rows view found =
    (i : ℕ) → i ≤ o.last → IsRising view → MatchOption found (IsMoment view (o.moment i) → ⊥) (λ row. IsMoment view (o.moment i) ↔ (rows i ≡ row))

-- a view was a moment since then exactly where its row is found, which is that of any such moment
abbrev pub TellsSince : RenameObject → (ℕ → List ℕ) → ℕ → List (ℕ × ℕ) → Option (List ℕ) → Type 0
TellsSince o rows since view None = SomeSince (λ i. IsMoment view (o.moment i)) since o.last → ⊥
TellsSince o rows since view (Some row) =
    SomeSince (λ i. IsMoment view (o.moment i)) since o.last × ((i : ℕ) → i ≤ o.last → IsMoment view (o.moment i) → rows i ≡ row)
