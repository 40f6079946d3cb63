-- what the tables of moments hold. A moment is a row: the number that is proposed at each seat, 0 where none was
use Rattle.std.specs.Prelude.{◌≡◌, ◌≢◌, ℕ, ◌+◌, ◌-◌, ◌<◌, ◌≤◌, ◌==◌, nat_lt, nat_eq, Bool, List, length, count_by, slice_index, slice_set, unwrap_or, if◌then◌else◌}
use Rattle.std.specs.Cmp.Lexicographic.{pointwise}
use Rattle.std.specs.Bool.{beq}
use Rattle.std.specs.HashMap.{get}
use Rattle.model_steps.specs.SetAt.{set_at}
use Rattle.text_checker.specs.declared.judges.moments.Moments.{Moments}

-- whether two or more propose this number
abbrev pub crowded : ℕ → List ℕ → Bool
crowded n row = nat_lt 1 (count_by (λ x. x == n) row)

-- some moment from `since` to the last passes
pub record SomeSince (Passes : ℕ → Type 0) (since last : ℕ) : Type 0 where
  pub index : ℕ
  pub no_earlier : since ≤ index
  pub no_later : index ≤ last
  pub passes : Passes index

-- one more than the number of the last moment that passes, or 0 where none does
pub record IsPast (Passes : ℕ → Type 0) (last past : ℕ) : Type 0 where
  pub above : (i : ℕ) → i ≤ last → Passes i → i < past
  pub reached : 0 < past → Passes (past - 1)
  pub within : past ≤ last + 1

-- the tables are those of these rows, by their numbers from 0 to the last
pub record HoldsMoments (m : Moments) (last : ℕ) (rows : ℕ → List ℕ) : Type 0 where
  pub last_is : m.last ≡ last
  pub present_is : m.present ≡ rows last
  pub wide : (i : ℕ) → i ≤ last → length (rows i) ≡ 64
  pub numbers : length m.turned ≡ 128
  pub turned : (n : ℕ) → n < 128 → IsPast (λ i. crowded n (rows i) ≢ crowded n (rows last)) last (slice_index m.turned n)
  pub seen : (row : List ℕ) → IsPast (λ i. rows i ≡ row) last (unwrap_or (get (pointwise nat_eq) m.seen row) 0)

-- what is kept of when numbers turned, after a number that is crowded in just one of two moments was noted
abbrev pub turned_at : List ℕ → List ℕ → List ℕ → ℕ → ℕ → List ℕ
turned_at turned now next n at = if beq (crowded n now) (crowded n next) then turned else slice_set turned n at

-- this holds of any rows whose tables these are
abbrev pub OfMoments : Moments → (ℕ → (ℕ → List ℕ) → Type 0) → Type 0
OfMoments m P = (last : ℕ) (rows : ℕ → List ℕ) → HoldsMoments m last rows → P last rows

-- the rows with one more, in which this seat proposes this number
abbrev pub with_row : ℕ → ℕ → ℕ → (ℕ → List ℕ) → ℕ → List ℕ
with_row last seat number rows = set_at rows (last + 1) (slice_set (rows last) seat number)
