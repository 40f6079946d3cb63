-- what a server does, one thing after another
use Rattle.std.proofs.Common.{◌≡◌, ℕ, List, [], ◌∷◌, ◌++◌, Result, Ok, Err, IsErr, IfOk, OnErr, OnOk, refl, subst}
use Rattle.service_loop.proofs.Common.{Request, ShownReply}
use Rattle.service_loop.specs.Rounds.{AllDone, Deed, WasServed}
use Rattle.service_loop.specs.Rounds.Deed.{Waits}
use base.Fml.{Lft}
use contract.BorrowLft.{◌⊑◌, ⊑_meet, ⊑_refl, ⊑_static}

-- a clock that is borrowed outlives what goes on for ever by it
pub iterates_within : (κ lives : Lft) → κ ⊑ lives → κ ⊑ (lives ++ []) ++ ((κ ++ lives) ++ [])
iterates_within κ lives within =
    let one = ⊑_meet κ lives [] within (⊑_static κ) in
    let two = ⊑_meet κ (κ ++ lives) [] (⊑_meet κ κ lives (⊑_refl κ) within) (⊑_static κ) in
    ⊑_meet κ (lives ++ []) ((κ ++ lives) ++ []) one two

-- what is so is so where a call went well
pub always : {T E : Type 0} (result : Result T E) (P : Type 0) → P → OnOk result P
always (Ok done) P is = is
always (Err fault) P is = tt

-- what follows from what is so where a call went well
pub ok_then : {T E : Type 0} (result : Result T E) (P Q : Type 0) → (P → Q) → OnOk result P → OnOk result Q
ok_then (Ok done) P Q f is = f is
ok_then (Err fault) P Q f is = tt

-- what is so where a call went well is so, since it did
pub ok_holds : {T E : Type 0} (result : Result T E) (done : T) (P : Type 0) → result ≡ Ok done → OnOk result P → P
ok_holds (Ok other) done P is so = so
ok_holds (Err fault) done P is so = absurd (cc)

-- and where it went wrong
pub always_wrong : {T E : Type 0} (result : Result T E) (P : Type 0) → P → OnErr result P
always_wrong (Ok done) P is = tt
always_wrong (Err fault) P is = is

-- where it went wrong nothing is owed of what it gave
pub owes_none : {T E : Type 0} (result : Result T E) (P : T → Type 0) → IsErr result → IfOk result P
owes_none (Ok done) P wrong = absurd (cc)
owes_none (Err fault) P wrong = tt

pub owes_nothing : {T E : Type 0} (result : Result T E) (P : Type 0) → IsErr result → OnOk result P
owes_nothing (Ok done) P wrong = absurd (cc)
owes_nothing (Err fault) P wrong = tt

pub gave_none : {T E : Type 0} (result : Result T E) (done : T) → IsErr result → result ≡ Ok done → ⊥
gave_none (Ok done) other wrong is = cc
gave_none (Err fault) other wrong is = cc

-- of what a call gave where it went well, the first part
pub turned_alone : {E : Type 0} (result : Result ℕ E) (S : ℕ → Type 0) (H : (n : ℕ) → S n → Type 0) → IfOk result (λ n. (turned : S n) × H n turned) → IfOk result S
turned_alone (Ok n) S H is = is.0
turned_alone (Err fault) S H is = tt

module _ {T K : Type 0} (may : T → Request → ShownReply → T → Type 0) (prefetches : K → T → List ℕ → K → T → Type 0) (persists waits : K → T → K → T → Type 0) where
  -- nothing was done
  pub served_none : (k : K) (w : T) → WasServed may prefetches persists waits k w k w
  served_none k w = ([], (refl, refl))

  -- the persister went on by itself
  pub served_waits : (k l : K) (w u : T) → waits k w l u → WasServed may prefetches persists waits k w l u
  served_waits k l w u done = (Waits ∷ [], (l, u, done, (refl, refl)))

  -- one thing was done after another
  done_then : (xs ys : List Deed) (k mid l : K) (w then u : T) → AllDone may prefetches persists waits k w xs mid then → AllDone may prefetches persists waits mid then ys l u → AllDone may prefetches persists waits k w (xs ++ ys) l u
  done_then [] ys k mid l w then u one two = subst (λ (m : K). AllDone may prefetches persists waits m w ys l u) one.0 (subst (λ (v : T). AllDone may prefetches persists waits mid v ys l u) one.1 two)
  done_then (x ∷ xs) ys k mid l w then u one two = (one.0, one.1, one.2, done_then xs ys one.0 mid l one.1 then u one.3 two)

  pub served_then : (k mid l : K) (w then u : T) → WasServed may prefetches persists waits k w mid then → WasServed may prefetches persists waits mid then l u → WasServed may prefetches persists waits k w l u
  served_then k mid l w then u one two = (one.0 ++ two.0, done_then one.0 two.0 k mid l w then u one.1 two.1)
