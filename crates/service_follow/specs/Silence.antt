-- for how long the log told the same of a stay
use Rattle.std.specs.Prelude.{◌≡◌, ◌⊎◌, ℕ, List, [], ◌∷◌, ◌++◌, All, map}
use Rattle.service_follow.specs.Watched.{watched}
use Rattle.service_follow.specs.declared.front_end_stay.FrontEndStay.{FrontEndStay}
use Rattle.service_follow.specs.declared.watches.Watch.{Watch}

-- an element of a list
abbrev pub IsAmong : {X : Type 0} → X → List X → Type 0
IsAmong x [] = ⊥
IsAmong x (y ∷ ys) = (y ≡ x) ⊎ IsAmong x ys

-- the log was read to its end at a tick, and told of these stays
pub record Look : Type 0 where
  pub tick : ℕ
  pub kept : List FrontEndStay

abbrev pub watches_after : List Watch → List Look → List Watch
watches_after watches [] = watches
watches_after watches (look ∷ looks) = watches_after (map (watched look.tick watches) look.kept) looks

-- what looks come to, one after another
abbrev pub after_looks : List Look → List Watch
after_looks looks = watches_after [] looks

-- A look of this tick and all behind it told the very same of a stay: who keeps it, and the last entry of that front end
pub record WasSo (w : Watch) (looks : List Look) : Type 0 where
  pub before : List Look
  pub first : Look
  pub later : List Look
  pub parts : looks ≡ before ++ first ∷ later
  pub tick : first.tick ≡ w.since
  pub told : All (λ (look : Look). IsAmong w.stay look.kept) (first ∷ later)
