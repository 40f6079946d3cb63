-- the leases of a front end, by its entries that stood
use Rattle.std.specs.Prelude.{◌≡◌, ◌-◌, ◌<◌, ℕ, ltb, if◌then◌else◌, List, [], ◌∷◌}
use Rattle.service_follow.specs.Batches.{next_count}

-- the lease of an entry that is known to stand at a second, where the entry before it was sent at another, in that lease: the same, or the next one where 20
-- seconds passed
abbrev pub lease_at : ℕ → ℕ → ℕ → ℕ
lease_at lease sent now = if ltb (now - sent) 20 then lease else next_count lease

-- the same, at a second that a clock tells
abbrev pub IsRenewedBy : {T : Type 0} → (T → ℕ → Type 0) → T → ℕ → ℕ → ℕ → Type 0
IsRenewedBy tells clock sent lease next = (now : ℕ) × tells clock now × (next ≡ lease_at lease sent now)

-- Who keeps a stay since a lease may be answered: it is that of the last entry that stood, and the clock tells a second less than 20 behind that at which
-- that was sent
abbrev pub MayAnswer : {T : Type 0} → (T → ℕ → Type 0) → T → ℕ → ℕ → ℕ → Type 0
MayAnswer tells clock sent lease since = (now : ℕ) × tells clock now × (now - sent < 20) × (since ≡ lease)

-- an entry that stood: when it was sent, and when that was known
pub record Stood : Type 0 where
  pub sent : ℕ
  pub known : ℕ

-- the lease of the last of these entries, where the one before them was sent then, in this lease
abbrev pub lease_after : ℕ → ℕ → List Stood → ℕ
lease_after lease sent [] = lease
lease_after lease sent (e ∷ es) = lease_after (lease_at lease sent e.known) e.sent es

-- each was known to stand less than 20 seconds after the one before was sent
abbrev pub IsUnbroken : ℕ → List Stood → Type 0
IsUnbroken sent [] = Unit {0}
IsUnbroken sent (e ∷ es) = (e.known - sent < 20) × IsUnbroken e.sent es
