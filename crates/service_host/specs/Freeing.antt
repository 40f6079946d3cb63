-- who competes in a hall once stays were released (this project's profile)
use Rattle.std.specs.Prelude.{◌≡◌, ◌⊎◌, ◌≤◌, ℕ, Bool, true, false, List, [], ◌∷◌}
use Rattle.std.specs.List.{Contains}
use Rattle.model_asked.specs.declared.event.Event.{Event}
use Rattle.model_asked.specs.declared.event.Event.TheVariants.{Probe, Seek, Leave}
use Rattle.model_asked.specs.Replies.{ShownReply}
use Rattle.model_asked.specs.Requests.{Request}
use Rattle.model_asked.specs.Requests.Request.{Take}
use Rattle.text_player.specs.Turns.{Turn}
use Rattle.text_player.specs.Turns.Turn.{Answered, Reported, Ended, Misread}
use Rattle.text_worlds.specs.desk.Held.{slots_of}
use Rattle.service_hall.specs.Halls.{desk_of, HallMay}
use Rattle.service_hall.specs.HallState.{HallState}
use Rattle.service_hall.specs.Serving.{wants_room}
use Rattle.service_loop.specs.Releasing.{Released, competes_for}
use Rattle.service_loop.specs.declared.attended.Attended.{Attended}

-- `leave`, `probe` and `seek`, by which a stay is released
abbrev pub is_of_release : Event → Bool
is_of_release (Leave p) = true
is_of_release (Probe p) = true
is_of_release (Seek p) = true
is_of_release e = false

-- a service over a hall answers `leave`, `probe` and `seek` as that hall may
abbrev pub ReleasesAsHall : {D : Type 0} → (D → HallState) → (D → Request → ShownReply → D → Type 0) → Type 0
ReleasesAsHall {D = D} hall may = (w u : D) (e : Event) (r : ShownReply) → is_of_release e ≡ true → may w (Take e) r u → HallMay (hall w) e r (hall u)

-- an identity competes in a hall
abbrev pub competes_in : HallState → ℕ → Bool
competes_in h id = competes_for (slots_of (desk_of h)) id

-- `leave`, `probe` or `seek` of an identity was refused, since an allocation failed or the history was full
abbrev pub IsRefusedRoom : ℕ → Turn → Type 0
IsRefusedRoom id (Answered x) = ((x.event ≡ Leave id) ⊎ (x.event ≡ Probe id) ⊎ (x.event ≡ Seek id)) × (wants_room x.reply ≡ true)
IsRefusedRoom id (Reported n r) = ⊥
IsRefusedRoom id Ended = ⊥
IsRefusedRoom id (Misread bad) = ⊥

-- so it was among these turns
abbrev pub WasRefusedRoom : ℕ → List Turn → Type 0
WasRefusedRoom id [] = ⊥
WasRefusedRoom id (t ∷ turns) = IsRefusedRoom id t ⊎ WasRefusedRoom id turns

-- Of a service over a hall, whose pool has at most 64 numbers if the hall is not of the wide world, each of these identities competes no more once it was
-- released, unless it was refused room meanwhile
abbrev pub FreesAll : {D : Type 0} → Bool → (D → HallState) → (D → Request → ShownReply → D → Type 0) → Type 0
FreesAll {D = D} wide hall may = (due : List ℕ) (w u : Attended D) (released : Released wide may due w u) (id : ℕ) →
    (wide ≡ false → (slots_of (desk_of (hall w.service))).pool.size ≤ 64) →
    Contains due id → (competes_in (hall u.service) id ≡ false) ⊎ WasRefusedRoom id released.turns
