-- What a store over etcd wrote or read last.
use Rattle.std.specs.Prelude.{ℕ, ◌+◌, ◌-◌, ◌==◌, if◌then◌else◌, List, Option, Some, None, codes}
use Rattle.std.specs.String.{string_bytes}
use Rattle.std.specs.declared.alloc.Global.{Global}
use Rattle.std.specs.declared.string.String.{String}
use Rattle.service_log.specs.etcd.Requests.{SaysAppend, SaysPut, SaysPutBehind}
use Rattle.service_log.specs.declared.etcd.etcd_store.Last.{Last}

-- the entry that stood at the place before this one, if that is the last place
abbrev pub stood_at : Option Last → ℕ → Option (List ℕ)
stood_at None place = None
stood_at (Some last) place = if last.place + 1 == place then Some last.entry.items else None

abbrev pub or_else : Option (List ℕ) → Option (List ℕ) → Option (List ℕ)
or_else None other = other
or_else (Some entry) other = Some entry

-- the same, of what was appended last, or else of what was put or read last
abbrev pub stood_before : Option Last → Option Last → ℕ → Option (List ℕ)
stood_before own last place = or_else (stood_at own place) (stood_at last place)

-- the place before is asked for first, where it is known what stood there
abbrev pub first_asked : Option (List ℕ) → ℕ → ℕ
first_asked None place = place
first_asked (Some stood) place = place - 1

-- a text is the request that puts an entry at a place, behind what stood at the place before, where that is known
abbrev pub SaysPutAfter : Option (List ℕ) → List ℕ → List ℕ → ℕ → List ℕ → Type 0
SaysPutAfter None text prefix place entry = SaysPut text prefix place entry
SaysPutAfter (Some stood) text prefix place entry = SaysPutBehind text prefix place stood entry

-- the revision at which the fence was changed last, so far as it is known
abbrev pub fence_known : Option (String Global) → List ℕ
fence_known None = codes "0"
fence_known (Some revision) = string_bytes revision

-- a text is the request that offers an entry at four places from one on, behind what stood at the place before, as that fence stands
abbrev pub SaysOfferAfter : Option (List ℕ) → List ℕ → List ℕ → ℕ → List ℕ → List ℕ → Type 0
SaysOfferAfter None text prefix place entry revision = ⊥
SaysOfferAfter (Some stood) text prefix place entry revision = SaysAppend text prefix place (place + 4) stood entry revision
