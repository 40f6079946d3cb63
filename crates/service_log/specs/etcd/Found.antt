-- What was read of an answer.
use Rattle.std.specs.Prelude.{◌≡◌, ◌⊎◌, ℕ, zero, suc, ◌+◌, Bool, true, false, List, [], ◌∷◌, take, drop, Option, Some, None, Ok, option_and_then}
use Rattle.std.specs.declared.vec.Vec.{Vec}
use Rattle.std.specs.declared.alloc.Global.{Global}
use Rattle.json.specs.Json.{Json, document}
use Rattle.base64.specs.Engines.{standard}
use Rattle.base64.specs.GeneralPurpose.{decode_of, encode_of}
use Rattle.service_log.specs.declared.store.Put.{Put}
use Rattle.service_log.specs.declared.store.Put.TheVariants.{Written, Taken}
use Rattle.service_log.specs.etcd.Answers.{first_said, get_said, got_said, put_said}
use Rattle.service_log.specs.etcd.Keys.{hint_key_of, key_of, place_said}
use Rattle.service_log.specs.declared.etcd.answer.Gone.{Gone}
use Rattle.service_log.specs.declared.etcd.answer.Appended.{Appended}
use Rattle.service_log.specs.declared.etcd.answer.Appended.TheVariants.{Found, Refused}

abbrev pub is_written : Put → Bool
is_written Written = true
is_written Taken = false

-- of an answer the entry of this index says that a value stands at the key, which in base64 is this; or there is no such entry
abbrev pub SaysAt : Json → ℕ → List ℕ → Option (Vec ℕ Global) → Type 0
SaysAt answer index key None = get_said index key answer ≡ Some None
SaysAt answer index key (Some found) = (value : List ℕ) × (get_said index key answer ≡ Some (Some value)) × (decode_of standard value ≡ Ok found.items)

-- and the key is that of a place under a prefix
pub record SaysFound (answer : Json) (index : ℕ) (prefix : List ℕ) (place : ℕ) (found : Option (Vec ℕ Global)) : Type 0 where
  pub key : List ℕ
  pub says : SaysAt answer index key found
  pub at : decode_of standard key ≡ Ok (key_of prefix place)

-- the entry of this index is none of the place under the prefix, of another key or with a value that is no base64; or this is no answer
abbrev pub IsUnread : Json → ℕ → List ℕ → ℕ → Type 0
IsUnread answer index prefix place = (found : Option (Vec ℕ Global)) → SaysAt answer index (encode_of standard (key_of prefix place)) found → ⊥

-- of so many entries from this index on, one for each place from this one on, one is so
abbrev pub HasUnread : ℕ → Json → ℕ → List ℕ → ℕ → Type 0
HasUnread zero answer index prefix place = ⊥
HasUnread (suc most) answer index prefix place = IsUnread answer index prefix place ⊎ HasUnread most answer (index + 1) prefix (place + 1)

-- an answer says from this index on, of so many entries at most, what stands at the places from this one on: these entries, and none behind
-- them
abbrev pub SaysFrom : ℕ → Json → ℕ → List ℕ → ℕ → List (Vec ℕ Global) → Type 0
SaysFrom zero answer index prefix place [] = Unit {0}
SaysFrom zero answer index prefix place (e ∷ es) = ⊥
SaysFrom (suc most) answer index prefix place [] = SaysFound answer index prefix place None
SaysFrom (suc most) answer index prefix place (e ∷ es) = SaysFound answer index prefix place (Some e) × SaysFrom most answer (index + 1) prefix (place + 1) es

-- the same, of a text that is an answer, from its first entry on
pub record SaysAll (most : ℕ) (text prefix : List ℕ) (place : ℕ) (found : List (Vec ℕ Global)) : Type 0 where
  pub answer : Json
  pub read : document text ≡ Some answer
  pub says : SaysFrom most answer 0 prefix place found

-- a text is the answer to an append: its conditions held, and it got these entries at the places from this one on; or they did not hold
abbrev pub SaysAppended : ℕ → List ℕ → List ℕ → ℕ → Appended → Type 0
SaysAppended most text prefix place (Found found) = (answer : Json) × (got : Json) × (document text ≡ Some answer) × (put_said answer ≡ Some true) ×
    (got_said 1 answer ≡ Some got) × SaysFrom most got 0 prefix place found.items
SaysAppended most text prefix place (Refused revision) = (answer : Json) × (document text ≡ Some answer) × (put_said answer ≡ Some false)

-- of two places the one below which entries were given up, and the one before which they were deleted
abbrev pub gone_by : Option ℕ → Option ℕ → Option Gone
gone_by (Some below) (Some deleted) = Some (record { below = below; deleted = deleted })
gone_by below deleted = None

-- what 32 digits note of entries that were given up; none, of other bytes
abbrev pub gone_noted : List ℕ → Option Gone
gone_noted bytes = gone_by (place_said (take 16 bytes)) (place_said (drop 16 bytes))

-- an answer says what was noted of entries that were given up, or that nothing was
abbrev pub SaysGone : Json → Option Gone → Type 0
SaysGone answer None = first_said answer ≡ Some None
SaysGone answer (Some gone) = (value : List ℕ) × (bytes : List ℕ) × (first_said answer ≡ Some (Some value)) × (decode_of standard value ≡ Ok bytes) ×
    (gone_noted bytes ≡ Some gone)

-- an answer says that these bytes stand at the key at which a place is noted under a prefix, and so which place; or that none is noted
pub record SaysHint (answer : Json) (prefix : List ℕ) (found : Option ℕ) : Type 0 where
  pub key : List ℕ
  pub noted : Option (Vec ℕ Global)
  pub says : SaysAt answer 0 key noted
  pub at : decode_of standard key ≡ Ok (hint_key_of prefix)
  pub place : found ≡ option_and_then (λ bytes. place_said bytes.items) noted
