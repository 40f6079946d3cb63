-- what a line of a record has as JSON
use Rattle.std.specs.Prelude.{◌≡◌, ℕ, zero, suc, ◌≤◌, ◌==◌, Bool, true, nat_le, ◌&&◌, not, if◌then◌else◌, List, Option, Some, None, option_map, option_and_then, codes}
use Rattle.serde_json.specs.Data.{Data, Members, no_members, member}
use Rattle.serde_json.specs.Find.{get, as_str, as_number, as_u64, as_object}
use Rattle.model_asked.specs.Config.{gives_names, world_name}
use Rattle.model_asked.specs.declared.kind.WorldKind.{WorldKind}
use Rattle.text_records.specs.declared.header.Header.{Header}
use Rattle.text_records.specs.declared.header.Version.{Version}
use Rattle.text_records.specs.declared.header.Version.TheVariants.{One, Two}

abbrev pub count_members : Members → ℕ
count_members no_members = zero
count_members (member key value more) = suc (count_members more)

-- how many keys an object has
abbrev pub keys_of : Data → Option ℕ
keys_of d = option_map count_members (as_object d)

-- the text of a key, and its number
abbrev pub text_at : List ℕ → Data → Option (List ℕ)
text_at key d = option_and_then as_str (get key d)

abbrev pub number_at : List ℕ → Data → Option ℕ
number_at key d = option_and_then as_u64 (option_and_then as_number (get key d))

-- an event's line has two keys, and a third where a view is written
abbrev pub text_count : Option (List ℕ) → ℕ
text_count None = 2
text_count (Some text) = 3

abbrev pub HasViewText : Data → Option (List ℕ) → Type 0
HasViewText d None = Unit {0}
HasViewText d (Some text) = text_at (codes "view") d ≡ Some text

-- an object of these texts: a command and a reply, and a view where one is written
pub record AreTexts (d : Data) (command reply : List ℕ) (shown : Option (List ℕ)) : Type 0 where
  pub keys : keys_of d ≡ Some (text_count shown)
  pub command_is : text_at (codes "command") d ≡ Some command
  pub reply_is : text_at (codes "reply") d ≡ Some reply
  pub view_is : HasViewText d shown

-- the versions of records
abbrev pub version_of : ℕ → Option Version
version_of number = if number == 1 then Some One else if number == 2 then Some Two else None

-- records of version 1 are of at most 16 participants
abbrev pub FitsVersion : Version → ℕ → Type 0
FitsVersion One most = most ≤ 16
FitsVersion Two most = Unit {0}

-- an object of six keys, of this format and version
pub record HasFormat (d : Data) (v : Version) : Type 0 where
  pub keys : keys_of d ≡ Some 6
  pub format : text_at (codes "format") d ≡ Some (codes "slot-record")
  pub version : option_and_then version_of (number_at (codes "version") d) ≡ Some v

-- it says this version, this world, in which names are given, and these sizes
pub record SaysSizes (d : Data) (v : Version) (world : WorldKind) (m k limit : ℕ) : Type 0 where
  pub format : HasFormat d v
  pub world_is : text_at (codes "world") d ≡ Some (world_name world)
  pub named : gives_names world ≡ true
  pub m_is : number_at (codes "m") d ≡ Some m
  pub k_is : number_at (codes "k") d ≡ Some k
  pub limit_is : number_at (codes "limit") d ≡ Some limit

abbrev pub SaysNoSizes : Data → Type 0
SaysNoSizes d = (v : Version) (world : WorldKind) (m k limit : ℕ) → SaysSizes d v world m k limit → ⊥

-- it says of what a run is, each size in its range
pub record IsHeader (d : Data) (h : Header) : Type 0 where
  pub sizes : SaysSizes d h.version h.config.world h.config.m h.config.k h.config.limit
  pub fits : FitsVersion h.version h.config.m

-- what stands for itself in a JSON text
abbrev pub is_plain : ℕ → Bool
is_plain b = nat_le 32 b && (nat_le b 126 && (not (b == 34) && not (b == 92)))
