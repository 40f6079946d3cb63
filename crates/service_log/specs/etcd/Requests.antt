-- What etcd is asked, and what its answers say. Its gateway has keys and values in base64, and leaves out what is false or empty.
use Rattle.std.specs.Prelude.{◌≡◌, ◌≤◌, ℕ, ◌+◌, ◌-◌, List, [], ◌∷◌, ◌++◌, length, map, Some, codes, Ok}
use Rattle.json.specs.Json.{Json, string, array, object, no_items, item, no_members, member, document}
use Rattle.base64.specs.Engines.{standard}
use Rattle.base64.specs.GeneralPurpose.{decode_of}
use Rattle.json.specs.Value.{items_of}
use Rattle.service_log.specs.etcd.Keys.{digits, fence_key_of, gone_end_of, gone_key_of, hint_key_of, key_of}

-- an object of one member, and a list of one item
abbrev pub only : List ℕ → Json → Json
only name value = object (member name value no_members)

abbrev pub alone : Json → Json
alone value = array (item value no_items)

abbrev pub both : Json → Json → Json
both one other = array (item one (item other no_items))

abbrev pub three : Json → Json → Json → Json
three one other last = array (item one (item other (item last no_items)))

-- what is reported of a key under a name is this
abbrev pub compared : List ℕ → List ℕ → List ℕ → List ℕ → Json
compared key target name value =
    object (member (codes "key") (string key) (
    member (codes "target") (string target) (
    member (codes "result") (string (codes "EQUAL")) (
    member name (string value) no_members))))

-- the key was never created: its create revision is 0
abbrev pub never_created : List ℕ → Json
never_created key = compared key (codes "CREATE") (codes "create_revision") (codes "0")

-- no key from this one on that comes before that one was created
abbrev pub none_created : List ℕ → List ℕ → Json
none_created key end =
    object (member (codes "key") (string key) (
    member (codes "range_end") (string end) (
    member (codes "target") (string (codes "CREATE")) (
    member (codes "result") (string (codes "EQUAL")) (
    member (codes "create_revision") (string (codes "0")) no_members)))))

-- the key was created, and stands
abbrev pub created : List ℕ → Json
created key =
    object (member (codes "key") (string key) (
    member (codes "target") (string (codes "CREATE")) (
    member (codes "result") (string (codes "GREATER")) (
    member (codes "create_revision") (string (codes "0")) no_members))))

-- this value stands at the key
abbrev pub holds : List ℕ → List ℕ → Json
holds key value = compared key (codes "VALUE") (codes "value") value

abbrev pub pair : List ℕ → List ℕ → Json
pair key value =
    object (member (codes "key") (string key) (
    member (codes "value") (string value) no_members))

-- if all of these hold, put the value at the key
abbrev pub put_if : Json → List ℕ → List ℕ → Json
put_if conditions key value =
    object (member (codes "compare") conditions (
    member (codes "success") (alone (only (codes "request_put") (pair key value))) no_members))

-- if the key was never created, and none of those that say that it was given up, put the value there
abbrev pub put_request : List ℕ → List ℕ → List ℕ → List ℕ → Json
put_request key gone end value = put_if (both (never_created key) (none_created gone end)) key value

-- the same, if that value stands at the key before it, too
abbrev pub put_behind_request : List ℕ → List ℕ → List ℕ → List ℕ → List ℕ → List ℕ → Json
put_behind_request before stood key gone end value = put_if (three (never_created key) (holds before stood) (none_created gone end)) key value

-- put the value at the first of these keys that was never created
abbrev pub put_first : List (List ℕ) → List ℕ → Json
put_first [] value = object no_members
put_first (key ∷ keys) value =
    object (member (codes "compare") (alone (never_created key)) (
    member (codes "success") (alone (only (codes "request_put") (pair key value))) (
    member (codes "failure") (alone (only (codes "request_txn") (put_first keys value))) no_members)))

-- get the keys from this one on that come before that one, in their order
abbrev pub get_request : List ℕ → List ℕ → Json
get_request key end =
    object (member (codes "key") (string key) (
    member (codes "range_end") (string end) no_members))

-- the fence was changed last at this revision, or never if that is 0; that value stands at the key before; and none of those was created that say
-- that the place was given up
abbrev pub fenced : List ℕ → List ℕ → List ℕ → List ℕ → List ℕ → List ℕ → Json
fenced fence revision before stood gone end =
    three (compared fence (codes "MOD") (codes "mod_revision") revision) (holds before stood) (none_created gone end)

-- put the value at the first key that is free, and then get what stands at all of them
abbrev pub first_free : List (List ℕ) → List ℕ → List ℕ → List ℕ → Json
first_free keys value first until = both (only (codes "request_txn") (put_first keys value)) (only (codes "request_range") (get_request first until))

-- if all of these hold, do so, and else get the fence
abbrev pub append_request : Json → Json → List ℕ → Json
append_request conditions put fence =
    object (member (codes "compare") conditions (
    member (codes "success") put (
    member (codes "failure") (alone (only (codes "request_range") (only (codes "key") (string fence)))) no_members)))

-- delete a key, and the keys from one on that come before another
abbrev pub delete_of : List ℕ → Json
delete_of key = only (codes "request_delete_range") (only (codes "key") (string key))

abbrev pub delete_in : List ℕ → List ℕ → Json
delete_in key end = only (codes "request_delete_range") (get_request key end)

-- if all of these hold, make these changes
abbrev pub trim_if : Json → List Json → Json
trim_if conditions changes =
    object (member (codes "compare") conditions (
    member (codes "success") (array (items_of changes)) no_members))

-- put the value at a key in place of what stands at the keys from the first on before it, and delete all those keys
abbrev pub trim_changes : List ℕ → List ℕ → List ℕ → List (List ℕ) → List Json
trim_changes first gone value keys = delete_in first gone ∷ only (codes "request_put") (pair gone value) ∷ map delete_of keys

-- the same if that other key stands, and none was created from one on that comes before the end
abbrev pub trim_request : List ℕ → List ℕ → List ℕ → List Json → Json
trim_request stands above end changes = trim_if (both (created stands) (none_created above end)) changes

-- these keys in base64 are those of the places from this one on
abbrev pub KeysFrom : List ℕ → ℕ → List (List ℕ) → Type 0
KeysFrom prefix place [] = Unit {0}
KeysFrom prefix place (key ∷ keys) = (decode_of standard key ≡ Ok (key_of prefix place)) × KeysFrom prefix (place + 1) keys

-- a text is the request that puts an entry at a place under a prefix
pub record SaysPut (text prefix : List ℕ) (place : ℕ) (entry : List ℕ) : Type 0 where
  pub key : List ℕ
  pub value : List ℕ
  pub gone : List ℕ
  pub end : List ℕ
  pub says : document text ≡ Some (put_request key gone end value)
  pub at : decode_of standard key ≡ Ok (key_of prefix place)
  pub holds : decode_of standard value ≡ Ok entry
  pub given_up : decode_of standard gone ≡ Ok (gone_key_of prefix place)
  pub to : decode_of standard end ≡ Ok (gone_end_of prefix)

-- a text is the request that puts an entry at a place under a prefix, where that entry stands at the place before it
pub record SaysPutBehind (text prefix : List ℕ) (place : ℕ) (stood entry : List ℕ) : Type 0 where
  pub before : List ℕ
  pub last : List ℕ
  pub key : List ℕ
  pub value : List ℕ
  pub gone : List ℕ
  pub end : List ℕ
  pub says : document text ≡ Some (put_behind_request before last key gone end value)
  pub at_before : decode_of standard before ≡ Ok (key_of prefix (place - 1))
  pub held : decode_of standard last ≡ Ok stood
  pub at : decode_of standard key ≡ Ok (key_of prefix place)
  pub holds : decode_of standard value ≡ Ok entry
  pub given_up : decode_of standard gone ≡ Ok (gone_key_of prefix place)
  pub to : decode_of standard end ≡ Ok (gone_end_of prefix)

-- a text is the request that puts an entry at the first place that was never written, from one on before another, and gets what stands there; only if
-- that entry stands at the place before, the place was not given up, and the fence under the prefix was changed last at this revision
pub record SaysAppend (text prefix : List ℕ) (place last : ℕ) (stood entry revision : List ℕ) : Type 0 where
  pub fence : List ℕ
  pub before : List ℕ
  pub held : List ℕ
  pub gone : List ℕ
  pub end : List ℕ
  pub first : List ℕ
  pub until : List ℕ
  pub keys : List (List ℕ)
  pub value : List ℕ
  pub says : document text ≡ Some (append_request (fenced fence revision before held gone end) (first_free keys value first until) fence)
  pub parts : decode_of standard fence ≡ Ok (fence_key_of prefix)
  pub at_before : decode_of standard before ≡ Ok (key_of prefix (place - 1))
  pub holds : decode_of standard held ≡ Ok stood
  pub given_up : decode_of standard gone ≡ Ok (gone_key_of prefix place)
  pub to : decode_of standard end ≡ Ok (gone_end_of prefix)
  pub from : decode_of standard first ≡ Ok (key_of prefix place)
  pub up_to : decode_of standard until ≡ Ok (key_of prefix last)
  pub at : KeysFrom prefix place keys
  pub many : place + length keys ≡ last
  pub puts : decode_of standard value ≡ Ok entry

-- a text is the request that changes the fence under a prefix
pub record SaysFence (text prefix : List ℕ) : Type 0 where
  pub key : List ℕ
  pub says : document text ≡ Some (only (codes "key") (string key))
  pub at : decode_of standard key ≡ Ok (fence_key_of prefix)

-- a text is the request that gets what stands under a prefix at the places from one on that come before another
pub record SaysGet (text prefix : List ℕ) (place last : ℕ) : Type 0 where
  pub key : List ℕ
  pub end : List ℕ
  pub says : document text ≡ Some (get_request key end)
  pub at : decode_of standard key ≡ Ok (key_of prefix place)
  pub before : decode_of standard end ≡ Ok (key_of prefix last)

-- a text is the request that gets what stands at one place under a prefix, and at no other key
pub record SaysOne (text prefix : List ℕ) (place : ℕ) : Type 0 where
  pub key : List ℕ
  pub says : document text ≡ Some (only (codes "key") (string key))
  pub at : decode_of standard key ≡ Ok (key_of prefix place)

-- a text is the request that gets the place that is noted under a prefix
pub record SaysGetHint (text prefix : List ℕ) : Type 0 where
  pub key : List ℕ
  pub says : document text ≡ Some (only (codes "key") (string key))
  pub at : decode_of standard key ≡ Ok (hint_key_of prefix)

-- a text is the request that notes a place under a prefix, in place of another
pub record SaysPutHint (text prefix : List ℕ) (place : ℕ) : Type 0 where
  pub key : List ℕ
  pub value : List ℕ
  pub says : document text ≡ Some (pair key value)
  pub at : decode_of standard key ≡ Ok (hint_key_of prefix)
  pub holds : decode_of standard value ≡ Ok (digits 16 place)

-- a text is the request that notes that entries below a place are given up, with the place before which they are deleted, in place of what was noted
-- before, and deletes those from a place on. It does so only if an entry stands at that first place, and no later one was noted. The first entry is
-- never deleted
pub record SaysTrim (text prefix : List ℕ) (place from to : ℕ) : Type 0 where
  pub stands : List ℕ
  pub above : List ℕ
  pub end : List ℕ
  pub first : List ℕ
  pub gone : List ℕ
  pub value : List ℕ
  pub keys : List (List ℕ)
  pub says : document text ≡ Some (trim_request stands above end (trim_changes first gone value keys))
  pub at : decode_of standard stands ≡ Ok (key_of prefix place)
  pub later : decode_of standard above ≡ Ok (gone_key_of prefix place)
  pub until : decode_of standard end ≡ Ok (gone_end_of prefix)
  pub least : decode_of standard first ≡ Ok (gone_key_of prefix 0)
  pub notes : decode_of standard gone ≡ Ok (gone_key_of prefix (place - 1))
  pub holds : decode_of standard value ≡ Ok (digits 16 place ++ digits 16 to)
  pub deletes : KeysFrom prefix from keys
  pub many : from + length keys ≡ to
  pub after_first : 1 ≤ from
  pub within : to ≤ place

-- a text is the request that gets what was noted of entries that were given up
pub record SaysGetGone (text prefix : List ℕ) : Type 0 where
  pub key : List ℕ
  pub end : List ℕ
  pub says : document text ≡ Some (get_request key end)
  pub at : decode_of standard key ≡ Ok (gone_key_of prefix 0)
  pub before : decode_of standard end ≡ Ok (gone_end_of prefix)
