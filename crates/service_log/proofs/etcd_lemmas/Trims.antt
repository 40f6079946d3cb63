-- The text that gives entries up.
use Rattle.std.proofs.Common.{rules, arith, ◌≡◌, ◌≤◌, ◌<◌, ℕ, suc, ◌+◌, List, [], ◌∷◌, ◌++◌, length, map, drop, get_or, ap, sym, ◌∙◌, subst, Some, Result, Ok, Err, IfOk, ◌-◌, add-zero, append_assoc, add-one}
use Rattle.std.proofs.Math.Nat.{max-le}
use Rattle.std.proofs.Math.Seq.{drop-cons}
use Rattle.std.proofs.lemmas.List.{map-append, length-append}
use Rattle.std.specs.declared.vec.Vec.{Vec}
use Rattle.std.specs.declared.alloc.Global.{Global}
use Rattle.json.specs.Json.{Json, document, max_depth}
use Rattle.json.specs.Tree.{HasNumbers, ItemsHaveNumbers, depth, items_depth}
use Rattle.json.specs.Value.{items_of}
use Rattle.base64.specs.Engines.{standard}
use Rattle.base64.specs.GeneralPurpose.{decode_of}
use Rattle.service_log.specs.etcd.Keys.{digits, gone_end_of, gone_key_of, key_of}
use Rattle.service_log.specs.etcd.Requests.{KeysFrom, SaysTrim, delete_of, trim_changes, trim_request}

-- one key more, of the next place
keys_snoc : (prefix : List ℕ) (place : ℕ) (keys : List (List ℕ)) (key : List ℕ) → KeysFrom prefix place keys → decode_of standard key ≡ Ok (key_of prefix (place + length keys)) →
    KeysFrom prefix place (keys ++ key ∷ [])
keys_snoc prefix place [] key h g = (subst (λ (n : ℕ). decode_of standard key ≡ Ok (key_of prefix n)) (add-zero place) g, tt)
keys_snoc prefix place (k ∷ ks) key h g =
    let at : place + suc (length ks) ≡ (place + 1) + length ks = omega arith in
    (h.0, keys_snoc prefix (place + 1) ks key h.1 (subst (λ (n : ℕ). decode_of standard key ≡ Ok (key_of prefix n)) at g))

pub keys_more : {A : Type 0} (text : A → List ℕ) (prefix : List ℕ) (from place : ℕ) (keys pushed : List A) (key : A) → pushed ≡ keys ++ key ∷ [] →
    KeysFrom prefix from (map text keys) → from + length (map text keys) ≡ place → decode_of standard (text key) ≡ Ok (key_of prefix place) →
    KeysFrom prefix from (map text pushed)
keys_more {A} text prefix from place keys pushed key is h many at =
    let here = subst (λ (n : ℕ). decode_of standard (text key) ≡ Ok (key_of prefix n)) (sym many) at in
    let more = keys_snoc prefix from (map text keys) (text key) h here in
    subst (λ (l : List (List ℕ)). KeysFrom prefix from l) (sym (ap (λ (l : List A). map text l) is ∙ map-append text keys (key ∷ []))) more

pub many_more : {A : Type 0} (text : A → List ℕ) (from place : ℕ) (keys pushed : List A) (key : A) → pushed ≡ keys ++ key ∷ [] → from + length (map text keys) ≡ place →
    from + length (map text pushed) ≡ place + 1
many_more {A} text from place keys pushed key is many =
    let long = ap (λ (l : List A). length (map text l)) is ∙ ap (λ (l : List (List ℕ)). length l) (map-append text keys (key ∷ [])) ∙ length-append (map text keys) (text key ∷ []) in
    omega (arith, long, many)

-- one request to delete a key more, before the others
pub deletes_on : {A : Type 0} (text : A → List ℕ) (keys : List A) (at : ℕ) (d : A) (before all new : List Json) → at < length keys →
    before ++ map delete_of (map text (drop at keys)) ≡ all → new ≡ before ++ delete_of (text (get_or keys at d)) ∷ [] →
    new ++ map delete_of (map text (drop (at + 1) keys)) ≡ all
deletes_on {A} text keys at d before all new inside so is =
    let one = delete_of (text (get_or keys at d)) in
    let rest = map delete_of (map text (drop (suc at) keys)) in
    ap (λ (k : ℕ). new ++ map delete_of (map text (drop k keys))) (add-one at)
    ∙ (ap (λ (l : List Json). l ++ rest) is
    ∙ (append_assoc before (one ∷ []) rest ∙ (ap (λ (l : List A). before ++ map delete_of (map text l)) (sym (drop-cons keys at d inside)) ∙ so)))

-- it has no numbers, and does not nest deep
deletes_numbers : (keys : List (List ℕ)) → ItemsHaveNumbers (items_of (map delete_of keys))
deletes_numbers [] = tt
deletes_numbers (key ∷ keys) = (((tt, tt), tt), deletes_numbers keys)

deletes_depth : (keys : List (List ℕ)) → items_depth (items_of (map delete_of keys)) ≤ 2
deletes_depth [] = omega arith
deletes_depth (key ∷ keys) = max-le (omega arith) (deletes_depth keys)

pub trim_numbers : (stands above end first gone value : List ℕ) (keys : List (List ℕ)) → HasNumbers (trim_request stands above end (trim_changes first gone value keys))
trim_numbers stands above end first gone value keys =
    let rest = deletes_numbers keys in
    search (rules, rest)

pub trim_depth : (stands above end first gone value : List ℕ) (keys : List (List ℕ)) → depth (trim_request stands above end (trim_changes first gone value keys)) ≤ max_depth
trim_depth stands above end first gone value keys =
    let rest = deletes_depth keys in
    search (rules, rest, max-le)

-- so what is written reads back
pub reads_trim : {E : Type 0} (r : Result (Vec ℕ Global) E) (json : Json) (stands above end first gone value : List ℕ) (keys : List (List ℕ)) →
    json ≡ trim_request stands above end (trim_changes first gone value keys) → IfOk r (λ b. depth json ≤ max_depth → document b.items ≡ Some json) →
    IfOk r (λ text. document text.items ≡ Some (trim_request stands above end (trim_changes first gone value keys)))
reads_trim (Ok text) json stands above end first gone value keys is reads =
    reads (subst (λ (j : Json). depth j ≤ max_depth) (sym is) (trim_depth stands above end first gone value keys)) ∙ ap (λ (j : Json). Some j) is
reads_trim (Err refused) json stands above end first gone value keys is reads = tt

-- and a text that says the transaction of keys and values that read back as these gives entries up
pub says_trim : {E : Type 0} (r : Result (Vec ℕ Global) E) (prefix : List ℕ) (place from to : ℕ) (stands above end first gone value : List ℕ) (keys : List (List ℕ)) →
    1 ≤ from → to ≤ place → IfOk r (λ text. document text.items ≡ Some (trim_request stands above end (trim_changes first gone value keys))) →
    decode_of standard stands ≡ Ok (key_of prefix place) → decode_of standard above ≡ Ok (gone_key_of prefix place) →
    decode_of standard end ≡ Ok (gone_end_of prefix) → decode_of standard first ≡ Ok (gone_key_of prefix 0) →
    decode_of standard gone ≡ Ok (gone_key_of prefix (place - 1)) → decode_of standard value ≡ Ok (digits 16 place ++ digits 16 to) →
    KeysFrom prefix from keys → from + length keys ≡ to → IfOk r (λ text. SaysTrim text.items prefix place from to)
says_trim (Ok text) prefix place from to stands above end first gone value keys some inside says at later until least notes holds deletes many = record {
  stands = stands;
  above = above;
  end = end;
  first = first;
  gone = gone;
  value = value;
  keys = keys;
  says = says;
  at = at;
  later = later;
  until = until;
  least = least;
  notes = notes;
  holds = holds;
  deletes = deletes;
  many = many;
  after_first = some;
  within = inside;
}
says_trim (Err refused) prefix place from to stands above end first gone value keys some inside says at later until least notes holds deletes many = tt
