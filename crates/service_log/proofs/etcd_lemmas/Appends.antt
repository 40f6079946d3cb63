-- The text that appends.
use Rattle.std.proofs.Common.{rules, arith, ◌≡◌, ◌≤◌, ℕ, ◌+◌, ◌-◌, ◌*◌, List, [], ◌∷◌, length, map, codes, ap, ◌∙◌, sym, subst, Some, Result, Ok, Err, IfOk}
use Rattle.std.proofs.Math.Nat.{max-le}
use Rattle.std.specs.declared.vec.Vec.{Vec}
use Rattle.std.specs.declared.alloc.Global.{Global}
use Rattle.std.proofs.lemmas.List.{length-map}
use Rattle.json.specs.Json.{Json, document, max_depth, string, object, member, no_members}
use Rattle.json.specs.Tree.{HasNumbers, depth}
use Rattle.base64.specs.Engines.{standard}
use Rattle.base64.specs.GeneralPurpose.{decode_of}
use Rattle.service_log.specs.etcd.Keys.{fence_key_of, gone_end_of, gone_key_of, key_of}
use Rattle.service_log.specs.etcd.Requests.{KeysFrom, SaysAppend, alone, append_request, fenced, first_free, only, put_first}

-- it has no numbers, and does not nest deep
put_first_numbers : (keys : List (List ℕ)) (value : List ℕ) → HasNumbers (put_first keys value)
put_first_numbers [] value = tt
put_first_numbers (key ∷ keys) value =
    let rest = put_first_numbers keys value in
    search (rules, rest)

put_first_depth : (keys : List (List ℕ)) (value : List ℕ) → depth (put_first keys value) ≤ 1 + 3 * length keys
put_first_depth [] value = omega arith
put_first_depth (key ∷ keys) value =
    let rest = put_first_depth keys value in
    let more : 2 + depth (put_first keys value) ≤ 3 * length (key ∷ keys) = omega (arith, rest) in
    search (rules, more, max-le)

pub append_numbers : (fence revision before held gone end first until value : List ℕ) (keys : List (List ℕ)) →
    HasNumbers (append_request (fenced fence revision before held gone end) (first_free keys value first until) fence)
append_numbers fence revision before held gone end first until value keys =
    let rest = put_first_numbers keys value in
    search (rules, rest)

append_depth : (fence revision before held gone end first until value : List ℕ) (keys : List (List ℕ)) → length keys ≤ 16 →
    depth (append_request (fenced fence revision before held gone end) (first_free keys value first until) fence) ≤ max_depth
append_depth fence revision before held gone end first until value keys few =
    let rest = put_first_depth keys value in
    let more : depth (put_first keys value) ≤ 100 = omega (arith, rest, few) in
    search (rules, more, max-le)

-- these are its members
pub is_append : (json compared put failure conditions first : Json) (fence : List ℕ) →
    json ≡ object (member (codes "compare") compared (member (codes "success") put (member (codes "failure") failure no_members))) → compared ≡ conditions → put ≡ first →
    failure ≡ alone (only (codes "request_range") (only (codes "key") (string fence))) → json ≡ append_request conditions first fence
is_append json compared put failure conditions first fence is one two three =
    let last = alone (only (codes "request_range") (only (codes "key") (string fence))) in
    is ∙ (ap (λ (j : Json). object (member (codes "compare") j (member (codes "success") put (member (codes "failure") failure no_members)))) one
    ∙ (ap (λ (j : Json). object (member (codes "compare") conditions (member (codes "success") j (member (codes "failure") failure no_members)))) two
    ∙ ap (λ (j : Json). object (member (codes "compare") conditions (member (codes "success") first (member (codes "failure") j no_members)))) three))

-- the keys of a few places are few
pub few_keys : {A : Type 0} (text : A → List ℕ) (from last : ℕ) (keys : List A) → from + length (map text keys) ≡ last → last ≤ from + 16 → length keys ≤ 16
few_keys text from last keys many few = let long = length-map keys text in omega (arith, long, many, few)

pub few_texts : {A : Type 0} (text : A → List ℕ) (keys : List A) → length keys ≤ 16 → length (map text keys) ≤ 16
few_texts text keys few = let long = length-map keys text in omega (arith, long, few)

-- so what is written reads back
pub reads_append : {E : Type 0} (r : Result (Vec ℕ Global) E) (json : Json) (fence revision before held gone end first until value : List ℕ) (keys : List (List ℕ)) → length keys ≤ 16 →
    json ≡ append_request (fenced fence revision before held gone end) (first_free keys value first until) fence → IfOk r (λ b. depth json ≤ max_depth → document b.items ≡ Some json) →
    IfOk r (λ text. document text.items ≡ Some (append_request (fenced fence revision before held gone end) (first_free keys value first until) fence))
reads_append (Ok text) json fence revision before held gone end first until value keys few is reads =
    reads (subst (λ (j : Json). depth j ≤ max_depth) (sym is) (append_depth fence revision before held gone end first until value keys few)) ∙ ap (λ (j : Json). Some j) is
reads_append (Err refused) json fence revision before held gone end first until value keys few is reads = tt

-- and a text that says the transaction of keys and values that read back as these appends
pub says_append : {E : Type 0} (r : Result (Vec ℕ Global) E) (prefix : List ℕ) (place last : ℕ) (stood entry : List ℕ) (fence revision before held gone end first until value : List ℕ)
    (keys : List (List ℕ)) →
    IfOk r (λ text. document text.items ≡ Some (append_request (fenced fence revision before held gone end) (first_free keys value first until) fence)) →
    decode_of standard fence ≡ Ok (fence_key_of prefix) → decode_of standard before ≡ Ok (key_of prefix (place - 1)) → decode_of standard held ≡ Ok stood →
    decode_of standard gone ≡ Ok (gone_key_of prefix place) → decode_of standard end ≡ Ok (gone_end_of prefix) →
    decode_of standard first ≡ Ok (key_of prefix place) → decode_of standard until ≡ Ok (key_of prefix last) →
    KeysFrom prefix place keys → place + length keys ≡ last → decode_of standard value ≡ Ok entry →
    IfOk r (λ text. SaysAppend text.items prefix place last stood entry revision)
says_append (Ok text) prefix place last stood entry fence revision before held gone end first until value keys says parts at_before holds given_up to from up_to at many puts = record {
  fence = fence;
  before = before;
  held = held;
  gone = gone;
  end = end;
  first = first;
  until = until;
  keys = keys;
  value = value;
  says = says;
  parts = parts;
  at_before = at_before;
  holds = holds;
  given_up = given_up;
  to = to;
  from = from;
  up_to = up_to;
  at = at;
  many = many;
  puts = puts;
}
says_append (Err refused) prefix place last stood entry fence revision before held gone end first until value keys says parts at_before holds given_up to from up_to at many puts = tt
