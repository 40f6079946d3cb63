-- The texts of puts.
use Rattle.std.proofs.Common.{◌≡◌, ℕ, ◌-◌, List, Some, Result, Ok, Err, IfOk}
use Rattle.std.specs.declared.vec.Vec.{Vec}
use Rattle.std.specs.declared.alloc.Global.{Global}
use Rattle.json.specs.Json.{document}
use Rattle.base64.specs.Engines.{standard}
use Rattle.base64.specs.GeneralPurpose.{decode_of}
use Rattle.service_log.specs.etcd.Keys.{gone_end_of, gone_key_of, key_of}
use Rattle.service_log.specs.etcd.Requests.{SaysPut, SaysPutBehind, put_behind_request, put_request}

-- a text that says the transaction of keys and values that read back as these says the put
pub says_put : {E : Type 0} (r : Result (Vec ℕ Global) E) (prefix : List ℕ) (place : ℕ) (entry key gone end value : List ℕ) →
    IfOk r (λ text. document text.items ≡ Some (put_request key gone end value)) → decode_of standard key ≡ Ok (key_of prefix place) →
    decode_of standard value ≡ Ok entry → decode_of standard gone ≡ Ok (gone_key_of prefix place) → decode_of standard end ≡ Ok (gone_end_of prefix) →
    IfOk r (λ text. SaysPut text.items prefix place entry)
says_put (Ok text) prefix place entry key gone end value says at holds given_up to = record {
  key = key;
  value = value;
  gone = gone;
  end = end;
  says = says;
  at = at;
  holds = holds;
  given_up = given_up;
  to = to;
}
says_put (Err refused) prefix place entry key gone end value says at holds given_up to = tt

-- and so behind an entry
pub says_behind : {E : Type 0} (r : Result (Vec ℕ Global) E) (prefix : List ℕ) (place : ℕ) (stood entry before last key gone end value : List ℕ) →
    IfOk r (λ text. document text.items ≡ Some (put_behind_request before last key gone end value)) →
    decode_of standard before ≡ Ok (key_of prefix (place - 1)) → decode_of standard last ≡ Ok stood →
    decode_of standard key ≡ Ok (key_of prefix place) → decode_of standard value ≡ Ok entry →
    decode_of standard gone ≡ Ok (gone_key_of prefix place) → decode_of standard end ≡ Ok (gone_end_of prefix) →
    IfOk r (λ text. SaysPutBehind text.items prefix place stood entry)
says_behind (Ok text) prefix place stood entry before last key gone end value says at_before held at holds given_up to = record {
  before = before;
  last = last;
  key = key;
  gone = gone;
  end = end;
  value = value;
  says = says;
  at_before = at_before;
  held = held;
  at = at;
  holds = holds;
  given_up = given_up;
  to = to;
}
says_behind (Err refused) prefix place stood entry before last key gone end value says at_before held at holds given_up to = tt
