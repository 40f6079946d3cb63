-- What was read is what the answer says.
use Rattle.std.proofs.Common.{rules, ◌≡◌, option_map, Option, Some, Err, ap, sym, ◌∙◌, subst, List, ℕ, Ok}
use Rattle.base64.specs.Engines.{standard}
use Rattle.base64.specs.GeneralPurpose.{decode_of, encode_of}
use Rattle.std.specs.declared.vec.Vec.{Vec}
use Rattle.std.specs.declared.alloc.Global.{Global}
use Rattle.json.specs.Value.{value_view}
use Rattle.service_log.specs.declared.store_fault.StoreFault.{StoreFault}
use Rattle.service_log.specs.etcd.Answers.{get_said}
use Rattle.service_log.specs.etcd.Found.{SaysAt}
use Rattle.service_log.specs.etcd.Keys.{key_of}
use Rattle.service_log.proofs.etcd_lemmas.Ranges.{unread_text}
use Rattle.service_log.proofs.etcd.answer.found_at.Goals as goal

pub returns-in-Some-Some-clause-said : goal.returns-in-Some-Some-clause-said
returns-in-Some-Some-clause-said c =
    let key = c.as_str.result.now in
    record {
      key = key;
      says = (c.in-Some-Some.text.now, sym c.in-Some-Some.ensures ∙ ap (λ o. Some (option_map (λ text. text.now) o)) c.in-Some-Some.field-0-is, c.in_ok-decoded-in-Some-Some.ensures.bytes);
      at = subst (λ (k : List ℕ). decode_of standard k ≡ Ok (key_of c.args.prefix.now c.args.place)) (sym c.as_str.ensures.value) c.in-Ok.ensures.reads;
    }

-- and where its value is no base64 nothing can be read of it
pub returns-in_err-decoded-in-Some-Some-clause-wrong : goal.returns-in_err-decoded-in-Some-Some-clause-wrong
returns-in_err-decoded-in-Some-Some-clause-wrong c =
    let key = c.as_str.result.now in
    let text = c.in-Some-Some.text.now in
    let answer = value_view c.args.answer.now in
    let some : get_said c.args.index key answer ≡ Some (Some text) = sym c.in-Some-Some.ensures ∙ ap (λ o. Some (option_map (λ text. text.now) o)) c.in-Some-Some.field-0-is in
    let is : key ≡ encode_of standard (key_of c.args.prefix.now c.args.place) = c.as_str.ensures.value ∙ c.in-Ok.ensures.text in
    λ wrong.
    let was : c.decoded.result ≡ Err StoreFault.Wrong = search rules in
    subst (λ (k : List ℕ). (found : Option (Vec ℕ Global)) → SaysAt answer c.args.index k found → ⊥) is (unread_text answer c.args.index key text some (c.decoded.ensures.wrong was))
