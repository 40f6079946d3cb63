-- The place that stands at the key.
use Rattle.std.proofs.Common.{◌≡◌, option_map, ℕ, List, Some, Ok, ap, sym, ◌∙◌, subst}
use Rattle.base64.specs.Engines.{standard}
use Rattle.base64.specs.GeneralPurpose.{decode_of}
use Rattle.json.specs.Value.{value_view}
use Rattle.service_log.specs.etcd.Keys.{hint_key_of, place_said}
use Rattle.service_log.proofs.etcd.answer.read_hint.Goals as goal

pub returns-in-Some-Some-clause-said : goal.returns-in-Some-Some-clause-said
returns-in-Some-Some-clause-said c = (
  value_view c.in_ok-answer.answer,
  c.in_ok-answer.ensures.said,
  record {
    key = c.as_str.result.now;
    noted = Some c.in_ok-decoded-in-Some-Some.field-0;
    says = (c.in-Some-Some.text.now, sym c.in-Some-Some.ensures ∙ ap (λ o. Some (option_map (λ text. text.now) o)) c.in-Some-Some.field-0-is, c.in_ok-decoded-in-Some-Some.ensures.bytes);
    at = subst (λ (k : List ℕ). decode_of standard k ≡ Ok (hint_key_of c.args.prefix.now)) (sym c.as_str.ensures.value) c.in-Ok.ensures;
    place = c.place_of.ensures ∙ ap place_said c.deref.ensures.value;
  },
)
