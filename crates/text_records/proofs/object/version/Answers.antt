use Rattle.std.proofs.Common.{◌≡◌, ◌∙◌, ℕ, true, List, Option, Some, None, sym, ap, MatchOption, option_map, option_and_then, codes}
use Rattle.text_records.proofs.Common.{Data, view, same_bytes, Version}
use Rattle.text_records.specs.Json.{keys_of, text_at, number_at, version_of, HasFormat}
use Rattle.text_records.proofs.JsonLemmas.{same_is}
use Rattle.text_records.proofs.object.version.Goals as goal

found : (d : Data) (n : ℕ) (r : Option Version) → keys_of d ≡ Some 6 → text_at (codes "format") d ≡ Some (codes "slot-record") → number_at (codes "version") d ≡ Some n → r ≡ version_of n →
    MatchOption r ((v : Version) → HasFormat d v → ⊥) (HasFormat d)
found d n None keys format number e = λ v h. (let no : None ≡ Some v = e ∙ sym (ap (option_and_then version_of) number) ∙ h.version in cc)
found d n (Some v) keys format number e = record { keys = keys; format = format; version = ap (option_and_then version_of) number ∙ sym e }

pub returns : goal.returns
returns c =
    let is : same_bytes c.in_ok-format.format.now (codes "slot-record") ≡ true =
    ap (λ (x : List ℕ). same_bytes x (codes "slot-record")) (sym c.as_bytes.ensures.value) ∙ sym c.is_word.ensures ∙ c.if-not-is_word.false in
    found (view c.args.value.now) c.in_ok-number.field-0 c.of_number.result (sym c.keys.ensures ∙ c.in_ok-keys.was ∙ ap Some c.if-branch-ne6.false)
    (sym c.text.ensures ∙ ap (option_map (λ s. s.now)) c.in_ok-format.was ∙ ap Some (same_is c.in_ok-format.format.now (codes "slot-record") is)) (sym c.number.ensures ∙ c.in_ok-number.was) c.of_number.ensures
