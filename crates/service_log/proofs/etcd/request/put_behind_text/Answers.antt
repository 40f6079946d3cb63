-- The text reads back as the transaction, of keys and values that read back as the places and the entries.
use Rattle.std.proofs.Common.{◌≡◌, ℕ, ◌-◌, List, Ok, sym, subst}
use Rattle.std.specs.Prelude.{string_bytes}
use Rattle.base64.specs.Engines.{standard}
use Rattle.base64.specs.GeneralPurpose.{decode_of}
use Rattle.service_log.specs.etcd.Keys.{gone_end_of, gone_key_of, key_of}
use Rattle.service_log.proofs.etcd_lemmas.Behind.{says_behind}
use Rattle.service_log.proofs.etcd.request.put_behind_text.Goals as goal

pub returns : goal.returns
returns c =
    let prefix = c.args.prefix.now in
    let place = c.args.place in
    let one_less : decode_of standard (string_bytes c.in_ok-before.before) ≡ Ok (key_of prefix (place - 1)) =
    subst (λ (n : ℕ). decode_of standard (string_bytes c.in_ok-before.before) ≡ Ok (key_of prefix n)) c.saturating_sub.ensures c.in_ok-before.ensures.reads in
    let at = subst (λ (k : List ℕ). decode_of standard k ≡ Ok (key_of prefix place)) (sym c.as_str.ensures.value) c.in_ok-key.ensures.reads in
    let given_up = subst (λ (k : List ℕ). decode_of standard k ≡ Ok (gone_key_of prefix place)) (sym c.as_str-2.ensures.value) c.in_ok-gone.ensures in
    let to = subst (λ (k : List ℕ). decode_of standard k ≡ Ok (gone_end_of prefix)) (sym c.as_str-3.ensures.value) c.in_ok-end.ensures in
    let at_before = subst (λ (k : List ℕ). decode_of standard k ≡ Ok (key_of prefix (place - 1))) (sym c.as_str-4.ensures.value) one_less in
    let held = subst (λ (v : List ℕ). decode_of standard v ≡ Ok c.args.stood.now) (sym c.as_str-5.ensures.value) c.in_ok-last.ensures in
    let holds = subst (λ (v : List ℕ). decode_of standard v ≡ Ok c.args.entry.now) (sym c.as_str-6.ensures.value) c.in_ok-value.ensures in
    says_behind c.text_behind.result prefix place c.args.stood.now c.args.entry.now
    c.as_str-4.result.now c.as_str-5.result.now c.as_str.result.now c.as_str-2.result.now c.as_str-3.result.now c.as_str-6.result.now
    c.text_behind.ensures at_before held at holds given_up to
