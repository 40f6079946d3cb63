-- The text reads back as the transaction, of keys and values that read back as the places.
use Rattle.std.proofs.Common.{◌≡◌, ◌+◌, ◌-◌, ◌++◌, List, ℕ, length, map, string_bytes, Ok, sym, ◌∙◌, subst}
use Rattle.base64.specs.Engines.{standard}
use Rattle.base64.specs.GeneralPurpose.{decode_of}
use Rattle.std.specs.declared.alloc.Global.{Global}
use Rattle.std.proofs.Common.{String}
use Rattle.service_log.specs.etcd.Keys.{digits, gone_end_of, gone_key_of, key_of}
use Rattle.service_log.specs.etcd.Requests.{KeysFrom}
use Rattle.service_log.proofs.etcd_lemmas.Trims.{says_trim}
use Rattle.service_log.proofs.etcd.request.trim_text.Goals as goal

pub returns : goal.returns
returns c =
    let prefix = c.args.prefix.now in
    let place = c.args.place in
    let least = subst (λ (k : List ℕ). decode_of standard k ≡ Ok (gone_key_of prefix 0)) (sym c.as_str.ensures.value) c.in_ok-first.ensures in
    let notes = subst (λ (k : List ℕ). decode_of standard k ≡ Ok (gone_key_of prefix (place - 1))) (sym c.as_str-2.ensures.value) c.in_ok-gone.ensures in
    let said : decode_of standard (string_bytes c.in_ok-value.value) ≡ Ok (digits 16 place ++ digits 16 c.args.to) =
    subst (λ (v : List ℕ). decode_of standard (string_bytes c.in_ok-value.value) ≡ Ok v) (c.deref.ensures.value ∙ c.in_ok-places_text.ensures) c.in_ok-value.ensures in
    let holds = subst (λ (v : List ℕ). decode_of standard v ≡ Ok (digits 16 place ++ digits 16 c.args.to)) (sym c.as_str-3.ensures.value) said in
    let at = subst (λ (k : List ℕ). decode_of standard k ≡ Ok (key_of prefix place)) (sym c.as_str-4.ensures.value) c.in_ok-stands.ensures.reads in
    let later = subst (λ (k : List ℕ). decode_of standard k ≡ Ok (gone_key_of prefix place)) (sym c.as_str-5.ensures.value) c.in_ok-above.ensures in
    let until = subst (λ (k : List ℕ). decode_of standard k ≡ Ok (gone_end_of prefix)) (sym c.as_str-6.ensures.value) c.in_ok-end.ensures in
    let deletes = subst (λ (l : List (String Global)). KeysFrom prefix c.args.from (map string_bytes l)) (sym c.deref-2.ensures.value) c.in_ok-keys.ensures.keys in
    let many = subst (λ (l : List (String Global)). c.args.from + length (map string_bytes l) ≡ c.args.to) (sym c.deref-2.ensures.value) c.in_ok-keys.ensures.many in
    says_trim c.text_of_trim.result prefix place c.args.from c.args.to
    c.as_str-4.result.now c.as_str-5.result.now c.as_str-6.result.now c.as_str.result.now c.as_str-2.result.now c.as_str-3.result.now (map string_bytes c.deref-2.result.now)
    c.requires.after_first c.requires.within c.text_of_trim.ensures at later until least notes holds deletes many
