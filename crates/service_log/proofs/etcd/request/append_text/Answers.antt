-- The text reads back as the transaction, of keys and values that read back as the places and the entries.
use Rattle.std.proofs.Common.{◌≡◌, ◌+◌, ◌-◌, List, ℕ, length, map, string_bytes, String, Ok, sym, subst}
use Rattle.std.specs.declared.alloc.Global.{Global}
use Rattle.base64.specs.Engines.{standard}
use Rattle.base64.specs.GeneralPurpose.{decode_of}
use Rattle.service_log.specs.etcd.Keys.{fence_key_of, gone_end_of, gone_key_of, key_of}
use Rattle.service_log.specs.etcd.Requests.{KeysFrom}
use Rattle.service_log.proofs.etcd_lemmas.Appends.{few_keys, says_append}
use Rattle.service_log.proofs.etcd.request.append_text.Goals as goal

pub text_of_append-requires : goal.text_of_append-requires
text_of_append-requires c =
    let many = subst (λ (l : List (String Global)). c.args.place + length (map string_bytes l) ≡ c.args.last) (sym c.deref.ensures.value) c.in_ok-places.ensures.many in
    record { few = few_keys string_bytes c.args.place c.args.last c.deref.result.now many c.requires.few }

pub returns : goal.returns
returns c =
    let prefix = c.args.prefix.now in
    let place = c.args.place in
    let one_less : decode_of standard (string_bytes c.in_ok-preceding.preceding) ≡ Ok (key_of prefix (place - 1)) =
    subst (λ (n : ℕ). decode_of standard (string_bytes c.in_ok-preceding.preceding) ≡ Ok (key_of prefix n)) c.saturating_sub.ensures c.in_ok-preceding.ensures.reads in
    let parts = subst (λ (k : List ℕ). decode_of standard k ≡ Ok (fence_key_of prefix)) (sym c.as_str.ensures.value) c.in_ok-fence.ensures in
    let at_before = subst (λ (k : List ℕ). decode_of standard k ≡ Ok (key_of prefix (place - 1))) (sym c.as_str-2.ensures.value) one_less in
    let holds = subst (λ (v : List ℕ). decode_of standard v ≡ Ok c.args.stood.now) (sym c.as_str-3.ensures.value) c.in_ok-held.ensures in
    let given_up = subst (λ (k : List ℕ). decode_of standard k ≡ Ok (gone_key_of prefix place)) (sym c.as_str-4.ensures.value) c.in_ok-gone.ensures in
    let to = subst (λ (k : List ℕ). decode_of standard k ≡ Ok (gone_end_of prefix)) (sym c.as_str-5.ensures.value) c.in_ok-end.ensures in
    let from = subst (λ (k : List ℕ). decode_of standard k ≡ Ok (key_of prefix place)) (sym c.as_str-6.ensures.value) c.in_ok-first.ensures.reads in
    let up_to = subst (λ (k : List ℕ). decode_of standard k ≡ Ok (key_of prefix c.args.last)) (sym c.as_str-7.ensures.value) c.in_ok-until.ensures.reads in
    let puts = subst (λ (v : List ℕ). decode_of standard v ≡ Ok c.args.entry.now) (sym c.as_str-8.ensures.value) c.in_ok-value.ensures in
    let at = subst (λ (l : List (String Global)). KeysFrom prefix place (map string_bytes l)) (sym c.deref.ensures.value) c.in_ok-places.ensures.keys in
    let many = subst (λ (l : List (String Global)). place + length (map string_bytes l) ≡ c.args.last) (sym c.deref.ensures.value) c.in_ok-places.ensures.many in
    says_append c.text_of_append.result prefix place c.args.last c.args.stood.now c.args.entry.now
    c.as_str.result.now c.args.revision.now c.as_str-2.result.now c.as_str-3.result.now c.as_str-4.result.now c.as_str-5.result.now c.as_str-6.result.now c.as_str-7.result.now c.as_str-8.result.now (map string_bytes c.deref.result.now)
    c.text_of_append.ensures parts at_before holds given_up to from up_to at many puts
