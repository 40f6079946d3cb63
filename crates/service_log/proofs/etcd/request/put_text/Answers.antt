-- The text reads back as the transaction, of keys and a value that read back as the place and the entry.
use Rattle.std.proofs.Common.{◌≡◌, List, ℕ, Ok, sym, subst}
use Rattle.base64.specs.Engines.{standard}
use Rattle.base64.specs.GeneralPurpose.{decode_of}
use Rattle.service_log.specs.etcd.Keys.{gone_end_of, gone_key_of, key_of}
use Rattle.service_log.proofs.etcd_lemmas.Behind.{says_put}
use Rattle.service_log.proofs.etcd.request.put_text.Goals as goal

pub returns : goal.returns
returns c =
    let prefix = c.args.prefix.now in
    let at = subst (λ (k : List ℕ). decode_of standard k ≡ Ok (key_of prefix c.args.place)) (sym c.as_str.ensures.value) c.in_ok-key.ensures.reads in
    let given_up = subst (λ (k : List ℕ). decode_of standard k ≡ Ok (gone_key_of prefix c.args.place)) (sym c.as_str-2.ensures.value) c.in_ok-gone.ensures in
    let to = subst (λ (k : List ℕ). decode_of standard k ≡ Ok (gone_end_of prefix)) (sym c.as_str-3.ensures.value) c.in_ok-end.ensures in
    let holds = subst (λ (v : List ℕ). decode_of standard v ≡ Ok c.args.entry.now) (sym c.as_str-4.ensures.value) c.in_ok-value.ensures in
    says_put c.text_first.result prefix c.args.place c.args.entry.now c.as_str.result.now c.as_str-2.result.now c.as_str-3.result.now c.as_str-4.result.now
    c.text_first.ensures at holds given_up to
