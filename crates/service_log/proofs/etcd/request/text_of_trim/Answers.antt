-- It has no numbers, and reads back.
use Rattle.std.proofs.Common.{map, string_bytes, ap, sym, ◌∙◌, subst}
use Rattle.json.specs.Json.{Json}
use Rattle.json.specs.Tree.{HasNumbers}
use Rattle.json.specs.Value.{value_view}
use Rattle.service_log.specs.etcd.Requests.{trim_changes, trim_if}
use Rattle.service_log.proofs.etcd_lemmas.Trims.{reads_trim, trim_numbers}
use Rattle.service_log.proofs.etcd.request.text_of_trim.Goals as goal

pub to_vec-requires : goal.to_vec-requires
to_vec-requires c =
    let notes = c.args.notes.now in
    let keys = map string_bytes c.args.keys.now in
    let is = c.in_ok-trimming.ensures ∙ ap (λ (j : Json). trim_if j (trim_changes notes.first.now notes.gone.now notes.value.now keys)) c.in_ok-compared.ensures in
    subst (λ (j : Json). HasNumbers j) (sym is) (trim_numbers c.args.stands.now c.args.above.now c.args.end.now notes.first.now notes.gone.now notes.value.now keys)

pub returns : goal.returns
returns c =
    let notes = c.args.notes.now in
    let keys = map string_bytes c.args.keys.now in
    let is = c.in_ok-trimming.ensures ∙ ap (λ (j : Json). trim_if j (trim_changes notes.first.now notes.gone.now notes.value.now keys)) c.in_ok-compared.ensures in
    reads_trim c.to_vec.result (value_view c.in_ok-trimming.field-0) c.args.stands.now c.args.above.now c.args.end.now notes.first.now notes.gone.now notes.value.now keys is c.to_vec.ensures.reads_back
