-- It has no numbers, and reads back.
use Rattle.std.proofs.Common.{map, string_bytes, sym, subst}
use Rattle.json.specs.Json.{Json}
use Rattle.json.specs.Tree.{HasNumbers}
use Rattle.json.specs.Value.{value_view}
use Rattle.service_log.specs.etcd.Requests.{fenced, first_free}
use Rattle.service_log.proofs.etcd_lemmas.Appends.{append_numbers, few_texts, is_append, reads_append}
use Rattle.service_log.proofs.etcd.request.text_of_append.Goals as goal

pub to_vec-requires : goal.to_vec-requires
to_vec-requires c =
    let k = c.args.keys.now in
    let places = map string_bytes c.args.places.now in
    let conditions = fenced k.fence.now k.revision.now k.before.now k.last.now k.gone.now k.end.now in
    let first = first_free places c.args.value.now k.first.now k.until.now in
    let is = is_append (value_view c.in_ok-append.append) (value_view c.in_ok-compared.compared) (value_view c.in_ok-put.put) (value_view c.in_ok-failure.failure)
    conditions first k.fence.now c.in_ok-append.ensures c.in_ok-compared.ensures c.in_ok-put.ensures c.in_ok-failure.ensures in
    subst (λ (j : Json). HasNumbers j) (sym is) (append_numbers k.fence.now k.revision.now k.before.now k.last.now k.gone.now k.end.now k.first.now k.until.now c.args.value.now places)

pub returns : goal.returns
returns c =
    let k = c.args.keys.now in
    let places = map string_bytes c.args.places.now in
    let conditions = fenced k.fence.now k.revision.now k.before.now k.last.now k.gone.now k.end.now in
    let first = first_free places c.args.value.now k.first.now k.until.now in
    let is = is_append (value_view c.in_ok-append.append) (value_view c.in_ok-compared.compared) (value_view c.in_ok-put.put) (value_view c.in_ok-failure.failure)
    conditions first k.fence.now c.in_ok-append.ensures c.in_ok-compared.ensures c.in_ok-put.ensures c.in_ok-failure.ensures in
    reads_append c.to_vec.result (value_view c.in_ok-append.append) k.fence.now k.revision.now k.before.now k.last.now k.gone.now k.end.now k.first.now k.until.now c.args.value.now places
    (few_texts string_bytes c.args.places.now c.requires.few) is c.to_vec.ensures.reads_back
