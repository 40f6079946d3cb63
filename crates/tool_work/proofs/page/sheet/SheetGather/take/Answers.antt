use Rattle.std.proofs.Common.{List, ℕ, ◌++◌, [], Option, if◌then◌else◌, refl, rules, ap, ◌∙◌}
use Rattle.tool_work.proofs.page_lemmas.Common.{Coming, Done, Data, Sheet, with_reached, access_in, row_of, state, item_of}
use Rattle.tool_work.proofs.page_lemmas.PageLemmas.{put_more}
use Rattle.tool_work.proofs.page.sheet.SheetGather.take.Goals as goal

pub returns : goal.returns
returns c =
    let line = c.args.row.now.line in
    let first = c.args.self.now in
    let shown = c.has-is_shown.result in
    let begins = c.begins_after-is_first.result in
    let begun = c.keep_beginner.new.begun in
    let reached = c.keep_reached.new.places in
    let number = c.in-Some.seen in
    let before = c.put_state_where_asked.new.out in
    let last : Sheet = record { alloc = first.alloc; desk = c.replay.new.desk; begun = begun; reached = reached; done = c.replay.new.done; stretch = first.stretch; seen = number; before = before; text = c.put_where_shown.new.out; listed = c.put_item_where_shown.new.out } in
    let reached_is =
    c.in_ok-keep_reached.ensures
    ∙ ap (λ (a : Option Coming). with_reached first.reached.items a) c.access_in.ensures
    ∙ ap (λ (d : Option Done). with_reached first.reached.items (access_in d)) c.in_ok-replay.ensures.done in
    let before_is =
    c.in_ok-put_state_where_asked.ensures
    ∙ ap (λ (ids : List ℕ). first.before ++ (if begins then state Data first.desk ids c.deref-2.result.now else [])) c.deref.ensures.value
    ∙ ap (λ (places : List ℕ). first.before ++ (if begins then state Data first.desk first.begun.items places else [])) c.deref-2.ensures.value in
    let text = c.in_ok-put_where_shown.ensures ∙ ap (λ (d : Option Done). first.text ++ (if shown then row_of line d else [])) c.in_ok-replay.ensures.done in
    let listed =
    c.in_ok-put_item_where_shown.ensures
    ∙ ap (λ (ids : List ℕ). first.listed ++ (if shown then item_of ids number line c.replay.new.done else [])) c.deref-3.ensures.value
    ∙ ap (λ (d : Option Done). first.listed ++ (if shown then item_of begun.items number line d else [])) c.in_ok-replay.ensures.done in
    put_more line first last shown begins c.has-is_shown.ensures c.begins_after-is_first.ensures c.in_ok-replay.ensures.desk c.in_ok-keep_beginner.ensures reached_is refl (search rules) before_is text listed
