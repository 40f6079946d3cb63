use Rattle.std.proofs.Common.{◌∙◌, append_assoc}
use Rattle.tool_work.specs.page.State.{person}
use Rattle.tool_work.proofs.page_lemmas.PageLemmas.{flat_more}
use Rattle.tool_work.proofs.page.state.put_state.Goals as goal

pub loop-id-preserved : goal.loop-id-preserved
loop-id-preserved c =
    let more = flat_more (person c.args.form c.args.desk.now) c.args.begun.now c.loop-id.id-index 0 c.loop-id-test.true in
    c.in_ok-put_person.ensures ∙ rw (more, c.loop-id.invariant) (simp append_assoc)
