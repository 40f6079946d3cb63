use Rattle.std.proofs.Common.{◌∙◌, append_assoc}
use Rattle.tool_work.specs.page.State.{place_facts}
use Rattle.tool_work.proofs.page_lemmas.PageLemmas.{flat_more}
use Rattle.tool_work.proofs.page.state.put_registers.Goals as goal

pub loop-place-preserved : goal.loop-place-preserved
loop-place-preserved c =
    let more = flat_more (place_facts c.args.form c.args.desk.now) c.args.places.now c.loop-place.place-index 0 c.loop-place-test.true in
    c.in_ok-put_place_facts.ensures ∙ rw (more, c.loop-place.invariant) (simp append_assoc)
