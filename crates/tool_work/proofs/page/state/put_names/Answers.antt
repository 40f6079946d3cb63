use Rattle.std.proofs.Common.{◌∙◌, append_assoc}
use Rattle.tool_work.proofs.page_lemmas.PageLemmas.{names_more}
use Rattle.tool_work.proofs.page.state.put_names.Goals as goal

pub loop-before-preserved : goal.loop-before-preserved
loop-before-preserved c =
    let more = names_more c.args.form c.args.desk.now c.loop-before.before in
    c.in_ok-put_name.ensures ∙ rw (c.owner.ensures.value, more, c.loop-before.invariant) (simp append_assoc)
