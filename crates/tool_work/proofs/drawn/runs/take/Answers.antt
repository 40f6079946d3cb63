use Rattle.std.proofs.Common.{rules, ◌≢◌}
use Rattle.model_steps.specs.declared.refusal.Refusal.TheVariants as refusal
use Rattle.model_asked.specs.declared.reply.Reply.TheVariants as reply
use Rattle.model_asked.specs.Replies.{with_view}
use Rattle.tool_work.proofs.drawn_lemmas.RunLemmas.{plays_one}
use Rattle.tool_work.proofs.drawn_lemmas.ShortReplies.{not_refused}
use Rattle.tool_work.proofs.drawn.runs.take.Goals as goal

pub returns-clause-on : goal.returns-clause-on
returns-clause-on g c =
    let said = c.apply_short-reply.result in
    let view = c.apply_short-reply.new.view in
    let some : said ≢ reply.Refused refusal.NoMemory = search rules in
    plays_one c.args.desk.now c.apply_short-reply.new.self c.args.tally.now c.count.new.self c.args.event (with_view said view) c.apply_short-reply.ensures (not_refused said view refusal.NoMemory some) (c.count.ensures.begun view) (c.count.ensures.named view) (c.count.ensures.spent view)
