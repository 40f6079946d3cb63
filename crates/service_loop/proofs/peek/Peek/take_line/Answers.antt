use Rattle.std.proofs.Common.{[], sym}
use Rattle.std.proofs.lemmas.List.{append-nil}
use Rattle.service_loop.proofs.peek.Peek.take_line.Goals as goal

pub returns-in-Nothing-clause-kept : goal.returns-in-Nothing-clause-kept
returns-in-Nothing-clause-kept g c = ([], sym (append-nil c.args.batch.now.items))

pub returns-in-Quit-clause-kept : goal.returns-in-Quit-clause-kept
returns-in-Quit-clause-kept g c = ([], sym (append-nil c.args.batch.now.items))

pub returns-in-Nothing-clause-reported : goal.returns-in-Nothing-clause-reported
returns-in-Nothing-clause-reported g c = rw (c.peek_at-sight.ensures.nothing c.in-Nothing.is) (sym (append-nil c.args.batch.now.items))

pub returns-in-Nothing-clause-asks : goal.returns-in-Nothing-clause-asks
returns-in-Nothing-clause-asks g c = λ none. (none, c.peek_at-sight.ensures.nothing c.in-Nothing.is)

pub returns-in-Quit-clause-reported : goal.returns-in-Quit-clause-reported
returns-in-Quit-clause-reported g c = rw (c.peek_at-sight.ensures.quit c.in-Quit.is) (sym (append-nil c.args.batch.now.items))

pub returns-in-Quit-clause-asks : goal.returns-in-Quit-clause-asks
returns-in-Quit-clause-asks g c = λ none. (none, c.peek_at-sight.ensures.quit c.in-Quit.is)

pub returns-in_ok-add_line-in-Request-clause-reported : goal.returns-in_ok-add_line-in-Request-clause-reported
returns-in_ok-add_line-in-Request-clause-reported g c = rw (c.peek_at-sight.ensures.request _ c.in-Request.is) c.in_ok-add_line-in-Request.ensures.added

pub returns-in_ok-add_line-in-Request-clause-asks : goal.returns-in_ok-add_line-in-Request-clause-asks
returns-in_ok-add_line-in-Request-clause-asks g c = λ none. absurd cc
