-- What was prefetched is the batch of these lines, behind a first line of its own.
use Rattle.std.proofs.Common.{rules, ◌≡◌, ◌∙◌, ℕ, ap, sym, arith}
use Rattle.service_follow.specs.Batches.{batch_by}
use Rattle.service_follow.specs.Entries.{behind_first_line, rules_of}
use Rattle.service_follow.proofs.Heads.{behind_batch, told_rules}
use Rattle.service_follow.proofs.log_persister.LogPersister.write_batch.Goals as goal

pub returns-clause-known : goal.returns-clause-known
returns-clause-known g c = λ known before counted.
    let token = c.args.self.now.token in
    let lines = c.args.lines.now in
    let count = c.serve_batch.new.self.count in
    let served = c.serve_batch.ensures.prefetched known in
    let own = c.args.self.now.rules in
    let moved = c.in_ok-compact.ensures.told.moved in
    let well = c.serve_batch.ensures.moved.later (c.serve_batch.ensures.well known) in
    let text : c.put_batch.new.batch.items ≡ batch_by own token count lines = c.in-Ok.ensures ∙ ap (λ (n : ℕ). batch_by own token n lines) (sym c.serve_batch.ensures.head.0) in
    let batch_is : served.prefetched.batch ≡ batch_by own token count lines = served.batch_is ∙ text in
    record {
      prefetched = record {
        batch = served.prefetched.batch;
        lines_are = served.prefetched.lines_are ∙ ap behind_first_line text ∙ behind_batch own token count lines c.args.self.now.one_line;
        ordinary = served.prefetched.ordinary;
        due = served.prefetched.due;
        later = (let p = (moved.later well.0).1 in let q = served.prefetched.later in omega (arith, p, q));
        known = served.prefetched.known;
      };
      batch_is = batch_is;
      rules_are = ap rules_of batch_is ∙ told_rules own token count lines (search rules);
      count_is = c.serve_batch.ensures.head.0 ∙ counted;
    }
