-- Reads alone are answered by all that stands, and other lines by their entry.
use Rattle.std.proofs.Common.{rules, ◌≡◌, ◌≤◌, ◌∙◌, map, Ok, ap, false, inl, inr, subst, sym, true, List}
use Rattle.model_asked.specs.declared.config.Config.{Config}
use Rattle.service_follow.specs.Readings.{are_reads, read_by, requested, requests_in}
use Rattle.service_follow.specs.declared.reading.Read.{Read}
use Rattle.service_follow.specs.Said.{reply_queue_of}
use Rattle.service_follow.proofs.Common.{Request}
use Rattle.service_follow.proofs.Readings.{if_some}
use Rattle.service_follow.proofs.log_persister.LogPersisterPersistReplyQueue.prefetch.Goals as goal

pub returns-in-Some-clause-known : goal.returns-in-Some-clause-known
returns-in-Some-clause-known g c = λ known.
    let lines = c.args.lines.now in
    let all = c.answer_reads.ensures.all known in
    let config = c.answer_reads.ensures.moved.config in
    let hall = c.answer_reads.new.self.log.stays.machine.hall in
    let found = if_some _ _ _ c.in-Some.is c.in_ok-reads.ensures.reads in
    inr (record {
      read = record {
        reads = ap (λ (k : Config). are_reads k.world lines) config ∙ found.1;
        applied = all.applied;
        at_end = all.at_end;
        later = subst (λ n. c.args.self.now.log.replica.place ≤ n) all.place (c.answer_reads.ensures.moved.later all.well).1;
        known = c.answer_reads.ensures.known known;
        replies = c.answer_reads.ensures.replies known ∙ (ap (λ (rs : List Read). reply_queue_of (read_by hall (map requested rs))) c.deref.ensures.value
            ∙ (ap (λ (qs : List Request). reply_queue_of (read_by hall qs)) found.2 ∙ ap (λ (k : Config). reply_queue_of (read_by hall (requests_in k.world lines))) (sym config)));
      };
      plain = found.0;
      unwritten = c.answer_reads.ensures.unwritten;
    })

pub returns-in-None-clause-known : goal.returns-in-None-clause-known
returns-in-None-clause-known g c = λ known. inl (c.write_batch.ensures.known known c.args.self.now.count (search rules))

pub returns-in-Some-clause-lost : goal.returns-in-Some-clause-lost
returns-in-Some-clause-lost g c = λ lost. record {
  moved = c.answer_reads.ensures.moved;
  counts = search rules;
  unreported = c.answer_reads.ensures.lost lost;
}

pub returns-in-None-clause-lost : goal.returns-in-None-clause-lost
returns-in-None-clause-lost g c = λ lost. record {
  moved = c.write_batch.ensures.moved;
  counts = search rules;
  unreported = c.write_batch.ensures.lost lost;
}

pub returns-in-None-clause-unwritten : goal.returns-in-None-clause-unwritten
returns-in-None-clause-unwritten g c = λ plain reads.
    let other = c.in_ok-reads.ensures.none (ap Ok c.in-None.is) plain in
    absurd (let no_way : true ≡ false = sym reads ∙ other in cc)
