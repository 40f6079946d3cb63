-- One line more is looked at, up to its LF.
use Rattle.std.proofs.Common.{rules, ◌-◌, ◌∙◌, length, take, drop, ap, refl, sym}
use Rattle.service_loop.proofs.Common.{Peek, Limits}
use Rattle.std.proofs.lemmas.List.{take_rest}
use Rattle.service_loop.proofs.PeekLemmas.{kept_by, kept_more, own_line, peeked_next, peeked_none, no_lf_in}
use Rattle.service_loop.proofs.peek.Peek.peek_lines.Goals as goal

pub returns-in_default-clause-none : goal.returns-in_default-clause-none
returns-in_default-clause-none g c = λ same.
    no_lf_in (drop c.loop-rest.self.bytes c.args.bytes.now) (take (length c.args.bytes.now - c.loop-rest.self.bytes) (drop c.loop-rest.self.bytes c.args.bytes.now))
    (take_rest c.args.bytes.now c.loop-rest.self.bytes) c.in_default.ensures

pub returns-then-not-branch-clause-peeked : goal.returns-then-not-branch-clause-peeked
returns-then-not-branch-clause-peeked g c =
    let i = c.loop-rest.invariant in
    let rest = take (length c.args.bytes.now - c.loop-rest.self.bytes) (drop c.loop-rest.self.bytes c.args.bytes.now) in
    let is = c.take_line.ensures.rest in
    let line = c.in_ok-take_line.ensures in
    peeked_next c.args.limits.now.kind c.args.self.now.long c.args.self.now.asks c.args.batch.now.items c.args.bytes.now c.loop-rest.self.bytes c.loop-rest.self.goes_on c.loop-rest.self.asks c.loop-rest.batch.items i.peeked
    rest c.in-Some.end c.take_line.new.self.bytes c.loop-rest.limits.kind c.take_line.new.self.goes_on c.take_line.new.self.asks c.take_line.new.batch.items
    (take_rest c.args.bytes.now c.loop-rest.self.bytes) (ap (λ (q : Limits). q.kind) i.limits) (ap (λ (q : Peek). q.bytes) is) (ap (λ (q : Peek). q.goes_on) is) c.in-Some.ensures (own_line c.loop-rest.self.goes_on (take c.in-Some.end rest) (sym c.if-stops_at.ensures)) line.reported line.asks

pub loop-rest-init : goal.loop-rest-init
loop-rest-init g c = record {
  peeked = rw (c.requires.0, c.requires.1) (peeked_none c.args.limits.now.kind c.args.self.now.long c.args.self.now.asks c.args.batch.now.items c.args.bytes.now);
  rest = refl;
  limits = refl;
}

pub loop-rest-preserved : goal.loop-rest-preserved
loop-rest-preserved g c =
    let i = c.loop-rest.invariant in
    let rest = take (length c.args.bytes.now - c.loop-rest.self.bytes) (drop c.loop-rest.self.bytes c.args.bytes.now) in
    let is = c.take_line.ensures.rest in
    let line = c.in_ok-take_line.ensures in
    record {
      peeked = peeked_next c.args.limits.now.kind c.args.self.now.long c.args.self.now.asks c.args.batch.now.items c.args.bytes.now c.loop-rest.self.bytes c.loop-rest.self.goes_on c.loop-rest.self.asks c.loop-rest.batch.items i.peeked
          rest c.in-Some.end c.take_line.new.self.bytes c.loop-rest.limits.kind c.take_line.new.self.goes_on c.take_line.new.self.asks c.take_line.new.batch.items
          (take_rest c.args.bytes.now c.loop-rest.self.bytes) (ap (λ (q : Limits). q.kind) i.limits) (ap (λ (q : Peek). q.bytes) is) (ap (λ (q : Peek). q.goes_on) is) c.in-Some.ensures (own_line c.loop-rest.self.goes_on (take c.in-Some.end rest) (sym c.if-stops_at.ensures)) line.reported line.asks;
      rest = search rules;
      limits = c.take_line.ensures.limits ∙ ap (λ (q : Limits). let r : Limits = record q { said = c.take_line.new.limits.said } in r) i.limits;
    }

pub returns-clause-peeked : goal.returns-clause-peeked
returns-clause-peeked g c = c.loop-rest.invariant.peeked

pub returns-clause-rest : goal.returns-clause-rest
returns-clause-rest g c = c.loop-rest.invariant.rest

pub returns-clause-limits : goal.returns-clause-limits
returns-clause-limits g c = c.loop-rest.invariant.limits

pub returns-clause-kept : goal.returns-clause-kept
returns-clause-kept g c = kept_by c.args.batch.now.items c.loop-rest.batch.items _ c.loop-rest.invariant.peeked.added

pub returns-in_default-clause-peeked : goal.returns-in_default-clause-peeked
returns-in_default-clause-peeked g c = c.loop-rest.invariant.peeked

pub returns-in_default-clause-rest : goal.returns-in_default-clause-rest
returns-in_default-clause-rest g c = c.loop-rest.invariant.rest

pub returns-in_default-clause-limits : goal.returns-in_default-clause-limits
returns-in_default-clause-limits g c = c.loop-rest.invariant.limits

pub returns-in_default-clause-kept : goal.returns-in_default-clause-kept
returns-in_default-clause-kept g c = kept_by c.args.batch.now.items c.loop-rest.batch.items _ c.loop-rest.invariant.peeked.added

pub returns-in_err-take_line-clause-kept : goal.returns-in_err-take_line-clause-kept
returns-in_err-take_line-clause-kept g c = kept_more c.args.batch.now.items c.loop-rest.batch.items c.take_line.new.batch.items _ c.take_line.ensures.kept.0 c.loop-rest.invariant.peeked.added c.take_line.ensures.kept.1

pub returns-then-not-branch-clause-kept : goal.returns-then-not-branch-clause-kept
returns-then-not-branch-clause-kept g c = kept_more c.args.batch.now.items c.loop-rest.batch.items c.take_line.new.batch.items _ c.take_line.ensures.kept.0 c.loop-rest.invariant.peeked.added c.take_line.ensures.kept.1
