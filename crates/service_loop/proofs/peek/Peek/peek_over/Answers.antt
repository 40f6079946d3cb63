-- What stands behind the whole lines: the prefix of a line, which is looked at at the end or where it is long, or nothing that is looked at.
use Rattle.std.proofs.Common.{◌≡◌, ◌∙◌, ℕ, List, Ok, ap, arith, length, refl, subst}
use Rattle.model_asked.specs.declared.kind.WorldKind.{WorldKind}
use Rattle.std.proofs.lemmas.List.{drop_all}
use Rattle.service_loop.proofs.Common.{HasPeeked, Peek}
use Rattle.service_loop.proofs.PeekLemmas.{peeked_long}
use Rattle.service_loop.proofs.peek.Peek.peek_over.Goals as goal

-- what was looked at by one is what another looked at that is the same
looked : (kind : WorldKind) (one other : Peek) (batch bytes : List ℕ) (now : Peek) (batch' : List ℕ) → one ≡ other →
    HasPeeked kind one.long one.asks batch bytes now.bytes now.goes_on now.asks batch' → HasPeeked kind other.long other.asks batch bytes now.bytes now.goes_on now.asks batch'
looked kind one other batch bytes now batch' same so = subst (λ (q : Peek). HasPeeked kind q.long q.asks batch bytes now.bytes now.goes_on now.asks batch') same so

pub returns-then-ends : goal.returns-then-ends
returns-then-ends g c =
    let l = c.peek_lines.new in
    let lines = c.in_ok-peek_lines.ensures in
    let so = looked c.args.limits.now.kind c.nothing.result _ c.args.batch.now.items c.args.bytes.now l.self l.batch.items c.nothing.ensures lines.peeked in
    let both = peeked_long c.args.limits.now.kind c.args.self.now.long c.args.self.now.asks c.args.batch.now.items c.args.bytes.now l.self.bytes l.self.goes_on l.self.asks l.batch.items so (lines.none (ap Ok c.if-not-branch.false)) in
    record { reported = both.0; asks = both.1; own = both.2; rest = λ no. rw (drop_all (length c.args.bytes.now) c.args.bytes.now (omega arith)) refl; end = ap (λ (q : Peek). q.at_end) lines.rest ∙ ap (λ (q : Peek). q.at_end) c.nothing.ensures; long = ap (λ (q : Peek). q.long) lines.rest ∙ ap (λ (q : Peek). q.long) c.nothing.ensures; kept = c.peek_lines.ensures.kept }

pub returns-then-not-branch : goal.returns-then-not-branch
returns-then-not-branch g c =
    let so = looked c.args.limits.now.kind c.nothing.result _ c.args.batch.now.items c.args.bytes.now c.peek_lines.new.self c.peek_lines.new.batch.items c.nothing.ensures c.in_ok-peek_lines.ensures.peeked in
    record {
      reported = so.added;
      asks = so.asked;
      own = so.own;
      rest = λ no. absurd cc;
      end = ap (λ (q : Peek). q.at_end) c.in_ok-peek_lines.ensures.rest ∙ ap (λ (q : Peek). q.at_end) c.nothing.ensures;
      long = ap (λ (q : Peek). q.long) c.in_ok-peek_lines.ensures.rest ∙ ap (λ (q : Peek). q.long) c.nothing.ensures;
      kept = c.peek_lines.ensures.kept;
    }

pub returns-else-self-eq0 : goal.returns-else-self-eq0
returns-else-self-eq0 g c =
    let so = looked c.args.limits.now.kind c.nothing.result _ c.args.batch.now.items c.args.bytes.now c.peek_lines.new.self c.peek_lines.new.batch.items c.nothing.ensures c.in_ok-peek_lines.ensures.peeked in
    record {
      reported = so.added;
      asks = so.asked;
      own = so.own;
      rest = λ no. c.in_ok-peek_lines.ensures.none (ap Ok c.if-not-branch.false);
      end = ap (λ (q : Peek). q.at_end) c.in_ok-peek_lines.ensures.rest ∙ ap (λ (q : Peek). q.at_end) c.nothing.ensures;
      long = ap (λ (q : Peek). q.long) c.in_ok-peek_lines.ensures.rest ∙ ap (λ (q : Peek). q.long) c.nothing.ensures;
      kept = c.peek_lines.ensures.kept;
    }

pub returns-in_err-peek_lines-clause-long : goal.returns-in_err-peek_lines-clause-long
returns-in_err-peek_lines-clause-long g c = ap (λ (q : Peek). q.long) c.peek_lines.ensures.rest ∙ ap (λ (q : Peek). q.long) c.nothing.ensures

pub returns-in_err-peek_lines-clause-kept : goal.returns-in_err-peek_lines-clause-kept
returns-in_err-peek_lines-clause-kept g c = c.peek_lines.ensures.kept

pub returns-in_err-peek_lines-clause-end : goal.returns-in_err-peek_lines-clause-end
returns-in_err-peek_lines-clause-end g c = ap (λ (q : Peek). q.at_end) c.peek_lines.ensures.rest ∙ ap (λ (q : Peek). q.at_end) c.nothing.ensures
