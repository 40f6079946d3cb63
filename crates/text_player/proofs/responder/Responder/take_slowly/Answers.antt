use Rattle.std.proofs.Common.{◌≡◌, ◌∙◌, ◌++◌, ◌+◌, true, [], ap, sym, length, take, arith, subst}
use Rattle.text_lines.specs.lemmas.PieceProofs.{nowhere-lacks}
use Rattle.text_player.proofs.Common.{take_all, WorldKind, HeldLine, held, has_no_lf, meaning, with_line, after_meaning, after_line, after_bytes, SaysFrom, GoingOn, Afresh, ResponderState}
use Rattle.text_player.proofs.FirstLineLemmas.{found-line, after_bytes-part, after_bytes-whole, after_bytes-first}
use Rattle.text_player.proofs.SaysLemmas.{spoke_with_line, says_after, says_nothing}
use Rattle.text_player.proofs.responder.Responder.take_slowly.Goals as goal

pub returns-in_default-clause-says : goal.returns-in_default-clause-says
returns-in_default-clause-says g c =
    let s = c.args.self.now in
    let bytes = c.args.bytes.now in
    let all : take (length bytes) bytes ≡ bytes = take_all (length bytes) bytes (omega arith) in
    let none : has_no_lf bytes ≡ true = rw all at (nowhere-lacks 10 bytes (length bytes) c.in_default.ensures) in
    let longer : ResponderState = record { kind = c.self.inside.kind; line = c.extend.new.self; summary = c.self.inside.summary; over = c.self.inside.over } in
    says_nothing g.D.Service.may g.F.Form.text c.args.service.now s longer c.args.out.now GoingOn (λ p. after_bytes s.kind p (take (length bytes) bytes))
    (λ turns p t on.
    let more = c.extend.ensures p.line (ap (λ (q : ResponderState). q.line) c.self.view_is ∙ t.line_is) in
    let extended = ap (λ (l : HeldLine). let q : ResponderState = record { kind = c.self.inside.kind; line = l; summary = c.self.inside.summary; over = c.self.inside.over } in q) more in
    rw (all, after_bytes-part s.kind p bytes on none)
    (spoke_with_line turns s longer p (p.line ++ bytes) t (extended ∙ ap (λ (q : ResponderState). let r : ResponderState = record q { line = held (p.line ++ bytes) } in r) c.self.view_is)))

pub answer-requires-clause-knows : goal.answer-requires-clause-knows
answer-requires-clause-knows g c = λ q is.
    let kind = ap (λ (q : ResponderState). q.kind) c.self.view_is in
    let line = take c.in-Some.end c.args.bytes.now in
    c.requires.knows line q (ap (λ k. meaning k line) (sym kind) ∙ sym c.parse_line-meaning.ensures ∙ is)

pub returns-then-is_empty-clause-says : goal.returns-then-is_empty-clause-says
returns-then-is_empty-clause-says g c =
    let s = c.args.self.now in
    let bytes = c.args.bytes.now in
    let end = c.in-Some.end in
    let line = found-line bytes end c.in-Some.ensures in
    let kind = ap (λ (q : ResponderState). q.kind) c.self.view_is in
    let is : meaning s.kind (take end bytes) ≡ c.parse_line-meaning.result = ap (λ k. meaning k (take end bytes)) (sym kind) ∙ sym c.parse_line-meaning.ensures in
    says_after g.D.Service.may g.F.Form.text c.args.service.now c.answer.new.service s s c.answer.new.self c.args.out.now c.answer.new.out GoingOn Afresh
    (λ p. after_meaning p c.parse_line-meaning.result) (λ p. after_bytes s.kind p (take (end + 1) bytes)) (λ p. p) c.answer.ensures.says
    (λ turns p t on.
    let empty : p.line ≡ [] = (c.is_empty.ensures p.line (ap (λ (q : ResponderState). q.line) c.self.view_is ∙ t.line_is)).0 c.if-is_empty.true in
    (t, (on, empty), sym (after_bytes-first s.kind p bytes end c.parse_line-meaning.result on empty line is)))

pub returns-clause-says : goal.returns-clause-says
returns-clause-says g c =
    let s = c.args.self.now in
    let bytes = c.args.bytes.now in
    let end = c.in-Some.end in
    let line = found-line bytes end c.in-Some.ensures in
    let kind = ap (λ (q : ResponderState). q.kind) c.self.view_is in
    let longer : ResponderState = record { kind = c.self.inside.kind; line = c.extend-2.new.self; summary = c.self.inside.summary; over = c.self.inside.over } in
    says_after g.D.Service.may g.F.Form.text c.args.service.now c.answer_line.new.service s longer c.answer_line.new.self c.args.out.now c.answer_line.new.out GoingOn GoingOn
    (after_line s.kind) (λ p. after_bytes s.kind p (take (end + 1) bytes)) (λ p. with_line p (p.line ++ take end bytes)) (subst (λ (k : WorldKind). SaysFrom g.D.Service.may g.F.Form.text GoingOn c.args.service.now longer c.args.out.now c.answer_line.new.service c.answer_line.new.self c.answer_line.new.out (after_line k)) kind c.answer_line.ensures.says)
    (λ turns p t on.
    let more = c.extend-2.ensures p.line (ap (λ (q : ResponderState). q.line) c.self.view_is ∙ t.line_is) in
    let extended = ap (λ (l : HeldLine). let q : ResponderState = record { kind = c.self.inside.kind; line = l; summary = c.self.inside.summary; over = c.self.inside.over } in q) more in (
      spoke_with_line turns s longer p (p.line ++ take end bytes) t (extended ∙ ap (λ (q : ResponderState). let r : ResponderState = record q { line = held (p.line ++ take end bytes) } in r) c.self.view_is),
      on,
      sym (after_bytes-whole s.kind p bytes end on line),
    ))

pub answer_line-requires-clause-knows : goal.answer_line-requires-clause-knows
answer_line-requires-clause-knows g c = λ line q is.
    let kind = ap (λ (s : ResponderState). s.kind) c.self.view_is in
    c.requires.knows line q (ap (λ k. meaning k line) (sym kind) ∙ is)

pub returns-in_default-clause-line : goal.returns-in_default-clause-line
returns-in_default-clause-line g c =
    let same = c.self.view_is in record {
      some = c.requires.some;
      inside = omega arith;
      kept = ap (λ (q : ResponderState). q.kind) same;
      longer = omega arith;
      counted = (let lines = ap (λ (q : ResponderState). q.summary.lines) same in omega arith);
    }

pub returns-then-is_empty-clause-line : goal.returns-then-is_empty-clause-line
returns-then-is_empty-clause-line g c = record {
  some = omega arith;
  inside = omega (arith, c.in-Some.ensures.0.high);
  kept = c.answer.ensures.kept;
  longer = c.answer.ensures.longer;
  counted = omega (arith, c.answer.ensures.counted);
}

pub returns-clause-line : goal.returns-clause-line
returns-clause-line g c =
    let same = c.self.view_is in record {
      some = omega arith;
      inside = omega (arith, c.in-Some.ensures.0.high);
      kept = c.answer_line.ensures.kept ∙ ap (λ (q : ResponderState). q.kind) same;
      longer = c.answer_line.ensures.longer;
      counted = (let lines = ap (λ (q : ResponderState). q.summary.lines) same in omega (arith, c.answer_line.ensures.counted));
    }
