use Rattle.std.proofs.Common.{◌∙◌, [], refl, sym, ap}
use Rattle.text_player.proofs.Common.{HeldLine, held, meaning, ResponderState, with_line, after_line, after_meaning, GoingOn, Afresh}
use Rattle.text_player.proofs.SaysLemmas.{spoke_with_line, says_after}
use Rattle.text_player.proofs.responder.Responder.answer_line.Goals as goal

pub answer-requires-clause-knows : goal.answer-requires-clause-knows
answer-requires-clause-knows g c = λ q is.
    let some = c.meaning-meaning.ensures.some in
    let kind = ap (λ (q : ResponderState). q.kind) c.self.view_is in
    c.requires.knows some.0 q (ap (λ k. meaning k some.0) (sym kind) ∙ sym some.1 ∙ is)

pub returns-clause-says : goal.returns-clause-says
returns-clause-says g c =
    let s = c.args.self.now in
    let kind = ap (λ (q : ResponderState). q.kind) c.self.view_is in
    let none = ap (λ (l : HeldLine). let q : ResponderState = record { kind = c.self.inside.kind; line = l; summary = c.self.inside.summary; over = c.self.inside.over } in q) c.clear.ensures in
    let cleared : ResponderState = record { kind = c.self.inside.kind; line = c.clear.new.self; summary = c.self.inside.summary; over = c.self.inside.over } in
    says_after g.D.Service.may g.F.Form.text c.args.service.now c.answer.new.service s cleared c.answer.new.self c.args.out.now c.answer.new.out GoingOn Afresh
    (λ p. after_meaning p c.meaning-meaning.result) (after_line s.kind) (λ p. with_line p []) c.answer.ensures.says
    (λ turns p t on.
    let is = c.meaning-meaning.ensures.held p.line (ap (λ (q : ResponderState). q.line) c.self.view_is ∙ t.line_is) ∙ ap (λ k. meaning k p.line) kind in (
      spoke_with_line turns s cleared p [] t (none ∙ ap (λ (q : ResponderState). let r : ResponderState = record q { line = held [] } in r) c.self.view_is),
      (on, refl),
      ap (λ m. after_meaning p m) is,
    ))
