use Rattle.std.proofs.Common.{◌≡◌, ◌∙◌, true, false, [], sym, ap}
use Rattle.text_player.proofs.Common.{after_end, after_line, Anywhere, GoingOn, ResponderState}
use Rattle.text_player.proofs.SaysLemmas.{says_after, says_nothing, after_end-some, after_end-none, after_end-over}
use Rattle.text_player.proofs.responder.Responder.finish.Goals as goal
use Rattle.text_player.proofs.responder.Responder.finish.Goals.{else-not-self-via-then-not-self+else-not-is_empty, else-not-self-via-else-not-self}

pub returns-then-not-is_empty-clause-says : goal.returns-then-not-is_empty-clause-says
returns-then-not-is_empty-clause-says g c =
    let s = c.args.self.now in
    says_after g.D.Service.may g.F.Form.text c.args.service.now c.answer_line.new.service s s c.answer_line.new.self c.args.out.now c.answer_line.new.out Anywhere GoingOn
    (after_line s.kind) (after_end s.kind) (λ p. p) c.answer_line.ensures.says
    (λ turns p t was.
    let over : p.over ≡ false = sym t.over_is ∙ sym (ap (λ (q : ResponderState). q.over) c.self.view_is) ∙ c.if-not-self.true in
    let line = c.is_empty.ensures p.line (ap (λ (q : ResponderState). q.line) c.self.view_is ∙ t.line_is) in
    let some : p.line ≡ [] → ⊥ = λ none. (let yes : c.is_empty.result ≡ true = line.1 none in let no : c.is_empty.result ≡ false = c.if-not-is_empty.true in absurd cc) in
    (t, over, sym (after_end-some s.kind p over some)))

pub returns-else-not-self-clause-says : goal.returns-else-not-self-clause-says
returns-else-not-self-clause-says g c =
    let s = c.args.self.now in
    says_nothing g.D.Service.may g.F.Form.text c.args.service.now s s c.args.out.now Anywhere (after_end s.kind)
    (λ turns p t was. elim c.else-not-self.branch [
      | else-not-self-via-then-not-self+else-not-is_empty w ↦
          (let none : p.line ≡ [] = (w.is_empty.ensures p.line (ap (λ (q : ResponderState). q.line) c.self.view_is ∙ t.line_is)).0 w.if-not-is_empty.false in rw (after_end-none s.kind p none) t)
      | else-not-self-via-else-not-self w ↦
          (let over : p.over ≡ true = sym t.over_is ∙ sym (ap (λ (q : ResponderState). q.over) c.self.view_is) ∙ w.if-not-self.false in rw (after_end-over s.kind p over) t)
    ])
