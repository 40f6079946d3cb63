use Rattle.std.proofs.Common.{◌≡◌, ◌∙◌, ◌+◌, false, [], refl, sym, ap, length, take, Ok}
use Rattle.text_lines.specs.lemmas.SpelledProofs.{event-spelled}
use Rattle.text_player.proofs.Common.{Progress, after_meaning, after_bytes, Anywhere, GoingOn, Afresh, ResponderState}
use Rattle.model_asked.specs.Requests.Request.{Take}
use Rattle.model_asked.specs.declared.command.Command.TheVariants as command
use Rattle.text_player.proofs.cited.ProgressLemmas.{after_bytes-over}
use Rattle.text_player.proofs.FirstLineLemmas.{EndsLine, means-none, after_bytes-first}
use Rattle.text_player.proofs.SaysLemmas.{says_after, says_nothing}
use Rattle.text_player.proofs.responder.Responder.take.Goals as goal

pub returns-then-self-clause-says : goal.returns-then-self-clause-says
returns-then-self-clause-says g c =
    let s = c.args.self.now in
    let bytes = c.args.bytes.now in
    says_nothing g.D.Service.may g.F.Form.text c.args.service.now s s c.args.out.now Anywhere (λ p. after_bytes s.kind p (take (length bytes) bytes))
    (λ turns p t was.
    let over = sym t.over_is ∙ sym (ap (λ (q : ResponderState). q.over) c.self.view_is) ∙ c.if-self.true in
    rw (after_bytes-over s.kind p (take (length bytes) bytes) over) t)

pub answer_event-requires-clause-knows : goal.answer_event-requires-clause-knows
answer_event-requires-clause-knows g c =
    let kind = ap (λ (q : ResponderState). q.kind) c.self.view_is in
    c.requires.knows (take c.in-Some-Event-default.end c.args.bytes.now) (Take c.in-Some-Event-default.event)
    (rw (c.in-Some-Event-default.field-0-0-is, kind) at c.in-Some-Event-default.ensures.means)

pub answer_event-requires-clause-line : goal.answer_event-requires-clause-line
answer_event-requires-clause-line g c =
    (event-spelled c.self.inside.kind (take c.in-Some-Event-default.end c.args.bytes.now) c.in-Some-Event-default.event
    (rw c.in-Some-Event-default.field-0-0-is at c.in-Some-Event-default.ensures.means)).0

pub answer_event-requires-clause-few : goal.answer_event-requires-clause-few
answer_event-requires-clause-few g c =
    (event-spelled c.self.inside.kind (take c.in-Some-Event-default.end c.args.bytes.now) c.in-Some-Event-default.event
    (rw c.in-Some-Event-default.field-0-0-is at c.in-Some-Event-default.ensures.means)).1

pub returns-in-Some-Event-default-clause-says : goal.returns-in-Some-Event-default-clause-says
returns-in-Some-Event-default-clause-says g c =
    let s = c.args.self.now in
    let bytes = c.args.bytes.now in
    let end = c.in-Some-Event-default.end in
    let kind = ap (λ (q : ResponderState). q.kind) c.self.view_is in
    let first = rw kind at c.in-Some-Event-default.ensures in
    let means = rw c.in-Some-Event-default.field-0-0-is at first.means in
    let line : EndsLine bytes end = record { inside = first.inside; lf = first.ends; none = means-none s.kind (take end bytes) (command.Event c.in-Some-Event-default.event) means } in
    says_after g.D.Service.may g.F.Form.text c.args.service.now c.answer_event.new.service s s c.answer_event.new.self c.args.out.now c.answer_event.new.out Anywhere Afresh
    (λ p. after_meaning p (Ok (command.Event c.in-Some-Event-default.event))) (λ p. after_bytes s.kind p (take (end + 1) bytes)) (λ p. p) c.answer_event.ensures.says
    (λ turns p t was.
    let on : p.over ≡ false = sym t.over_is ∙ sym (ap (λ (q : ResponderState). q.over) c.self.view_is) ∙ c.if-self.false in
    let empty : p.line ≡ [] = (c.is_empty.ensures p.line (ap (λ (q : ResponderState). q.line) c.self.view_is ∙ t.line_is)).0 c.if-is_empty.true in
    (t, (on, empty), sym (after_bytes-first s.kind p bytes end _ on empty line means)))

pub returns-clause-says : goal.returns-clause-says
returns-clause-says g c =
    let s = c.args.self.now in
    let went : Progress → Progress = λ p. after_bytes s.kind p (take c.take_slowly.result c.args.bytes.now) in
    says_after g.D.Service.may g.F.Form.text c.args.service.now c.take_slowly.new.service s s c.take_slowly.new.self c.args.out.now c.take_slowly.new.out Anywhere GoingOn
    went went (λ p. p) c.take_slowly.ensures.says
    (λ turns p t was. (t, sym t.over_is ∙ sym (ap (λ (q : ResponderState). q.over) c.self.view_is) ∙ c.if-self.false, refl))
