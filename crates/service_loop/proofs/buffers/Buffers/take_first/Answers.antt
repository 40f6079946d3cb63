use Rattle.std.proofs.Common.{rules, ◌≡◌, ◌∙◌, ◌++◌, ◌≤◌, List, ℕ, length, min, sym, ap, subst, drop, take}
use Rattle.std.proofs.lemmas.List.{take_min}
use Rattle.text_player.specs.Progress.{after_bytes}
use Rattle.text_player.specs.Says.{Says}
use Rattle.text_player.specs.Texts.{turn_reply}
use Rattle.service_loop.specs.BuffersState.{BuffersState}
use Rattle.service_loop.specs.ConnectionBuffers.{goes_on_in_line}
use Rattle.service_loop.proofs.BuffersLemmas.{cut_first, takes_first}
use Rattle.service_loop.proofs.buffers.Buffers.take_first.Goals as goal

pub returns-clause-takes : goal.returns-clause-takes
returns-clause-takes g c =
    let s = c.args.self.now in
    let n = c.take_some-used.result in
    let was = c.self.view_is in
    let is = c.note_taken.ensures in
    let same = c.hold.ensures.same in
    let all : c.deref.result.now ≡ s.inbox = c.deref.ensures.value ∙ ap (λ (q : BuffersState). q.inbox) was in
    let few = c.min-few.result in
    let first : take few c.deref.result.now ≡ take few s.inbox = ap (λ l. take few l) all in
    let cut = cut_first n few c.deref.result.now c.take_some-used.ensures.taken ∙ ap (λ l. take n l) all in
    let s' = c.note_taken.new.self in
    let le : n ≤ length (take few s.inbox) = subst (λ (l : List ℕ). n ≤ length l) first c.take_some-used.ensures.taken in
    let least : few ≡ min c.args.count (length s.inbox) = search rules in
    let count : take few s.inbox ≡ take c.args.count s.inbox = ap (λ (k : ℕ). take k s.inbox) least ∙ take_min c.args.count s.inbox in
    takes_first g.D.Service.may c.args.service.now c.take_some-used.new.service s s' c.self.inside.responder c.take_some-used.new.self c.args.replies.now c.take_some-used.new.out
    (ap (λ (q : BuffersState). q.responder) was) (sym (ap (λ (q : BuffersState). q.responder) is ∙ same.0)) c.requires.empty c.args.count few n
    (subst (λ (l : List ℕ). Says g.D.Service.may turn_reply c.args.service.now c.self.inside.responder c.args.replies.now c.take_some-used.new.service c.take_some-used.new.self c.take_some-used.new.out (λ p. after_bytes c.self.inside.responder.kind p l)) cut c.take_some-used.ensures.says)
    le count c.take_some-used.ensures.kept
    (ap (λ (q : BuffersState). q.inbox) is ∙ ap (λ l. drop n l) (same.1 ∙ ap (λ (q : BuffersState). q.inbox) was)) (ap (λ (q : BuffersState). q.ended) is ∙ same.2 ∙ ap (λ (q : BuffersState). q.ended) was)
    (ap (λ (q : BuffersState). q.in_line) is ∙ ap (λ l. goes_on_in_line c.hold.new.self.in_line (take n l)) (same.1 ∙ ap (λ (q : BuffersState). q.inbox) was)
    ∙ ap (λ b. goes_on_in_line b (take n s.inbox)) (same.3 ∙ ap (λ (q : BuffersState). q.in_line) was))
    (λ h.
    let held = c.hold.ensures.held (sym (ap (λ (q : BuffersState). q.broken) is) ∙ h) in
    (ap (λ (q : BuffersState). q.outbox) is ∙ held.0 ∙ ap (λ l. l ++ c.take_some-used.new.out) (ap (λ (q : BuffersState). q.outbox) was), sym (ap (λ (q : BuffersState). q.broken) was) ∙ held.1))

pub returns-clause-empty : goal.returns-clause-empty
returns-clause-empty g c = c.hold.ensures.empty
