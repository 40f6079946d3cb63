use Rattle.std.proofs.Common.{◌≡◌, ◌⊎◌, ◌∙◌, ◌++◌, ◌-◌, ◌+◌, ◌≤◌, ◌<◌, ℕ, List, [], inl, inr, arith, true, false, refl, sym, ap, subst, drop, take, length, length-append, length-drop}
use Rattle.std.proofs.lemmas.Bool.Decides.{leb_tells}
use Rattle.std.proofs.lemmas.List.{length-take-le}
use Rattle.text_player.specs.Progress.{after_bytes}
use Rattle.text_player.specs.Says.{Says}
use Rattle.text_player.specs.Texts.{turn_reply}
use Rattle.text_player.specs.declared.form.TheConstants.{TURN_ROOM}
use Rattle.service_loop.specs.Asking.{MayAsk}
use Rattle.service_loop.specs.BuffersState.{BuffersState}
use Rattle.text_lines.specs.Lines.{whole_lines}
use Rattle.service_loop.specs.Asking.{none_own}
use Rattle.service_loop.specs.Reported.{behind}
use Rattle.service_loop.specs.ConnectionBuffers.{goes_on_in_line, TakesNoOwn}
use Rattle.service_loop.proofs.OwnLemmas.{none_of_none, none_take}
use Rattle.service_loop.specs.declared.buffers.TheConstants.{UNSENT_ROOM}
use Rattle.service_loop.proofs.BuffersLemmas.{cut_first, takes_refused, takes_said}
use Rattle.service_loop.proofs.buffers.Buffers.take.Goals as goal

pub returns-then-not-add-clause-takes : goal.returns-then-not-add-clause-takes
returns-then-not-add-clause-takes g c = ([], refl, takes_refused c.args.bytes.now c.args.self.now c.add.new.self (c.add.ensures.refused c.if-not-add.true), λ last on. none_of_none c.args.self.now.in_line)

pub returns-clause-takes : goal.returns-clause-takes
returns-clause-takes g c =
    let s = c.args.self.now in
    let n = c.take_some-taken.result in
    let free = c.free-free.result in
    let was = c.self.view_is ∙ c.add.ensures.added c.if-not-add.false in
    let is = c.note_taken.ensures in
    let same = c.hold.ensures.same in
    let waits = ap (λ (q : BuffersState). q.inbox) was in
    let all = c.deref.result.now in
    let cut = cut_first n free all c.take_some-taken.ensures.taken in
    takes_said g.D.Service.may c.args.service.now c.take_some-taken.new.service s c.note_taken.new.self c.self.inside.responder c.take_some-taken.new.self c.args.replies.now c.take_some-taken.new.out
    (ap (λ (q : BuffersState). q.responder) was) (sym (ap (λ (q : BuffersState). q.responder) is ∙ same.0)) c.requires.empty c.args.bytes.now all n (c.deref.ensures.value ∙ waits)
    (subst (λ (l : List ℕ). Says g.D.Service.may turn_reply c.args.service.now c.self.inside.responder c.args.replies.now c.take_some-taken.new.service c.take_some-taken.new.self c.take_some-taken.new.out (λ p. after_bytes c.self.inside.responder.kind p l)) cut c.take_some-taken.ensures.says)
    c.take_some-taken.ensures.kept
    (ap (λ (q : BuffersState). q.inbox) is ∙ ap (λ l. drop n l) (same.1 ∙ sym c.deref.ensures.value)) (ap (λ (q : BuffersState). q.ended) is ∙ same.2 ∙ ap (λ (q : BuffersState). q.ended) was)
    (ap (λ (q : BuffersState). q.in_line) is ∙ ap (λ l. goes_on_in_line c.hold.new.self.in_line (take n l)) (same.1 ∙ sym c.deref.ensures.value)
    ∙ ap (λ b. goes_on_in_line b (take n all)) (same.3 ∙ ap (λ (q : BuffersState). q.in_line) was))
    (λ h.
    let held = c.hold.ensures.held (sym (ap (λ (q : BuffersState). q.broken) is) ∙ h) in
    (ap (λ (q : BuffersState). q.outbox) is ∙ held.0 ∙ ap (λ l. l ++ c.take_some-taken.new.out) (ap (λ (q : BuffersState). q.outbox) was), sym (ap (λ (q : BuffersState). q.broken) was) ∙ held.1))
    c.args.last
    (λ more on. subst (λ (l : List ℕ). none_own (behind s.in_line (whole_lines l)) ≡ true) cut
    (none_take s.in_line n (take free all) (subst (λ (q : BuffersState). q.responder.over ≡ false → none_own (behind q.in_line (whole_lines (take free all))) ≡ true) was
    (subst (λ (l : List ℕ). c.self.inside.responder.over ≡ false → none_own (behind c.self.inside.in_line (whole_lines (take free l))) ≡ true) (sym c.deref.ensures.value)
    (subst (λ (q : BuffersState). TakesNoOwn q (take free q.inbox)) (sym c.self.view_is) (c.free-free.ensures.own more))) on)))

pub returns-clause-full : goal.returns-clause-full
returns-clause-full g c = λ whole some.
    let n = c.take_some-taken.result in
    let free = c.free-free.result in
    let is = c.note_taken.ensures in
    let all = c.deref.result.now in
    let inbox : c.note_taken.new.self.inbox ≡ drop n all = ap (λ (q : BuffersState). q.inbox) is ∙ ap (λ l. drop n l) (c.hold.ensures.same.1 ∙ sym c.deref.ensures.value) in
    let left : length c.note_taken.new.self.inbox ≡ length all - n = ap length inbox ∙ length-drop n all in
    let inside = subst (λ (l : List ℕ). free ≤ length l) (sym c.deref.ensures.value) (subst (λ (q : BuffersState). free ≤ length q.inbox) (sym c.self.view_is) c.free-free.ensures.inside) in
    let asked = subst (λ (l : List ℕ). free < length l → MayAsk (drop free l)) (sym c.deref.ensures.value)
    (subst (λ (q : BuffersState). free < length q.inbox → MayAsk (drop free q.inbox)) (sym c.self.view_is) c.free-free.ensures.asks) in
    let few = length-take-le free all inside in
    let held = c.hold.ensures.held (sym (ap (λ (q : BuffersState). q.broken) is) ∙ whole) in
    let unsent = ap (λ (q : BuffersState). length q.outbox) is ∙ ap length held.0 ∙ length-append c.self.inside.outbox.items c.take_some-taken.new.out in
    let room = c.len-most.ensures in
    elim (leb_tells free n) as (λ _. (UNSENT_ROOM < length c.note_taken.new.self.outbox + TURN_ROOM) ⊎ MayAsk c.note_taken.new.self.inbox) [
      | inl e ↦
          let at_end : n ≡ free = (let taken = c.take_some-taken.ensures.taken in let le = e.1 in omega (arith, taken, few, le)) in
          let asks = asked (omega (arith, left, some, at_end)) in
          inr (subst MayAsk (sym (inbox ∙ ap (λ (k : ℕ). drop k all) at_end)) asks)
      | inr e ↦
          let full = c.take_some-taken.ensures.full (let lt = e.1 in omega (arith, lt, few)) in
          inl (omega (arith, full, unsent, room))
    ]

pub returns-clause-empty : goal.returns-clause-empty
returns-clause-empty g c = c.hold.ensures.empty

pub returns-then-not-add-clause-full : goal.returns-then-not-add-clause-full
returns-then-not-add-clause-full g c = λ whole some.
    let bad : true ≡ false = sym (ap (λ (q : BuffersState). q.broken) (c.add.ensures.refused c.if-not-add.true)) ∙ whole in
    absurd cc
