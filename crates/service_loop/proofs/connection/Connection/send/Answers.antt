use Rattle.std.proofs.Common.{◌≡◌, ◌∙◌, ◌+◌, ◌≤◌, List, ℕ, true, false, sym, ap, subst, take, drop, length}
use Rattle.service_loop.proofs.Common.{take-add, Appends, BuffersState}
use Rattle.text_lines.specs.lemmas.WrittenProofs.{appends_more}
use Rattle.service_loop.proofs.connection.Connection.send.Goals as goal
use Rattle.service_loop.proofs.connection.Connection.send.Goals.{then-loop-self-test+then-not-is_broken+else-at-unsent, then-loop-self-test+else-not-is_broken, else-loop-self-test, then-loop-self-test+then-not-is_broken+then-at-unsent+then-count-eq0}

pub loop-self-preserved : goal.loop-self-preserved
loop-self-preserved g c =
    let i = c.loop-self.invariant in
    let e = c.write-count.ensures in
    let all = c.args.self.now.buffers.outbox in
    let at = c.loop-self.at in
    let n = c.write-count.result in
    let same : c.loop-self.self.buffers.outbox ≡ all = ap (λ (q : BuffersState). q.outbox) i.buffers in
    record {
      inside = subst (λ (l : List ℕ). at + n ≤ length l) same e.taken;
      gained = appends_more _ _ _ _ _ _ i.gained (subst (λ (l : List ℕ). Appends (g.S.Stream.gone c.loop-self.self.stream) (g.S.Stream.gone c.write-count.new.self.stream) (take n (drop at l))) same e.gained) (sym (take-add at n all));
      unread = e.unread ∙ i.unread;
      buffers = e.buffers ∙ ap (λ (q : BuffersState). let r : BuffersState = record q { broken = c.write-count.new.self.buffers.broken } in r) i.buffers;
      whole = λ h. i.whole (e.whole h);
      stage = e.stage ∙ i.stage;
      quiet = λ is. absurd (let bad : true ≡ false = sym is ∙ i.whole (sym c.if-not-is_broken.ensures) in cc);
    }

pub returns-clause-stage : goal.returns-clause-stage
returns-clause-stage g c = elim c.loop-self-test.branch [
  | then-loop-self-test+then-not-is_broken+else-at-unsent w ↦ ap (λ s. s.stage) w.self-is ∙ c.loop-self.invariant.stage
  | then-loop-self-test+else-not-is_broken w ↦ ap (λ s. s.stage) w.self-is ∙ c.loop-self.invariant.stage
  | else-loop-self-test w ↦ ap (λ s. s.stage) w.self-is ∙ c.loop-self.invariant.stage
  | then-loop-self-test+then-not-is_broken+then-at-unsent+then-count-eq0 w ↦ ap (λ s. s.stage) w.self-is ∙ w.write-count.ensures.stage ∙ c.loop-self.invariant.stage
]

pub returns-clause-unread : goal.returns-clause-unread
returns-clause-unread g c = elim c.loop-self-test.branch [
  | then-loop-self-test+then-not-is_broken+else-at-unsent w ↦ ap (λ s. g.S.Stream.left s.stream) w.self-is ∙ c.loop-self.invariant.unread
  | then-loop-self-test+else-not-is_broken w ↦ ap (λ s. g.S.Stream.left s.stream) w.self-is ∙ c.loop-self.invariant.unread
  | else-loop-self-test w ↦ ap (λ s. g.S.Stream.left s.stream) w.self-is ∙ c.loop-self.invariant.unread
  | then-loop-self-test+then-not-is_broken+then-at-unsent+then-count-eq0 w ↦ ap (λ s. g.S.Stream.left s.stream) w.self-is ∙ w.write-count.ensures.unread ∙ c.loop-self.invariant.unread
]
