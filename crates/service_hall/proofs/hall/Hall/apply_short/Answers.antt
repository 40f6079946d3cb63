use Rattle.std.proofs.Common.{◌≡◌, ◌++◌, [], ◌∷◌, None, inr, refl, ap, sym, subst, ◌∙◌, true, false}
use Rattle.service_hall.proofs.Common.{desk_rules, desk_reply, exchange, DeskValue, ShownReply, is_refusal, with_view, may_by, HallState, hall_of, desk_of, hall_refusal, longer, HallMay}
use Rattle.service_hall.proofs.cited.Histories.{Grows, none_of, refuses_so, grows, lacked}
use Rattle.service_hall.proofs.hall.Hall.apply_short.Goals as goal
use Rattle.service_hall.proofs.hall.Hall.apply_short.Goals.{After-is_refusal, After-push_reserved}

-- what the desk answered
abbrev answer : After-is_refusal → ShownReply
answer c = with_view c.apply_short-reply.result c.apply_short-reply.new.view

-- the hall before the event refuses nothing
due : (c : After-is_refusal) → hall_refusal (hall_of c.self.inside.config c.self.inside.history.items) c.args.event ≡ None
due c =
    let free : c.refusal.result ≡ None = none_of c.refusal.result c.in_default.not-Some in
    ap (λ (h : HallState). hall_refusal h c.args.event) c.self.view_is ∙ sym c.refusal.ensures ∙ free

-- and its desk answers
may : (c : After-is_refusal) → may_by desk_rules (desk_of (hall_of c.self.inside.config c.self.inside.history.items)) c.args.event (answer c) c.apply_short-reply.new.self
may c = subst (λ (w : DeskValue). may_by desk_rules w c.args.event (answer c) c.apply_short-reply.new.self) c.self.invariant.0 c.apply_short-reply.ensures

-- the hall in which an event was accepted
abbrev before : After-push_reserved → HallState
before c = hall_of c.self.inside.config c.self.inside.history.items

-- it grows by the event, which stands with its reply at the end of the history
record IsAdded (c : After-push_reserved) : Type 0 where
  grown : Grows (before c) c.args.event (with_view c.apply_short-reply.result c.apply_short-reply.new.view) c.apply_short-reply.new.self
  items : c.push_reserved.new.self.items ≡ (before c).history ++ exchange c.args.event (desk_reply (desk_of (before c)) c.args.event) ∷ []

added : (c : After-push_reserved) → IsAdded c
added c =
    let d = (goal.at.returns-then-not-is_refusal c).After-is_refusal in
    let h = before c in
    let accepted : is_refusal (answer d) ≡ false = sym (d.is_refusal.ensures d.apply_short-reply.new.view) ∙ c.if-not-is_refusal.true in
    let k = grows h c.args.event (answer d) c.apply_short-reply.new.self c.self.invariant.1 (due d) (may d) accepted in
    record {
      grown = k;
      items =
          c.push_reserved.ensures ∙ ap (λ xs. xs ++ exchange c.args.event (answer d) ∷ []) c.reserve.ensures.same
          ∙ ap (λ r. h.history ++ exchange c.args.event r ∷ []) k.reply;
    }

pub invariant_of-self-then-not-is_refusal : goal.invariant_of-self-then-not-is_refusal
invariant_of-self-then-not-is_refusal c = let a = added c in rw a.items (a.grown.desk, a.grown.lawful)

pub returns-then-not-is_refusal : goal.returns-then-not-is_refusal
returns-then-not-is_refusal c =
    let a = added c in
    let r = with_view c.apply_short-reply.result c.apply_short-reply.new.view in
    let new : longer (before c) c.args.event ≡ hall_of c.self.inside.config c.push_reserved.new.self.items = ap (hall_of c.self.inside.config) (sym a.items) in
    subst (λ (u : HallState). HallMay c.args.self.now c.args.event r u) new
    (subst (λ (h : HallState). HallMay h c.args.event r (longer (before c) c.args.event)) c.self.view_is a.grown.may)

pub invariant_of-self-else-not-is_refusal : goal.invariant_of-self-else-not-is_refusal
invariant_of-self-else-not-is_refusal c =
    let d = (goal.at.invariant_of-self-else-not-is_refusal c).After-is_refusal in
    let i = c.self.inside in
    let refused : is_refusal (answer d) ≡ true = sym (d.is_refusal.ensures d.apply_short-reply.new.view) ∙ c.if-not-is_refusal.false in
    let k = lacked (hall_of i.config i.history.items) c.args.event (answer d) c.apply_short-reply.new.self c.self.invariant.1 (due d) (may d) refused in
    rw c.reserve.ensures.same (k.1, c.self.invariant.1)

pub returns-else-not-is_refusal : goal.returns-else-not-is_refusal
returns-else-not-is_refusal c =
    let d = (goal.at.returns-else-not-is_refusal c).After-is_refusal in
    let i = c.self.inside in
    let refused : is_refusal (answer d) ≡ true = sym (d.is_refusal.ensures d.apply_short-reply.new.view) ∙ c.if-not-is_refusal.false in
    let k = lacked (hall_of i.config i.history.items) c.args.event (answer d) c.apply_short-reply.new.self c.self.invariant.1 (due d) (may d) refused in
    inr (k.0, rw c.reserve.ensures.same c.self.view_is, ap (λ (h : HallState). hall_refusal h c.args.event) (sym c.self.view_is) ∙ due d)

pub push_reserved-requires : goal.push_reserved-requires
push_reserved-requires c = c.reserve.ensures.room c.if-not-reserve.false

pub returns-in-Some : goal.returns-in-Some
returns-in-Some c = refuses_so c.args.self.now c.args.event c.in-Some.refusal (sym c.refusal.ensures ∙ c.in-Some.is)

pub invariant_of-self : goal.invariant_of-self
invariant_of-self c = rw c.reserve.ensures.same c.self.invariant

pub returns-then-not-reserve : goal.returns-then-not-reserve
returns-then-not-reserve c =
    inr (refl, ap (hall_of c.self.inside.config) c.reserve.ensures.same ∙ c.self.view_is, sym c.refusal.ensures ∙ none_of c.refusal.result c.in_default.not-Some)
