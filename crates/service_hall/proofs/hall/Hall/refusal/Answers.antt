use Rattle.std.proofs.Common.{◌≡◌, ◌≤◌, ◌<◌, ℕ, Some, None, Option, inl, inr, length, refl, sym, ap, ◌∙◌, arith}
use Rattle.std.proofs.lemmas.Bool.Decides.{leb_tells}
use Rattle.model_steps.specs.declared.refusal.Refusal.TheVariants as refusal
use Rattle.service_hall.proofs.Common.{Refusal, DeskValue, desk_refusal, HallState, desk_of, full_unless}
use Rattle.service_hall.proofs.hall.Hall.refusal.Goals as goal
use Rattle.service_hall.proofs.hall.Hall.refusal.Goals.{After-refusal, After-len}

-- the desk says what is due at the hall's
due : (c : After-refusal) → c.refusal.result ≡ desk_refusal (desk_of c.args.self.now) c.args.event
due c =
    let desk : c.self.inside.held.desk ≡ desk_of c.args.self.now = c.self.invariant.0 ∙ ap desk_of c.self.view_is in
    c.refusal.ensures.value ∙ ap (λ (w : DeskValue). desk_refusal w c.args.event) desk

-- the history that is counted is the hall's
counted : (c : After-len) → c.len.result ≡ length c.args.self.now.history
counted c = c.len.ensures ∙ ap (λ (h : HallState). length h.history) c.self.view_is

full_at : (o : Option Refusal) (count : ℕ) → o ≡ None → 1000000 ≤ count → Some refusal.HistoryFull ≡ full_unless o count
full_at (Some why) count none full = absurd (cc)
full_at None count none full = elim (leb_tells 1000000 count) [
  | inl w ↦ rw w.0 refl
  | inr w ↦ absurd (let below = w.1 in omega arith)
]

room_at : (o : Option Refusal) (count : ℕ) → o ≡ None → count < 1000000 → None ≡ full_unless o count
room_at (Some why) count none room = absurd (cc)
room_at None count none room = elim (leb_tells 1000000 count) [
  | inl w ↦ absurd (let above = w.1 in omega arith)
  | inr w ↦ rw w.0 refl
]

pub returns-in-Some : goal.returns-in-Some
returns-in-Some c =
    let said : desk_refusal (desk_of c.args.self.now) c.args.event ≡ Some c.in-Some.refusal = sym (due ((goal.at.returns-in-Some c).After-refusal)) ∙ c.in-Some.is in
    ap (λ (o : Option Refusal). full_unless o (length c.args.self.now.history)) (sym said)

pub returns-then-len-ge-MOST_EVENTS : goal.returns-then-len-ge-MOST_EVENTS
returns-then-len-ge-MOST_EVENTS c =
    let at = goal.at.returns-then-len-ge-MOST_EVENTS c in
    full_at _ (length c.args.self.now.history) (sym (due at.After-refusal) ∙ c.in_default.is) (rw (sym (counted at.After-len)) c.if-len-ge-MOST_EVENTS.true)

pub returns-else-len-ge-MOST_EVENTS : goal.returns-else-len-ge-MOST_EVENTS
returns-else-len-ge-MOST_EVENTS c =
    let at = goal.at.returns-else-len-ge-MOST_EVENTS c in
    room_at _ (length c.args.self.now.history) (sym (due at.After-refusal) ∙ c.in_default.is) (rw (sym (counted at.After-len)) c.if-len-ge-MOST_EVENTS.false)
