-- a line can follow exactly where no reason fits
use Rattle.std.proofs.Common.{◌≡◌, ℕ, ◌==◌, ◌&&◌, ◌⊎◌, inl, inr, Bool, true, false, List, Option, Some, None, Result, Ok, Err, refl, sym, ap, ◌∙◌, subst, is_none}
use Rattle.text_checker.proofs.Common.{eqb_tells, Began, Stepped, Refusal, done_unless, RenameTerms, no_begin, no_step, number_in, Pooled, Stored, Fetched, Extended, stored_reply, stored_in, IsFetched, Event, Exchange, DeskCall, exchange_of, Renamed, Slotted, Line, DeskObject, AllowsCall, after_call, CanFollow, after_line}
use Rattle.std.proofs.lemmas.Bool.{false≢true, eq-eqb, and_parts}
use Rattle.model_steps.specs.declared.refusal.Refusal.TheVariants.{NoMemory}
use Rattle.model_steps.specs.Refusal.{refusal_number}
use Rattle.model_renaming.specs.declared.reply.Reply.TheVariants as step
use Rattle.model_pool.specs.declared.probe.Probe.TheVariants as probe
use Rattle.model_pool.specs.Calls.Call.{Entered, Probed, Sought, Left as HasLeft, Widened}
use Rattle.model_asked.specs.declared.event.Event.TheVariants.{Begin, Step, Enter, Probe, Seek, Leave, Put, Get, Widen}
use Rattle.model_asked.specs.declared.reply.Reply.TheVariants as reply
use Rattle.text_checker.specs.declared.reason.Reason.TheVariants as reason
use Rattle.text_records.specs.declared.reported.Reported.{Reported}
use Rattle.text_records.specs.declared.reported.Reported.TheVariants.{Ok as Accepted, Quiet, Place, Proposed, Saw, Named, Spent, Missed, Got, Left, Value, Refused}
use Rattle.text_records.specs.Reported.{is_reply_of}
use Rattle.text_checker.specs.Reasons.{why_of, is_reported_rightly, Keeps, KeepsAll}
use Rattle.text_checker.specs.judges.Named.{IsWritten, MayBeNamed}
use Rattle.text_records.specs.Lines.{shown_where, reported_of, line, line_of, IsLineOf}
use Rattle.text_checker.proofs.Judging.{for_all, none_due}

none_of : (o : Option Refusal) → is_none o ≡ true → o ≡ None
none_of None h = refl
none_of (Some why) h = cc

and_false : (b : Bool) → (b && false) ≡ true → ⊥
and_false true h = false≢true h
and_false false h = false≢true h

-- a refusal that is right is the one that is due, or an allocation failure
reported_due : (due : Option Refusal) (lacks : Bool) (n : ℕ) → is_reported_rightly due lacks n ≡ true →
    ((why : Refusal) × (due ≡ Some why) × (refusal_number why ≡ n)) ⊎ ((due ≡ None) × (lacks ≡ true) × (n ≡ 12))
reported_due None lacks n h = let p = and_parts lacks (n == 12) h in inr (refl, p.0, elim (eqb_tells n 12) [ inl y ↦ y.1 | inr y ↦ absurd (false≢true (sym y.0 ∙ p.1)) ])
reported_due (Some why) lacks n h = inl (why, refl, elim (eqb_tells (refusal_number why) n) [ inl y ↦ y.1 | inr y ↦ absurd (false≢true (sym y.0 ∙ h)) ])

-- where memory can't be wanted, it is the one that is due
reported_why : (due : Option Refusal) (grows : Bool) (n : ℕ) → is_reported_rightly due (grows && false) n ≡ true → (why : Refusal) × (due ≡ Some why) × (refusal_number why ≡ n)
reported_why due grows n h = elim (reported_due due (grows && false) n h) [ inl k ↦ k | inr k ↦ absurd (and_false grows k.1) ]

err_of : (r : Result ℕ Refusal) (why : Refusal) → why_of r ≡ Some why → r ≡ Err why
err_of (Ok n) why h = cc
err_of (Err w) why h = cc

ok_of : (r : Result ℕ Refusal) → why_of r ≡ None → (n : ℕ) × (r ≡ Ok n)
ok_of (Ok n) h = (n, refl)
ok_of (Err w) h = cc

-- what is got by one who holds a number or none
fetched_err : (values : List ℕ) (r : Result ℕ Refusal) (why : Refusal) → r ≡ Err why → IsFetched values r (Err why)
fetched_err values (Ok n) why e = cc
fetched_err values (Err w) why e = sym e

-- a reply that is reported in one way
reported : {x : Exchange} {l : Line} → line_of true x ≡ l → IsLineOf x l
reported e = record { shows = true; spelled = e }

-- a name is reported with its view where that is written
named_so : (e : Event) (n : ℕ) (view : List (ℕ × ℕ)) (shown : Option (List (ℕ × ℕ))) → IsWritten shown view → IsLineOf (record { event = e; reply = reply.Named n view }) (line e (Named n shown))
named_so e n view None w = record { shows = false; spelled = refl }
named_so e n view (Some pairs) w = record { shows = true; spelled = ap (λ (v : List (ℕ × ℕ)). line e (Named n (Some v))) w }

-- a refusal that is due, where memory can't be wanted
refused : (terms : RenameTerms) (o : DeskObject) (e : Event) (call : Refusal → DeskCall) → ((why : Refusal) → line_of true (exchange_of (call why)) ≡ line e (Refused (refusal_number why))) →
    (due : Option Refusal) (n : ℕ) → is_reported_rightly due (terms.grows && false) n ≡ true → ((why : Refusal) → due ≡ Some why → AllowsCall terms o (call why)) → CanFollow terms o (line e (Refused n))
refused terms o e call says due n h allowed =
    let w = reported_why due terms.grows n h in
    record { call = call w.0; spelled = reported (says w.0 ∙ ap (λ x. line e (Refused x)) w.2); allowed = allowed w.0 w.1 }

pub can_follow : (terms : RenameTerms) (o : DeskObject) (e : Event) (t : Reported) → KeepsAll terms o e t → CanFollow terms o (line e t)
can_follow terms o (Begin p) Accepted k = record { call = Renamed (Began p (Ok tt)); spelled = reported refl; allowed = sym (ap done_unless (none_of (no_begin terms o.names p) (k reason.Refusal))) }
can_follow terms o (Begin p) (Refused n) k = refused terms o (Begin p) (λ w. Renamed (Began p (Err w))) (λ w. refl) (no_begin terms o.names p) n (k reason.Refusal) (λ w due. sym (ap done_unless due))
can_follow terms o (Step p) Quiet k = record { call = Renamed (Stepped p (Ok step.Quiet)); spelled = reported refl; allowed = (none_of (no_step o.names p) (k reason.Refusal), tt) }
can_follow terms o (Step p) (Place x) k = record { call = Renamed (Stepped p (Ok (step.Placed x))); spelled = reported refl; allowed = (none_of (no_step o.names p) (k reason.Refusal), k reason.Place) }
can_follow terms o (Step p) (Proposed n) k = record { call = Renamed (Stepped p (Ok (step.Proposed n))); spelled = reported refl; allowed = (none_of (no_step o.names p) (k reason.Refusal), k reason.Proposal) }
can_follow terms o (Step p) (Saw view) k =
    let turns = k reason.Proposal in
    record { call = Renamed (Stepped p (Ok (step.Saw view))); spelled = reported refl; allowed = (none_of (no_step o.names p) (k reason.Refusal), (turns.0, turns.1, k reason.View)) }
can_follow terms o (Step p) (Named n shown) k =
    let m : MayBeNamed o.names p n shown = k reason.Name in
    record { call = Renamed (Stepped p (Ok (step.Named n m.view))); spelled = named_so (Step p) n m.view shown m.written; allowed = (none_of (no_step o.names p) (k reason.Refusal), (m.some, m.shows, m.free)) }
can_follow terms o (Step p) Spent k = record { call = Renamed (Stepped p (Ok step.Spent)); spelled = reported refl; allowed = (none_of (no_step o.names p) (k reason.Refusal), (k reason.Proposal, k reason.View)) }
can_follow terms o (Step p) (Refused n) k = elim (reported_due (no_step o.names p) (terms.grows && true) n (k reason.Refusal)) [
  | inl w ↦ record { call = Renamed (Stepped p (Err w.0)); spelled = reported (ap (λ x. line (Step p) (Refused x)) w.2); allowed = inl w.1 }
  | inr w ↦ record { call = Renamed (Stepped p (Err NoMemory)); spelled = reported (ap (λ x. line (Step p) (Refused x)) (sym w.2)); allowed = inr (record { is = refl; grows = (and_parts terms.grows true w.1).0; none_due = w.0 }) }
]
can_follow terms o (Enter p) Accepted k = record { call = Slotted (Pooled (Entered p (Ok tt))); spelled = reported refl; allowed = (sym (ap done_unless (none_of _ (k reason.Refusal))), tt) }
can_follow terms o (Enter p) (Refused n) k = refused terms o (Enter p) (λ w. Slotted (Pooled (Entered p (Err w)))) (λ w. refl) _ n (k reason.Refusal) (λ w due. (sym (ap done_unless due), tt))
can_follow terms o (Probe p) Missed k = record { call = Slotted (Pooled (Probed p (Ok probe.Missed))); spelled = reported refl; allowed = ((none_of _ (k reason.Refusal), k reason.Pool), tt) }
can_follow terms o (Probe p) (Got n) k = record { call = Slotted (Pooled (Probed p (Ok (probe.Got n)))); spelled = reported refl; allowed = ((none_of _ (k reason.Refusal), k reason.Pool), tt) }
can_follow terms o (Probe p) (Refused n) k = refused terms o (Probe p) (λ w. Slotted (Pooled (Probed p (Err w)))) (λ w. refl) _ n (k reason.Refusal) (λ w due. (due, tt))
can_follow terms o (Seek p) (Got n) k = record { call = Slotted (Pooled (Sought p (Ok n))); spelled = reported refl; allowed = ((none_of _ (k reason.Refusal), k reason.Pool), tt) }
can_follow terms o (Seek p) (Refused n) k = refused terms o (Seek p) (λ w. Slotted (Pooled (Sought p (Err w)))) (λ w. refl) _ n (k reason.Refusal) (λ w due. (due, tt))
can_follow terms o (Leave p) (Left n) k = record { call = Slotted (Pooled (HasLeft p (Ok n))); spelled = reported refl; allowed = (sym (k reason.Pool), tt) }
can_follow terms o (Leave p) (Refused n) k =
    refused terms o (Leave p) (λ w. Slotted (Pooled (HasLeft p (Err w)))) (λ w. refl) (why_of (number_in o.slots.pool p)) n (k reason.Refusal) (λ w due. (sym (err_of (number_in o.slots.pool p) w due), tt))
can_follow terms o (Put p value) Accepted k =
    let w = ok_of (number_in o.slots.pool p) (none_of _ (k reason.Refusal)) in
    record { call = Slotted (Stored p value (Ok tt)); spelled = reported refl; allowed = (sym (ap stored_reply w.1), tt) }
can_follow terms o (Put p value) (Refused n) k =
    refused terms o (Put p value) (λ w. Slotted (Stored p value (Err w))) (λ w. refl) (why_of (number_in o.slots.pool p)) n (k reason.Refusal) (λ w due. (sym (ap stored_reply (err_of (number_in o.slots.pool p) w due)), tt))
can_follow terms o (Get p) (Value v) k = record { call = Slotted (Fetched p (Ok v)); spelled = reported refl; allowed = (k reason.Pool, tt) }
can_follow terms o (Get p) (Refused n) k =
    refused terms o (Get p) (λ w. Slotted (Fetched p (Err w))) (λ w. refl) (why_of (number_in o.slots.pool p)) n (k reason.Refusal)
    (λ w due. (fetched_err o.slots.values (number_in o.slots.pool p) w (err_of (number_in o.slots.pool p) w due), tt))
can_follow terms o (Widen more) Accepted k = record { call = Slotted (Extended more 0 (Ok tt)); spelled = reported refl; allowed = (sym (ap done_unless (none_of _ (k reason.Refusal))), refl) }
can_follow terms o (Widen more) (Refused n) k = refused terms o (Widen more) (λ w. Slotted (Extended more 0 (Err w))) (λ w. refl) _ n (k reason.Refusal) (λ w due. (sym (ap done_unless due), refl))
can_follow terms o e t k = let r : is_reply_of t e ≡ true = k reason.Reply in absurd (cc)

-- what is reported where nothing is due, and where something is
due_reported : (due : Option Refusal) (lacks : Bool) (why : Refusal) → due ≡ Some why → is_reported_rightly due lacks (refusal_number why) ≡ true
due_reported None lacks why e = cc
due_reported (Some w) lacks why e = eq-eqb (refusal_number w) (refusal_number why) (let f : w ≡ why = cc in ap refusal_number f)

lack_reported : (due : Option Refusal) (grows : Bool) → due ≡ None → grows ≡ true → is_reported_rightly due (grows && true) 12 ≡ true
lack_reported None grows e g = rw g refl
lack_reported (Some w) grows e g = cc

none_by : (due : Option Refusal) → Ok tt ≡ done_unless due → due ≡ None
none_by None h = refl
none_by (Some w) h = absurd (cc)

some_by : (due : Option Refusal) (why : Refusal) → Err why ≡ done_unless due → due ≡ Some why
some_by None why h = absurd (cc)
some_by (Some w) why h = (let f : why ≡ w = cc in ap Some (sym f))

stored_is : (r : Result ℕ Refusal) → stored_reply r ≡ done_unless (why_of r)
stored_is (Ok n) = refl
stored_is (Err w) = refl

fetched_ok : (values : List ℕ) (r : Result ℕ Refusal) (v : ℕ) → IsFetched values r (Ok v) → why_of r ≡ None
fetched_ok values (Ok n) v h = refl
fetched_ok values (Err w) v h = absurd (cc)

fetched_why : (values : List ℕ) (r : Result ℕ Refusal) (why : Refusal) → IsFetched values r (Err why) → why_of r ≡ Some why
fetched_why values (Ok n) why h = absurd h
fetched_why values (Err w) why h = (let f : why ≡ w = cc in ap Some (sym f))

written_where : (b : Bool) (view : List (ℕ × ℕ)) → IsWritten (shown_where b view) view
written_where true view = refl
written_where false view = tt

-- no reason fits the line of a call to which the objects may give its reply
pub call_keeps : (terms : RenameTerms) (o : DeskObject) (c : DeskCall) (b : Bool) → AllowsCall terms o c → KeepsAll terms o (exchange_of c).event (reported_of b (exchange_of c).reply)
call_keeps terms o (Renamed (Began p (Ok done))) b a = for_all (Keeps terms o (Begin p) Accepted) refl (none_due _ (none_by _ a)) tt tt tt tt tt
call_keeps terms o (Renamed (Began p (Err why))) b a = for_all (Keeps terms o (Begin p) (Refused (refusal_number why))) refl (due_reported _ (terms.grows && false) why (some_by _ why a)) tt tt tt tt tt
call_keeps terms o (Renamed (Stepped p (Ok step.Quiet))) b a = for_all (Keeps terms o (Step p) Quiet) refl (none_due _ a.0) tt tt tt tt tt
call_keeps terms o (Renamed (Stepped p (Ok (step.Placed x)))) b a = for_all (Keeps terms o (Step p) (Place x)) refl (none_due _ a.0) a.1 tt tt tt tt
call_keeps terms o (Renamed (Stepped p (Ok (step.Proposed n)))) b a = for_all (Keeps terms o (Step p) (Proposed n)) refl (none_due _ a.0) tt a.1 tt tt tt
call_keeps terms o (Renamed (Stepped p (Ok (step.Saw view)))) b a = for_all (Keeps terms o (Step p) (Saw view)) refl (none_due _ a.0) tt (a.1.0, a.1.1) a.1.2 tt tt
call_keeps terms o (Renamed (Stepped p (Ok (step.Named n view)))) b a = for_all (Keeps terms o (Step p) (Named n (shown_where b view))) refl (none_due _ a.0) tt tt tt (record { view = view; written = written_where b view; some = a.1.0; shows = a.1.1; free = a.1.2 }) tt
call_keeps terms o (Renamed (Stepped p (Ok step.Spent))) b a = for_all (Keeps terms o (Step p) Spent) refl (none_due _ a.0) tt a.1.0 a.1.1 tt tt
call_keeps terms o (Renamed (Stepped p (Err why))) b a = elim a [
  | inl due ↦ for_all (Keeps terms o (Step p) (Refused (refusal_number why))) refl (due_reported _ (terms.grows && true) why due) tt tt tt tt tt
  | inr lacks ↦ for_all (Keeps terms o (Step p) (Refused (refusal_number why))) refl (rw lacks.is (lack_reported _ terms.grows lacks.none_due lacks.grows)) tt tt tt tt tt
]
call_keeps terms o (Slotted (Pooled (Entered p (Ok done)))) b a = for_all (Keeps terms o (Enter p) Accepted) refl (none_due _ (none_by _ a.0)) tt tt tt tt tt
call_keeps terms o (Slotted (Pooled (Entered p (Err why)))) b a = for_all (Keeps terms o (Enter p) (Refused (refusal_number why))) refl (due_reported _ (terms.grows && false) why (some_by _ why a.0)) tt tt tt tt tt
call_keeps terms o (Slotted (Pooled (Probed p (Ok probe.Missed)))) b a = for_all (Keeps terms o (Probe p) Missed) refl (none_due _ a.0.0) tt tt tt tt a.0.1
call_keeps terms o (Slotted (Pooled (Probed p (Ok (probe.Got n))))) b a = for_all (Keeps terms o (Probe p) (Got n)) refl (none_due _ a.0.0) tt tt tt tt a.0.1
call_keeps terms o (Slotted (Pooled (Probed p (Err why)))) b a = for_all (Keeps terms o (Probe p) (Refused (refusal_number why))) refl (due_reported _ (terms.grows && false) why a.0) tt tt tt tt tt
call_keeps terms o (Slotted (Pooled (Sought p (Ok n)))) b a = for_all (Keeps terms o (Seek p) (Got n)) refl (none_due _ a.0.0) tt tt tt tt a.0.1
call_keeps terms o (Slotted (Pooled (Sought p (Err why)))) b a = for_all (Keeps terms o (Seek p) (Refused (refusal_number why))) refl (due_reported _ (terms.grows && false) why a.0) tt tt tt tt tt
call_keeps terms o (Slotted (Pooled (HasLeft p (Ok n)))) b a = for_all (Keeps terms o (Leave p) (Left n)) refl (none_due _ (sym (ap why_of a.0))) tt tt tt tt (sym a.0)
call_keeps terms o (Slotted (Pooled (HasLeft p (Err why)))) b a = for_all (Keeps terms o (Leave p) (Refused (refusal_number why))) refl (due_reported _ (terms.grows && false) why (sym (ap why_of a.0))) tt tt tt tt tt
call_keeps terms o (Slotted (Stored p value (Ok done))) b a = for_all (Keeps terms o (Put p value) Accepted) refl (none_due _ (none_by _ (a.0 ∙ stored_is _))) tt tt tt tt tt
call_keeps terms o (Slotted (Stored p value (Err why))) b a = for_all (Keeps terms o (Put p value) (Refused (refusal_number why))) refl (due_reported _ (terms.grows && false) why (some_by _ why (a.0 ∙ stored_is _))) tt tt tt tt tt
call_keeps terms o (Slotted (Fetched p (Ok v))) b a = for_all (Keeps terms o (Get p) (Value v)) refl (none_due _ (fetched_ok o.slots.values _ v a.0)) tt tt tt tt a.0
call_keeps terms o (Slotted (Fetched p (Err why))) b a = for_all (Keeps terms o (Get p) (Refused (refusal_number why))) refl (due_reported _ (terms.grows && false) why (fetched_why o.slots.values _ why a.0)) tt tt tt tt tt
call_keeps terms o (Slotted (Pooled (Widened more reply))) b a = absurd a.0
call_keeps terms o (Slotted (Extended more v (Ok done))) b a = for_all (Keeps terms o (Widen more) Accepted) refl (none_due _ (none_by _ a.0)) tt tt tt tt tt
call_keeps terms o (Slotted (Extended more v (Err why))) b a = for_all (Keeps terms o (Widen more) (Refused (refusal_number why))) refl (due_reported _ (terms.grows && false) why (some_by _ why a.0)) tt tt tt tt tt

pub follows_keeps : (terms : RenameTerms) (o : DeskObject) (l : Line) → CanFollow terms o l → KeepsAll terms o l.event l.reported
follows_keeps terms o l f = subst (λ (x : Line). KeepsAll terms o x.event x.reported) f.spelled.spelled (call_keeps terms o f.call f.spelled.shows f.allowed)

stored_same : (r : Result ℕ Refusal) (why : Refusal) (v : ℕ) (values : List ℕ) → Err why ≡ stored_reply r → stored_in r v values ≡ values
stored_same (Ok n) why v values h = absurd (cc)
stored_same (Err w) why v values h = refl

-- a call leaves what its line does
pub same_after : (terms : RenameTerms) (o : DeskObject) (c : DeskCall) (b : Bool) → AllowsCall terms o c → after_call o c ≡ after_line o (line_of b (exchange_of c))
same_after terms o (Slotted (Stored p value (Err why))) b a = λ i. record { names = o.names; slots = record { pool = o.slots.pool; values = stored_same (number_in o.slots.pool p) why value o.slots.values a.0 i } }
same_after terms o (Slotted (Pooled (Widened more reply))) b a = absurd a.0
same_after terms o (Slotted (Extended more v (Ok done))) b a = ap (λ (x : ℕ). after_call o (Slotted (Extended more x (Ok tt)))) a.1
same_after terms o (Renamed (Began p (Err why))) b a = refl
same_after terms o (Renamed (Stepped p (Ok step.Quiet))) b a = refl
same_after terms o (Slotted (Pooled (Entered p (Err why)))) b a = refl
same_after terms o (Slotted (Pooled (Probed p (Ok probe.Missed)))) b a = refl
same_after terms o (Slotted (Pooled (Sought p (Err why)))) b a = refl
same_after terms o (Slotted (Pooled (HasLeft p (Err why)))) b a = refl
same_after terms o (Slotted (Fetched p (Err why))) b a = refl
same_after terms o c b a = refl
