-- who alone steps is soon named, by exchanges alone
use Rattle.std.proofs.Common.{◌≡◌, ℕ, ◌+◌, ◌⊎◌, Bool, true, false, cond, ◌&&◌, ◌==◌, inl, inr, List, [], ◌∷◌, ◌++◌, map, Some, None, Ok, Err, refl, sym, ap, subst, ◌∙◌, arith, is_some}
use Rattle.text_worlds.specs.lemmas.desk.Common.{eqb_tells, Decides-eqb, Run, Began, Stepped, StepReply, Quiet, Placed, Proposed, Saw, Named, Spent, Entered, SlotCall, Pooled, Event, Exchange, DeskCall, rename_calls, exchange, exchange_of, Renamed, Slotted}
use Rattle.model_steps.specs.Calls.{Call, steps_of as call_steps}
use Rattle.model_steps.proofs.cited.RunLemmas.{run_splits}
use Rattle.model_renaming.specs.Alone.{HasTwoLeft as HasTwoCalls, StepsAlone as CallsAlone}
use Rattle.model_renaming.specs.RenameObject.{RenameTerms, RenameObject, new_object, Allows, after, IsRun}
use Rattle.model_asked.specs.declared.event.Event.TheVariants as event
use Rattle.model_asked.specs.declared.reply.Reply.TheVariants as reply
use Rattle.text_worlds.specs.desk.NamedAlone.{IsAmong, HasBegun, WasSpent, proposed_more, proposals_of, stepped_more, steps_of, StepsAlone, HasTwoLeft, HasName, NamesSoonAlone}
use Rattle.model_asked.specs.Replies.{is_refusal}
use Rattle.text_worlds.specs.desk.Replies.{shown_step}
use Rattle.text_worlds.specs.lemmas.desk.NamesGiven.{was_given, shown_by, has_named}

-- where a list of calls is shown as two parts of exchanges, it has two parts
pub record AreParts (calls : List DeskCall) (before more : List Exchange) : Type 0 where
  pub first : List DeskCall
  pub second : List DeskCall
  pub is : first ++ second ≡ calls
  pub shows : map exchange_of first ≡ before
  pub goes_on : map exchange_of second ≡ more

pub parts_of : (calls : List DeskCall) (before more : List Exchange) → map exchange_of calls ≡ before ++ more → AreParts calls before more
parts_of calls [] more e = record { first = []; second = calls; is = refl; shows = refl; goes_on = e }
parts_of [] (x ∷ before) more e = absurd (cc)
parts_of (h ∷ calls) (x ∷ before) more e =
    let rest : map exchange_of calls ≡ before ++ more = cc in
    let here : exchange_of h ≡ x = cc in
    let k = parts_of calls before more rest in
    record { first = h ∷ k.first; second = k.second; is = ap (λ z. h ∷ z) k.is; shows = rw (here, k.shows) refl; goes_on = k.goes_on }

pub rename_parts : (first second : List DeskCall) → rename_calls (first ++ second) ≡ rename_calls first ++ rename_calls second
rename_parts [] second = refl
rename_parts (Renamed h ∷ first) second = ap (λ z. h ∷ z) (rename_parts first second)
rename_parts (Slotted h ∷ first) second = rename_parts first second

-- whether an event is one of renaming
abbrev pub is_of_names : Event → Bool
is_of_names (event.Begin q) = true
is_of_names (event.Step q) = true
is_of_names e = false

of_names : (g : Call StepReply) → is_of_names (exchange_of (Renamed g)).event ≡ true
of_names (Began q a) = refl
of_names (Stepped q a) = refl

-- one of the slots is not: it is no proposal and no step
pub record IsOfSlots (x : Exchange) : Type 0 where
  pub event : is_of_names x.event ≡ false
  pub proposed : (p n : ℕ) → proposed_more p x.event x.reply n ≡ n
  pub stepped : (p n : ℕ) → stepped_more p x.event x.reply n ≡ n

pub of_slots : (h : SlotCall ℕ) → IsOfSlots (exchange_of (Slotted h))
of_slots (Pooled (Entered q a)) = record { event = refl; proposed = λ p n. refl; stepped = λ p n. refl }
of_slots h = record { event = refl; proposed = λ p n. refl; stepped = λ p n. refl }

slots_apart : (h : SlotCall ℕ) (g : Call StepReply) → exchange_of (Slotted h) ≡ exchange_of (Renamed g) → ⊥
slots_apart h g x = let two : false ≡ true = sym (of_slots h).event ∙ ap (λ (z : Exchange). is_of_names z.event) x ∙ of_names g in absurd (cc)

begun_call : (p : ℕ) (h : Call StepReply) → exchange_of (Renamed h) ≡ exchange (event.Begin p) reply.Ok → h ≡ Began p (Ok tt)
begun_call p (Began q (Ok done)) x = let e : event.Begin q ≡ event.Begin p = ap (λ (z : Exchange). z.event) x in let same : q ≡ p = cc in rw same refl
begun_call p (Began q (Err why)) x = absurd (let e : reply.Refused why ≡ reply.Ok = ap (λ (z : Exchange). z.reply) x in cc)
begun_call p (Stepped q a) x = absurd (let e : event.Step q ≡ event.Begin p = ap (λ (z : Exchange). z.event) x in cc)

spent_step : (said : StepReply) → shown_step said ≡ reply.Spent → said ≡ Spent
spent_step Spent x = refl
spent_step said x = absurd (cc)

spent_call : (p : ℕ) (h : Call StepReply) → exchange_of (Renamed h) ≡ exchange (event.Step p) reply.Spent → h ≡ Stepped p (Ok Spent)
spent_call p (Began q a) x = absurd (let e : event.Begin q ≡ event.Step p = ap (λ (z : Exchange). z.event) x in cc)
spent_call p (Stepped q (Ok said)) x =
    let e : event.Step q ≡ event.Step p = ap (λ (z : Exchange). z.event) x in
    let same : q ≡ p = cc in
    rw (same, spent_step said (ap (λ (z : Exchange). z.reply) x)) refl
spent_call p (Stepped q (Err why)) x = absurd (let e : reply.Refused why ≡ reply.Spent = ap (λ (z : Exchange). z.reply) x in cc)

-- what a call of renaming makes true, and no call makes false, holds after calls among whose exchanges is its
module _ (terms : RenameTerms) (Holds : RenameObject → Type 0) (stays : (o : RenameObject) (h : Call StepReply) → Holds o → Holds (after o h)) where
  pub still_holds : (o o' : RenameObject) (r : List (Call StepReply)) → Run after (Allows terms) o r o' → Holds o → Holds o'
  still_holds o o' [] run k = subst Holds (sym run) k
  still_holds o o' (h ∷ r) run k = still_holds (after o h) o' r run.1 (stays o h k)

  module _ (g : Call StepReply) (only : (h : Call StepReply) → exchange_of (Renamed h) ≡ exchange_of (Renamed g) → h ≡ g) (makes : (o : RenameObject) → Holds (after o g)) where
    holds_then : (o o' : RenameObject) (calls : List DeskCall) → Run after (Allows terms) o (rename_calls calls) o' → IsAmong (exchange_of (Renamed g)) (map exchange_of calls) → Holds o'
    holds_then o o' [] run k = absurd k
    holds_then o o' (Renamed h ∷ calls) run (inl x) = still_holds (after o h) o' (rename_calls calls) run.1 (subst (λ (z : Call StepReply). Holds (after o z)) (sym (only h x)) (makes o))
    holds_then o o' (Renamed h ∷ calls) run (inr later) = holds_then (after o h) o' calls run.1 later
    holds_then o o' (Slotted h ∷ calls) run (inl x) = absurd (slots_apart h g x)
    holds_then o o' (Slotted h ∷ calls) run (inr later) = holds_then o o' calls run later

-- who has begun has, and who is spent is
begun_stays : (p : ℕ) (o : RenameObject) (h : Call StepReply) → o.begun p ≡ true → (after o h).begun p ≡ true
begun_stays p o (Began q (Ok done)) e = elim (eqb_tells p q) [ inl k ↦ rw k.0 refl | inr k ↦ rw k.0 e ]
begun_stays p o (Stepped q (Ok Quiet)) e = e
begun_stays p o h e = e

pub spent_stays : (p : ℕ) (o : RenameObject) (h : Call StepReply) → o.spent p ≡ true → (after o h).spent p ≡ true
spent_stays p o (Began q (Ok done)) e = e
spent_stays p o (Stepped q (Ok Spent)) e = elim (eqb_tells p q) [ inl k ↦ rw k.0 refl | inr k ↦ rw k.0 e ]
spent_stays p o h e = e

same_is : (p : ℕ) → (p == p) ≡ true
same_is p = (Decides-eqb p p).1 refl

pub has_begun : (terms : RenameTerms) (o o' : RenameObject) (p : ℕ) (calls : List DeskCall) → Run after (Allows terms) o (rename_calls calls) o' → HasBegun p (map exchange_of calls) → o'.begun p ≡ true
has_begun terms o o' p calls = holds_then terms (λ x. x.begun p ≡ true) (begun_stays p) (Began p (Ok tt)) (begun_call p) (λ x. rw (same_is p) refl) o o' calls

pub has_spent : (terms : RenameTerms) (o o' : RenameObject) (p : ℕ) (calls : List DeskCall) → Run after (Allows terms) o (rename_calls calls) o' → WasSpent p (map exchange_of calls) → o'.spent p ≡ true
has_spent terms o o' p calls = holds_then terms (λ x. x.spent p ≡ true) (spent_stays p) (Stepped p (Ok Spent)) (spent_call p) (λ x. rw (same_is p) refl) o o' calls

-- one call spends who is spent after it and was not before
spent_now : (o : RenameObject) (p : ℕ) (h : Call StepReply) → (after o h).spent p ≡ true → (o.spent p ≡ true) ⊎ (h ≡ Stepped p (Ok Spent))
spent_now o p (Began q (Ok done)) e = inl e
spent_now o p (Stepped q (Ok Spent)) e = elim (eqb_tells p q) [ inl k ↦ inr (rw k.1 refl) | inr k ↦ inl (rw k.0 at e) ]
spent_now o p h e = inl e

-- so who is spent was reported so, or was spent at first
pub was_spent : (terms : RenameTerms) (o o' : RenameObject) (p : ℕ) (calls : List DeskCall) → Run after (Allows terms) o (rename_calls calls) o' → o'.spent p ≡ true → (o.spent p ≡ true) ⊎ WasSpent p (map exchange_of calls)
was_spent terms o o' p [] run e = inl (rw run at e)
was_spent terms o o' p (Slotted h ∷ calls) run e = elim (was_spent terms o o' p calls run e) [ inl first ↦ inl first | inr later ↦ inr (inr later) ]
was_spent terms o o' p (Renamed h ∷ calls) run e = elim (was_spent terms (after o h) o' p calls run.1 e) [
  | inl had ↦ elim (spent_now o p h had) [ inl first ↦ inl first | inr here ↦ inr (inl (ap (λ (k : Call StepReply). exchange_of (Renamed k)) here)) ]
  | inr later ↦ inr (inr later)
]

-- the object counts the proposals that are reported
count_is : (terms : RenameTerms) (o o' : RenameObject) (p : ℕ) (calls : List DeskCall) → Run after (Allows terms) o (rename_calls calls) o' → o'.count p ≡ o.count p + proposals_of p (map exchange_of calls)
count_is terms o o' p [] run = let e = ap (λ (x : RenameObject). x.count p) run in omega arith
count_is terms o o' p (Renamed (Began q (Ok done)) ∷ calls) run = count_is terms (after o (Began q (Ok done))) o' p calls run.1
count_is terms o o' p (Renamed (Began q (Err why)) ∷ calls) run = count_is terms o o' p calls run.1
count_is terms o o' p (Renamed (Stepped q (Ok Quiet)) ∷ calls) run = count_is terms o o' p calls run.1
count_is terms o o' p (Renamed (Stepped q (Ok (Placed place))) ∷ calls) run = count_is terms (after o (Stepped q (Ok (Placed place)))) o' p calls run.1
count_is terms o o' p (Renamed (Stepped q (Ok (Proposed m))) ∷ calls) run =
    let rest = count_is terms (after o (Stepped q (Ok (Proposed m)))) o' p calls run.1 in
    elim (eqb_tells p q) [
      | inl k ↦
          let mine : (after o (Stepped q (Ok (Proposed m)))).count p ≡ o.count p + 1 = rw (k.0, k.1) refl in
          rw k.0 (omega arith)
      | inr k ↦
          let same : (after o (Stepped q (Ok (Proposed m)))).count p ≡ o.count p = rw k.0 refl in
          rw k.0 (omega arith)
    ]
count_is terms o o' p (Renamed (Stepped q (Ok (Saw view))) ∷ calls) run = count_is terms o o' p calls run.1
count_is terms o o' p (Renamed (Stepped q (Ok (Named m view))) ∷ calls) run = count_is terms (after o (Stepped q (Ok (Named m view)))) o' p calls run.1
count_is terms o o' p (Renamed (Stepped q (Ok Spent)) ∷ calls) run = count_is terms (after o (Stepped q (Ok Spent))) o' p calls run.1
count_is terms o o' p (Renamed (Stepped q (Err why)) ∷ calls) run = count_is terms o o' p calls run.1
count_is terms o o' p (Slotted h ∷ calls) run = rw ((of_slots h).proposed p (proposals_of p (map exchange_of calls))) (count_is terms o o' p calls run)

pub accepted : (said : StepReply) → is_refusal (shown_step said) ≡ false
accepted Quiet = refl
accepted said = refl

-- who runs solo among exchanges does among the calls
calls_alone : (p : ℕ) (calls : List DeskCall) → StepsAlone p (map exchange_of calls) → CallsAlone p (rename_calls calls)
calls_alone p [] a = tt
calls_alone p (Renamed (Began q answer) ∷ calls) a = (tt, calls_alone p calls a.1)
calls_alone p (Renamed (Stepped q (Ok said)) ∷ calls) a = (a.0 (accepted said), calls_alone p calls a.1)
calls_alone p (Renamed (Stepped q (Err why)) ∷ calls) a = (tt, calls_alone p calls a.1)
calls_alone p (Slotted h ∷ calls) a = calls_alone p calls a.1

-- and makes as many steps
pub steps_are : (p : ℕ) (calls : List DeskCall) → steps_of p (map exchange_of calls) ≡ call_steps p (rename_calls calls)
steps_are p [] = refl
steps_are p (Renamed (Began q answer) ∷ calls) = let rest = steps_are p calls in omega arith
steps_are p (Renamed (Stepped q (Ok said)) ∷ calls) =
    let rest = steps_are p calls in
    let reported = accepted said in
    rw reported (elim (q == p) as (λ b. cond (b && true) (steps_of p (map exchange_of calls) + 1) (steps_of p (map exchange_of calls)) ≡ cond b 1 0 + call_steps p (rename_calls calls)) [ true ↦ omega arith | false ↦ omega arith ])
steps_are p (Renamed (Stepped q (Err why)) ∷ calls) =
    let rest = steps_are p calls in
    elim (q == p) as (λ b. cond (b && false) (steps_of p (map exchange_of calls) + 1) (steps_of p (map exchange_of calls)) ≡ 0 + call_steps p (rename_calls calls)) [ true ↦ omega arith | false ↦ omega arith ]
steps_are p (Slotted h ∷ calls) = rw ((of_slots h).stepped p (steps_of p (map exchange_of calls))) (steps_are p calls)

-- who has two proposals left among exchanges has two among the calls
two_left : (terms : RenameTerms) (o : RenameObject) (p : ℕ) (calls : List DeskCall) → IsRun terms (rename_calls calls) o → HasTwoLeft terms.limit p (map exchange_of calls) → HasTwoCalls terms o p
two_left terms o p calls run h = record {
  begun = has_begun terms new_object o p calls run h.begun;
  unnamed = elim (o.name p) as (λ z. o.name p ≡ z → z ≡ None) [
    | None ↦ λ _. refl
    | Some n ↦ λ e. absurd (elim (was_given terms new_object o p n (rename_calls calls) run e) [
      | inl first ↦ (let two : None ≡ Some n = first in cc)
      | inr given ↦ h.unnamed n (shown_by p n calls given)
    ])
  ] refl;
  unspent = elim (o.spent p) as (λ z. o.spent p ≡ z → z ≡ false) [
    | false ↦ λ _. refl
    | true ↦ λ e. absurd (elim (was_spent terms new_object o p calls run e) [
      | inl first ↦ (let two : false ≡ true = first in cc)
      | inr reported ↦ h.unspent reported
    ])
  ] refl;
  left = (let c = count_is terms new_object o p calls run in let l = h.left in omega arith);
}

pub names_soon_alone : NamesSoonAlone
names_soon_alone terms bounds start before more run p two alone =
    let k = parts_of run.calls before more run.spelled in
    let whole : rename_calls k.first ++ rename_calls k.second ≡ rename_calls run.calls = sym (rename_parts k.first k.second) ∙ ap rename_calls k.is in
    let split = run_splits after (Allows terms) new_object (rename_calls k.first) (rename_calls k.second) run.names.object (subst (λ (x : List (Call StepReply)). IsRun terms x run.names.object) (sym whole) run.names.run) in
    let front : HasTwoCalls terms split.0 p = two_left terms split.0 p k.first split.1 (subst (λ (x : List Exchange). HasTwoLeft terms.limit p x) (sym k.shows) two) in
    let steps : steps_of p more ≡ call_steps p (rename_calls k.second) = ap (steps_of p) (sym k.goes_on) ∙ steps_are p k.second in
    elim (run.names.alone (rename_calls k.first) (rename_calls k.second) split.0 run.names.object p whole split.1 run.names.run front (calls_alone p k.second (subst (λ (x : List Exchange). StepsAlone p x) (sym k.goes_on) alone))) [
      | inl named ↦ inl (elim (run.names.object.name p) as (λ z. run.names.object.name p ≡ z → is_some z ≡ true → HasName p (before ++ more)) [
        | None ↦ λ e h. absurd (cc)
        | Some n ↦ λ e h. (n, has_named terms bounds start (before ++ more) run p n e)
      ] refl named)
      | inr on ↦
          let few = on.1 in
          inr (
            λ reported. (
                let spent : run.names.object.spent p ≡ true = has_spent terms new_object run.names.object p run.calls run.names.run (subst (λ (x : List Exchange). WasSpent p x) (sym run.spelled) reported) in
                let two : true ≡ false = sym spent ∙ on.0 in
                absurd (cc)),
            omega arith,
          )
    ]
