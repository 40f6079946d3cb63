-- whoever steps is named in time, by exchanges alone
use Rattle.std.proofs.Common.{◌≡◌, ℕ, ◌+◌, ◌*◌, ◌<◌, ◌≤◌, ◌⊎◌, inl, inr, true, false, List, [], ◌∷◌, ◌++◌, map, Some, None, Ok, Err, is_some, refl, sym, ap, subst, ◌∙◌, arith, zero-add}
use Rattle.std.proofs.lemmas.Bool.Decides.{leb_tells}
use Rattle.text_worlds.specs.lemmas.desk.Common.{Run, Call, Began, Stepped, StepReply, SnapBounds, Quiet, Placed, Proposed, Saw, Named, Spent, Entered, SlotCall, Pooled, Exchange, ShownReply, DeskCall, rename_calls, exchange, exchange_of, Renamed, Slotted, IsDeskRun}
use Rattle.model_steps.specs.Calls.{steps_of as call_steps}
use Rattle.model_steps.specs.declared.refusal.Refusal.TheVariants as refusal
use Rattle.model_steps.specs.declared.refusal.Refusal.TheVariants.{NotBegun, Finished, NoMemory}
use Rattle.model_steps.proofs.cited.RunLemmas.{run_splits}
use Rattle.model_asked.specs.rounds.Rounds.{most_proposals}
use Rattle.model_renaming.specs.Ends.{steps_among}
use Rattle.model_renaming.specs.RenameObject.{RenameTerms, RenameObject, IsRun, new_object, no_step, Allows, after, after_step}
use Rattle.model_asked.specs.declared.event.Event.TheVariants as event
use Rattle.model_asked.specs.declared.reply.Reply.TheVariants as reply
use Rattle.model_asked.specs.Replies.{is_refusal}
use Rattle.text_worlds.specs.desk.NamedAlone.{IsAmong, HasBegun, WasSpent, HasName, steps_of}
use Rattle.text_worlds.specs.desk.NamedAmong.{all_more, all_proposals, goes_on, NamesSoonAmong}
use Rattle.text_worlds.specs.desk.Names.{begun_in}
use Rattle.text_worlds.specs.desk.Replies.{shown_step}
use Rattle.text_worlds.proofs.desk_lemmas.NamedAlone.{parts_of, rename_parts, is_of_names, of_slots, still_holds, spent_stays, has_begun, has_spent, was_spent, accepted, steps_are}
use Rattle.text_worlds.specs.lemmas.desk.NamesGiven.{has_named, many_is}
use Rattle.model_pool.specs.PoolState.{PoolStart}

unproposed : (h : SlotCall ℕ) (n : ℕ) → all_more (exchange_of (Slotted h)).event (exchange_of (Slotted h)).reply n ≡ n
unproposed (Pooled (Entered q a)) n = refl
unproposed h n = refl

-- the object's last moment is made by the last of the proposals that are reported
last_is : (terms : RenameTerms) (o o' : RenameObject) (calls : List DeskCall) → Run after (Allows terms) o (rename_calls calls) o' → o'.last ≡ o.last + all_proposals (map exchange_of calls)
last_is terms o o' [] run = let e = ap (λ (x : RenameObject). x.last) run in omega arith
last_is terms o o' (Renamed (Began q (Ok done)) ∷ calls) run = last_is terms (after o (Began q (Ok done))) o' calls run.1
last_is terms o o' (Renamed (Began q (Err why)) ∷ calls) run = last_is terms o o' calls run.1
last_is terms o o' (Renamed (Stepped q (Ok Quiet)) ∷ calls) run = last_is terms o o' calls run.1
last_is terms o o' (Renamed (Stepped q (Ok (Placed place))) ∷ calls) run = last_is terms (after o (Stepped q (Ok (Placed place)))) o' calls run.1
last_is terms o o' (Renamed (Stepped q (Ok (Proposed m))) ∷ calls) run = let rest = last_is terms (after o (Stepped q (Ok (Proposed m)))) o' calls run.1 in omega arith
last_is terms o o' (Renamed (Stepped q (Ok (Saw view))) ∷ calls) run = last_is terms o o' calls run.1
last_is terms o o' (Renamed (Stepped q (Ok (Named m view))) ∷ calls) run = last_is terms (after o (Stepped q (Ok (Named m view)))) o' calls run.1
last_is terms o o' (Renamed (Stepped q (Ok Spent)) ∷ calls) run = last_is terms (after o (Stepped q (Ok Spent))) o' calls run.1
last_is terms o o' (Renamed (Stepped q (Err why)) ∷ calls) run = last_is terms o o' calls run.1
last_is terms o o' (Slotted h ∷ calls) run = rw (unproposed h (all_proposals (map exchange_of calls))) (last_is terms o o' calls run)

-- p has begun, and is neither named nor spent
record IsGoing (o : RenameObject) (p : ℕ) : Type 0 where
  begun : o.begun p ≡ true
  unnamed : o.name p ≡ None
  unspent : o.spent p ≡ false

going_by : (o : RenameObject) (p : ℕ) → no_step o p ≡ None → IsGoing o p
going_by o p none = elim (o.begun p) as (λ z. o.begun p ≡ z → IsGoing o p) [
  | false ↦ λ b. absurd (let no : Some NotBegun ≡ None = rw b at none in cc)
  | true ↦ λ b. elim (o.name p) as (λ z. o.name p ≡ z → IsGoing o p) [
    | Some n ↦ λ e. absurd (let no : Some Finished ≡ None = rw (b, e) at none in cc)
    | None ↦ λ e. elim (o.spent p) as (λ z. o.spent p ≡ z → IsGoing o p) [
      | true ↦ λ s. absurd (let no : Some refusal.Spent ≡ None = rw (b, e, s) at none in cc)
      | false ↦ λ s. record { begun = b; unnamed = e; unspent = s }
    ] refl
  ] refl
] refl

-- so after a step by which it goes on
still_going : (o : RenameObject) (p : ℕ) (said : StepReply) → goes_on (shown_step said) ≡ true → IsGoing o p → IsGoing (after_step o p said) p
still_going o p Quiet on k = k
still_going o p (Placed place) on k = record { begun = k.begun; unnamed = k.unnamed; unspent = k.unspent }
still_going o p (Proposed m) on k = record { begun = k.begun; unnamed = k.unnamed; unspent = k.unspent }
still_going o p (Saw view) on k = k
still_going o p (Named m view) on k = absurd (cc)
still_going o p Spent on k = absurd (cc)

going_call : (terms : RenameTerms) (o : RenameObject) (p : ℕ) (said : ShownReply) (h : Call StepReply) → exchange_of (Renamed h) ≡ exchange (event.Step p) said → goes_on said ≡ true → Allows terms o h → IsGoing (after o h) p
going_call terms o p said (Began q a) x on allowed = absurd (let e : event.Begin q ≡ event.Step p = ap (λ (z : Exchange). z.event) x in cc)
going_call terms o p said (Stepped q (Err why)) x on allowed = absurd (
    let e : reply.Refused why ≡ said = ap (λ (z : Exchange). z.reply) x in
    let no : false ≡ true = ap goes_on e ∙ on in
    cc)
going_call terms o p said (Stepped q (Ok reported)) x on allowed =
    let e : event.Step q ≡ event.Step p = ap (λ (z : Exchange). z.event) x in
    let same : q ≡ p = cc in
    let shown : shown_step reported ≡ said = ap (λ (z : Exchange). z.reply) x in
    subst (λ (u : ℕ). IsGoing (after_step o q reported) u) same (still_going o q reported (ap goes_on shown ∙ on) (going_by o q allowed.0))

-- so after calls that are shown as one step
going_after : (terms : RenameTerms) (o o' : RenameObject) (p : ℕ) (said : ShownReply) (calls : List DeskCall) → map exchange_of calls ≡ exchange (event.Step p) said ∷ [] → goes_on said ≡ true → Run after (Allows terms) o (rename_calls calls) o' → IsGoing o' p
going_after terms o o' p said [] x on run = absurd (cc)
going_after terms o o' p said (Slotted h ∷ calls) x on run = absurd (
    let here : exchange_of (Slotted h) ≡ exchange (event.Step p) said = cc in
    let no : false ≡ true = sym (of_slots h).event ∙ ap (λ (z : Exchange). is_of_names z.event) here in
    cc)
going_after terms o o' p said (Renamed h ∷ g ∷ calls) x on run = absurd (cc)
going_after terms o o' p said (Renamed h ∷ []) x on run =
    let here : exchange_of (Renamed h) ≡ exchange (event.Step p) said = cc in
    subst (λ (u : RenameObject). IsGoing u p) (sym run.1) (going_call terms o p said h here on run.0)

-- whose step is refused as one who is spent is spent
spent_by : (o : RenameObject) (p : ℕ) → no_step o p ≡ Some refusal.Spent → o.spent p ≡ true
spent_by o p due = elim (o.begun p) as (λ z. o.begun p ≡ z → o.spent p ≡ true) [
  | false ↦ λ b. absurd (let no : Some NotBegun ≡ Some refusal.Spent = rw b at due in cc)
  | true ↦ λ b. elim (o.name p) as (λ z. o.name p ≡ z → o.spent p ≡ true) [
    | Some n ↦ λ e. absurd (let no : Some Finished ≡ Some refusal.Spent = rw (b, e) at due in cc)
    | None ↦ λ e. elim (o.spent p) as (λ z. o.spent p ≡ z → z ≡ true) [
      | true ↦ λ s. refl
      | false ↦ λ s. absurd (let no : None ≡ Some refusal.Spent = rw (b, e, s) at due in cc)
    ] refl
  ] refl
] refl

spent_call : (terms : RenameTerms) (o : RenameObject) (p : ℕ) (h : Call StepReply) → exchange_of (Renamed h) ≡ exchange (event.Step p) (reply.Refused refusal.Spent) → Allows terms o h → (after o h).spent p ≡ true
spent_call terms o p (Began q a) x allowed = absurd (let e : event.Begin q ≡ event.Step p = ap (λ (z : Exchange). z.event) x in cc)
spent_call terms o p (Stepped q (Ok reported)) x allowed = absurd (
    let no : false ≡ true = sym (accepted reported) ∙ ap (λ (z : Exchange). is_refusal z.reply) x in
    cc)
spent_call terms o p (Stepped q (Err why)) x allowed =
    let e : event.Step q ≡ event.Step p = ap (λ (z : Exchange). z.event) x in
    let same : q ≡ p = cc in
    let f : reply.Refused why ≡ reply.Refused refusal.Spent = ap (λ (z : Exchange). z.reply) x in
    let why_is : why ≡ refusal.Spent = cc in
    elim allowed [
      | inl due ↦ subst (λ (u : ℕ). o.spent u ≡ true) same (spent_by o q (due ∙ ap (λ u. Some u) why_is))
      | inr lacks ↦ absurd (let no : NoMemory ≡ refusal.Spent = sym lacks.is ∙ why_is in cc)
    ]

refused_spent : (terms : RenameTerms) (o o' : RenameObject) (p : ℕ) (calls : List DeskCall) → Run after (Allows terms) o (rename_calls calls) o' → IsAmong (exchange (event.Step p) (reply.Refused refusal.Spent)) (map exchange_of calls) → o'.spent p ≡ true
refused_spent terms o o' p [] run k = absurd k
refused_spent terms o o' p (Renamed h ∷ calls) run (inl x) = still_holds terms (λ u. u.spent p ≡ true) (spent_stays p) (after o h) o' (rename_calls calls) run.1 (spent_call terms o p h x run.0)
refused_spent terms o o' p (Renamed h ∷ calls) run (inr later) = refused_spent terms (after o h) o' p calls run.1 later
refused_spent terms o o' p (Slotted h ∷ calls) run (inl x) = absurd (
    let no : false ≡ true = sym (of_slots h).event ∙ ap (λ (z : Exchange). is_of_names z.event) x in
    cc)
refused_spent terms o o' p (Slotted h ∷ calls) run (inr later) = refused_spent terms o o' p calls run later

module _ (terms : RenameTerms) (bounds : SnapBounds) (start : PoolStart) (r : List Exchange) (run : IsDeskRun terms bounds start r) where
  abbrev o : RenameObject
  o = run.names.object

  named_in : (p : ℕ) → is_some (o.name p) ≡ true → HasName p r
  named_in p h = (elim (o.name p) as (λ z. o.name p ≡ z → is_some z ≡ true → HasName p r) [
    | None ↦ λ e k. absurd (cc)
    | Some n ↦ λ e k. (n, has_named terms bounds start r run p n e)
  ]) refl h

  spent_in : (p : ℕ) → o.spent p ≡ true → WasSpent p r
  spent_in p h = elim (was_spent terms new_object o p run.calls run.names.run h) [
    | inl first ↦ absurd (let two : false ≡ true = first in cc)
    | inr reported ↦ subst (λ (x : List Exchange). WasSpent p x) run.spelled reported
  ]

  in_spent : (p : ℕ) → WasSpent p r → o.spent p ≡ true
  in_spent p reported = has_spent terms new_object o p run.calls run.names.run (subst (λ (x : List Exchange). WasSpent p x) (sym run.spelled) reported)

  many : o.many ≡ begun_in r
  many = many_is terms bounds start r run

  all_are : o.last ≡ all_proposals r
  all_are = last_is terms new_object o run.calls run.names.run ∙ zero-add (all_proposals (map exchange_of run.calls)) ∙ ap all_proposals run.spelled

  made : (p : ℕ) → steps_of p r ≡ call_steps p (rename_calls run.calls)
  made p = ap (steps_of p) (sym run.spelled) ∙ steps_are p run.calls

  has : (p : ℕ) → HasBegun p r → o.begun p ≡ true
  has p begun = has_begun terms new_object o p run.calls run.names.run (subst (λ (x : List Exchange). HasBegun p x) (sym run.spelled) begun)

  module _ (b : ℕ) (as_few : begun_in r ≤ b) where
    few_begun : o.many ≤ b
    few_begun = subst (λ (n : ℕ). n ≤ b) (sym many) as_few

    few : all_proposals r ≤ most_proposals b
    few = let a = run.names.ends.together b few_begun in let c = all_are in omega arith

    steps_are_made : (p : ℕ) → steps_among bounds b ≤ steps_of p r → steps_among bounds b ≤ call_steps p (rename_calls run.calls)
    steps_are_made p enough = subst (λ (n : ℕ). steps_among bounds b ≤ n) (made p) enough

    ended : (p : ℕ) → HasBegun p r → steps_among bounds b ≤ steps_of p r → HasName p r ⊎ WasSpent p r
    ended p begun enough = elim (run.names.ends.ended b p few_begun (has p begun) (steps_are_made p enough)) [ inl k ↦ inl (named_in p k) | inr k ↦ inr (spent_in p k) ]

    never_spent : (p : ℕ) → most_proposals b < terms.limit → o.spent p ≡ true → ⊥
    never_spent p l spent = (let two : true ≡ false = sym spent ∙ run.names.ends.unspent b p few_begun l in cc)

    surely_unspent : (p : ℕ) → most_proposals b + 2 < 2 * terms.limit → o.spent p ≡ true → ⊥
    surely_unspent p l spent = (let two : true ≡ false = sym spent ∙ run.names.ends.sure b p few_begun l in cc)

    early : (p : ℕ) (before : List Exchange) (said : ShownReply) → before ++ exchange (event.Step p) said ∷ [] ≡ r → goes_on said ≡ true → steps_of p r < steps_among bounds b
    early p before said is on =
        let k = parts_of run.calls before (exchange (event.Step p) said ∷ []) (run.spelled ∙ sym is) in
        let whole : rename_calls k.first ++ rename_calls k.second ≡ rename_calls run.calls = sym (rename_parts k.first k.second) ∙ ap rename_calls k.is in
        let split = run_splits after (Allows terms) new_object (rename_calls k.first) (rename_calls k.second) o (subst (λ (x : List (Call StepReply)). IsRun terms x o) (sym whole) run.names.run) in
        let going : IsGoing o p = going_after terms split.0 o p said k.second k.goes_on on split.2 in
        elim (leb_tells (steps_among bounds b) (steps_of p r)) [
          | inr l ↦ let under = l.1 in omega arith
          | inl l ↦ absurd (elim (run.names.ends.ended b p few_begun going.begun (steps_are_made p l.1)) [
            | inl named ↦ (let no : false ≡ true = sym (ap is_some going.unnamed) ∙ named in cc)
            | inr spent ↦ (let no : false ≡ true = sym going.unspent ∙ spent in cc)
          ])
        ]

pub names_soon_among : NamesSoonAmong
names_soon_among terms bounds start r run = record {
  roomy = let a = run.names.ends.roomy in let e = many terms bounds start r run in omega arith;
  few = few terms bounds start r run;
  ended = λ b p l. ended terms bounds start r run b l p;
  early = λ b p before said l. early terms bounds start r run b l p before said;
  unspent = λ b p l under reported. never_spent terms bounds start r run b l p under (in_spent terms bounds start r run p reported);
  unrefused = λ b p l under reported. never_spent terms bounds start r run b l p under (refused_spent terms new_object run.names.object p run.calls run.names.run (subst (λ (x : List Exchange). IsAmong (exchange (event.Step p) (reply.Refused refusal.Spent)) x) (sym run.spelled) reported));
  sure = λ b p l under reported. surely_unspent terms bounds start r run b l p under (in_spent terms bounds start r run p reported);
  sure_unrefused = λ b p l under reported. surely_unspent terms bounds start r run b l p under (refused_spent terms new_object run.names.object p run.calls run.names.run (subst (λ (x : List Exchange). IsAmong (exchange (event.Step p) (reply.Refused refusal.Spent)) x) (sym run.spelled) reported));
}
