-- who was named is who has the name
use Rattle.std.proofs.Common.{◌≡◌, ℕ, ◌+◌, ◌-◌, ◌*◌, ◌≤◌, ◌⊎◌, true, ◌==◌, inl, inr, List, [], ◌∷◌, map, Option, Some, None, Ok, Err, refl, sym, ap, subst, ◌∙◌, add-zero, zero-add, arith}
use Rattle.text_worlds.specs.lemmas.desk.Common.{eqb_tells, Decides-eqb, Run, Call, Began, Stepped, SnapBounds, StepReply, Quiet, Placed, Proposed, Saw, Named, Spent, Pooled, Stored, Fetched, Extended, Event, Exchange, ShownReply, DeskCall, rename_calls, exchange, exchange_of, Renamed, Slotted, IsDeskRun}
use Rattle.std.proofs.lemmas.Bool.{cases_Bool}
use Rattle.model_steps.specs.declared.refusal.Refusal.TheVariants.{NotBegun, Finished}
use Rattle.model_renaming.specs.RenameObject.{RenameTerms, RenameObject, new_object, no_step, Allows, after, after_step, IsOwner}
use Rattle.model_pool.specs.Calls.Call.{Entered, Probed, Sought, Left, Widened}
use Rattle.model_asked.specs.declared.event.Event.TheVariants as event
use Rattle.model_asked.specs.declared.reply.Reply.TheVariants as reply
use Rattle.text_worlds.specs.desk.Names.{IsNaming, WasNamed, IsOwnerIn, begun_in}
use Rattle.model_pool.specs.PoolState.{PoolStart}

-- this call names p so
pub record IsNamingCall (p n : ℕ) (h : Call StepReply) : Type 0 where
  pub view : List (ℕ × ℕ)
  pub is : h ≡ Stepped p (Ok (Named n view))

-- among these calls one names p so
abbrev pub GaveName : ℕ → ℕ → List (Call StepReply) → Type 0
GaveName p n [] = ⊥
GaveName p n (h ∷ r) = IsNamingCall p n h ⊎ GaveName p n r

-- who has a name takes no accepted step
named_refused : (o : RenameObject) (p n : ℕ) → o.name p ≡ Some n → no_step o p ≡ None → ⊥
named_refused o p n named none = elim (cases_Bool (o.begun p)) [
  | inl t ↦ (let k : Some Finished ≡ None = rw (t, named) at none in cc)
  | inr f ↦ (let k : Some NotBegun ≡ None = rw f at none in cc)
]

-- so its name stays over a call
name_stays : (terms : RenameTerms) (o : RenameObject) (p n : ℕ) (h : Call StepReply) → Allows terms o h → o.name p ≡ Some n → (after o h).name p ≡ Some n
name_stays terms o p n (Began q (Ok done)) a named = named
name_stays terms o p n (Began q (Err why)) a named = named
name_stays terms o p n (Stepped q (Ok Quiet)) a named = named
name_stays terms o p n (Stepped q (Ok (Placed place))) a named = named
name_stays terms o p n (Stepped q (Ok (Proposed m))) a named = named
name_stays terms o p n (Stepped q (Ok (Saw view))) a named = named
name_stays terms o p n (Stepped q (Ok (Named m view))) a named = elim (eqb_tells p q) [
  | inl e ↦ absurd (named_refused o p n named (subst (λ (x : ℕ). no_step o x ≡ None) (sym e.1) a.0))
  | inr e ↦ rw e.0 named
]
name_stays terms o p n (Stepped q (Ok Spent)) a named = named
name_stays terms o p n (Stepped q (Err why)) a named = named

-- and over any calls
names_stay : (terms : RenameTerms) (o o' : RenameObject) (p n : ℕ) (r : List (Call StepReply)) → Run after (Allows terms) o r o' → o.name p ≡ Some n → o'.name p ≡ Some n
names_stay terms o o' p n [] run named = rw run named
names_stay terms o o' p n (h ∷ r) run named = names_stay terms (after o h) o' p n r run.1 (name_stays terms o p n h run.0 named)

-- who was named has the name
has_name : (terms : RenameTerms) (o o' : RenameObject) (p n : ℕ) (r : List (Call StepReply)) → Run after (Allows terms) o r o' → GaveName p n r → o'.name p ≡ Some n
has_name terms o o' p n [] run given = absurd given
has_name terms o o' p n (h ∷ r) run (inl names) =
    let own : (p == p) ≡ true = (Decides-eqb p p).1 refl in
    names_stay terms (after o h) o' p n r run.1 (subst (λ (x : Call StepReply). (after o x).name p ≡ Some n) (sym names.is) (rw own refl))
has_name terms o o' p n (h ∷ r) run (inr later) = has_name terms (after o h) o' p n r run.1 later

-- one call names who has a name after it and had none before
name_given : (o : RenameObject) (p n : ℕ) (h : Call StepReply) → (after o h).name p ≡ Some n → (o.name p ≡ Some n) ⊎ IsNamingCall p n h
name_given o p n (Began q (Ok done)) named = inl named
name_given o p n (Began q (Err why)) named = inl named
name_given o p n (Stepped q (Ok Quiet)) named = inl named
name_given o p n (Stepped q (Ok (Placed place))) named = inl named
name_given o p n (Stepped q (Ok (Proposed m))) named = inl named
name_given o p n (Stepped q (Ok (Saw view))) named = inl named
name_given o p n (Stepped q (Ok (Named m view))) named = elim (eqb_tells p q) [
  | inl e ↦
      let same : Some m ≡ Some n = rw e.0 at named in
      let number : m ≡ n = cc in
      inr (record { view = view; is = rw (number, e.1) refl })
  | inr e ↦ inl (rw e.0 at named)
]
name_given o p n (Stepped q (Ok Spent)) named = inl named
name_given o p n (Stepped q (Err why)) named = inl named

-- so who has a name was named, or had it at first
pub was_given : (terms : RenameTerms) (o o' : RenameObject) (p n : ℕ) (r : List (Call StepReply)) → Run after (Allows terms) o r o' → o'.name p ≡ Some n → (o.name p ≡ Some n) ⊎ GaveName p n r
was_given terms o o' p n [] run named = inl (rw run at named)
was_given terms o o' p n (h ∷ r) run named = elim (was_given terms (after o h) o' p n r run.1 named) [
  | inl had ↦ elim (name_given o p n h had) [ inl before ↦ inl before | inr here ↦ inr (inl here) ]
  | inr later ↦ inr (inr later)
]

-- the step of p and its reply, by the exchange
stepped_by : (p n q : ℕ) (said : ShownReply) (x : IsNaming p n (exchange (event.Step q) said)) → (q ≡ p) × (said ≡ reply.Named n x.view)
stepped_by p n q said x =
    let e : event.Step q ≡ event.Step p = ap (λ (x : Exchange). x.event) x.is in
    (cc, ap (λ (x : Exchange). x.reply) x.is)

other_event : (p n : ℕ) (e : Event) (said : ShownReply) → (e ≡ event.Step p → ⊥) → IsNaming p n (exchange e said) → ⊥
other_event p n e said differs x = differs (ap (λ (x : Exchange). x.event) x.is)

-- a call that is shown as a naming is one
naming_step : (p n q : ℕ) (said : StepReply) → IsNaming p n (exchange_of (Renamed (Stepped q (Ok said)))) → IsNamingCall p n (Stepped q (Ok said))
naming_step p n q Quiet x = absurd (let e = (stepped_by p n q reply.Quiet x).1 in cc)
naming_step p n q (Placed place) x = absurd (let e = (stepped_by p n q (reply.Place place) x).1 in cc)
naming_step p n q (Proposed m) x = absurd (let e = (stepped_by p n q (reply.Proposed m) x).1 in cc)
naming_step p n q (Saw view) x = absurd (let e = (stepped_by p n q (reply.Saw view) x).1 in cc)
naming_step p n q (Named m view) x =
    let both = stepped_by p n q (reply.Named m view) x in
    let same : reply.Named m view ≡ reply.Named n x.view = both.1 in
    let number : m ≡ n = cc in
    record { view = view; is = rw (both.0, number) refl }
naming_step p n q Spent x = absurd (let e = (stepped_by p n q reply.Spent x).1 in cc)

-- among calls, where it is among their exchanges
given_by : (p n : ℕ) (calls : List DeskCall) → WasNamed p n (map exchange_of calls) → GaveName p n (rename_calls calls)
given_by p n [] w = absurd w
given_by p n (Renamed (Began q (Ok done)) ∷ calls) (inl x) = absurd (other_event p n (event.Begin q) reply.Ok (λ e. cc) x)
given_by p n (Renamed (Began q (Err why)) ∷ calls) (inl x) = absurd (other_event p n (event.Begin q) (reply.Refused why) (λ e. cc) x)
given_by p n (Renamed (Stepped q (Ok said)) ∷ calls) (inl x) = inl (naming_step p n q said x)
given_by p n (Renamed (Stepped q (Err why)) ∷ calls) (inl x) = absurd (let e = (stepped_by p n q (reply.Refused why) x).1 in cc)
given_by p n (Slotted (Pooled (Entered q a)) ∷ calls) (inl x) = absurd (other_event p n (event.Enter q) _ (λ e. cc) x)
given_by p n (Slotted (Pooled (Probed q a)) ∷ calls) (inl x) = absurd (other_event p n (event.Probe q) _ (λ e. cc) x)
given_by p n (Slotted (Pooled (Sought q a)) ∷ calls) (inl x) = absurd (other_event p n (event.Seek q) _ (λ e. cc) x)
given_by p n (Slotted (Pooled (Left q a)) ∷ calls) (inl x) = absurd (other_event p n (event.Leave q) _ (λ e. cc) x)
given_by p n (Slotted (Stored q v a) ∷ calls) (inl x) = absurd (other_event p n (event.Put q v) _ (λ e. cc) x)
given_by p n (Slotted (Fetched q a) ∷ calls) (inl x) = absurd (other_event p n (event.Get q) _ (λ e. cc) x)
given_by p n (Slotted (Pooled (Widened more a)) ∷ calls) (inl x) = absurd (other_event p n (event.Widen more) _ (λ e. cc) x)
given_by p n (Slotted (Extended more v a) ∷ calls) (inl x) = absurd (other_event p n (event.Widen more) _ (λ e. cc) x)
given_by p n (Renamed h ∷ calls) (inr later) = inr (given_by p n calls later)
given_by p n (Slotted h ∷ calls) (inr later) = given_by p n calls later

-- and the other way round
pub shown_by : (p n : ℕ) (calls : List DeskCall) → GaveName p n (rename_calls calls) → WasNamed p n (map exchange_of calls)
shown_by p n [] g = absurd g
shown_by p n (Renamed h ∷ calls) (inl x) = inl (record { view = x.view; is = ap (λ (k : Call StepReply). exchange_of (Renamed k)) x.is })
shown_by p n (Renamed h ∷ calls) (inr later) = inr (shown_by p n calls later)
shown_by p n (Slotted h ∷ calls) g = inr (shown_by p n calls g)

-- how many of these calls begin somebody
abbrev begun_calls : List (Call StepReply) → ℕ
begun_calls [] = 0
begun_calls (Began p (Ok done) ∷ r) = begun_calls r + 1
begun_calls (Began p (Err why) ∷ r) = begun_calls r
begun_calls (Stepped p a ∷ r) = begun_calls r

step_many : (o : RenameObject) (p : ℕ) (said : StepReply) → (after_step o p said).many ≡ o.many
step_many o p Quiet = refl
step_many o p said = refl

many_after : (terms : RenameTerms) (o o' : RenameObject) (r : List (Call StepReply)) → Run after (Allows terms) o r o' → o'.many ≡ o.many + begun_calls r
many_after terms o o' [] run = ap (λ (x : RenameObject). x.many) run ∙ sym (add-zero o.many)
many_after terms o o' (Began p (Ok done) ∷ r) run = let rest = many_after terms (after o (Began p (Ok done))) o' r run.1 in omega arith
many_after terms o o' (Began p (Err why) ∷ r) run = many_after terms o o' r run.1
many_after terms o o' (Stepped p (Ok said) ∷ r) run = many_after terms (after_step o p said) o' r run.1 ∙ ap (λ k. k + begun_calls r) (step_many o p said)
many_after terms o o' (Stepped p (Err why) ∷ r) run = many_after terms o o' r run.1

begun_shown : (calls : List DeskCall) → begun_in (map exchange_of calls) ≡ begun_calls (rename_calls calls)
begun_shown [] = refl
begun_shown (Renamed (Began q (Ok done)) ∷ calls) = ap (λ k. k + 1) (begun_shown calls)
begun_shown (Renamed (Began q (Err why)) ∷ calls) = begun_shown calls
begun_shown (Renamed (Stepped q (Ok said)) ∷ calls) = begun_shown calls
begun_shown (Renamed (Stepped q (Err why)) ∷ calls) = begun_shown calls
begun_shown (Slotted (Pooled (Entered q a)) ∷ calls) = begun_shown calls
begun_shown (Slotted (Pooled (Probed q a)) ∷ calls) = begun_shown calls
begun_shown (Slotted (Pooled (Sought q a)) ∷ calls) = begun_shown calls
begun_shown (Slotted (Pooled (Left q a)) ∷ calls) = begun_shown calls
begun_shown (Slotted (Stored q v a) ∷ calls) = begun_shown calls
begun_shown (Slotted (Fetched q a) ∷ calls) = begun_shown calls
begun_shown (Slotted (Pooled (Widened more a)) ∷ calls) = begun_shown calls
begun_shown (Slotted (Extended more v a) ∷ calls) = begun_shown calls

module _ (terms : RenameTerms) (bounds : SnapBounds) (start : PoolStart) (r : List Exchange) (run : IsDeskRun terms bounds start r) where
  -- who was named has the name
  pub named_has : (p n : ℕ) → WasNamed p n r → run.names.object.name p ≡ Some n
  named_has p n w =
      has_name terms new_object run.names.object p n (rename_calls run.calls) run.names.run
      (given_by p n run.calls (subst (λ (xs : List Exchange). WasNamed p n xs) (sym run.spelled) w))

  -- and who has it was named
  pub has_named : (p n : ℕ) → run.names.object.name p ≡ Some n → WasNamed p n r
  has_named p n has = elim (was_given terms new_object run.names.object p n (rename_calls run.calls) run.names.run has) [
    | inl at_first ↦ absurd (cc)
    | inr given ↦ subst (λ (xs : List Exchange). WasNamed p n xs) run.spelled (shown_by p n run.calls given)
  ]

  -- nobody has two names
  pub one_each : (p n m : ℕ) → WasNamed p n r → WasNamed p m r → n ≡ m
  one_each p n m one other = let e : Some n ≡ Some m = sym (named_has p n one) ∙ named_has p m other in cc

  -- nor have two one name
  pub never_two : (p q n : ℕ) → WasNamed p n r → WasNamed q n r → p ≡ q
  never_two p q n one other = run.names.one_to_one p q n (named_has p n one) (named_has q n other)

  -- as many have begun in the object
  pub many_is : run.names.object.many ≡ begun_in r
  many_is =
      many_after terms new_object run.names.object (rename_calls run.calls) run.names.run
      ∙ zero-add (begun_calls (rename_calls run.calls)) ∙ sym (begun_shown run.calls) ∙ ap begun_in run.spelled

  -- and each name is from 1 to 2b - 1, where b have begun
  pub small_names : (p n : ℕ) → WasNamed p n r → (1 ≤ n) × (n ≤ 2 * begun_in r - 1)
  small_names p n one = let range = run.names.in_range p n (named_has p n one) in rw (← many_is) range

  -- who owns a name was given it
  pub owner_is : (n : ℕ) (owner : Option ℕ) → IsOwner run.names.object n owner → IsOwnerIn r n owner
  owner_is n None nobody = λ p w. nobody p (named_has p n w)
  owner_is n (Some p) has = has_named p n has
