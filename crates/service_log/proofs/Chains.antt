-- Entries that are applied in a row.
use Rattle.std.proofs.Common.{append_assoc, Bool, not, ◌≡◌, ◌≤◌, ℕ, ◌+◌, List, [], ◌∷◌, ◌++◌, length, true, false, inl, inr, refl, ap, sym, subst, ◌∙◌, arith, add-zero}
use Rattle.std.proofs.Common.{length-append, Result, Ok, Err, IfOk, IfErr, ◌≢◌}
use Rattle.service_log.specs.declared.replica.Step.{Step}
use Rattle.service_log.specs.declared.replica.Step.TheVariants.{Nothing, Answered, Passed}
use Rattle.service_log.specs.declared.serve_fault.Cause.{Cause}
use Rattle.service_log.specs.declared.serve_fault.Cause.TheVariants.{Memory, Damaged, Poisoned, Full, Busy, Store}
use Rattle.service_log.specs.declared.serve_fault.ServeFault.{ServeFault}
use Rattle.service_log.specs.declared.serve_fault.ServeFault.TheVariants.{TooLong, Unknown}
use Rattle.service_log.specs.declared.store.Append.{Append}
use Rattle.service_log.specs.declared.store.Append.TheVariants.{At}
use Rattle.service_log.specs.Appends.{HasAppended}
use Rattle.service_log.specs.Places.{Adds, AddsFrom, Keeps, Lands, Same}
use Rattle.service_log.specs.declared.store.TheConstants.{MOST_PLACES}
use Rattle.service_log.specs.Replicas.{AddsOnce, EndsBy, FaultLeaves, GoesOn, IsAnswered, IsApplied, IsDueFrom, IsReplicaFrom, Leads, OneMore, StandsFrom}
use Rattle.service_log.specs.ReplicaState.{ReplicaState}

pub same_trans : (first between last : ℕ → List ℕ → Type 0) → Same first between → Same between last → Same first last
same_trans first between last one two = record {
  keeps = λ place entry h. two.keeps place entry (one.keeps place entry h);
  only = λ place entry h. one.only place entry (two.only place entry h);
}

pub same_self : (stands : ℕ → List ℕ → Type 0) → Same stands stands
same_self stands = record { keeps = λ place entry h. h; only = λ place entry h. h }

-- one write behind calls that wrote nothing
pub adds_once : (first between last : ℕ → List ℕ → Type 0) (at : ℕ) (batch : List ℕ) → Same first between → Adds between at batch last → AddsOnce first batch last
adds_once first between last at batch same adds = record {
  at = at;
  adds = record {
    keeps = λ place entry h. adds.keeps place entry (same.keeps place entry h);
    only = λ place entry h. elim (adds.only place entry h) [ inl old ↦ inl (same.only place entry old) | inr new ↦ inr new ];
  };
}

pub adds_none : (first last : ℕ → List ℕ → Type 0) (at : ℕ) (batch : List ℕ) → Same first last → Adds first at batch last
adds_none first last at batch same = record { keeps = same.keeps; only = λ place entry h. inl (same.only place entry h) }

-- nothing was written, and so nothing at a place from one on
pub adds_from_none : (first last : ℕ → List ℕ → Type 0) (place : ℕ) (batch : List ℕ) → Same first last → AddsFrom first place batch last
adds_from_none first last place batch same = record { at = place; from = omega arith; adds = adds_none first last place batch same }

-- what was written at most once was so before calls that wrote nothing
pub adds_from_then : (first between last : ℕ → List ℕ → Type 0) (place : ℕ) (batch : List ℕ) → AddsFrom first place batch between → Same between last → AddsFrom first place batch last
adds_from_then first between last place batch adds same = record {
  at = adds.at;
  from = adds.from;
  adds = record { keeps = λ at entry h. same.keeps at entry (adds.adds.keeps at entry h); only = λ at entry h. adds.adds.only at entry (same.only at entry h) };
}

-- what came to stand at a place
pub landed : (before after : ℕ → List ℕ → Type 0) (lacked : ℕ → Type 0) (place : ℕ) (entry : List ℕ) (did : Append) (at : ℕ) → did ≡ At at → HasAppended before after lacked place entry did →
    Lands before after lacked place entry at
landed before after lacked place entry did at is so = let done = subst (λ (a : Append). HasAppended before after lacked place entry a) is so in done.0

-- and behind such calls
pub once_later : (first between last : ℕ → List ℕ → Type 0) (batch : List ℕ) → Same first between → AddsOnce between batch last → AddsOnce first batch last
once_later first between last batch same once = adds_once first between last once.at batch same once.adds

pub once_from : (first last : ℕ → List ℕ → Type 0) (place : ℕ) (batch : List ℕ) → AddsFrom first place batch last → AddsOnce first batch last
once_from first last place batch adds = record { at = adds.at; adds = adds.adds }

pub once_none : (first last : ℕ → List ℕ → Type 0) (batch : List ℕ) → Same first last → AddsOnce first batch last
once_none first last batch same = record { at = 0; adds = adds_none first last 0 batch same }

-- nothing was written, and so a batch at most once
pub none_once : (stands : ℕ → List ℕ → Type 0) (batch : List ℕ) → AddsOnce stands batch stands
none_once stands batch = record { at = 0; adds = adds_none stands stands 0 batch (same_self stands) }

-- what failed did not answer
pub not_done : (cause : Cause) → Err cause ≢ Ok Answered
not_done cause e = cc e

-- what was tried was not too long
pub not_long : (cause : Cause) → let r : Result (Unit {0}) ServeFault = Err (Unknown cause) in r ≢ Err TooLong
not_long cause e = cc e

-- a step that only read wrote nothing, nor did one that offered a batch and was not answered
pub read_unwritten : (S : Type 0) (result : Result Step Cause) → S → IfOk result (λ step. step ≢ Answered → S)
read_unwritten S (Ok step) same = λ other. same
read_unwritten S (Err cause) same = tt

pub offered_unwritten : (S : Type 0) (result : Result Step Cause) → result ≢ Ok Passed → (result ≡ Ok Nothing → S) → IfOk result (λ step. step ≢ Answered → S)
offered_unwritten S (Ok Nothing) passed same = λ other. same refl
offered_unwritten S (Ok Answered) passed same = λ other. absurd (other refl)
offered_unwritten S (Ok Passed) passed same = absurd (passed refl)
offered_unwritten S (Err cause) passed same = tt

-- what stood at places in a row stands there still
pub stands_still_from : (first last : ℕ → List ℕ → Type 0) → Keeps first last → (place : ℕ) (es : List (List ℕ)) → StandsFrom first place es → StandsFrom last place es
stands_still_from first last keeps place [] h = tt
stands_still_from first last keeps place (e ∷ es) h = (keeps place e h.0, stands_still_from first last keeps (place + 1) es h.1)

-- entries that stand behind others
pub stands_append : (stands : ℕ → List ℕ → Type 0) (place : ℕ) (es fs : List (List ℕ)) → StandsFrom stands place es → StandsFrom stands (place + length es) fs → StandsFrom stands place (es ++ fs)
stands_append stands place [] fs h g = let e : place + 0 ≡ place = add-zero place in subst (λ (k : ℕ). StandsFrom stands k fs) e g
stands_append stands place (e ∷ es) fs h g =
    let p : place + length (e ∷ es) ≡ (place + 1) + length es = omega arith in
    (h.0, stands_append stands (place + 1) es fs h.1 (subst (λ (k : ℕ). StandsFrom stands k fs) p g))

-- it is behind now just where it was not
pub turned : {M : Type 0} (old new : ReplicaState M) (behind : Bool) → old.behind ≡ behind → new ≡ record old { behind = not behind } → new ≡ record old { behind = not old.behind }
turned {M = M} old new behind was is = subst (λ (b : Bool). new ≡ record old { behind = not b }) (sym was) is

-- a replica that is well is not poisoned, in whatever way it is seen
pub well_not : {M A : Type 0} (inside seen : ReplicaState M) → inside ≡ seen → inside.poisoned ≡ false → seen.poisoned ≡ true → A
well_not {M = M} inside seen is well was = let bad : false ≡ true = sym well ∙ (ap (λ (r : ReplicaState M). r.poisoned) is ∙ was) in absurd cc

module _ {M R : Type 0} (applies : M → List ℕ → R → M → Type 0) where
  -- entries that lead on behind others
  pub leads_append : (a b c : M) (es fs : List (List ℕ)) → Leads applies a es b → Leads applies b fs c → Leads applies a (es ++ fs) c
  leads_append a b c [] fs h g = subst (λ (m : M). Leads applies m fs c) (sym h) g
  leads_append a b c (e ∷ es) fs h g = (h.0, h.1, h.2, leads_append h.1 b c es fs h.3 g)

  pub none_goes_on : (stands : ℕ → List ℕ → Type 0) (r : ReplicaState M) → r.poisoned ≡ false → GoesOn applies stands r r
  none_goes_on stands r well = record { more = []; led = refl; stood = tt; count = sym (add-zero r.place); was_well = well }

  -- nothing was applied, and it may be behind now or not
  pub same_goes_on : (stands : ℕ → List ℕ → Type 0) (old new : ReplicaState M) (behind : Bool) → new ≡ record old { behind = behind } → old.poisoned ≡ false → GoesOn applies stands old new
  same_goes_on stands old new behind is well = subst (GoesOn applies stands old) (sym is) (record { more = []; led = refl; stood = tt; count = sym (add-zero old.place); was_well = well })

  pub one_goes_on : (stands : ℕ → List ℕ → Type 0) (old : ReplicaState M) (entry : List ℕ) (said : R) (new : ReplicaState M) → IsApplied applies stands old entry said new → GoesOn applies stands old new
  one_goes_on stands old entry said new h = record {
    more = entry ∷ [];
    led = (said, new.machine, h.applied, refl);
    stood = (h.stood, tt);
    count = h.count;
    was_well = h.was_well;
  }

  pub goes_on_trans : (first last : ℕ → List ℕ → Type 0) → Keeps first last → (a b c : ReplicaState M) → GoesOn applies first a b → GoesOn applies last b c → GoesOn applies last a c
  goes_on_trans first last keeps a b c one two = record {
    more = one.more ++ two.more;
    led = leads_append a.machine b.machine c.machine one.more two.more one.led two.led;
    stood = stands_append last a.place one.more two.more (stands_still_from first last keeps a.place one.more one.stood) (subst (λ (k : ℕ). StandsFrom last k two.more) one.count two.stood);
    count = (let n = length-append one.more two.more in let p = one.count in let q = two.count in omega (arith, n, p, q));
    was_well = one.was_well;
  }

  pub answered : (first last : ℕ → List ℕ → Type 0) → Keeps first last → (a b c : ReplicaState M) (batch : List ℕ) (replies : R) → GoesOn applies first a b → IsApplied applies last b batch replies c → IsAnswered applies last a batch c replies
  answered first last keeps a b c batch replies one h = record {
    others = one.more;
    before = b.machine;
    led = one.led;
    reported = h.applied;
    stood = stands_append last a.place one.more (batch ∷ []) (stands_still_from first last keeps a.place one.more one.stood) (subst (λ (k : ℕ). StandsFrom last k (batch ∷ [])) one.count (h.stood, tt));
    count = (let p = one.count in let q = h.count in omega (arith, p, q));
    was_well = one.was_well;
    is_well = h.is_well;
  }

  pub follows : (first last : ℕ → List ℕ → Type 0) → Keeps first last → (old new : ReplicaState M) → (new.poisoned ≡ false → GoesOn applies last old new) → (from : ℕ) (start : M) → IsReplicaFrom applies first from start old → IsReplicaFrom applies last from start new
  follows first last keeps old new goes from start was = λ well.
      let on = goes well in
      let had = was on.was_well in
      record {
        entries = had.entries ++ on.more;
        led = leads_append start old.machine new.machine had.entries on.more had.led on.led;
        stood = stands_append last from had.entries on.more (stands_still_from first last keeps from had.entries had.stood) (subst (λ (k : ℕ). StandsFrom last k on.more) had.count on.stood);
        count = (let n = length-append had.entries on.more in let p = had.count in let q = on.count in omega (arith, n, p, q));
      }

  -- where a fault left it unspoiled it is as it was
  pub fault_goes_on : (stands : ℕ → List ℕ → Type 0) (old new : ReplicaState M) (cause : Cause) → FaultLeaves old cause new → new.poisoned ≡ false → GoesOn applies stands old new
  fault_goes_on stands old new (Store fault) is well = same_goes_on stands old new new.behind is (ap (λ (r : ReplicaState M). r.poisoned) (sym is) ∙ well)
  fault_goes_on stands old new Memory is well = absurd (let bad : true ≡ false = sym is ∙ well in cc)
  fault_goes_on stands old new Damaged is well = absurd (let bad : true ≡ false = sym is ∙ well in cc)
  fault_goes_on stands old new Poisoned is well = absurd (let bad : true ≡ false = sym is.0 ∙ (ap (λ (r : ReplicaState M). r.poisoned) (sym is.1) ∙ well) in cc)
  fault_goes_on stands old new Full is well = subst (GoesOn applies stands old) (sym is.1) (none_goes_on stands old (ap (λ (r : ReplicaState M). r.poisoned) (sym is.1) ∙ well))
  fault_goes_on stands old new Busy is well = absurd is

  -- behind steps after which it was well
  pub fault_ends : (old mid new : ReplicaState M) (cause : Cause) → mid.poisoned ≡ false → FaultLeaves mid cause new → EndsBy old cause new
  fault_ends old mid new (Store fault) well is = ap (λ (r : ReplicaState M). r.poisoned) is ∙ well
  fault_ends old mid new Memory well is = is
  fault_ends old mid new Damaged well is = is
  fault_ends old mid new Poisoned well is = absurd (let bad : true ≡ false = sym is.0 ∙ well in cc)
  fault_ends old mid new Full well is = (subst (λ (r : ReplicaState M). MOST_PLACES ≤ r.place) (sym is.1) is.0, ap (λ (r : ReplicaState M). r.poisoned) is.1 ∙ well)
  fault_ends old mid new Busy well is = absurd is

  -- whether it was behind says nothing of what was applied
  pub was_behind_goes_on : (stands : ℕ → List ℕ → Type 0) (inside old new : ReplicaState M) (behind : Bool) → inside ≡ old → GoesOn applies stands (record inside { behind = behind }) new → GoesOn applies stands old new
  was_behind_goes_on stands inside old new behind is on =
      subst (λ (r : ReplicaState M). GoesOn applies stands r new) is (record { more = on.more; led = on.led; stood = on.stood; count = on.count; was_well = on.was_well })

  -- behind steps after which it was well
  pub ends_later : (old mid new : ReplicaState M) (cause : Cause) → mid.poisoned ≡ false → EndsBy mid cause new → EndsBy old cause new
  ends_later old mid new (Store fault) well is = is
  ends_later old mid new Memory well is = is
  ends_later old mid new Damaged well is = is
  ends_later old mid new Poisoned well is = absurd (let bad : true ≡ false = sym is.0 ∙ well in cc)
  ends_later old mid new Full well is = is
  ends_later old mid new Busy well is = is

  -- answered behind what was applied
  pub answered_later : (first last : ℕ → List ℕ → Type 0) → Keeps first last → (a b c : ReplicaState M) (batch : List ℕ) (replies : R) → GoesOn applies first a b → IsAnswered applies last b batch c replies →
      IsAnswered applies last a batch c replies
  answered_later first last keeps a b c batch replies one so =
      let all : StandsFrom last a.place (one.more ++ (so.others ++ batch ∷ [])) =
      stands_append last a.place one.more (so.others ++ batch ∷ []) (stands_still_from first last keeps a.place one.more one.stood) (subst (λ (k : ℕ). StandsFrom last k (so.others ++ batch ∷ [])) one.count so.stood) in
      record {
        others = one.more ++ so.others;
        before = so.before;
        led = leads_append a.machine b.machine so.before one.more so.others one.led so.led;
        reported = so.reported;
        stood = subst (StandsFrom last a.place) (sym (append_assoc one.more so.others (batch ∷ []))) all;
        count = (let n = length-append one.more so.others in let p = one.count in let q = so.count in omega (arith, n, p, q));
        was_well = one.was_well;
        is_well = so.is_well;
      }

  -- what was applied at its own place was answered
  pub answered_there : (stands : ℕ → List ℕ → Type 0) (old new : ReplicaState M) (batch : List ℕ) (replies : R) → IsApplied applies stands old batch replies new → IsAnswered applies stands old batch new replies
  answered_there stands old new batch replies h = answered stands stands (λ place entry h. h) old old new batch replies (none_goes_on stands old h.was_well) h

  pub answered_goes_on : (stands : ℕ → List ℕ → Type 0) (old new : ReplicaState M) (batch : List ℕ) (replies : R) → IsAnswered applies stands old batch new replies → GoesOn applies stands old new
  answered_goes_on stands old new batch replies so = record {
    more = so.others ++ batch ∷ [];
    led = leads_append old.machine so.before new.machine so.others (batch ∷ []) so.led (replies, new.machine, so.reported, refl);
    stood = so.stood;
    count = (let n = length-append so.others (batch ∷ []) in let p = so.count in omega (arith, n, p));
    was_well = so.was_well;
  }

  pub more_goes_on : (stands : ℕ → List ℕ → Type 0) (old new : ReplicaState M) → OneMore applies stands old new → GoesOn applies stands old new
  more_goes_on stands old new h = one_goes_on stands old h.entry h.said new h.more

  -- each step goes on, but where it spoils
  pub step_goes_on : (stands : ℕ → List ℕ → Type 0) (old : ReplicaState M) (batch : List ℕ) (replies : R) (new : ReplicaState M) (result : Result Step Cause) →
      (result ≡ Ok Answered → IsApplied applies stands old batch replies new) → (result ≡ Ok Passed → OneMore applies stands old new) →
      (result ≡ Ok Nothing → (new ≡ record old { behind = not old.behind }) × (old.poisoned ≡ false)) → IfErr result (λ cause. FaultLeaves old cause new) → new.poisoned ≡ false → GoesOn applies stands old new
  step_goes_on stands old batch replies new (Ok Answered) answered passed nothing fault well = one_goes_on stands old batch replies new (answered refl)
  step_goes_on stands old batch replies new (Ok Passed) answered passed nothing fault well = more_goes_on stands old new (passed refl)
  step_goes_on stands old batch replies new (Ok Nothing) answered passed nothing fault well = same_goes_on stands old new (not old.behind) (nothing refl).0 (nothing refl).1
  step_goes_on stands old batch replies new (Err cause) answered passed nothing fault well = fault_goes_on stands old new cause fault well

  -- and is not poisoned, but by a fault
  pub step_is_well : (stands : ℕ → List ℕ → Type 0) (old : ReplicaState M) (batch : List ℕ) (replies : R) (new : ReplicaState M) (step : Step) (result : Result Step Cause) → result ≡ Ok step →
      (result ≡ Ok Answered → IsAnswered applies stands old batch new replies) → (result ≡ Ok Passed → OneMore applies stands old new) →
      (result ≡ Ok Nothing → (new ≡ record old { behind = not old.behind }) × (old.poisoned ≡ false)) → new.poisoned ≡ false
  step_is_well stands old batch replies new Answered result is answered passed nothing = (answered is).is_well
  step_is_well stands old batch replies new Passed result is answered passed nothing = (passed is).more.is_well
  step_is_well stands old batch replies new Nothing result is answered passed nothing = let h = nothing is in ap (λ (r : ReplicaState M). r.poisoned) h.0 ∙ h.1

  -- behind what went on and wrote nothing
  pub later_follows : (first between last : ℕ → List ℕ → Type 0) → Same first between → Keeps between last → (a b c : ReplicaState M) →
      GoesOn applies between a b → (c.poisoned ≡ false → GoesOn applies last b c) → (from : ℕ) (start : M) → IsReplicaFrom applies first from start a → IsReplicaFrom applies last from start c
  later_follows first between last same keeps a b c one two =
      follows first last (λ place entry h. keeps place entry (same.keeps place entry h)) a c (λ well. goes_on_trans between last keeps a b c one (two well))

  pub still : (first last : ℕ → List ℕ → Type 0) → Keeps first last → (from : ℕ) (start : M) (r : ReplicaState M) → IsReplicaFrom applies first from start r → IsReplicaFrom applies last from start r
  still first last keeps from start r h = λ well. let had = h well in
      record { entries = had.entries; led = had.led; stood = stands_still_from first last keeps from had.entries had.stood; count = had.count }

  -- what is answered behind what was applied from the start
  pub due_at : (first last : ℕ → List ℕ → Type 0) → Keeps first last → (from : ℕ) (start : M) (old new : ReplicaState M) (batch : List ℕ) (replies : R) → IsReplicaFrom applies first from start old → IsAnswered applies last old batch new replies → IsDueFrom applies last from start batch replies new
  due_at first last keeps from start old new batch replies was so =
      let had = still first last keeps from start old was so.was_well in
      let all : StandsFrom last from (had.entries ++ (so.others ++ batch ∷ [])) =
      stands_append last from had.entries (so.others ++ batch ∷ []) had.stood (subst (λ (k : ℕ). StandsFrom last k (so.others ++ batch ∷ [])) had.count so.stood) in
      record {
        before = had.entries ++ so.others;
        was = so.before;
        led = leads_append start old.machine so.before had.entries so.others had.led so.led;
        due = so.reported;
        stood = subst (StandsFrom last from) (sym (append_assoc had.entries so.others (batch ∷ []))) all;
        count = (let n = length-append had.entries so.others in let p = had.count in let q = so.count in omega (arith, n, p, q));
        is_well = so.is_well;
      }
