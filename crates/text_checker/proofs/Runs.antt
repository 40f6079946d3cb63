-- lines that follow one another
use Rattle.std.proofs.Common.{◌≡◌, ℕ, suc, ◌+◌, ◌<◌, ◌≤◌, ◌^◌, List, [], ◌∷◌, ◌++◌, length, map, take, Err, refl, sym, ap, ◌∙◌, subst, arith, length-append, get_or, drop, drop-cons}
use Rattle.text_checker.proofs.Common.{Run, run_more, run_one, run_splits, RenameTerms, PoolStart, Event, Exchange, DeskCall, exchange_of, Checker, Line, Reason, DeskObject, fresh_desk_object, AllowsCall, after_call}
use Rattle.std.proofs.lemmas.List.{take-append-drop}
use Rattle.std.proofs.lemmas.Option.{slice_get_read}
use Rattle.std.specs.Result.{IfOk}
use Rattle.model_asked.specs.declared.event.Event.TheVariants.{Begin, Step, Enter, Probe, Seek, Leave, Put, Widen}
use Rattle.text_checker.specs.declared.fault.Fault.{Fault}
use Rattle.text_checker.specs.declared.fault.Fault.TheVariants.{Unlawful, NoMemory}
use Rattle.text_checker.specs.Fault.{reported_by}
use Rattle.text_records.specs.declared.reported.Reported.{Reported}
use Rattle.text_records.specs.declared.reported.Reported.TheVariants.{Ok as Accepted, Proposed, Missed, Got, Left}
use Rattle.text_checker.specs.Reasons.{KeepsAll, IsLeastReason}
use Rattle.text_records.specs.Lines.{IsLineOf, AreLinesOf}
use Rattle.text_checker.specs.Lines.{AreLinesOfRun, CanFollow, after_reported, after_line, Follow}
use Rattle.text_checker.specs.Judged.{HoldsDesk, IsTaken, IsJudged, HasTaken, IsFaultAfter, TakesOn, IsFirstFault}
use Rattle.text_checker.proofs.Following.{can_follow, follows_keeps, same_after}

-- a line makes at most one moment
last_after : (o : DeskObject) (e : Event) (t : Reported) → (after_reported o e t).names.last ≤ o.names.last + 1
last_after o (Begin p) Accepted = omega arith
last_after o (Step p) (Proposed n) = omega arith
last_after o (Enter p) Accepted = omega arith
last_after o (Probe p) Missed = omega arith
last_after o (Seek p) (Got n) = omega arith
last_after o (Leave p) (Left n) = omega arith
last_after o (Put p v) Accepted = omega arith
last_after o (Widen more) Accepted = omega arith
last_after o e t = omega arith

pub taken_on : (terms : RenameTerms) (start : PoolStart) (lines : List Line) (l : Line) (old new : Checker) → HasTaken terms start lines old → length lines < 2 ^ 62 →
    ((o : DeskObject) → HoldsDesk terms old o → o.names.last < 2 ^ 62 → IsTaken terms o l new) → HasTaken terms start (lines ++ l ∷ []) new
taken_on terms start lines l old new h few j =
    let last = h.few in
    let t : IsTaken terms h.object l new = j h.object h.held (omega arith) in
    let more = last_after h.object l.event l.reported in
    let count = length-append lines (l ∷ []) in
    record {
      object = after_line h.object l;
      run = run_more after_line (CanFollow terms) (fresh_desk_object start) lines h.object l h.run (can_follow terms h.object l.event l.reported t.keeps);
      held = t.after;
      few = omega arith;
    }

pub fault_on : (terms : RenameTerms) (start : PoolStart) (lines : List Line) (l : Line) (old : Checker) (why : Reason) → HasTaken terms start lines old → length lines < 2 ^ 62 →
    ((o : DeskObject) → HoldsDesk terms old o → o.names.last < 2 ^ 62 → IsLeastReason terms o l.event l.reported why) → IsFaultAfter terms start lines l why
fault_on terms start lines l old why h few j = let last = h.few in record { object = h.object; run = h.run; least = j h.object h.held (omega arith) }

-- a call leaves what any line of it does
pub after_is : (terms : RenameTerms) (o : DeskObject) (c : DeskCall) (l : Line) → IsLineOf (exchange_of c) l → AllowsCall terms o c → after_call o c ≡ after_line o l
after_is terms o c l w a = same_after terms o c w.shows a ∙ ap (after_line o) w.spelled

-- exchanges that the objects can make follow one another as lines
follow_calls : (terms : RenameTerms) (o end : DeskObject) (calls : List DeskCall) (lines : List Line) → AreLinesOf (map exchange_of calls) lines → Run after_call (AllowsCall terms) o calls end →
    Run after_line (CanFollow terms) o lines end
follow_calls terms o end [] [] w r = r
follow_calls terms o end [] (l ∷ lines) w r = absurd w
follow_calls terms o end (c ∷ calls) [] w r = absurd w
follow_calls terms o end (c ∷ calls) (l ∷ lines) w r = (
  record { call = c; spelled = w.0; allowed = r.0 },
  subst (λ (x : DeskObject). Run after_line (CanFollow terms) x lines end) (after_is terms o c l w.0 r.0) (follow_calls terms (after_call o c) end calls lines w.1 r.1),
)

pub run_follows : (terms : RenameTerms) (start : PoolStart) (lines : List Line) → AreLinesOfRun terms start lines → (o : DeskObject) × Follow terms start lines o
run_follows terms start lines r =
    let e : AreLinesOf (map exchange_of r.run.calls) lines = subst (λ (x : List Exchange). AreLinesOf x lines) (sym r.run.spelled) r.spelled in
    (r.run.object, follow_calls terms (fresh_desk_object start) r.run.object r.run.calls lines e r.run.run)

-- calls whose lines these are
record AreCallsFor (terms : RenameTerms) (o end : DeskObject) (lines : List Line) : Type 0 where
  calls : List DeskCall
  spelled : AreLinesOf (map exchange_of calls) lines
  run : Run after_call (AllowsCall terms) o calls end

calls_for : (terms : RenameTerms) (o end : DeskObject) (lines : List Line) → Run after_line (CanFollow terms) o lines end → AreCallsFor terms o end lines
calls_for terms o end [] r = record { calls = []; spelled = tt; run = r }
calls_for terms o end (l ∷ lines) r =
    let f = r.0 in
    let next : after_line o l ≡ after_call o f.call = sym (after_is terms o f.call l f.spelled f.allowed) in
    let k = calls_for terms (after_call o f.call) end lines (subst (λ (x : DeskObject). Run after_line (CanFollow terms) x lines end) next r.1) in
    record { calls = f.call ∷ k.calls; spelled = (f.spelled, k.spelled); run = (f.allowed, k.run) }

pub follows_run : (terms : RenameTerms) (start : PoolStart) (lines : List Line) (o : DeskObject) → Follow terms start lines o → AreLinesOfRun terms start lines
follows_run terms start lines o f =
    let k = calls_for terms (fresh_desk_object start) o lines f in
    record { exchanges = map exchange_of k.calls; spelled = k.spelled; run = record { calls = k.calls; spelled = refl; object = o; run = k.run } }

-- after lines that follow one another, a line at fault can't follow
pub at_fault : (terms : RenameTerms) (start : PoolStart) (before : List Line) (l : Line) (more : List Line) (why : Reason) → IsFaultAfter terms start before l why → AreLinesOfRun terms start (before ++ l ∷ more) → ⊥
at_fault terms start before l more why f r =
    let k = run_follows terms start (before ++ l ∷ more) r in
    let s = run_splits after_line (CanFollow terms) (fresh_desk_object start) before (l ∷ more) k.0 k.1 in
    let same : s.0 ≡ f.object = run_one after_line (CanFollow terms) (fresh_desk_object start) before s.0 f.object s.1 f.run in
    f.least.fits (subst (λ (x : DeskObject). KeepsAll terms x l.event l.reported) same (follows_keeps terms s.0 l s.2.0) why)

-- what a fault tells of a line
pub reported_fault : (l : Line) (old new : Checker) (f : Fault) → ((terms : RenameTerms) (o : DeskObject) → HoldsDesk terms old o → o.names.last < 2 ^ 62 → IsJudged terms o l (Err f) new) →
    IfOk (reported_by f) (λ r. (terms : RenameTerms) (start : PoolStart) (lines : List Line) → HasTaken terms start lines old → length lines < 2 ^ 62 → TakesOn terms start lines l r new)
reported_fault l old new (Unlawful why) j = λ terms start lines h few. fault_on terms start lines l old why h few (λ o. j terms o)
reported_fault l old new NoMemory j = tt

-- the line at fault is the first
pub first_at : (terms : RenameTerms) (start : PoolStart) (lines : List Line) (i : ℕ) (l : Line) (why : Reason) → i < length lines → l ≡ get_or lines i l → IsFaultAfter terms start (take i lines) l why → IsFirstFault terms start lines i why
first_at terms start lines i l why inside is f = record { line = l; at = slice_get_read lines (length lines) i l refl inside is; fault = f }

pub not_run : (terms : RenameTerms) (start : PoolStart) (lines : List Line) (i : ℕ) (l : Line) (why : Reason) → i < length lines → l ≡ get_or lines i l → IsFaultAfter terms start (take i lines) l why → AreLinesOfRun terms start lines → ⊥
not_run terms start lines i l why inside is f r =
    at_fault terms start (take i lines) l (drop (suc i) lines) why f (subst (AreLinesOfRun terms start) (sym (take-append-drop i lines) ∙ ap (λ xs. take i lines ++ xs) (drop-cons lines i l inside ∙ ap (λ x. x ∷ drop (suc i) lines) (sym is))) r)
