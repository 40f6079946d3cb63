-- what the rule says of visits that ended under it
use Rattle.std.proofs.Common.{◌≡◌, ◌≢◌, ℕ, ◌<◌, ◌≤◌, ne_eqb, inl, inr, ⊎_elim, true, false, sym, refl, ap, ◌∙◌, subst, arith, List, [], ◌∷◌}
use Rattle.words_machine.proofs.parts_lemmas.Common.{TableId, Me, Stop, Right, Down, VisitStage, WroteX, WroteY, Gone, SplitterView, own_word, visit_at, view_of, lone_view, IsShown, Meets}
use mathlib.Core.Logic.{dite}
use native.Mathlib.Decide.{ℕ_discrete}
use Rattle.model_splitter.specs.declared.way.Way.{Way}
use Rattle.model_splitter.specs.Law.{AtMostOneStopped, NotAllTook, IsSplit}
use Rattle.model_splitter.specs.Invariant.{IsSplitter}
use Rattle.model_splitter.specs.Stage.{has_entered, has_set}
use Rattle.model_splitter.proofs.cited.DoorKept.{law_of}
use Rattle.words_machine.specs.parts.SplitterSteps.{IsUnderRule, HasEnded, after_access, accesses_by}
use Rattle.words_machine.specs.parts.Seats.{SplitterId, EndedVisit, HasMet, MetBy, IsOfEnded, ended_visit, gone_at, seats_in, IsEither, EitherTook}
use Rattle.words_machine.proofs.parts_lemmas.Accesses.{same_number}

-- one that went neither right nor down stopped
neither : (way : Way) → way ≢ Right → way ≢ Down → way ≡ Stop
neither Stop r d = refl
neither Right r d = absurd (r refl)
neither Down r d = absurd (d refl)

-- where a seat stands whose visit has ended by this way
ended_of : (n k : ℕ) (way : Way) (turn met : ℕ) (me : Me ℕ SplitterView) → me ≡ (lone_view n (visit_at k (Gone way) (accesses_by way) turn met), []) → IsUnderRule me.0 → HasEnded {S = ℕ} n k way me
ended_of n k way turn met me e u = record { turn = turn; met = met; me_is = e; under = subst (λ (x : Me ℕ SplitterView). IsUnderRule x.0) e u }

module _ (n k found fresh setter turn : ℕ) (me : Me ℕ SplitterView) where
  -- it found Y set
  pub goes_right : found ≢ 0 → me ≡ (lone_view n (after_access fresh setter found (visit_at k WroteX 1 turn 0)), []) → IsUnderRule me.0 → HasEnded {S = ℕ} n k Right me
  goes_right ne e u = let b = ne_eqb found 0 ne in ended_of n k Right turn setter me (e ∙ rw b refl) u

  -- it found another's word in X after it had set Y
  pub goes_down : found ≢ own_word k → me ≡ (lone_view n (after_access fresh setter found (visit_at k WroteY 3 turn 0)), []) → IsUnderRule me.0 → HasEnded {S = ℕ} n k Down me
  goes_down ne e u = let b = ne_eqb found (own_word k) ne in ended_of n k Down turn found me (e ∙ rw b refl) u

-- a visit that ended by this way, in a view under the rule
module _ (e : EndedVisit) (u : IsUnderRule (lone_view e.splitter.seats (gone_at e))) where
  shown : IsShown e.splitter.seats u.kept.seat_of u.kept.stage u.kept.turn u.seat (lone_view e.splitter.seats (gone_at e)) (gone_at e)
  shown = (u.kept.shown u.seat _ u.there).0.0

  met_as : (way : Way) → Meets e.splitter.seats u.kept.stage u.kept.turn (gone_at e) (Gone way) → MetBy e way
  met_as Stop h = h
  met_as Right h = h.0
  met_as Down h = h.0

  -- the only seat stops
  pub alone_stops : e.splitter.seats ≡ 1 → e.way ≡ Stop
  alone_stops one =
      let h = u.kept in
      let in_range = shown.in_range in
      let law : IsSplitter h.stage = law_of h.x h.y h.stage h.lawful.door in
      let entered : has_entered (h.stage (own_word e.number)) ≡ true = ap has_entered shown.stage_is in
      let all : (w : Way) → NotAllTook w (λ p. has_entered (h.stage p) ≡ true) (λ p v. h.stage p ≡ Gone v) → e.way ≢ w =
      (λ w not_all is.
      let r = not_all (own_word e.number) entered in
      let seated = h.lawful.seated r.0 r.1 in
      let s = seated.0 in let t = seated.1 in
      let same : r.0 ≡ own_word e.number = omega arith in
      r.2 (ap h.stage same ∙ shown.stage_is ∙ ap Gone is)) in
      neither e.way (all Right law.not_all_right) (all Down law.not_all_down)

-- the badge of a seat that has entered has the view of that seat alone
pub badge_view : (views : List SplitterView) (table : TableId) (number : ℕ) (way : Way) (e : EndedVisit) (s : SplitterId) (v : SplitterView)
    → IsOfEnded number way views
    → ended_visit table number way views ≡ e
    → e.splitter ≡ s
    → views ≡ v ∷ []
    → v ≡ lone_view s.seats (gone_at e)
badge_view views table number way e s v one is of single =
    let first : v ≡ lone_view (seats_in views) (gone_at (ended_visit table number way views)) = cc in
    first ∙ ap (λ (x : EndedVisit). lone_view x.splitter.seats (gone_at x)) is ∙ ap (λ (x : SplitterId). lone_view x.seats (gone_at e)) of

-- two visits that ended, under one rule
module _ (n : ℕ) (a b : EndedVisit) (u : IsUnderRule (view_of n (gone_at a ∷ gone_at b ∷ []))) where
  abbrev stage : ℕ → VisitStage
  stage = u.kept.stage

  law : IsSplitter stage
  law = law_of u.kept.x u.kept.y stage u.kept.lawful.door

  -- they are of two numbers
  pub apart : a.number ≢ b.number
  apart e = (u.kept.shown u.seat _ u.there).1.0.0 (sym e)

  -- the stages say so of whoever took a way
  gone : (p : ℕ) (way : Way) → EitherTook a b p way → stage (own_word p) ≡ Gone way
  gone p way = ⊎_elim
      (λ (t : (p ≡ a.number) × (way ≡ a.way)). ap (λ k. stage (own_word k)) t.0 ∙ (u.kept.shown u.seat _ u.there).0.0.stage_is ∙ ap Gone (sym t.1))
      (λ (t : (p ≡ b.number) × (way ≡ b.way)). ap (λ k. stage (own_word k)) t.0 ∙ (u.kept.shown u.seat _ u.there).0.1.0.stage_is ∙ ap Gone (sym t.1))

  -- where one met the other, that one had set Y where it went right, and wrote X after it where it went down
  met_right : (way : Way) → a.way ≡ way → Meets n stage u.kept.turn (gone_at a) (Gone way) → HasMet a b → way ≡ Right → b.way ≢ Right
  met_right Stop is h met right went = absurd (cc)
  met_right Right is h met right went =
      let there : stage a.met ≡ Gone Right = ap stage met ∙ (u.kept.shown u.seat _ u.there).0.1.0.stage_is ∙ ap Gone went in
      let clear : has_set (stage a.met) ≡ false = ap has_set there in
      let is_set = h.1 in cc
  met_right Down is h met right went = absurd (cc)

  pub right_after : HasMet a b → a.way ≡ Right → b.way ≢ Right
  right_after met right = met_right a.way refl (u.kept.shown u.seat _ u.there).0.0.meets met right

  met_down : (way : Way) → Meets n stage u.kept.turn (gone_at a) (Gone way) → HasMet a b → way ≡ Down → a.turn < b.turn
  met_down Stop h met down = absurd (cc)
  met_down Right h met down = absurd (cc)
  met_down Down h met down =
      let theirs : u.kept.turn a.met ≡ b.turn = ap u.kept.turn met ∙ (u.kept.shown u.seat _ u.there).0.1.0.turn_is in
      let later = h.2 in omega arith

  pub down_before : HasMet a b → a.way ≡ Down → a.turn < b.turn
  down_before met down = met_down a.way (u.kept.shown u.seat _ u.there).0.0.meets met down

  -- they did not both stop
  pub one_stops : AtMostOneStopped (EitherTook a b)
  one_stops p q h k = same_number p q (law.one_stops (own_word p) (own_word q) (gone p Stop h) (gone q Stop k))

  -- where there are two seats, whoever entered is one of the two
  entrant : n ≡ 2 → (r : ℕ) → (0 < r) × (r ≤ n) → (q : ℕ) × IsEither a b q × (own_word q ≡ r)
  entrant two r within =
      let first = (u.kept.shown u.seat _ u.there).0.0.in_range in
      let second = (u.kept.shown u.seat _ u.there).0.1.0.in_range in
      let differ = apart in
      let more = within.0 in
      let most = within.1 in
      dite (ℕ_discrete (own_word a.number) r) (λ e. (a.number, inl refl, e)) (λ ne. (b.number, inr refl, omega arith))

  -- the two have entered
  entered : (p : ℕ) → IsEither a b p → has_entered (stage (own_word p)) ≡ true
  entered p = ⊎_elim
      (λ e. let g = gone p a.way (inl (e, refl)) in rw g refl)
      (λ e. let g = gone p b.way (inr (e, refl)) in rw g refl)

  -- what not all took, these two did not both take
  not_all : n ≡ 2 → (way : Way) → NotAllTook way (λ p. has_entered (stage p) ≡ true) (λ p w. stage p ≡ Gone w) → NotAllTook way (IsEither a b) (EitherTook a b)
  not_all two way some p is =
      let r = some (own_word p) (entered p is) in
      let e = entrant two r.0 (u.kept.lawful.seated r.0 r.1) in
      (e.0, e.1, λ took. r.2 (ap stage (sym e.2) ∙ gone e.0 way took))

  -- so the two are split
  pub split_of_two : n ≡ 2 → IsSplit (IsEither a b) (EitherTook a b)
  split_of_two two = record { one_stops = one_stops; not_all_right = not_all two Right law.not_all_right; not_all_down = not_all two Down law.not_all_down }
