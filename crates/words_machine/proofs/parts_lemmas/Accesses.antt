-- each access of a visit keeps the rule
use Rattle.std.proofs.Common.{◌≡◌, ◌≢◌, ℕ, suc, ◌<◌, ◌≤◌, true, false, cond, ◌==◌, eq-eqb, ne_eqb, List, [], ◌∷◌, set, slice_set, slice_index, subst, sym, refl, ap, ◌∙◌, arith}
use Rattle.words_machine.proofs.parts_lemmas.Common.{set-get_or, Me, Step, Allows, keeps, set_at, Stop, Right, Down, VisitStage, Visit, SplitterView, own_word, visit_at, lone_view, set_at-cases, set_at-same, set_at-other}
use mathlib.Core.Option.{some}
use mathlib.Core.Logic.{dite}
use native.Mathlib.Decide.{ℕ_discrete}
use lib.ListN.{get_elem?}
use Rattle.model_splitter.specs.declared.stage.VisitStage.TheVariants.{Outside, WroteX, SawClear, WroteY, Gone}
use Rattle.model_splitter.specs.Stage.{has_entered, has_set, x_after, y_after, stage_after}
use Rattle.model_splitter.proofs.cited.DoorKept.{kept}
use Rattle.words_machine.specs.parts.SplitterRule.{SatisfiesSpec, IsShown, IsAmong, IsLast, Meets, Shows, IsKept, KeepsRule}
use Rattle.words_machine.specs.parts.SplitterSteps.{IsUnderRule, MovesOn, after_access, moved_on, turn_after, met_after}
use Rattle.words_machine.proofs.parts_lemmas.Numbered.{each_map}
use Rattle.words_machine.proofs.parts_lemmas.Views.{each_set, there_still, at_after}

-- the view has the visit of this number
abbrev pub Has : ℕ → SplitterView → Type 0
Has number view = IsAmong number view.visits

-- seats that write one word are of one number
pub same_number : (p q : ℕ) → own_word p ≡ own_word q → p ≡ q
same_number p q e = omega arith

-- whoever has made an access has begun
entered_after : (p : ℕ) (s : VisitStage) (x y : ℕ) → has_entered (stage_after p s x y) ≡ true
entered_after p WroteX x y = elim (y == 0) as (λ t. has_entered (cond t SawClear (Gone Right)) ≡ true) [ true ↦ refl | false ↦ refl ]
entered_after p WroteY x y = elim (x == p) as (λ t. has_entered (cond t (Gone Stop) (Gone Down)) ≡ true) [ true ↦ refl | false ↦ refl ]
entered_after p s x y = refl

module _ (seats x y p : ℕ) (stage : ℕ → VisitStage) (h : SatisfiesSpec seats x y stage) (within : (0 < p) × (p ≤ seats)) where
  -- whoever stands in X has begun still
  begun_still : (s : VisitStage) → x ≢ 0 → has_entered (set_at stage p (stage_after p s x y) x) ≡ true
  begun_still s ne = set_at-cases stage p (stage_after p s x y) (λ v. has_entered v ≡ true) x (λ _. entered_after p s x y) (λ _. h.begun ne)

  -- whoever stands in X after the access has begun
  begun_after : (s : VisitStage) → x_after p s x ≢ 0 → has_entered (set_at stage p (stage_after p s x y) (x_after p s x)) ≡ true
  begun_after Outside ne = rw (set_at-same stage p WroteX)
  begun_after WroteX ne = begun_still WroteX ne
  begun_after SawClear ne = begun_still SawClear ne
  begun_after WroteY ne = begun_still WroteY ne
  begun_after (Gone way) ne = begun_still (Gone way) ne

  -- the words and the stages after the access are lawful
  lawful_after : (s : VisitStage) → stage p ≡ s → SatisfiesSpec seats (x_after p s x) (y_after s y) (set_at stage p (stage_after p s x y))
  lawful_after s is = record {
    door = kept x y stage p h.door s is;
    seated = λ q. set_at-cases stage p (stage_after p s x y) (λ v. has_entered v ≡ true → (0 < q) × (q ≤ seats)) q
        (λ e _. subst (λ (j : ℕ). (0 < j) × (j ≤ seats)) (sym e) within) (λ _ entered. h.seated q entered);
    begun = begun_after s;
  }

-- who had set Y has set it after an access of its own
set_after : (p : ℕ) (s : VisitStage) (x y : ℕ) → has_set s ≡ true → has_set (stage_after p s x y) ≡ true
set_after p Outside x y h = absurd (cc)
set_after p WroteX x y h = absurd (cc)
set_after p SawClear x y h = refl
set_after p WroteY x y h = elim (x == p) as (λ t. has_set (cond t (Gone Stop) (Gone Down)) ≡ true) [ true ↦ refl | false ↦ refl ]
set_after p (Gone way) x y h = h

-- who set Y has begun
pub set_entered : (s : VisitStage) → has_set s ≡ true → has_entered s ≡ true
set_entered WroteY h = refl
set_entered (Gone way) h = refl
set_entered s h = absurd (cc)

-- who has begun keeps its turn
same_turn : (s : VisitStage) (turn old : ℕ) → has_entered s ≡ true → turn_after s turn old ≡ old
same_turn Outside turn old h = absurd (cc)
same_turn s turn old h = refl

-- what stands in X and Y, the stages and turns, and the visit of word p at the stage a, which makes an access
module _ (n x y p : ℕ) (stage : ℕ → VisitStage) (turn : ℕ → ℕ) (lawful : SatisfiesSpec n x y stage) (last : IsLast x stage turn) (a : VisitStage) (is : stage p ≡ a) where
  -- the turn that a visit gets where it begins now
  abbrev pub next_turn : ℕ
  next_turn = suc (turn x)

  abbrev pub stages : ℕ → VisitStage
  stages = set_at stage p (stage_after p a x y)

  abbrev pub turns : ℕ → ℕ
  turns = set_at turn p (turn_after a next_turn (turn p))

  kept_turn : (q : ℕ) → has_entered (stage q) ≡ true → turns q ≡ turn q
  kept_turn q h = set_at-cases turn p (turn_after a next_turn (turn p)) (λ t. t ≡ turn q) q
      (λ e. same_turn a next_turn (turn p) (subst (λ (t : VisitStage). has_entered t ≡ true) (ap stage e ∙ is) h) ∙ ap turn (sym e)) (λ _. refl)

  kept_entered : (q : ℕ) → has_entered (stage q) ≡ true → has_entered (stages q) ≡ true
  kept_entered q h = set_at-cases stage p (stage_after p a x y) (λ t. has_entered t ≡ true) q (λ _. entered_after p a x y) (λ _. h)

  kept_set : (q : ℕ) → has_set (stage q) ≡ true → has_set (stages q) ≡ true
  kept_set q h = set_at-cases stage p (stage_after p a x y) (λ t. has_set t ≡ true) q
      (λ e. set_after p a x y (subst (λ (t : VisitStage). has_set t ≡ true) (ap stage e ∙ is) h)) (λ _. h)

  -- so each visit that met another has met it still
  pub still_meets : (v : Visit) (s : VisitStage) → Meets n stage turn v s → Meets n stages turns v s
  still_meets v (Gone Right) h = (h.0, kept_set v.met h.1)
  still_meets v (Gone Down) h = (h.0, kept_entered v.met h.1, (let t = kept_turn v.met h.1 in let u = h.2 in omega arith))
  still_meets v s h = h

  begun_before : (q : ℕ) → q ≢ p → has_entered (stages q) ≡ true → has_entered (stage q) ≡ true
  begun_before q ne h = subst (λ (t : VisitStage). has_entered t ≡ true) (set_at-other stage p (stage_after p a x y) q ne) h

  -- who stands in X stays the last to have written there, where the visit had begun before
  stays_last : has_entered a ≡ true → IsLast x stages turns
  stays_last begun q h ne =
      let was : has_entered (stage q) ≡ true = dite (ℕ_discrete q p)
      (λ e. subst (λ (t : VisitStage). has_entered t ≡ true) (sym (ap stage e ∙ is)) begun) (λ other. begun_before q other h) in
      let held : has_entered (stage x) ≡ true = lawful.door.in_x q was in
      let mine = kept_turn q was in
      let theirs = kept_turn x held in
      let before = last q was ne in
      omega arith

-- and where it begins now, it is the last
pub last_after : (n x y p : ℕ) (stage : ℕ → VisitStage) (turn : ℕ → ℕ) (lawful : SatisfiesSpec n x y stage) (last : IsLast x stage turn) (a : VisitStage) (is : stage p ≡ a)
    → IsLast (x_after p a x) (stages n x y p stage turn lawful last a is) (turns n x y p stage turn lawful last a is)
last_after n x y p stage turn lawful last Outside is q h ne =
    let was = begun_before n x y p stage turn lawful last Outside is q ne h in
    let mine : set_at turn p (suc (turn x)) p ≡ suc (turn x) = set_at-same turn p (suc (turn x)) in
    let theirs : set_at turn p (suc (turn x)) q ≡ turn q = set_at-other turn p (suc (turn x)) q ne in
    dite (ℕ_discrete q x)
    (λ e. let t : turn q ≡ turn x = ap turn e in omega arith)
    (λ far. let t = last q was far in omega arith)
last_after n x y p stage turn lawful last WroteX is q h ne = stays_last n x y p stage turn lawful last WroteX is refl q h ne
last_after n x y p stage turn lawful last SawClear is q h ne = stays_last n x y p stage turn lawful last SawClear is refl q h ne
last_after n x y p stage turn lawful last WroteY is q h ne = stays_last n x y p stage turn lawful last WroteY is refl q h ne
last_after n x y p stage turn lawful last (Gone way) is q h ne = stays_last n x y p stage turn lawful last (Gone way) is refl q h ne

-- the access of the visit of number k, whose seat is of a splitter with m seats, under the rule for n seats
module _ (n m k seat : ℕ) (a : VisitStage) (acc tu met : ℕ) (words : List ℕ) (views : List SplitterView) (h : IsKept n words views)
    (e : get_elem? views seat ≡ some (lone_view m (visit_at k a acc tu met))) where
  pub mine : IsShown n h.seat_of h.stage h.turn seat (lone_view m (visit_at k a acc tu met)) (visit_at k a acc tu met)
  mine = (h.shown seat (lone_view m (visit_at k a acc tu met)) e).0.0

  -- the stages and the turns afterwards
  abbrev pub now : ℕ → VisitStage
  now = stages n h.x h.y (own_word k) h.stage h.turn h.lawful h.last a mine.stage_is

  abbrev pub turned : ℕ → ℕ
  turned = turns n h.x h.y (own_word k) h.stage h.turn h.lawful h.last a mine.stage_is

  -- and the visit, where it met this one
  abbrev pub after : ℕ → Visit
  after who = visit_at k (stage_after (own_word k) a h.x h.y) (suc acc) (turn_after a (suc (h.turn h.x)) tu) who

  -- the rule afterwards, where X and Y are as the access leaves them
  pub rule_after : (left : List ℕ) → left ≡ x_after (own_word k) a h.x ∷ y_after a h.y ∷ [] → (who : ℕ) → Meets n now turned (after who) (after who).stage
      → IsKept n left (set views seat (lone_view m (after who)))
  rule_after left are who meets =
      let entry : ℕ = own_word k in
      let before : SplitterView = lone_view m (visit_at k a acc tu met) in
      let within : entry ≤ n = (let r = mine.in_range in omega arith) in
      record {
        x = x_after entry a h.x;
        y = y_after a h.y;
        words_are = are;
        stage = now;
        lawful = lawful_after n h.x h.y entry h.stage h.lawful (omega arith, within) a mine.stage_is;
        turn = turned;
        last = last_after n h.x h.y entry h.stage h.turn h.lawful h.last a mine.stage_is;
        seat_of = h.seat_of;
        held = λ number lt. at_after (Has number) views seat before (lone_view m (after who)) e (λ among. among) (h.seat_of number) (h.held number lt);
        shown = each_set (Shows n h.seat_of now turned) views seat (lone_view m (after who)) (
          (
            record {
              seats_are = mine.seats_are;
              in_range = mine.in_range;
              own = mine.own;
              stage_is = set_at-same h.stage entry (stage_after entry a h.x h.y);
              turn_is = set_at-same h.turn entry (turn_after a (suc (h.turn h.x)) (h.turn entry)) ∙ ap (turn_after a (suc (h.turn h.x))) mine.turn_is;
              meets = meets;
            },
            tt,
          ),
          (tt, tt),
        )
            (λ j u other f. let s = h.shown j u f in (
              each_map (IsShown n h.seat_of h.stage h.turn j u) (IsShown n h.seat_of now turned j u)
                  (λ t x. let far : own_word t.number ≢ entry = λ g. other (sym x.own ∙ ap h.seat_of (same_number t.number k g) ∙ mine.own) in record {
                    seats_are = x.seats_are;
                    in_range = x.in_range;
                    own = x.own;
                    stage_is = set_at-other h.stage entry (stage_after entry a h.x h.y) (own_word t.number) far ∙ x.stage_is;
                    turn_is = set_at-other h.turn entry (turn_after a (suc (h.turn h.x)) (h.turn entry)) (own_word t.number) far ∙ x.turn_is;
                    meets = still_meets n h.x h.y entry h.stage h.turn h.lawful h.last a mine.stage_is t t.stage x.meets;
                  }) u.visits s.0,
              s.1,
            ));
      }

-- a view under the rule for n seats is under the rule for those that it speaks of
pub under_rule : (n seat : ℕ) (words : List ℕ) (views : List SplitterView) (v : SplitterView) → v.seats ≡ n → IsKept n words views → get_elem? views seat ≡ some v → IsUnderRule v
under_rule n seat words views v same h e = record { words = words; views = views; seat = seat; kept = subst (λ (j : ℕ). IsKept j words views) (sym same) h; there = e }

-- whom a visit met that has read Y, or X, by what it found
module _ (n k x y acc tu met : ℕ) (stage : ℕ → VisitStage) (turn : ℕ → ℕ) (none_yet : met ≡ 0) where
  right_of : (setter : ℕ) → (y ≢ 0 → ((0 < setter) × (setter ≤ n) × (setter ≢ own_word k)) × (has_set (stage setter) ≡ true))
      → Meets n stage turn (visit_at k (stage_after (own_word k) WroteX x y) acc tu (met_after (own_word k) WroteX y setter met)) (stage_after (own_word k) WroteX x y)
  right_of setter h = dite (ℕ_discrete y 0)
      (λ z. let b = eq-eqb y 0 z in rw b none_yet)
      (λ z. let b = ne_eqb y 0 z in rw b (h z))

  down_of : (x ≢ own_word k → ((0 < x) × (x ≤ n)) × (has_entered (stage x) ≡ true) × (tu < turn x))
      → Meets n stage turn (visit_at k (stage_after (own_word k) WroteY x y) acc tu (met_after (own_word k) WroteY x 0 met)) (stage_after (own_word k) WroteY x y)
  down_of h = dite (ℕ_discrete x (own_word k))
      (λ z. let b = eq-eqb x (own_word k) z in rw b none_yet)
      (λ z. let b = ne_eqb x (own_word k) z in let t = h z in rw b ((t.0.0, t.0.1, z), t.1, t.2))

-- who set Y where it is not clear, or 0
setter_or_none : (n x y : ℕ) (stage : ℕ → VisitStage) → SatisfiesSpec n x y stage → (setter : ℕ) × (y ≢ 0 → has_set (stage setter) ≡ true)
setter_or_none n x y stage h = dite (ℕ_discrete y 0) (λ z. (0, λ ne. absurd (ne z))) (λ z. let w = h.door.setter z in (w.0, λ _. w.1))

module _ (n m k seat acc tu met : ℕ) (words : List ℕ) (views : List SplitterView) (h : IsKept n words views) where
  right_meets : (e : get_elem? views seat ≡ some (lone_view m (visit_at k WroteX acc tu met)))
      → (setter : ℕ) × Meets n (now n m k seat WroteX acc tu met words views h e) (turned n m k seat WroteX acc tu met words views h e)
      (after n m k seat WroteX acc tu met words views h e (met_after (own_word k) WroteX h.y setter met)) (stage_after (own_word k) WroteX h.x h.y)
  right_meets e =
      let me = mine n m k seat WroteX acc tu met words views h e in
      let w = setter_or_none n h.x h.y h.stage h.lawful in (
        w.0,
        right_of n k h.x h.y (suc acc) tu met (now n m k seat WroteX acc tu met words views h e) (turned n m k seat WroteX acc tu met words views h e) me.meets w.0
            (λ ne.
            let set_y = w.1 ne in
            let far : w.0 ≢ own_word k = λ g. (let u : has_set (h.stage w.0) ≡ false = ap has_set (ap h.stage g ∙ me.stage_is) in cc) in
            let seated = h.lawful.seated w.0 (set_entered (h.stage w.0) set_y) in
            ((seated.0, seated.1, far), kept_set n h.x h.y (own_word k) h.stage h.turn h.lawful h.last WroteX me.stage_is w.0 set_y)),
      )

  down_meets : (e : get_elem? views seat ≡ some (lone_view m (visit_at k WroteY acc tu met)))
      → Meets n (now n m k seat WroteY acc tu met words views h e) (turned n m k seat WroteY acc tu met words views h e)
      (after n m k seat WroteY acc tu met words views h e (met_after (own_word k) WroteY h.x 0 met)) (stage_after (own_word k) WroteY h.x h.y)
  down_meets e =
      let me = mine n m k seat WroteY acc tu met words views h e in
      down_of n k h.x h.y (suc acc) tu met (now n m k seat WroteY acc tu met words views h e) (turned n m k seat WroteY acc tu met words views h e) me.meets
      (λ ne.
      let begun : has_entered (h.stage (own_word k)) ≡ true = ap has_entered me.stage_is in
      let held : has_entered (h.stage h.x) ≡ true = h.lawful.door.in_x (own_word k) begun in
      let seated = h.lawful.seated h.x held in
      let theirs = kept_turn n h.x h.y (own_word k) h.stage h.turn h.lawful h.last WroteY me.stage_is h.x held in
      let before = h.last (own_word k) begun (λ g. ne (sym g)) in
      let turn_is = me.turn_is in
      ((seated.0, seated.1), kept_entered n h.x h.y (own_word k) h.stage h.turn h.lawful h.last WroteY me.stage_is h.x held, omega arith))

module _ {S : Type 0} (n m k seat slots acc tu met : ℕ) (st : Step S) where
  -- the four accesses of a visit
  pub may_write_x : Allows {S = S} {V = SplitterView} (KeepsRule n) slots seat (lone_view m (visit_at k Outside acc tu met), []) 0 (λ _. own_word k) (λ _. MovesOn st (lone_view m (visit_at k Outside acc tu met), []) (own_word k))
  may_write_x s h _ e _ =
      let v : SplitterView = lone_view m (after n m k seat Outside acc tu met s.words s.views h e met) in
      let left : List ℕ = slice_set s.words 0 (own_word k) in
      let kept : IsKept n left (set s.views seat v) = rule_after n m k seat Outside acc tu met s.words s.views h e left (ap (λ ws. slice_set ws 0 (own_word k)) h.words_are) met (mine n m k seat Outside acc tu met s.words s.views h e).meets in
      (v, keeps, tt, kept, (suc (h.turn h.x), 0, refl, under_rule n seat _ _ v (mine n m k seat Outside acc tu met s.words s.views h e).seats_are kept (there_still s.views seat _ e v)))

  pub may_read_y : Allows {S = S} {V = SplitterView} (KeepsRule n) slots seat (lone_view m (visit_at k WroteX acc tu met), []) 1 (λ f. f) (MovesOn st (lone_view m (visit_at k WroteX acc tu met), []))
  may_read_y s h _ e _ =
      let found : ℕ = slice_index s.words 1 in
      let found_is : h.y ≡ found = ap (λ (ws : List ℕ). slice_index ws 1) (sym h.words_are) in
      let left : List ℕ = slice_set s.words 1 found in
      let as_was : left ≡ s.words = set-get_or s.words 1 0 in
      let meets = right_meets n m k seat acc tu met s.words s.views h e in
      let F : ℕ → SplitterView = λ z. lone_view m (visit_at k (stage_after (own_word k) WroteX z z) (suc acc) tu (met_after (own_word k) WroteX z meets.0 met)) in
      let now' : IsKept n left (set s.views seat (F h.y)) = rule_after n m k seat WroteX acc tu met s.words s.views h e left (as_was ∙ h.words_are) (met_after (own_word k) WroteX h.y meets.0 met) meets.1 in
      let kept : IsKept n left (set s.views seat (F found)) = subst (λ (z : ℕ). IsKept n left (set s.views seat (F z))) found_is now' in
      (F found, keeps, tt, kept, (0, meets.0, refl, under_rule n seat _ _ (F found) (mine n m k seat WroteX acc tu met s.words s.views h e).seats_are kept (there_still s.views seat _ e (F found))))

  pub may_write_y : Allows {S = S} {V = SplitterView} (KeepsRule n) slots seat (lone_view m (visit_at k SawClear acc tu met), []) 1 (λ _. 1) (λ _. MovesOn st (lone_view m (visit_at k SawClear acc tu met), []) 1)
  may_write_y s h _ e _ =
      let v : SplitterView = lone_view m (after n m k seat SawClear acc tu met s.words s.views h e met) in
      let left : List ℕ = slice_set s.words 1 1 in
      let kept : IsKept n left (set s.views seat v) = rule_after n m k seat SawClear acc tu met s.words s.views h e left (ap (λ ws. slice_set ws 1 1) h.words_are) met (mine n m k seat SawClear acc tu met s.words s.views h e).meets in
      (v, keeps, tt, kept, (0, 0, refl, under_rule n seat _ _ v (mine n m k seat SawClear acc tu met s.words s.views h e).seats_are kept (there_still s.views seat _ e v)))

  pub may_read_x : Allows {S = S} {V = SplitterView} (KeepsRule n) slots seat (lone_view m (visit_at k WroteY acc tu met), []) 0 (λ f. f) (MovesOn st (lone_view m (visit_at k WroteY acc tu met), []))
  may_read_x s h _ e _ =
      let found : ℕ = slice_index s.words 0 in
      let found_is : h.x ≡ found = ap (λ (ws : List ℕ). slice_index ws 0) (sym h.words_are) in
      let left : List ℕ = slice_set s.words 0 found in
      let as_was : left ≡ s.words = set-get_or s.words 0 0 in
      let meets = down_meets n m k seat acc tu met s.words s.views h e in
      let F : ℕ → SplitterView = λ z. lone_view m (visit_at k (stage_after (own_word k) WroteY z z) (suc acc) tu (met_after (own_word k) WroteY z 0 met)) in
      let now' : IsKept n left (set s.views seat (F h.x)) = rule_after n m k seat WroteY acc tu met s.words s.views h e left (as_was ∙ h.words_are) (met_after (own_word k) WroteY h.x 0 met) meets in
      let kept : IsKept n left (set s.views seat (F found)) = subst (λ (z : ℕ). IsKept n left (set s.views seat (F z))) found_is now' in
      (F found, keeps, tt, kept, (0, 0, refl, under_rule n seat _ _ (F found) (mine n m k seat WroteY acc tu met s.words s.views h e).seats_are kept (there_still s.views seat _ e (F found))))

-- where a seat with one visit stands after an access of it that found this number
pub stands_after : (m turn setter found : ℕ) (v : Visit) (before later : Me ℕ SplitterView) → before ≡ (lone_view m v, []) → later ≡ (moved_on turn setter found before.0, before.1) → later ≡ (lone_view m (after_access turn setter found v), [])
stands_after m turn setter found v before later is moved = moved ∙ ap (λ (me : Me ℕ SplitterView). (moved_on turn setter found me.0, me.1)) is
