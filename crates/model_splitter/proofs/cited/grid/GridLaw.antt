-- doors and walks that agree keep the law of the grid
use Rattle.std.proofs.Common.{◌≡◌, ◌≢◌, ◌↔◌, ℕ, suc, ◌+◌, ◌*◌, ◌<◌, ◌≤◌, true, not, ◌==◌, inl, inr, Option, Some, None, refl, sym, subst, arith, IsSome}
use Rattle.model_splitter.proofs.grid_lemmas.Common.{Answer, Registers, VisitStage, has_entered, Walker, door_number, number_of, right_of, down_of, IsDoorWithin, count_to, x_in, y_in, was_entered, IsConsistent, IsGrid}
use Rattle.std.proofs.lemmas.Option.{option_and_then_some}
use Rattle.model_steps.specs.declared.note.Note.TheVariants.{Ended}
use Rattle.model_steps.specs.Calls.{outcome_in}
use Rattle.model_steps.proofs.cited.CountLemmas.{count_to-below}
use Rattle.model_splitter.specs.Visitor.{stage_by, value_in}
use Rattle.model_splitter.specs.Walk.{note_at_door, place_at_door, accesses_at}
use Rattle.model_splitter.proofs.cited.WalkLemmas.{goes_on, tells_place, ended_is, place_is, one_at_place, few_at_door, fourth_places, one_more}
use Rattle.model_splitter.specs.grid.Walk.{walker_at, visit_on, walked_to, walker_after, walker_note, place_of, place_by, accesses_of, accesses_by}
use Rattle.model_splitter.proofs.cited.grid.Numbers.{numbered, number_within, triangle, twice_triangle}
use Rattle.model_splitter.proofs.cited.grid.ConsistentKept.{deeper_is}

not_zero : (x : ℕ) → not (x == 0) ≡ true → x ≢ 0
not_zero x h e = absurd (let k : not (0 == 0) ≡ true = rw e at h in cc)

module _ (most b : ℕ) (m : Registers ℕ) (walker : ℕ → Option Walker) (c : IsConsistent most b m walker) where
  shallow : (p : ℕ) (u : Walker) → walker p ≡ Some u → u.door.depth < b
  shallow p u is = c.agree.within u.door.depth u.door.column (c.agree.walks p u is).arrived

  at_door : (p : ℕ) (u : Walker) → walker p ≡ Some u → IsDoorWithin b (number_of u.door)
  at_door p u is = let walk = c.agree.walks p u is in record { depth = u.door.depth; column = u.door.column; inside = walk.inside; within = shallow p u is; is = refl }

  within : (p place : ℕ) → place_by (walker p) ≡ Some place → IsDoorWithin b place
  within p place h = option_and_then_some place_of (walker p) place h (λ u is placed.
      subst (λ (i : ℕ). IsDoorWithin b i) (sym (place_is (number_of u.door) u.visitor.stage place placed).1) (at_door p u is))

  -- a walk that has a place stopped at its door
  visited : (p place : ℕ) (u : Walker) → walker p ≡ Some u → place_of u ≡ Some place → place_at_door (number_of u.door) (c.agree.stage (number_of u.door) p) ≡ Some place
  visited p place u is placed = rw ((c.agree.walks p u is).here) placed

  distinct : (p q place : ℕ) → place_by (walker p) ≡ Some place → place_by (walker q) ≡ Some place → p ≡ q
  distinct p q place h k = option_and_then_some place_of (walker p) place h (λ u is_u at_u. option_and_then_some place_of (walker q) place k (λ v is_v at_v.
      one_at_place (x_in m) (y_in m) c.agree.stage c.agree.doors p q (number_of u.door) (number_of v.door) place (visited p place u is_u at_u) (visited q place v is_v at_v)))

  -- who entered a door stands there, or has left it for one that lies deeper and was reached
  entered_depth : (d e p : ℕ) → e ≤ d → has_entered (c.agree.stage (door_number d e) p) ≡ true → d < b
  entered_depth d e p l h = elim (c.agree.left d e p l h) [
    | inl s ↦ let walk = c.agree.walks p s.walk s.is in let low = c.agree.within s.walk.door.depth s.walk.door.column walk.arrived in let at = s.depth_is in omega arith
    | inr o ↦ elim o [ inl r ↦ let low = c.agree.within (suc d) e r.1 in omega arith | inr r ↦ let low = c.agree.within (suc d) (suc e) r.1 in omega arith ]
  ]

  entered : (k : ℕ) → x_in m k ≢ 0 → IsDoorWithin b k
  entered k some =
      let number = numbered k in
      let visit = subst (λ (i : ℕ). has_entered (c.agree.stage i (x_in m k)) ≡ true) number.is (c.agree.entered k some) in
      record { depth = number.depth; column = number.column; inside = number.inside; within = entered_depth number.depth number.column (x_in m k) number.inside visit; is = number.is }

  few_entered : (n : ℕ) → 2 * count_to (was_entered m) n ≤ b * (b + 1)
  few_entered n =
      let few = count_to-below (was_entered m) (triangle b) n (λ k h. number_within b k (entered k (not_zero (x_in m k) h))) in
      let twice = twice_triangle b in
      omega arith

  at_most : (p : ℕ) → accesses_by (walker p) ≤ 4 * b
  at_most p = elim (walker p) as (λ o. walker p ≡ o → accesses_by o ≤ 4 * b) [
    | None ↦ λ _. omega arith
    | Some u ↦ λ is. let low = shallow p u is in let few = few_at_door u.visitor.stage in omega arith
  ] refl

  last_places : (p : ℕ) → 0 < accesses_by (walker p) → accesses_by (walker p) ≡ 4 * b → IsSome (place_by (walker p))
  last_places p some all = elim (walker p) as (λ o. walker p ≡ o → 0 < accesses_by o → accesses_by o ≡ 4 * b → IsSome (place_by o)) [
    | None ↦ λ _ never _. absurd (omega arith)
    | Some u ↦ λ is _ four.
        let walk = c.agree.walks p u is in
        let low = shallow p u is in
        fourth_places (number_of u.door) u.visitor.stage (omega arith) walk.not_right walk.not_down
  ] refl some all

  pub grid_law : IsGrid b m walker
  grid_law = record {
    distinct = distinct;
    within = within;
    entered = entered;
    few_entered = few_entered;
    at_most = at_most;
    last_places = last_places;
  }

-- a walk that went on has made one access more
counted : (u : Walker) → u.door.depth < 255 → (s : VisitStage) → accesses_at u.visitor.stage + 1 ≤ accesses_at s → accesses_at u.visitor.stage ≤ 3 → accesses_of u + 1 ≤ accesses_of (walked_to u s)
counted u narrow s l k =
    let next = deeper_is u.door.depth narrow in
    elim (goes_on (visit_on u) (walker_at u.visitor.identity (right_of u.door)) (walker_at u.visitor.identity (down_of u.door)) s) [
      | inl e ↦ rw e.2 (omega arith)
      | inr o ↦ elim o [ inl e ↦ rw e.1 (omega arith) | inr e ↦ rw e.1 (omega arith) ]
    ]

pub nearer : (most b : ℕ) (m : Registers ℕ) (walker : ℕ → Option Walker) → IsConsistent most b m walker → (p : ℕ) (u : Walker) → walker p ≡ Some u → place_of u ≡ None → (got : Answer ℕ) → accesses_of u + 1 ≤ accesses_of (walker_after u got)
nearer most b m walker c p u is on got =
    let walk = c.agree.walks p u is in
    let low = c.agree.within u.door.depth u.door.column walk.arrived in
    let few = c.few in
    let room = c.room in
    let more = one_more u.visitor.identity u.visitor.stage (value_in got) (value_in got) (number_of u.door) on walk.not_right walk.not_down in
    counted u (omega arith) (stage_by u.visitor got) more.0 more.1

-- who has no place has accesses left
pub unplaced : (most b : ℕ) (m : Registers ℕ) (walker : ℕ → Option Walker) → IsConsistent most b m walker → (p : ℕ) (u : Walker) → walker p ≡ Some u → place_of u ≡ None → accesses_of u + 1 ≤ 4 * b
unplaced most b m walker c p u is on =
    let walk = c.agree.walks p u is in
    let low = c.agree.within u.door.depth u.door.column walk.arrived in
    let few = (one_more u.visitor.identity u.visitor.stage 0 0 (number_of u.door) on walk.not_right walk.not_down).1 in
    omega arith

-- who walks has begun
pub some_walk : (most b : ℕ) (m : Registers ℕ) (walker : ℕ → Option Walker) → IsConsistent most b m walker → (p : ℕ) (u : Walker) → walker p ≡ Some u → 1 ≤ b
some_walk most b m walker c p u is =
    let listed = c.agree.listed p u is in
    let many = c.agree.many in
    let low : listed.0 < b = (let k = listed.1 in omega arith) in
    omega arith

-- what a walk says tells its place
pub place_reported : (u : Walker) (s : VisitStage) → outcome_in (note_at_door (number_of u.door) s) ≡ place_of (walked_to u s)
place_reported u s = tells_place (visit_on u) (walker_at u.visitor.identity (right_of u.door)) (walker_at u.visitor.identity (down_of u.door)) place_of (number_of u.door) s refl refl refl

-- a walk says that it has ended exactly where it has reached a place
pub ended_at_place : (u : Walker) (got : Answer ℕ) (x : ℕ) → (walker_note u got ≡ Ended x) ↔ (place_of (walker_after u got) ≡ Some x)
ended_at_place u got x = rw (sym (place_reported u (stage_by u.visitor got))) (ended_is (walker_note u got) x)
