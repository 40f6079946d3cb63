-- doors and walks that agree: what keeps them so, and what follows
use Rattle.std.proofs.Common.{◌≡◌, ◌≢◌, ℕ, zero, suc, ◌+◌, ◌*◌, ◌<◌, ◌≤◌, false, inl, inr, length, replicate, get_or, Option, Some, None, refl, sym, ap, subst, ◌∙◌, arith}
use Rattle.model_splitter.proofs.grid_lemmas.Common.{fun_ext, eqb_tells, Registers, answer_of, after_access, set_at, VisitStage, Gone, went_right, went_down, x_after, y_after, stage_after, Walker, walker_at, walk_of, visit_on, walked_to, walker_after, next_access, x_in, y_in, DoorsAgree, IsConsistent, empty_doors}
use Rattle.std.proofs.Math.ListN.{length-replicate}
use Rattle.model_splitter.specs.declared.way.Way.TheVariants.{Right, Down}
use Rattle.model_splitter.specs.Visitor.{IsAccessOf, stage_by, word_of}
use Rattle.model_splitter.proofs.cited.VisitorAccess.{is_access_of}
use Rattle.model_splitter.proofs.cited.WalkLemmas.{goes_on}
use Rattle.model_splitter.specs.grid.Door.{number_of, door_at, right_of, down_of, deeper}
use Rattle.model_splitter.proofs.cited.grid.Numbers.{number_below}
use Rattle.model_splitter.proofs.grid_lemmas.AgreeKept.{stayed, moved_on, joined, agree_new}

-- below 255, one more is one more
pub deeper_is : (n : ℕ) → n < 255 → deeper n ≡ suc n
deeper_is n l = omega arith

-- the walk that an access leaves, by how far its visit has come
module _ (b : ℕ) (few : b ≤ 255) (x_of y_of : ℕ → ℕ) (walker : ℕ → Option Walker) (g : DoorsAgree b b x_of y_of walker) (p : ℕ) (u : Walker) (is : walker p ≡ Some u) where
  abbrev door : ℕ
  door = number_of u.door

  abbrev next_stage : VisitStage
  next_stage = stage_after p u.visitor.stage (x_of door) (y_of door)

  abbrev AgreesWith : Walker → Type 0
  AgreesWith new = DoorsAgree b b (set_at x_of door (x_after p u.visitor.stage (x_of door))) (set_at y_of door (y_after u.visitor.stage (y_of door))) (set_at walker p (Some new))

  stays : (s : VisitStage) → next_stage ≡ s → went_right s ≡ false → went_down s ≡ false → AgreesWith (visit_on u s)
  stays s k r d = subst (λ (x : VisitStage). AgreesWith (visit_on u x)) k (stayed b x_of y_of walker g p u is (rw k r) (rw k d))

  shallow : u.door.depth < 255
  shallow = let within = g.within u.door.depth u.door.column (g.walks p u is).arrived in omega arith

  goes_right : next_stage ≡ Gone Right → AgreesWith (walker_at u.visitor.identity (right_of u.door))
  goes_right k =
      let walk = g.walks p u is in
      let next : walker_at p (door_at (suc u.door.depth) u.door.column) ≡ walker_at u.visitor.identity (right_of u.door) = rw (walk.identity, deeper_is u.door.depth shallow) refl in
      subst AgreesWith next (moved_on b x_of y_of walker g p u is u.door.column (inl (rw k refl, refl)))

  goes_down : next_stage ≡ Gone Down → AgreesWith (walker_at u.visitor.identity (down_of u.door))
  goes_down k =
      let walk = g.walks p u is in
      let narrow : u.door.column < 255 = (let inside = walk.inside in let low = shallow in omega arith) in
      let next : walker_at p (door_at (suc u.door.depth) (suc u.door.column)) ≡ walker_at u.visitor.identity (down_of u.door) = rw (walk.identity, deeper_is u.door.depth shallow, deeper_is u.door.column narrow) refl in
      subst AgreesWith next (moved_on b x_of y_of walker g p u is (suc u.door.column) (inr (rw k refl, refl)))

  agrees_next : (s : VisitStage) → next_stage ≡ s → AgreesWith (walked_to u s)
  agrees_next s k = elim (goes_on (visit_on u) (walker_at u.visitor.identity (right_of u.door)) (walker_at u.visitor.identity (down_of u.door)) s) [
    | inl e ↦ subst AgreesWith (sym e.2) (stays s k e.0 e.1)
    | inr o ↦ elim o [ inl e ↦ subst AgreesWith (sym e.1) (goes_right (k ∙ e.0)) | inr e ↦ subst AgreesWith (sym e.1) (goes_down (k ∙ e.0)) ]
  ]

  -- doors and walks agree after an access of a walk, whatever the doors stand on
  pub agrees_after : DoorsAgree b b (set_at x_of (number_of u.door) (x_after p u.visitor.stage (x_of (number_of u.door)))) (set_at y_of (number_of u.door) (y_after u.visitor.stage (y_of (number_of u.door))))
      (set_at walker p (Some (walked_to u (stage_after p u.visitor.stage (x_of (number_of u.door)) (y_of (number_of u.door))))))
  agrees_after = agrees_next (stage_after p u.visitor.stage (x_of (number_of u.door)) (y_of (number_of u.door))) refl

-- what an access of a walk does to X and Y of the doors
module _ (m : Registers ℕ) (p : ℕ) (u : Walker) (identity : u.visitor.identity ≡ p) (x_is : u.visitor.x ≡ 2 * number_of u.door) (y_is : u.visitor.y ≡ 2 * number_of u.door + 1) (below : 2 * number_of u.door + 1 < length m.values) where
  abbrev pub left : Registers ℕ
  left = after_access m (next_access u)

  access : IsAccessOf m u.visitor
  access = is_access_of m u.visitor (λ e. absurd (let n = x_is in let k = y_is in omega arith)) (rw x_is (let l = below in omega arith)) (rw y_is below)

  pub xs : x_in left ≡ set_at (x_in m) (number_of u.door) (x_after p u.visitor.stage (x_in m (number_of u.door)))
  xs = fun_ext (λ k. elim (eqb_tells k (number_of u.door)) [
    | inl e ↦ rw e.0 (ap (x_in left) e.1 ∙ ap (word_of left) (sym x_is) ∙ access.x ∙ ap (λ i. x_after i u.visitor.stage (word_of m u.visitor.x)) identity ∙ ap (λ r. x_after p u.visitor.stage (word_of m r)) x_is)
    | inr e ↦ rw e.0 (access.others (2 * k) (λ h. absurd (let n = x_is in let other = e.1 in omega arith)) (λ h. absurd (let n = y_is in omega arith)))
  ])

  ys : y_in left ≡ set_at (y_in m) (number_of u.door) (y_after u.visitor.stage (y_in m (number_of u.door)))
  ys = fun_ext (λ k. elim (eqb_tells k (number_of u.door)) [
    | inl e ↦ rw e.0 (ap (y_in left) e.1 ∙ ap (word_of left) (sym y_is) ∙ access.y ∙ ap (λ r. y_after u.visitor.stage (word_of m r)) y_is)
    | inr e ↦ rw e.0 (access.others (2 * k + 1) (λ h. absurd (let n = x_is in omega arith)) (λ h. absurd (let n = y_is in let other = e.1 in omega arith)))
  ])

  reaches : stage_by u.visitor (answer_of m (next_access u)) ≡ stage_after p u.visitor.stage (x_in m (number_of u.door)) (y_in m (number_of u.door))
  reaches = access.stage ∙ rw (identity, x_is, y_is) refl

module _ (most b : ℕ) (m : Registers ℕ) (walker : ℕ → Option Walker) (c : IsConsistent most b m walker) where
  -- both registers of the door of a walk are there
  pub registers_in : (p : ℕ) (u : Walker) → walker p ≡ Some u → 2 * number_of u.door + 1 < length m.values
  registers_in p u is =
      let walk = c.agree.walks p u is in
      let within = c.agree.within u.door.depth u.door.column walk.arrived in
      let room = c.room in
      rw c.registers (number_below u.door.depth u.door.column most walk.inside (omega arith))

  -- an access of a walk
  pub gone_on : (p : ℕ) (u : Walker) → walker p ≡ Some u → IsConsistent most b (after_access m (next_access u)) (set_at walker p (Some (walker_after u (answer_of m (next_access u)))))
  gone_on p u is =
      let walk = c.agree.walks p u is in
      let below = registers_in p u is in
      let few : b ≤ 255 = (let f = c.few in let r = c.room in omega arith) in
      let stage = reaches m p u walk.identity walk.x walk.y below in
      let next = agrees_next b few (x_in m) (y_in m) walker c.agree p u is (stage_by u.visitor (answer_of m (next_access u))) (sym stage) in
      record {
        few = c.few;
        room = c.room;
        registers = (access m p u walk.identity walk.x walk.y below).registers ∙ c.registers;
        agree = rw (xs m p u walk.identity walk.x walk.y below, ys m p u walk.identity walk.x walk.y below) next;
      }

  -- one who begins
  pub begun : (p : ℕ) → p ≢ 0 → walker p ≡ None → b < most → IsConsistent most (suc b) m (set_at walker p (Some (walk_of p)))
  begun p some absent l = record { few = c.few; room = omega arith; registers = c.registers; agree = joined b (x_in m) (y_in m) walker c.agree p some absent }

  -- what happens elsewhere
  pub elsewhere : (other : Registers ℕ) → length other.values ≡ length m.values → ((r : ℕ) → word_of other r ≡ word_of m r) → IsConsistent most b other walker
  elsewhere other same words =
      let xs_same : x_in m ≡ x_in other = fun_ext (λ k. sym (words (2 * k))) in
      let ys_same : y_in m ≡ y_in other = fun_ext (λ k. sym (words (2 * k + 1))) in
      record {
        few = c.few;
        room = c.room;
        registers = same ∙ c.registers;
        agree = subst (λ (f : ℕ → ℕ). DoorsAgree b b (x_in other) f walker) ys_same (subst (λ (f : ℕ → ℕ). DoorsAgree b b f (y_in m) walker) xs_same c.agree);
      }

pub get_or-replicate_same : (n i x : ℕ) → get_or (replicate n x) i x ≡ x
get_or-replicate_same zero i x = refl
get_or-replicate_same (suc n) zero x = refl
get_or-replicate_same (suc n) (suc i) x = get_or-replicate_same n i x

-- a grid that no one has entered
pub consistent_new : (most : ℕ) → most ≤ 64 → IsConsistent most 0 (empty_doors most) (λ p. None)
consistent_new most few = record {
  few = few;
  room = omega arith;
  registers = length-replicate (most * (most + 1)) 0;
  agree = agree_new (x_in (empty_doors most)) (y_in (empty_doors most)) (λ k. get_or-replicate_same (most * (most + 1)) (2 * k) 0) (λ k. get_or-replicate_same (most * (most + 1)) (2 * k + 1) 0);
}
