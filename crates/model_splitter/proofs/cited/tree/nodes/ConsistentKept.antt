-- nodes and walks that agree: what keeps them so in a memory of a tree
use Rattle.std.proofs.Common.{◌≡◌, ◌≢◌, ℕ, suc, ◌+◌, ◌*◌, ◌/◌, ◌<◌, ◌≤◌, Bool, true, false, cond, ◌⊎◌, inl, inr, Option, Some, None, refl, sym, ap, subst, ◌∙◌, arith, ◌↔◌}
use Rattle.model_splitter.proofs.tree_lemmas.Common.{fun_ext, eqb_tells, Access, Write, MemorySteps, Spares, answer_from, set_at, set_at-other, set_at-as_is, Right, Down, VisitStage, went_right, went_down, x_after, y_after, stage_after, access_at, stage_by, TreeRegister, Mark, X, Y, Contents, TreeValue, Word, Walker, word_in, segment_in, mark_at, x_at, y_at, segment_at, IsWithinReach, IsTreeMemory, IsEmptyTree, left_child, right_child, walker_at, walk_of, in_words, reported, next_access, visit_on, walked_to, walker_after, NodesAgree, IsConsistent, cases_Bool}
use Rattle.model_splitter.specs.declared.stage.VisitStage.TheVariants.{Outside, WroteX, SawClear, WroteY, Gone}
use Rattle.model_splitter.specs.declared.visitor.Visitor.{Visitor}
use Rattle.model_splitter.proofs.cited.WalkLemmas.{goes_on}
use Rattle.model_splitter.proofs.tree_lemmas.nodes.AgreeKept.{right_entered, down_entered, marked_node, stayed, moved_down, moved_right, joined, agree_new}
use Rattle.model_splitter.proofs.tree_lemmas.nodes.DepthBound.{halves, small_place}

module _ (b : ℕ) (mark x_of y_of : ℕ → ℕ) (walker : ℕ → Option Walker) (g : NodesAgree b mark x_of y_of walker) where
  -- to whose node someone came, its parent is marked
  pub parent_marked : (k p : ℕ) → 2 ≤ k → g.came k p ≡ true → mark (k / 2) ≡ 1
  parent_marked k p l h = elim (halves k) [
    | inl e ↦ g.marked (k / 2) p (down_entered (g.stage (k / 2) p) (g.came_down (k / 2) p (omega arith) (subst (λ (i : ℕ). g.came i p ≡ true) e h)))
    | inr e ↦ g.marked (k / 2) p (right_entered (g.stage (k / 2) p) (g.came_right (k / 2) p (omega arith) (subst (λ (i : ℕ). g.came i p ≡ true) e h)))
  ]

module _ (b : ℕ) (few : b ≤ 64) (mark x_of y_of : ℕ → ℕ) (walker : ℕ → Option Walker) (g : NodesAgree b mark x_of y_of walker) (p : ℕ) (u : Walker) (is : walker p ≡ Some u) (visits : u.is_marking ≡ false) where
  abbrev next_stage : VisitStage
  next_stage = stage_after p u.visitor.stage (x_of u.place) (y_of u.place)

  abbrev AgreesWith : Walker → Type 0
  AgreesWith new = NodesAgree b mark (set_at x_of u.place (x_after p u.visitor.stage (x_of u.place))) (set_at y_of u.place (y_after u.visitor.stage (y_of u.place))) (set_at walker p (Some new))

  stays : (s : VisitStage) → next_stage ≡ s → went_right s ≡ false → went_down s ≡ false → AgreesWith (visit_on u s)
  stays s k r d = subst (λ (x : VisitStage). AgreesWith (visit_on u x)) k (stayed b mark x_of y_of walker g p u is visits (rw k r) (rw k d))

  goes_right : next_stage ≡ Gone Right → AgreesWith (walker_at u.visitor.identity (right_child u.place))
  goes_right k =
      let walk = g.walks p u is in
      let small = small_place b few mark x_of y_of walker g u.place p walk.arrived in
      let next : walker_at p (2 * u.place + 1) ≡ walker_at u.visitor.identity (right_child u.place) = rw (walk.identity, small.1) refl in
      subst AgreesWith next (moved_right b mark x_of y_of walker g p u is visits (rw k refl))

  goes_down : next_stage ≡ Gone Down → AgreesWith (walker_at u.visitor.identity (left_child u.place))
  goes_down k =
      let walk = g.walks p u is in
      let small = small_place b few mark x_of y_of walker g u.place p walk.arrived in
      let next : walker_at p (2 * u.place) ≡ walker_at u.visitor.identity (left_child u.place) = rw (walk.identity, small.0) refl in
      subst AgreesWith next (moved_down b mark x_of y_of walker g p u is visits (rw k refl))

  -- the walk that an access of a visit leaves, by how far the visit has come
  agrees_next : (s : VisitStage) → next_stage ≡ s → AgreesWith (walked_to u s)
  agrees_next s k = elim (goes_on (visit_on u) (walker_at u.visitor.identity (right_child u.place)) (walker_at u.visitor.identity (left_child u.place)) s) [
    | inl e ↦ subst AgreesWith (sym e.2) (stays s k e.0 e.1)
    | inr o ↦ elim o [ inl e ↦ subst AgreesWith (sym e.1) (goes_right (k ∙ e.0)) | inr e ↦ subst AgreesWith (sym e.1) (goes_down (k ∙ e.0)) ]
  ]

-- the words in all registers of a kind
abbrev words_in : {S : Type 0} → MemorySteps S TreeRegister TreeValue → S → (ℕ → TreeRegister) → ℕ → ℕ
words_in memory s kind j = word_in (memory.register s (kind j)).0

-- what an access of a walk does to the registers
module _ {S : Type 0} (memory : MemorySteps S TreeRegister TreeValue) (tree : IsTreeMemory memory) (s : S) where
  abbrev pub left_by : Access TreeRegister TreeValue → S
  left_by a = memory.after s a

  -- an access leaves the words of other registers
  word_spared : (a : Access TreeRegister TreeValue) (r : TreeRegister) → Spares a r → word_in (memory.register (left_by a) r).0 ≡ word_in (memory.register s r).0
  word_spared a r h = ap (λ (x : TreeValue × Bool). word_in x.0) (tree.others s a r h)

  -- those of a kind are as before after an access to others, or one of them is another
  module _ (kind : ℕ → TreeRegister) (a : Access TreeRegister TreeValue) where
    words_spared : ((j : ℕ) → Spares a (kind j)) → words_in memory (left_by a) kind ≡ words_in memory s kind
    words_spared spares = fun_ext (λ j. word_spared a (kind j) (spares j))

    words_still : (k : ℕ) → ((j : ℕ) → Spares a (kind j)) → words_in memory (left_by a) kind ≡ set_at (words_in memory s kind) k (words_in memory s kind k)
    words_still k spares = words_spared spares ∙ sym (set_at-as_is (words_in memory s kind) k (words_in memory s kind k) refl)

    word_put : (k w : ℕ) → (memory.register (left_by a) (kind k)).0 ≡ Word w → ((j : ℕ) → j ≢ k → Spares a (kind j)) → words_in memory (left_by a) kind ≡ set_at (words_in memory s kind) k w
    word_put k w here there = fun_ext (λ j. elim (eqb_tells j k) [
      | inl e ↦ rw e.0 (ap (words_in memory (left_by a) kind) e.1 ∙ ap word_in here)
      | inr e ↦ rw e.0 (word_spared a (kind j) (there j e.1))
    ])

  segment_spared : (a : Access TreeRegister TreeValue) (k : ℕ) → Spares a (Contents k) → segment_at memory (left_by a) k ≡ segment_at memory s k
  segment_spared a k h = ap (λ (x : TreeValue × Bool). segment_in x.0) (tree.others s a (Contents k) h)

  -- the access that marks a node
  abbrev marking : ℕ → Access TreeRegister TreeValue
  marking k = Write (Mark k) (Word 1)

  marks_by_marking : (k : ℕ) → IsWithinReach memory s k → mark_at memory (left_by (marking k)) ≡ set_at (mark_at memory s) k 1
  marks_by_marking k reach = word_put Mark (marking k) k 1 (tree.takes_mark s k reach) (λ j n h. n (let both : j ≡ k = cc in both))

  x_by_marking : (k : ℕ) → x_at memory (left_by (marking k)) ≡ x_at memory s
  x_by_marking k = words_spared X (marking k) (λ j h. absurd (cc))

  y_by_marking : (k : ℕ) → y_at memory (left_by (marking k)) ≡ y_at memory s
  y_by_marking k = words_spared Y (marking k) (λ j h. absurd (cc))

  -- an access of a visit to the splitter of node k, which is marked
  module _ (p k : ℕ) (marked : mark_at memory s k ≡ 1) where
    abbrev visiting : VisitStage → Access TreeRegister TreeValue
    visiting stage = in_words (access_at p (X k) (Y k) stage)

    -- it spares all but X and Y of that node
    visit_spares : (stage : VisitStage) (r : TreeRegister) → r ≢ X k → r ≢ Y k → Spares (visiting stage) r
    visit_spares Outside r x y = x
    visit_spares SawClear r x y = y
    visit_spares stage r x y = tt

    marks_by_visit : (stage : VisitStage) → mark_at memory (left_by (visiting stage)) ≡ mark_at memory s
    marks_by_visit stage = words_spared Mark (visiting stage) (λ j. visit_spares stage (Mark j) (λ h. absurd (cc)) (λ h. absurd (cc)))

    segments_by_visit : (stage : VisitStage) (j : ℕ) → segment_at memory (left_by (visiting stage)) j ≡ segment_at memory s j
    segments_by_visit stage j = segment_spared (visiting stage) j (visit_spares stage (Contents j) (λ h. absurd (cc)) (λ h. absurd (cc)))

    x_by_visit : (stage : VisitStage) → x_at memory (left_by (visiting stage)) ≡ set_at (x_at memory s) k (x_after p stage (x_at memory s k))
    x_by_visit Outside = word_put X (visiting Outside) k p (tree.takes_x s k p marked) (λ j n h. n (let both : j ≡ k = cc in both))
    x_by_visit SawClear = words_still X (visiting SawClear) k (λ j h. absurd (cc))
    x_by_visit stage = words_still X (visiting stage) k (λ j. tt)

    y_by_visit : (stage : VisitStage) → y_at memory (left_by (visiting stage)) ≡ set_at (y_at memory s) k (y_after stage (y_at memory s k))
    y_by_visit Outside = words_still Y (visiting Outside) k (λ j h. absurd (cc))
    y_by_visit SawClear = word_put Y (visiting SawClear) k 1 (tree.takes_y s k marked) (λ j n h. n (let both : j ≡ k = cc in both))
    y_by_visit stage = words_still Y (visiting stage) k (λ j. tt)

    -- the words that a visit reads are those in its node's registers
    pub visit_reaches : (v : Visitor TreeRegister) → v.identity ≡ p → v.x ≡ X k → v.y ≡ Y k → (stage : VisitStage) → v.stage ≡ stage →
        stage_by v (reported (answer_from (memory.register s) (visiting stage))) ≡ stage_after p stage (x_at memory s k) (y_at memory s k)
    visit_reaches v own x_of y_of WroteX e = rw (e, tree.ys s k) refl
    visit_reaches v own x_of y_of WroteY e = rw (e, tree.xs s k, own) refl
    visit_reaches v own x_of y_of stage e = rw e refl

module _ {S : Type 0} (memory : MemorySteps S TreeRegister TreeValue) (most b : ℕ) (s : S) (walker : ℕ → Option Walker) (c : IsConsistent memory most b s walker) where
  -- one who begins
  pub begun : (p : ℕ) → p ≢ 0 → walker p ≡ None → b < most → IsConsistent memory most (suc b) s (set_at walker p (Some (walk_of p)))
  begun p some absent l = record { few = c.few; room = omega arith; agree = joined b (mark_at memory s) (x_at memory s) (y_at memory s) walker c.agree p some absent }

  -- what leaves marks, X and Y as they are
  pub elsewhere : (other : S) → mark_at memory other ≡ mark_at memory s → x_at memory other ≡ x_at memory s → y_at memory other ≡ y_at memory s → IsConsistent memory most b other walker
  elsewhere other marks xs ys = record { few = c.few; room = c.room; agree = rw (marks, xs, ys) c.agree }

  -- a walk stands within reach
  reaches : (p : ℕ) (u : Walker) → walker p ≡ Some u → IsWithinReach memory s u.place
  reaches p u is =
      let came = (c.agree.walks p u is).arrived in
      let some = c.agree.node u.place p came in
      elim (eqb_tells u.place 1) [
        | inl e ↦ inl e.1
        | inr e ↦ let other = e.1 in inr (parent_marked b (mark_at memory s) (x_at memory s) (y_at memory s) walker c.agree u.place p (omega arith) came)
      ]

  module _ (tree : IsTreeMemory memory) (p : ℕ) (u : Walker) (is : walker p ≡ Some u) where
    -- the access of a walk that visits is one to its node's splitter
    visit_is : u.is_marking ≡ false → next_access u ≡ in_words (access_at p (X u.place) (Y u.place) u.visitor.stage)
    visit_is m = let walk = c.agree.walks p u is in rw (m, walk.identity, walk.x, walk.y) refl

    marking_is : u.is_marking ≡ true → next_access u ≡ Write (Mark u.place) (Word 1)
    marking_is m = rw m refl

    abbrev GoesOn : Access TreeRegister TreeValue → Type 0
    GoesOn a = IsConsistent memory most b (memory.after s a) (set_at walker p (Some (walker_after u (answer_from (memory.register s) a))))

    marks_on : u.is_marking ≡ true → GoesOn (Write (Mark u.place) (Word 1))
    marks_on m = record {
      few = c.few;
      room = c.room;
      agree = rw (marks_by_marking memory tree s u.place (reaches p u is), x_by_marking memory tree s u.place, y_by_marking memory tree s u.place, m)
          (marked_node b (mark_at memory s) (x_at memory s) (y_at memory s) walker c.agree p u is);
    }

    visits_on : u.is_marking ≡ false → GoesOn (in_words (access_at p (X u.place) (Y u.place) u.visitor.stage))
    visits_on m =
        let walk = c.agree.walks p u is in
        let marked = walk.marked m in
        let few : b ≤ 64 = (let f = c.few in let r = c.room in omega arith) in
        let a : Access TreeRegister TreeValue = in_words (access_at p (X u.place) (Y u.place) u.visitor.stage) in
        let stage = visit_reaches memory tree s p u.place marked u.visitor walk.identity walk.x walk.y u.visitor.stage refl in
        let reached : VisitStage = stage_by u.visitor (reported (answer_from (memory.register s) a)) in
        let next = agrees_next b few (mark_at memory s) (x_at memory s) (y_at memory s) walker c.agree p u is m reached (sym stage) in
        let after_is : walker_after u (answer_from (memory.register s) a) ≡ walked_to u reached = ap (λ (t : Bool). cond t (record u { is_marking = false }) (walked_to u reached)) m in
        record {
          few = c.few;
          room = c.room;
          agree = rw (marks_by_visit memory tree s p u.place marked u.visitor.stage, x_by_visit memory tree s p u.place marked u.visitor.stage, y_by_visit memory tree s p u.place marked u.visitor.stage)
              (subst (λ (w : Walker). NodesAgree b (mark_at memory s) (set_at (x_at memory s) u.place (x_after p u.visitor.stage (x_at memory s u.place))) (set_at (y_at memory s) u.place (y_after u.visitor.stage (y_at memory s u.place))) (set_at walker p (Some w))) (sym after_is) next);
        }

    -- an access of a walk
    pub gone_on : GoesOn (next_access u)
    gone_on = elim (cases_Bool u.is_marking) [
      | inl m ↦ subst GoesOn (sym (marking_is m)) (marks_on m)
      | inr m ↦ subst GoesOn (sym (visit_is m)) (visits_on m)
    ]

    -- it leaves the segments
    pub segments : (k : ℕ) → segment_at memory (memory.after s (next_access u)) k ≡ segment_at memory s k
    segments k = elim (cases_Bool u.is_marking) [
      | inl m ↦ subst (λ (a : Access TreeRegister TreeValue). segment_at memory (memory.after s a) k ≡ segment_at memory s k) (sym (marking_is m)) (segment_spared memory tree s (Write (Mark u.place) (Word 1)) k (λ h. absurd (cc)))
      | inr m ↦ subst (λ (a : Access TreeRegister TreeValue). segment_at memory (memory.after s a) k ≡ segment_at memory s k) (sym (visit_is m)) (segments_by_visit memory tree s p u.place ((c.agree.walks p u is).marked m) u.visitor.stage k)
    ]

    -- it marks the node before which it stands, and leaves the other marks
    pub marks : (k : ℕ) → (mark_at memory (memory.after s (next_access u)) k ≡ 1) ↔ (((u.is_marking ≡ true) × (u.place ≡ k)) ⊎ (mark_at memory s k ≡ 1))
    marks k = elim (cases_Bool u.is_marking) [
      | inl m ↦
          let now : mark_at memory (memory.after s (next_access u)) k ≡ set_at (mark_at memory s) u.place 1 k = ap (λ (a : Access TreeRegister TreeValue). mark_at memory (memory.after s a) k) (marking_is m) ∙ ap (λ (f : ℕ → ℕ). f k) (marks_by_marking memory tree s u.place (reaches p u is)) in
          elim (eqb_tells k u.place) [
            | inl e ↦ (λ _. inl (m, sym e.1), λ _. now ∙ rw e.0 refl)
            | inr e ↦ (λ h. inr (sym (set_at-other (mark_at memory s) u.place 1 k e.1) ∙ sym now ∙ h), λ o. elim o [ inl at ↦ absurd (e.1 (sym at.1)) | inr h ↦ now ∙ set_at-other (mark_at memory s) u.place 1 k e.1 ∙ h ])
          ]
      | inr m ↦
          let now : mark_at memory (memory.after s (next_access u)) k ≡ mark_at memory s k = ap (λ (a : Access TreeRegister TreeValue). mark_at memory (memory.after s a) k) (visit_is m) ∙ ap (λ (f : ℕ → ℕ). f k) (marks_by_visit memory tree s p u.place ((c.agree.walks p u is).marked m) u.visitor.stage) in
          (λ h. inr (sym now ∙ h), λ o. elim o [ inl at ↦ absurd (let marking : u.is_marking ≡ true = at.0 in cc) | inr h ↦ now ∙ h ])
    ]

    no_marking : (stage : VisitStage) (k : ℕ) (v : TreeValue) → in_words (access_at p (X u.place) (Y u.place) stage) ≡ Write (Mark k) v → ⊥
    no_marking Outside k v h = cc
    no_marking stage k v h = cc

    -- it is refused only where it makes a node
    pub refused : memory.may_refuse s (next_access u) ≡ true → (u.is_marking ≡ true) × (mark_at memory s u.place ≡ 0)
    refused h =
        let x = tree.refuses s (next_access u) h in
        elim (cases_Bool u.is_marking) [
          | inl m ↦ (m, (let one : Access TreeRegister TreeValue = Write (Mark u.place) (Word 1) in let same : one ≡ Write (Mark x.0) x.1 = sym (marking_is m) ∙ x.2 in let own : u.place ≡ x.0 = cc in rw own x.3))
          | inr m ↦ absurd (no_marking u.visitor.stage x.0 x.1 (sym (visit_is m) ∙ x.2))
        ]

-- a tree of no nodes
pub consistent_new : {S : Type 0} (memory : MemorySteps S TreeRegister TreeValue) (most : ℕ) (s : S) → IsEmptyTree memory s → most ≤ 64 → IsConsistent memory most 0 s (λ p. None)
consistent_new memory most s empty few = record {
  few = few;
  room = omega arith;
  agree = agree_new (mark_at memory s) (x_at memory s) (y_at memory s) empty.unmarked empty.not_taken;
}
