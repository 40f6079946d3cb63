-- just the nodes are marked that were made
use Rattle.std.proofs.Common.{◌≡◌, ℕ, ◌≤◌, Bool, ◌⊎◌, inl, inr, List, [], length, Option, Some, None, Ok, Result, refl, sym, ap, ◌∙◌, ◌↔◌}
use Rattle.model_splitter.proofs.tree_lemmas.WorldCommon.{fun_ext, Refusal, MemorySteps, begin_refusal, begun_unless, begun_in, TreeRegister, Mark, TreeValue, Walker, mark_at, word_in, IsTreeMemory, IsEmptyTree, place_of, client_of, record_of, collect_reads, TreeState, after_store, after_collect_begin, after_collecting, Run, fresh_over, TreeCall, next, IsReply, Began, Stepped, Stored, CollectBegan, CollectStepped, IsNodeWithin, way_calls, walker_in, walkers}
use Rattle.model_steps.proofs.cited.RunLemmas.{run_gathers}
use Rattle.model_splitter.specs.tree.Made.{Marks, WasMade}
use Rattle.model_splitter.proofs.cited.tree.nodes.ConsistentKept.{marks}
use Rattle.model_splitter.proofs.tree_lemmas.CallCases.{IsStep, step_cases, store_cases, collect_begin_cases, collect_step_cases}
use Rattle.model_splitter.proofs.tree_lemmas.PlacesTied.{SparesNodes, IsTied, all_go, call_kept, tied_new, tied_after, tree_of_tied, store_spares, read_spares}

module _ {S : Type 0} (memory : MemorySteps S TreeRegister TreeValue) (tree : IsTreeMemory memory) where
  -- after a call a node is marked that was, and the one that the call marks
  abbrev MarkedBy : TreeState S → TreeState S → TreeCall → ℕ → Type 0
  MarkedBy w new h k = (mark_at memory new.memory k ≡ 1) ↔ (Marks memory w h k ⊎ (mark_at memory w.memory k ≡ 1))

  -- a call that marks no node
  quiet_call : (w new : TreeState S) (h : TreeCall) (k : ℕ) → mark_at memory new.memory ≡ mark_at memory w.memory → (Marks memory w h k → ⊥) → MarkedBy w new h k
  quiet_call w new h k same none =
      let now : mark_at memory new.memory k ≡ mark_at memory w.memory k = ap (λ (f : ℕ → ℕ). f k) same in
      (λ some. inr (sym now ∙ some), λ o. elim o [ inl at ↦ absurd (none at) | inr some ↦ now ∙ some ])

  same_marks : (w new : TreeState S) → new ≡ w → mark_at memory new.memory ≡ mark_at memory w.memory
  same_marks w new e = ap (λ (x : TreeState S). mark_at memory x.memory) e

  memory_begun : (w : TreeState S) (id : ℕ) → mark_at memory (next memory w (Began id (Ok tt))).memory ≡ mark_at memory w.memory
  memory_begun w id = elim (begin_refusal w id) as (λ o. mark_at memory (begun_unless o w id (client_of id)).memory ≡ mark_at memory w.memory) [ None ↦ refl | Some why ↦ refl ]

  -- nor does one that leaves the nodes, but for segments
  spared_marks : (w new : TreeState S) (s : S) → new.memory ≡ s → SparesNodes memory w.memory s → mark_at memory new.memory ≡ mark_at memory w.memory
  spared_marks w new s e spares = ap (mark_at memory) e ∙ fun_ext (λ k. ap (λ (x : TreeValue × Bool). word_in x.0) (spares (Mark k) (λ j h. absurd (cc))))

  module _ (w : TreeState S) (past : List TreeCall) (t : IsTied memory tree w past) where
    -- an accepted step on the way marks the node that its walk marks
    step_call : (id k : ℕ) (reply : Result (Option ℕ) Refusal) (new : TreeState S) → IsStep memory w id reply new → MarkedBy w new (Stepped id reply) k
    step_call id k reply new x =
        let u : Walker = x.who.program.walker in
        let is : walkers w.participants id ≡ Some u = ap walker_in x.here in
        let change = marks memory w.most (length w.participants) w.memory (walkers w.participants) t.consistent tree id u is k in
        rw (x.after, x.is) (
          λ some. elim (change.0 some) [ inl at ↦ inl (u, is, at.0, at.1) | inr stood ↦ inr stood ],
          λ o. elim o [
            | inl e ↦
                let own : u ≡ e.0 = (let both : Some u ≡ Some e.0 = sym is ∙ e.1 in cc) in
                change.1 (inl (ap (λ (v : Walker). v.is_marking) own ∙ e.2, ap (λ (v : Walker). v.place) own ∙ e.3))
            | inr stood ↦ change.1 (inr stood)
          ],
        )

    one_call : (h : TreeCall) → IsReply memory w h → (k : ℕ) → MarkedBy w (next memory w h) h k
    one_call (Began id reply) is k = quiet_call w (next memory w (Began id reply)) (Began id reply) k (memory_begun w id) (λ never. never)
    one_call (Stepped id reply) is k = elim (step_cases memory w id (all_go memory tree w past t) reply is) [
      | inl x ↦ quiet_call w (next memory w (Stepped id reply)) (Stepped id reply) k (same_marks w (next memory w (Stepped id reply)) x.same) (rw x.is (λ never. never))
      | inr x ↦ step_call id k reply (next memory w (Stepped id reply)) x
    ]
    one_call (Stored id value reply) is k = quiet_call w (after_store memory w id value) (Stored id value reply) k (elim (store_cases memory w id value reply is) [
      | inl x ↦ same_marks w (after_store memory w id value) x.same
      | inr x ↦ spared_marks w (after_store memory w id value) _ (ap (λ (y : TreeState S). y.memory) x.after) (store_spares memory tree w.memory (place_of x.who.program.walker) (record_of x.who.program value))
    ]) (λ never. never)
    one_call (CollectBegan id reply) is k = quiet_call w (after_collect_begin w id) (CollectBegan id reply) k
        (elim (collect_begin_cases memory w id reply is) [ inl x ↦ same_marks w (after_collect_begin w id) x.same | inr x ↦ ap (λ (y : TreeState S). mark_at memory y.memory) x.after ]) (λ never. never)
    one_call (CollectStepped id reply) is k = quiet_call w (after_collecting memory w id) (CollectStepped id reply) k
        (elim (collect_step_cases memory w id (all_go memory tree w past t) reply is) [
          | inl x ↦ same_marks w (after_collecting memory w id) x.same
          | inr x ↦ spared_marks w (after_collecting memory w id) _ (ap (λ (y : TreeState S). y.memory) x.after) (read_spares memory tree w.memory (collect_reads x.collect))
        ]) (λ never. never)

  pub marked_made : (first : S) (most : ℕ) (w : TreeState S) (r : List TreeCall) → IsEmptyTree memory first → most ≤ 64 → Run (next memory) (IsReply memory) (fresh_over memory (first, most)) r w →
      (k : ℕ) → (mark_at memory w.memory k ≡ 1) ↔ WasMade memory first most r k
  marked_made first most w r empty few a k =
      let over = run_gathers (next memory) (IsReply memory) (IsTied memory tree) (call_kept memory tree) (λ u h. Marks memory u h k) (λ u. mark_at memory u.memory k ≡ 1)
      (λ u past h t is. one_call u past t h is k) (fresh_over memory (first, most)) [] r w (tied_new memory tree first most empty few) a in
      (λ some. elim (over.0 some) [ inl was ↦ was | inr stood ↦ absurd (let none = empty.unmarked k in let both : 0 ≡ 1 = sym none ∙ stood in cc) ], λ was. over.1 (inl was))

  -- of these, all lie at depths below the number of those who have begun
  pub made_within : (first : S) (most : ℕ) (w : TreeState S) (r : List TreeCall) → IsEmptyTree memory first → most ≤ 64 → Run (next memory) (IsReply memory) (fresh_over memory (first, most)) r w →
      (k : ℕ) → WasMade memory first most r k → IsNodeWithin (begun_in (way_calls r)) k
  made_within first most w r empty few a k was =
      let set : mark_at memory w.memory k ≡ 1 = (marked_made first most w r empty few a k).1 was in
      (tree_of_tied memory tree w r (tied_after memory tree first most w r empty few a)).made k (λ e. absurd (let both : 0 ≡ 1 = sym e ∙ set in cc))
