-- the law of a snapshot object over a tree
use Rattle.std.proofs.Common.{◌≡◌, ℕ, ◌+◌, ◌-◌, ◌*◌, ◌≤◌, true, false, cond, length, Some, None, refl, sym, ap, ◌∙◌, arith, option_map}
use Rattle.model_steps.specs.Participant.{participant_of}
use Rattle.model_steps.specs.World.{may_refuse_by}
use Rattle.model_splitter.specs.tree.TreeSteps.{tree_steps}
use Rattle.model_splitter.specs.tree.Invariant.{IsConsistent}
use Rattle.model_splitter.specs.tree.Walk.{next_access}
use Rattle.model_splitter.proofs.cited.tree.nodes.ConsistentKept.{refused}
use Rattle.model_splitter.proofs.cited.tree.nodes.TreeLaw.{tree_law as law_of_tree}
use Rattle.model_splitter.proofs.cited.tree.TreeMemoryLemmas.{tree_memory}
use Rattle.model_renaming.specs.declared.over.tree_walker.TreeWalker.{TreeWalker}
use Rattle.model_renaming.specs.declared.over.tree_walk.TreeWalk.{TreeWalk}
use Rattle.model_renaming.specs.over.Tree.{TreeState, new_tree, tree_places_steps}
use Rattle.model_renaming.specs.over.TreeTies.{walks_of, tree_places}
pub use Rattle.model_renaming.specs.lemmas.EmptyPlaces.{is_new}
use Rattle.model_renaming.specs.lemmas.over.TreeProofs.{tree_laws}
use Rattle.model_renaming.specs.over.Bounds.{tree_bounds}
use Rattle.model_renaming.specs.over.Made.{MakesNode, IsFromNewTree, KeepsTree, LacksAtNode}
use Rattle.model_snapshot.specs.declared.client.Client.{Client}
use Rattle.model_snapshot.specs.declared.client.Pending.TheVariants.{Placing}
use Rattle.model_snapshot.specs.Places.{BeginsAlike, BoundsScans}
use Rattle.model_snapshot.specs.SnapWorld.{SnapState, clients_over, ways_of}
use Rattle.model_snapshot.specs.Machine.{SatisfiesSpecFrom}
use Rattle.model_snapshot.proofs.cited.Following.{law_holds, consistent_holds}
use Rattle.model_snapshot.proofs.cited.SureSteps.{lacks_on_way}

pub fits_tree : (most : ℕ) → BoundsScans tree_places most (tree_bounds most).scanning
fits_tree most b some l =
    let same : 3 * (2 * b - 1) + 1 ≡ 6 * b - 2 = omega arith in
    let all : (b + 1) * (3 * (2 * b - 1) + 1) ≡ (b + 1) * (6 * b - 2) = ap (λ n. (b + 1) * n) same in
    omega arith

-- every way begins before the root, and so does every walk
pub tree_alike : BeginsAlike tree_places
tree_alike = record { way = λ b c p. refl; walk = λ t other b c ways others i k size. refl }

module _ (w : SnapState TreeState TreeWalker TreeWalk) where
  pub tree_law : w.most ≤ 64 → SatisfiesSpecFrom tree_places (new_tree w.most) (tree_bounds w.most) w
  tree_law few r a = law_holds tree_places tree_laws w (new_tree w.most) r a (is_new w.most few) (λ b. (b + 1) * (6 * b - 2)) (fits_tree w.most)

module _ (w : SnapState TreeState TreeWalker TreeWalk) (new : IsFromNewTree w) where
  consistent : IsConsistent tree_steps w.memory.most (length w.participants) w.memory.nodes (walks_of (ways_of w.participants))
  consistent = consistent_holds tree_places tree_laws w (new_tree w.most) new.1 new.2 (is_new w.most new.0)

  -- the tree's law holds of the nodes and the walks
  pub tree_nodes : KeepsTree w
  tree_nodes = law_of_tree tree_steps w.memory.most (length w.participants) w.memory.nodes (walks_of (ways_of w.participants)) consistent

  -- only a step that makes a node may want memory
  pub tree_makes : (p : ℕ) → LacksAtNode w p
  tree_makes p may = elim (participant_of p w.participants) as (λ z. participant_of p w.participants ≡ z → may_refuse_by (clients_over tree_places) tree_places_steps w.memory z ≡ true → MakesNode w p) [
    | None ↦ λ e h. absurd (cc)
    | Some v ↦ λ e h. elim v.ended as (λ b. cond b false (tree_places_steps.may_refuse w.memory ((clients_over tree_places).next v.program)) ≡ true → MakesNode w p) [
      | true ↦ λ k. absurd (cc)
      | false ↦ λ k.
          let on_way = lacks_on_way tree_places tree_laws w p may in
          let there : Some v.program ≡ Some on_way.0 = ap (option_map (λ u. u.program)) (sym e) ∙ on_way.1 in
          let same : v.program ≡ on_way.0 = cc in
          let pending : v.program.pending ≡ Placing = ap (λ (c : Client TreeWalker TreeWalk). c.pending) same ∙ on_way.2 in
          let refuses : tree_steps.may_refuse w.memory.nodes (next_access v.program.walker.walker) ≡ true = rw pending at k in
          let is : walks_of (ways_of w.participants) p ≡ Some v.program.walker.walker = rw e refl in
          let unmarked = refused tree_steps w.memory.most (length w.participants) w.memory.nodes (walks_of (ways_of w.participants)) consistent tree_memory p v.program.walker.walker is refuses in
          record { client = v.program; is = rw e refl; placing = pending; marking = unmarked.0; unmarked = unmarked.1 }
    ] h
  ] refl may
