-- the invariant that relates the nodes of a tree to the walks in it, which structures over the tree use
use Rattle.std.specs.Prelude.{◌≡◌, ◌≢◌, ℕ, ◌+◌, ◌-◌, ◌*◌, ◌<◌, ◌≤◌, Bool, true, false, not, ◌==◌, if◌then◌else◌, List, length, Option, Some, None, IsSome}
use Rattle.std.proofs.Common.{get_or}
use Rattle.model_steps.specs.Steps.{MemorySteps}
use Rattle.model_splitter.specs.declared.stage.VisitStage.{VisitStage}
use Rattle.model_splitter.specs.declared.stage.VisitStage.TheVariants.{Outside}
use Rattle.model_splitter.specs.Stage.{has_entered, went_right, went_down}
use Rattle.model_splitter.specs.Invariant.{DoorSatisfiesSpec}
use Rattle.model_splitter.specs.Walk.{accesses_at}
use Rattle.model_splitter.specs.declared.tree.register.TreeRegister.{TreeRegister}
use Rattle.model_splitter.specs.declared.tree.register.TreeRegister.TheVariants.{X, Y}
use Rattle.model_splitter.specs.declared.tree.register.TreeValue.{TreeValue}
use Rattle.model_splitter.specs.declared.tree.walker.Walker.{Walker}
use Rattle.model_splitter.specs.tree.TreeMemory.{mark_at, x_at, y_at}
use Rattle.model_splitter.specs.tree.Walk.{place_by}
use Rattle.model_steps.specs.Count.{count_to}
use Rattle.model_splitter.specs.tree.Depth.{depth_of, IsNodeWithin}
use Rattle.model_splitter.specs.tree.NodeOrder.{IsUnder}
use Rattle.model_steps.specs.Distinct.{AreDistinct}

-- the walk of p agrees with the visits. It is at a node that it reached, writes the mark before it visits, has not left
-- the node, and has entered no node of a larger number
pub record IsWalkOf (mark : ℕ → ℕ) (stage : ℕ → ℕ → VisitStage) (came : ℕ → ℕ → Bool) (p : ℕ) (u : Walker) : Type 0 where
  pub identity : u.visitor.identity ≡ p
  pub x : u.visitor.x ≡ X u.place
  pub y : u.visitor.y ≡ Y u.place
  pub here : stage u.place p ≡ u.visitor.stage
  pub arrived : came u.place p ≡ true
  pub marking : u.is_marking ≡ true → u.visitor.stage ≡ Outside
  pub marked : u.is_marking ≡ false → mark u.place ≡ 1
  pub not_right : went_right u.visitor.stage ≡ false
  pub not_down : went_down u.visitor.stage ≡ false
  pub below : (k : ℕ) → u.place < k → stage k p ≡ Outside

-- b have begun, and the mark, X and Y of node k hold these values. Two fields have the past: the stage of p's visit to
-- node k, and whether p reached it. If it did, it is before it, visits it, or has passed it
pub record NodesAgree (b : ℕ) (mark x_of y_of : ℕ → ℕ) (walker : ℕ → Option Walker) : Type 0 where
  pub stage : ℕ → ℕ → VisitStage
  pub came : ℕ → ℕ → Bool
  -- the participants that have begun
  pub identities : List ℕ
  pub many : length identities ≡ b
  pub nobody : walker 0 ≡ None
  -- each walk agrees with the visits, and a participant that has not begun made none
  pub walks : (p : ℕ) (u : Walker) → walker p ≡ Some u → IsWalkOf mark stage came p u
  pub absent : (p : ℕ) → walker p ≡ None → (k : ℕ) → stage k p ≡ Outside
  -- the splitter of each node keeps its invariant
  pub splitters : (k : ℕ) → DoorSatisfiesSpec (x_of k) (y_of k) (stage k)
  -- a participant that entered the splitter of a node reached the node, and one that reached a node has begun
  pub entered : (k p : ℕ) → has_entered (stage k p) ≡ true → came k p ≡ true
  pub listed : (k p : ℕ) → came k p ≡ true → (i : ℕ) × (i < length identities) × (get_or identities i 0 ≡ p)
  -- a participant reached the root, or went down or right from the node above
  pub node : (k p : ℕ) → came k p ≡ true → 1 ≤ k
  pub came_down : (k p : ℕ) → 1 ≤ k → came (2 * k) p ≡ true → went_down (stage k p) ≡ true
  pub came_right : (k p : ℕ) → 1 ≤ k → came (2 * k + 1) p ≡ true → went_right (stage k p) ≡ true
  -- a node whose splitter was entered is marked, and a node that is marked was reached
  pub marked : (k p : ℕ) → has_entered (stage k p) ≡ true → mark k ≡ 1
  pub marker : (k : ℕ) → mark k ≢ 0 → (p : ℕ) × (came k p ≡ true)

-- the most accesses of a walk up to here: five at each node that it passed, and those at its node
abbrev pub accesses_of : Walker → ℕ
accesses_of u = 5 * depth_of u.place + (if u.is_marking then 0 else accesses_at u.visitor.stage + 1)

abbrev pub accesses_by : Option Walker → ℕ
accesses_by None = 0
accesses_by (Some u) = accesses_of u

module _ {S : Type 0} (memory : MemorySteps S TreeRegister TreeValue) where
  -- of at most `most` participants, b have begun, and the nodes in this memory and the walks agree
  pub record IsConsistent (most b : ℕ) (s : S) (walker : ℕ → Option Walker) : Type 0 where
    pub few : most ≤ 64
    pub room : b ≤ most
    pub agree : NodesAgree b (mark_at memory s) (x_at memory s) (y_at memory s) walker

  -- whether node k is marked, by which it is made
  abbrev pub was_made : S → ℕ → Bool
  was_made s k = not (mark_at memory s k == 0)

  -- the invariant of the tree, of b walks and the nodes in this memory. The places at which walks have ended are
  -- distinct nodes. These, and all nodes that were made, have depths below b. At most 2b - 1 nodes were made, and with
  -- each node all nodes from the root down to it. No walk makes more than 5b accesses, and one that has made 5b, and
  -- any at all, has a place
  pub record IsTree (b : ℕ) (s : S) (walker : ℕ → Option Walker) : Type 0 where
    pub distinct : AreDistinct (λ p. place_by (walker p))
    pub within : (p place : ℕ) → place_by (walker p) ≡ Some place → IsNodeWithin b place
    pub placed : (p place : ℕ) → place_by (walker p) ≡ Some place → mark_at memory s place ≡ 1
    pub made : (k : ℕ) → mark_at memory s k ≢ 0 → IsNodeWithin b k
    pub few_made : (n : ℕ) → count_to (was_made s) n ≤ 2 * b - 1
    pub ancestors : (k above : ℕ) → mark_at memory s k ≡ 1 → IsUnder above k → 1 ≤ above → mark_at memory s above ≡ 1
    pub at_most : (p : ℕ) → accesses_by (walker p) ≤ 5 * b
    pub last_places : (p : ℕ) → 0 < accesses_by (walker p) → accesses_by (walker p) ≡ 5 * b → IsSome (place_by (walker p))
