-- the law of renaming over a grid, over a tree and over segments in a row
use Rattle.std.proofs.lemmas.Nat.{mul-le}
use Rattle.std.proofs.Common.{arith, ◌+◌, ◌-◌, ◌*◌, ◌≡◌, ℕ, ◌≤◌, true, false, List, Option, refl, ap, subst, ◌∙◌}
use Rattle.model_renaming.proofs.Common.{Reaches, snapshot, RenameState}
use Rattle.model_snapshot.specs.FixedTies.{fixed_places, fixed_bounds}
use Rattle.model_snapshot.specs.lemmas.FixedProofs.{fixed_laws}
use Rattle.model_renaming.specs.over.Bounds.{grid_bounds, tree_bounds}
use Rattle.model_renaming.specs.lemmas.over.GridProofs.{grid_laws}
use Rattle.model_renaming.specs.over.GridState.{GridState}
use Rattle.model_renaming.specs.over.GridTies.{grid_places}
use Rattle.model_renaming.specs.over.Made.{MakesNode}
use Rattle.model_renaming.specs.over.Tree.{TreeState, new_tree}
use Rattle.model_renaming.specs.lemmas.over.TreeProofs.{tree_laws}
use Rattle.model_renaming.specs.over.TreeTies.{tree_places}
use Rattle.model_renaming.specs.declared.over.grid_walk.GridWalk.{GridWalk}
use Rattle.model_renaming.specs.declared.over.grid_walker.GridWalker.{GridWalker}
use Rattle.model_renaming.specs.declared.over.tree_walk.TreeWalk.{TreeWalk}
use Rattle.model_renaming.specs.declared.over.tree_walker.TreeWalker.{TreeWalker}
use Rattle.model_snapshot.proofs.cited.FixedLaw.{fits_row}
use Rattle.model_renaming.proofs.cited.over.GridLaw.{fits_grid, grid_alike}
use Rattle.model_renaming.proofs.over_lemmas.TreeLaw.{fits_tree, tree_alike, tree_makes}
use Rattle.model_snapshot.specs.declared.fixed.FixedWalk.{FixedWalk}
use Rattle.model_snapshot.specs.declared.fixed.FixedWalker.{FixedWalker}
use Rattle.model_steps.specs.declared.record.Record.{Record}
use Rattle.model_renaming.specs.lemmas.Ample.{fixed_ample, grid_ample}
use Rattle.model_asked.specs.declared.kind.WorldKind.TheVariants.{Rename, Tree}
use Rattle.model_renaming.specs.Machine.{SatisfiesSpecWithin, LacksOnly, BeginsTheSame}
use Rattle.model_renaming.proofs.rounds.Beginners.{begins_alike}
use Rattle.model_renaming.proofs.Names.{MayBeNamed, rename_law, most_is, snap_after}

grid_named : (most : ℕ) → MayBeNamed grid_places false most (grid_bounds most).scanning
grid_named most = record { laws = grid_laws; fits = fits_grid most; may_grow = λ s p h. grid_ample s.snap p h; at_once = λ b q. refl; longer = λ b. omega arith }

pub grid_lawful : (w : RenameState GridState GridWalker GridWalk) → SatisfiesSpecWithin grid_places Rename grid_bounds w
grid_lawful w first r a = rename_law grid_places Rename (grid_bounds (grid_places.most_of first.0)).scanning first (grid_named (grid_places.most_of first.0)) w r a

pub grid_begins_alike : (p : ℕ) → BeginsTheSame grid_places Rename p
grid_begins_alike = begins_alike grid_places grid_laws Rename (λ m. (grid_bounds m).scanning) grid_named grid_alike

tree_named : (most : ℕ) → MayBeNamed tree_places true most (tree_bounds most).scanning
tree_named most = record { laws = tree_laws; fits = fits_tree most; may_grow = λ s p h. refl; at_once = λ b q. refl; longer = λ b. mul-le (b + 1) (6 * b - 2) (b + 1 + 1) (6 * (b + 1) - 2) (omega arith) (omega arith) }

pub tree_lawful : (w : RenameState TreeState TreeWalker TreeWalk) → SatisfiesSpecWithin tree_places Tree tree_bounds w
tree_lawful w first r a = rename_law tree_places Tree (tree_bounds (tree_places.most_of first.0)).scanning first (tree_named (tree_places.most_of first.0)) w r a

pub tree_begins_alike : (p : ℕ) → BeginsTheSame tree_places Tree p
tree_begins_alike = begins_alike tree_places tree_laws Tree (λ m. (tree_bounds m).scanning) tree_named tree_alike

fixed_named : (most : ℕ) → MayBeNamed fixed_places false most (fixed_bounds most).scanning
fixed_named most = record { laws = fixed_laws; fits = fits_row most; may_grow = λ s p h. fixed_ample s.snap p h; at_once = λ b q. refl; longer = λ b. omega arith }

pub fixed_lawful : (w : RenameState (List (Option Record)) FixedWalker FixedWalk) → SatisfiesSpecWithin fixed_places Rename fixed_bounds w
fixed_lawful w first r a = rename_law fixed_places Rename (fixed_bounds (fixed_places.most_of first.0)).scanning first (fixed_named (fixed_places.most_of first.0)) w r a

-- only a step that makes a node may want memory
pub tree_lacks : (w : RenameState TreeState TreeWalker TreeWalk) (p : ℕ) → LacksOnly tree_places Tree w p (MakesNode w.snap p)
tree_lacks w p first r a may =
    let named = tree_named (tree_places.most_of first.0) in
    let scanning = (tree_bounds (tree_places.most_of first.0)).scanning in
    let size : first.0.most ≡ w.snap.most = most_is tree_places Tree scanning first named w r a in
    let new : first.0 ≡ new_tree w.snap.most = ap (λ (n : _). record { nodes = n; most = first.0.most }) a.started.new.empty ∙ ap new_tree size in
    let calls = snap_after tree_places Tree scanning first named w r a in
    let few : w.snap.most ≤ 64 = rw (← size) a.started.new.few in
    tree_makes w.snap (few, calls.0, subst (λ (t : TreeState). Reaches (snapshot tree_places) t w.snap calls.0) new calls.1) p may
