-- what is promised of places in a tree
use Rattle.std.proofs.Common.{if◌then◌else◌, ◌≡◌, ◌≢◌, ℕ, ◌+◌, Bool, true, false, Option, Some, None, inl, inr, refl, ap, arith, add-one}
use Rattle.std.specs.Prelude.{option_map}
use Rattle.std.proofs.Math.Path.{fun_ext}
use Rattle.model_steps.specs.declared.access.Access.{Access}
use Rattle.model_steps.specs.declared.access.Access.TheVariants.{Write, TestAndSet, Clear}
use Rattle.model_steps.specs.declared.access.Answer.{Answer}
use Rattle.model_steps.specs.SetAt.{set_at}
use Rattle.model_steps.proofs.cited.SetAtLemmas.{set_at-map}
use Rattle.model_steps.specs.Steps.{Spares, ReadsOrWrites, answer_from}
use Rattle.model_steps.specs.declared.record.Record.{Record}
use Rattle.model_splitter.specs.declared.tree.register.TreeRegister.{TreeRegister}
use Rattle.model_splitter.specs.declared.tree.register.TreeRegister.TheVariants.{Mark, X, Y, Contents}
use Rattle.model_splitter.specs.declared.tree.register.TreeValue.{TreeValue}
use Rattle.model_splitter.specs.declared.tree.register.TreeValue.TheVariants.{Word, Contents as Held}
use Rattle.model_splitter.specs.declared.tree.walker.Walker.{Walker}
use Rattle.model_splitter.specs.declared.stage.VisitStage.{VisitStage}
use Rattle.model_splitter.specs.declared.stage.VisitStage.TheVariants.{Outside}
use Rattle.model_splitter.specs.Visitor.{access_at, access_of}
use Rattle.model_splitter.specs.tree.TreeSteps.{NodeMap, tree_steps}
use Rattle.model_splitter.specs.lemmas.tree.TreeProofs.{others_kept}
use Rattle.model_splitter.specs.tree.TreeMemory.{word_in, segment_in}
use Rattle.model_splitter.specs.tree.Walk.{in_words, next_access, place_of, place_by}
use Rattle.model_splitter.specs.tree.CollectWalk.{finds_mark}
use Rattle.model_splitter.specs.tree.Invariant.{IsConsistent, IsTree}
use Rattle.model_splitter.specs.tree.Ahead.{marked_in, found_by, HasGrown}
use Rattle.model_splitter.proofs.cited.tree.nodes.ConsistentKept.{consistent_new, begun, gone_on, elsewhere, segments}
use Rattle.model_splitter.proofs.cited.tree.nodes.TreeLaw.{tree_law, nearer, unplaced}
use Rattle.model_splitter.proofs.cited.tree.nodes.WalkerLemmas.{ended_there}
use Rattle.model_splitter.proofs.cited.tree.TreeMemoryLemmas.{tree_memory, tree_empty}
use Rattle.model_splitter.proofs.cited.tree.collects.WalkLemmas.{ahead_kept, ahead_resumed, register_is, upcoming_before, read_once}
use Rattle.model_splitter.proofs.cited.tree.collects.ReadCount.{read_at_first, read_here, read_kept, read_resumed}
use Rattle.model_splitter.proofs.cited.tree.collects.PlacesAhead.{sees, marks_spared, place_ahead, walk_few, marks_grow}
use Rattle.model_renaming.specs.declared.over.tree_walker.TreeWalker.{TreeWalker}
use Rattle.model_renaming.specs.declared.over.tree_walk.TreeWalk.{TreeWalk}
use Rattle.model_renaming.specs.over.Tree.{TreeState, register_in, tree_after, tree_walker_steps, tree_walker}
use Rattle.model_renaming.specs.over.TreeTies.{walks_of, tree_ties, tree_places}
use Rattle.model_snapshot.specs.Places.{KeepsWalks, HasGoneOn, HasWritten, ReadsOn, PlacesLaws}

-- an access changes no register but the one that it names
pub tree_others_kept : (t : TreeState) (a : Access TreeRegister TreeValue) (r : TreeRegister) → Spares a r → register_in (tree_after t a) r ≡ register_in t r
tree_others_kept t a r h = others_kept t.nodes a r h

-- the walks, with another in the place of p's
walks_with : (ways : ℕ → Option TreeWalker) (p : ℕ) (u : TreeWalker) → walks_of (set_at ways p (Some u)) ≡ set_at (walks_of ways) p (Some u.walker)
walks_with ways p u = fun_ext (set_at-map (option_map (λ (v : TreeWalker). v.walker)) ways p (Some u))

on_way : (ways : ℕ → Option TreeWalker) (p : ℕ) (u : TreeWalker) → ways p ≡ Some u → walks_of ways p ≡ Some u.walker
on_way ways p u e = ap (option_map (λ (v : TreeWalker). v.walker)) e

-- marks that stay let walks go on
tree_keeps_walks : (t : TreeState) (nodes : NodeMap) → HasGrown (marked_in tree_steps t.nodes) (marked_in tree_steps nodes) → KeepsWalks tree_places t (record { nodes = nodes; most = t.most })
tree_keeps_walks t nodes grown = record {
  most = refl;
  beginning = refl;
  ahead = λ k x h. ahead_kept (marked_in tree_steps t.nodes) (marked_in tree_steps nodes) k.walk x grown h;
  read = λ k j h. (h.0, read_kept (marked_in tree_steps t.nodes) (marked_in tree_steps nodes) k.walk h.0 j grown h.1);
}

module _ (t : TreeState) (b : ℕ) (ways : ℕ → Option TreeWalker) (c : IsConsistent tree_steps t.most b t.nodes (walks_of ways)) where
  tree : IsTree tree_steps b t.nodes (walks_of ways)
  tree = tree_law tree_steps t.most b t.nodes (walks_of ways) c

  module _ (p : ℕ) (u : TreeWalker) (here : ways p ≡ Some u) where
    is : walks_of ways p ≡ Some u.walker
    is = on_way ways p u here

    at_place : (x : ℕ) → place_of u.walker ≡ Some x → place_by (walks_of ways p) ≡ Some x
    at_place x h = rw is h

    abbrev got : Answer TreeValue
    got = answer_from (register_in t) (next_access u.walker)

    tree_gone_on : place_of u.walker ≡ None → HasGoneOn tree_places t (tree_after t (next_access u.walker)) b ways p u got
    tree_gone_on none = record {
      consistent = rw (walks_with ways p (tree_walker_steps.resumed u got)) (gone_on tree_steps t.most b t.nodes (walks_of ways) c tree_memory p u.walker is);
      segments = λ x. segments tree_steps t.most b t.nodes (walks_of ways) c tree_memory p u.walker is x;
      nearer = nearer tree_steps t.most b t.nodes (walks_of ways) c p u.walker is none got;
      ended = λ x. ended_there u.walker got x none;
      kept = tree_keeps_walks t (tree_steps.after t.nodes (next_access u.walker)) (marks_grow tree_steps t.most b t.nodes (walks_of ways) c tree_memory p u.walker is);
    }

    -- the write of a segment leaves other registers
    tree_written : (x : ℕ) → place_of u.walker ≡ Some x → (r : Record) → HasWritten tree_places t (tree_after t (Write (Contents x) (Held (Some r)))) b ways x r
    tree_written x at r =
        let other : (q : TreeRegister) → q ≢ Contents x → (tree_steps.register (tree_steps.after t.nodes (Write (Contents x) (Held (Some r)))) q).0 ≡ (tree_steps.register t.nodes q).0 = λ q n. ap (λ (z : TreeValue × Bool). z.0) (tree_memory.others t.nodes (Write (Contents x) (Held (Some r))) q n) in
        record {
          consistent = elsewhere tree_steps t.most b t.nodes (walks_of ways) c (tree_steps.after t.nodes (Write (Contents x) (Held (Some r)))) (fun_ext (λ k. ap word_in (other (Mark k) (λ e. absurd (cc))))) (fun_ext (λ k. ap word_in (other (X k) (λ e. absurd (cc))))) (fun_ext (λ k. ap word_in (other (Y k) (λ e. absurd (cc)))));
          own = ap segment_in (tree_memory.takes_segment t.nodes x (Some r) (tree.placed p x (at_place x at)));
          others = λ y n. ap segment_in (other (Contents y) (λ e. n (let same : y ≡ x = cc in same)));
          kept = tree_keeps_walks t (tree_steps.after t.nodes (Write (Contents x) (Held (Some r)))) (marks_spared tree_steps t.nodes x (Some r) tree_memory);
        }

tree_reads : (t : TreeState) (k : TreeWalk) (j : ℕ) → tree_ties.HasRead t k j → ReadsOn tree_places t k
tree_reads t k j h =
    let found = found_by tree_steps t.nodes k.walk in
    let marked = marked_in tree_steps t.nodes in
    let saw = sees tree_steps t.nodes k.walk in
    record {
      here = λ x e. (register_is k.walk x e, read_here marked k.walk h.0 j x h.1 e);
      once = λ x e l. read_once k.walk found x e l;
      upcoming = λ x l. upcoming_before k.walk found x l;
      ahead = λ x l n. elim (ahead_resumed marked k.walk found x saw l) [ inl e ↦ absurd (n e) | inr e ↦ (e.1, e.0) ];
      counted = λ i l more. (l.0 + (if finds_mark k.walk found then 1 else 0), read_resumed marked k.walk found l.0 i saw l.1 more);
    }

words_plain : (a : Access TreeRegister ℕ) → ReadsOrWrites a → ReadsOrWrites (in_words a)
words_plain (TestAndSet r) h = h
words_plain (Clear r) h = h
words_plain a h = tt

visit_plain : (id : ℕ) (x y : TreeRegister) (s : VisitStage) → ReadsOrWrites (access_at id x y s)
visit_plain id x y Outside = tt
visit_plain id x y s = tt

way_plain : (u : Walker) → ReadsOrWrites (next_access u)
way_plain u = elim u.is_marking as (λ marking. ReadsOrWrites (if marking then Write (Mark u.place) (Word 1) else in_words (access_of u.visitor))) [
  | true ↦ tt
  | false ↦ words_plain (access_of u.visitor) (visit_plain u.visitor.identity u.visitor.x u.visitor.y u.visitor.stage)
]

pub tree_laws : PlacesLaws tree_places
tree_laws = record {
  few = λ t b ways c. (c.room, c.few);
  fresh = λ t new. consistent_new tree_steps t.most t.nodes (rw new.empty tree_empty) new.few;
  empty = λ t new x. rw new.empty (tree_empty.nothing_held x);
  begun = λ t b ways p c some absent room. rw (walks_with ways p (tree_walker b p), add-one b) (begun tree_steps t.most b t.nodes (walks_of ways) c p some (ap (option_map (λ (v : TreeWalker). v.walker)) absent) room);
  distinct = λ t b ways c p q x u v here there at too. (tree t b ways c).distinct p q x (rw (on_way ways p u here) at) (rw (on_way ways q v there) too);
  unplaced = λ t b ways c p u here none. unplaced tree_steps t.most b t.nodes (walks_of ways) c p u.walker (on_way ways p u here) none;
  gone_on = tree_gone_on;
  written = λ t b ways c p x u here at r. tree_written t b ways c p u here x at r;
  looked = λ t r. refl;
  starts = λ t b ways c p u here. ((0, read_at_first (marked_in tree_steps t.nodes)), λ x at. place_ahead tree_steps t.most b t.nodes (walks_of ways) c p x (rw (on_way ways p u here) at));
  goes = λ t b ways c k j h. (walk_few tree_steps t.most b t.nodes (walks_of ways) c k.walk h.0 j h.1, tree_reads t k j h);
  rising = λ most b. omega arith;
  farther = λ b. omega arith;
  waits = λ b p. inl refl;
  plain = λ u. way_plain u.walker;
  sure_nothing = λ t. refl;
  sure_reads = λ t r. refl;
  sure_writes = λ t x segment. refl;
}
