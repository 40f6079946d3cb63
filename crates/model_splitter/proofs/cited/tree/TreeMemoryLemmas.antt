-- a tree is a memory of the kind that walks and collects stand on
use Rattle.std.proofs.Common.{◌≡◌, ℕ, ◌/◌, Bool, true, false, not, ◌&&◌, ◌||◌, cond, Option, Some, None, inl, inr, refl, ap, ◌∙◌, ◌⊎◌, ◌==◌, is_some}
use Rattle.model_splitter.proofs.tree_lemmas.Common.{nat_cmp, Decides-eqb, Access, Write, Record, set_at-same, NodeRegisters, TreeRegister, Mark, X, Y, Contents, TreeValue, Word, Held, word_in, segment_in, mark_at, IsWithinReach, IsTreeMemory, IsEmptyTree}
use Rattle.std.specs.FinMap as map
use Rattle.model_splitter.specs.tree.TreeSteps.{NodeMap, number_in, fresh_registers, value_in, makes_node, written, after_write, may_refuse, tree_steps, empty_tree}
use Rattle.model_splitter.specs.lemmas.tree.TreeProofs.{get_written, makes_absent, others_kept}

-- each register holds a value of its kind
mark_word : (k : ℕ) (o : Option NodeRegisters) → value_in (Mark k) o ≡ Word (word_in (value_in (Mark k) o))
mark_word k None = refl
mark_word k (Some registers) = refl

x_word : (k : ℕ) (o : Option NodeRegisters) → value_in (X k) o ≡ Word (word_in (value_in (X k) o))
x_word k None = refl
x_word k (Some registers) = refl

y_word : (k : ℕ) (o : Option NodeRegisters) → value_in (Y k) o ≡ Word (word_in (value_in (Y k) o))
y_word k None = refl
y_word k (Some registers) = refl

contents_held : (k : ℕ) (o : Option NodeRegisters) → value_in (Contents k) o ≡ Held (segment_in (value_in (Contents k) o))
contents_held k None = refl
contents_held k (Some registers) = refl

mark_bit : (k : ℕ) (o : Option NodeRegisters) → (word_in (value_in (Mark k) o) ≡ 0) ⊎ (word_in (value_in (Mark k) o) ≡ 1)
mark_bit k None = inl refl
mark_bit k (Some registers) = inr refl

-- a node is there where its mark is set
there : (k : ℕ) (o : Option NodeRegisters) → word_in (value_in (Mark k) o) ≡ 1 → is_some o ≡ true
there k None h = absurd (cc)
there k (Some registers) h = refl

absent : (k : ℕ) (o : Option NodeRegisters) → o ≡ None → word_in (value_in (Mark k) o) ≡ 0
absent k None h = refl
absent k (Some registers) h = absurd (cc)

-- what stands in a register that was written
after_own : (s : NodeMap) (r : TreeRegister) (v : TreeValue) → value_in r (map.get (after_write s r v) (number_in r)) ≡ value_in r (cond (makes_node s r v) (Some fresh_registers) (written r v (map.get s (number_in r))))
after_own s r v = ap (value_in r) (get_written s r v (number_in r) ∙ set_at-same (map.get s) (number_in r) (cond (makes_node s r v) (Some fresh_registers) (written r v (map.get s (number_in r)))))

-- the mark of a node that is there, and of one that can be made
marked : (k : ℕ) (here : Option NodeRegisters) (reach : Bool) → (is_some here ≡ false → reach ≡ true) → value_in (Mark k) (cond (not (is_some here) && reach) (Some fresh_registers) (written (Mark k) (Word 1) here)) ≡ Word 1
marked k None false h = absurd (let e : false ≡ true = h refl in cc)
marked k here reach h = refl

or_true : (b : Bool) → b || true ≡ true
or_true true = refl
or_true false = refl

in_reach : (s : NodeMap) (k : ℕ) → IsWithinReach tree_steps s k → (k == 1) || is_some (map.get s (k / 2)) ≡ true
in_reach s k (inl e) = rw ((Decides-eqb k 1).1 e) refl
in_reach s k (inr h) = let up : is_some (map.get s (k / 2)) ≡ true = there (k / 2) (map.get s (k / 2)) h in rw up (or_true (k == 1))

x_put : (k w : ℕ) (o : Option NodeRegisters) → word_in (value_in (Mark k) o) ≡ 1 → value_in (X k) (written (X k) (Word w) o) ≡ Word w
x_put k w None h = absurd (cc)
x_put k w (Some registers) h = refl

y_put : (k w : ℕ) (o : Option NodeRegisters) → word_in (value_in (Mark k) o) ≡ 1 → value_in (Y k) (written (Y k) (Word w) o) ≡ Word w
y_put k w None h = absurd (cc)
y_put k w (Some registers) h = refl

stored : (k : ℕ) (segment : Option Record) (o : Option NodeRegisters) → word_in (value_in (Mark k) o) ≡ 1 → value_in (Contents k) (written (Contents k) (Held segment) o) ≡ Held segment
stored k segment None h = absurd (cc)
stored k segment (Some registers) h = refl

-- what may be refused marks a node that is not there
refused_write : (s : NodeMap) (r : TreeRegister) (v : TreeValue) → makes_node s r v ≡ true → (k : ℕ) × (u : TreeValue) × (Write r v ≡ Write (Mark k) u) × (mark_at tree_steps s k ≡ 0)
refused_write s (Mark k) v h = (k, v, refl, absent k (map.get s k) (makes_absent s (Mark k) v h))
refused_write s r v h = absurd (cc)

refused : (s : NodeMap) (a : Access TreeRegister TreeValue) → may_refuse s a ≡ true → (k : ℕ) × (v : TreeValue) × (a ≡ Write (Mark k) v) × (mark_at tree_steps s k ≡ 0)
refused s (Write r v) h = refused_write s r v h
refused s a h = absurd (cc)

pub tree_memory : IsTreeMemory tree_steps
tree_memory = record {
  marks = λ s k. mark_word k (map.get s k);
  xs = λ s k. x_word k (map.get s k);
  ys = λ s k. y_word k (map.get s k);
  segments = λ s k. contents_held k (map.get s k);
  mark_is_bit = λ s k. mark_bit k (map.get s k);
  others = others_kept;
  takes_mark = λ s k h. after_own s (Mark k) (Word 1) ∙ marked k (map.get s k) ((k == 1) || is_some (map.get s (k / 2))) (λ _. in_reach s k h);
  takes_x = λ s k w h. after_own s (X k) (Word w) ∙ x_put k w (map.get s k) h;
  takes_y = λ s k h. after_own s (Y k) (Word 1) ∙ y_put k 1 (map.get s k) h;
  takes_segment = λ s k segment h. after_own s (Contents k) (Held segment) ∙ stored k segment (map.get s k) h;
  refuses = refused;
}

pub tree_empty : IsEmptyTree tree_steps empty_tree
tree_empty = record {
  unmarked = λ k. ap (λ o. word_in (value_in (Mark k) o)) (map.get-empty nat_cmp k);
  unnamed = λ k. ap (λ o. word_in (value_in (X k) o)) (map.get-empty nat_cmp k);
  not_taken = λ k. ap (λ o. word_in (value_in (Y k) o)) (map.get-empty nat_cmp k);
  nothing_held = λ k. ap (λ o. segment_in (value_in (Contents k) o)) (map.get-empty nat_cmp k);
}
