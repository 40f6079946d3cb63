-- a memory that holds a growing tree of nodes, by the values of each node's registers
use Rattle.std.specs.Prelude.{◌≡◌, ℕ, ◌/◌, ◌⊎◌, true, Option, None}
use Rattle.model_steps.specs.declared.access.Access.{Access}
use Rattle.model_steps.specs.declared.access.Access.TheVariants.{Write}
use Rattle.model_steps.specs.declared.record.Record.{Record}
use Rattle.model_steps.specs.Steps.{MemorySteps, Spares}
use Rattle.model_splitter.specs.declared.tree.register.TreeRegister.{TreeRegister}
use Rattle.model_splitter.specs.declared.tree.register.TreeRegister.TheVariants.{Mark, X, Y, Contents}
use Rattle.model_splitter.specs.declared.tree.register.TreeValue.{TreeValue}
use Rattle.model_splitter.specs.declared.tree.register.TreeValue.TheVariants.{Word, Contents as Held}

-- the word in a value, or 0 if it is a segment
abbrev pub word_in : TreeValue → ℕ
word_in (Word word) = word
word_in (Held segment) = 0

-- the segment in a value, or an empty one if it is a word
abbrev pub segment_in : TreeValue → Option Record
segment_in (Word word) = None
segment_in (Held segment) = segment

module _ {S : Type 0} (memory : MemorySteps S TreeRegister TreeValue) where
  -- the mark of node k: 1 if a participant has reached it
  abbrev pub mark_at : S → ℕ → ℕ
  mark_at s k = word_in (memory.register s (Mark k)).0

  -- X of node k
  abbrev pub x_at : S → ℕ → ℕ
  x_at s k = word_in (memory.register s (X k)).0

  -- Y of node k
  abbrev pub y_at : S → ℕ → ℕ
  y_at s k = word_in (memory.register s (Y k)).0

  -- the segment of node k
  abbrev pub segment_at : S → ℕ → Option Record
  segment_at s k = segment_in (memory.register s (Contents k)).0

  -- a value that is written into this register is its value afterwards
  abbrev pub Takes : S → TreeRegister → TreeValue → Type 0
  Takes s r v = (memory.register (memory.after s (Write r v)) r).0 ≡ v

  -- node k may be marked: it is the root, or its parent is marked
  abbrev pub IsWithinReach : S → ℕ → Type 0
  IsWithinReach s k = (k ≡ 1) ⊎ (mark_at s (k / 2) ≡ 1)

  -- Marks, X and Y hold words, a mark 0 or 1, and segments hold segments. An access changes no register but the one
  -- that it names. A node within reach can be marked, and a marked node holds what is written to it. An allocation may
  -- fail only at an access that marks a node for the first time
  pub record IsTreeMemory : Type 0 where
    pub marks : (s : S) (k : ℕ) → (memory.register s (Mark k)).0 ≡ Word (mark_at s k)
    pub xs : (s : S) (k : ℕ) → (memory.register s (X k)).0 ≡ Word (x_at s k)
    pub ys : (s : S) (k : ℕ) → (memory.register s (Y k)).0 ≡ Word (y_at s k)
    pub segments : (s : S) (k : ℕ) → (memory.register s (Contents k)).0 ≡ Held (segment_at s k)
    pub mark_is_bit : (s : S) (k : ℕ) → (mark_at s k ≡ 0) ⊎ (mark_at s k ≡ 1)
    pub others : (s : S) (a : Access TreeRegister TreeValue) (r : TreeRegister) → Spares a r → memory.register (memory.after s a) r ≡ memory.register s r
    pub takes_mark : (s : S) (k : ℕ) → IsWithinReach s k → Takes s (Mark k) (Word 1)
    pub takes_x : (s : S) (k identity : ℕ) → mark_at s k ≡ 1 → Takes s (X k) (Word identity)
    pub takes_y : (s : S) (k : ℕ) → mark_at s k ≡ 1 → Takes s (Y k) (Word 1)
    pub takes_segment : (s : S) (k : ℕ) (segment : Option Record) → mark_at s k ≡ 1 → Takes s (Contents k) (Held segment)
    pub refuses : (s : S) (a : Access TreeRegister TreeValue) → memory.may_refuse s a ≡ true → (k : ℕ) × (v : TreeValue) × (a ≡ Write (Mark k) v) × (mark_at s k ≡ 0)

  -- a tree of no nodes
  pub record IsEmptyTree (s : S) : Type 0 where
    pub unmarked : (k : ℕ) → mark_at s k ≡ 0
    pub unnamed : (k : ℕ) → x_at s k ≡ 0
    pub not_taken : (k : ℕ) → y_at s k ≡ 0
    pub nothing_held : (k : ℕ) → segment_at s k ≡ None
