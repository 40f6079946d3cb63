-- the effect of an access to a tree of nodes. A register of a node that is not there reads as never written. What is
-- written to it is lost, except the mark that makes the node (this project's profile)
use Rattle.std.specs.Prelude.{ℕ, ◌/◌, Bool, false, ◌&&◌, ◌||◌, not, ◌==◌, if◌then◌else◌, Option, Some, None, is_some}
use Rattle.std.specs.Ordering.{nat_cmp}
use Rattle.std.specs.FinMap as map
use Rattle.model_steps.specs.declared.access.Access.{Access}
use Rattle.model_steps.specs.declared.access.Access.TheVariants.{Write}
use Rattle.model_steps.specs.declared.access.Answer.{Answer}
use Rattle.model_steps.specs.Steps.{MemorySteps, answer_from}
use Rattle.model_splitter.specs.declared.tree.node_registers.NodeRegisters.{NodeRegisters}
use Rattle.model_splitter.specs.declared.tree.register.TreeRegister.{TreeRegister}
use Rattle.model_splitter.specs.declared.tree.register.TreeRegister.TheVariants.{Mark, X, Y, Contents}
use Rattle.model_splitter.specs.declared.tree.register.TreeValue.{TreeValue}
use Rattle.model_splitter.specs.declared.tree.register.TreeValue.TheVariants as value
use Rattle.model_splitter.specs.declared.tree.register.WrittenValue.{WrittenValue}
use Rattle.model_splitter.specs.declared.tree.register.WrittenValue.TheVariants as to_write

-- the nodes that are there, by their numbers
abbrev pub NodeMap : Type 0
NodeMap = map.FinMap nat_cmp NodeRegisters

-- the node whose register it is
abbrev pub number_in : TreeRegister → ℕ
number_in (Mark p) = p
number_in (X p) = p
number_in (Y p) = p
number_in (Contents p) = p

-- a node after it is made
abbrev pub fresh_registers : NodeRegisters
fresh_registers = record { x = 0; y = 0; segment = None }

-- the value of a register of a node
abbrev pub value_in : TreeRegister → Option NodeRegisters → TreeValue
value_in (Mark p) None = value.Word 0
value_in (Mark p) (Some registers) = value.Word 1
value_in (X p) None = value.Word 0
value_in (X p) (Some registers) = value.Word registers.x
value_in (Y p) None = value.Word 0
value_in (Y p) (Some registers) = value.Word registers.y
value_in (Contents p) None = value.Contents None
value_in (Contents p) (Some registers) = value.Contents registers.segment

-- the value that is to be written
abbrev pub value_of : WrittenValue → TreeValue
value_of (to_write.Word w) = value.Word w
value_of (to_write.Contents s) = value.Contents s.now

-- the value of a register. It has no bit
abbrev pub register_of : NodeMap → TreeRegister → TreeValue × Bool
register_of m r = (value_in r (map.get m (number_in r)), false)

-- a node after a write into one of its registers: its mark stays, and a value of the other kind is lost
abbrev pub registers_after_write : TreeRegister → TreeValue → NodeRegisters → NodeRegisters
registers_after_write (Mark p) (value.Word w) registers = registers
registers_after_write (Mark p) (value.Contents s) registers = registers
registers_after_write (X p) (value.Word w) registers = record { x = w; y = registers.y; segment = registers.segment }
registers_after_write (X p) (value.Contents s) registers = registers
registers_after_write (Y p) (value.Word w) registers = record { x = registers.x; y = w; segment = registers.segment }
registers_after_write (Y p) (value.Contents s) registers = registers
registers_after_write (Contents p) (value.Word w) registers = registers
registers_after_write (Contents p) (value.Contents s) registers = record { x = registers.x; y = registers.y; segment = s }

-- the write sets a mark
abbrev pub sets_mark : TreeRegister → TreeValue → Bool
sets_mark (Mark p) (value.Word w) = w == 1
sets_mark (Mark p) (value.Contents s) = false
sets_mark (X p) v = false
sets_mark (Y p) v = false
sets_mark (Contents p) v = false

-- node p is not there and can be made: it is the root, or its parent is there
abbrev pub is_missing : NodeMap → ℕ → Bool
is_missing m p = not (is_some (map.get m p)) && ((p == 1) || is_some (map.get m (p / 2)))

-- this write makes a node: it sets the mark of one that is missing
abbrev pub makes_node : NodeMap → TreeRegister → TreeValue → Bool
makes_node m r v = sets_mark r v && is_missing m (number_in r)

-- the nodes, where the one with this number is there and a write makes it this one
abbrev pub with_registers : NodeMap → ℕ → Option NodeRegisters → NodeMap
with_registers m p None = m
with_registers m p (Some registers) = map.insert m p registers

abbrev pub written : TreeRegister → TreeValue → Option NodeRegisters → Option NodeRegisters
written r v None = None
written r v (Some registers) = Some (registers_after_write r v registers)

-- the nodes after a write
abbrev pub after_write : NodeMap → TreeRegister → TreeValue → NodeMap
after_write m r v =
    if makes_node m r v then map.insert m (number_in r) fresh_registers
    else with_registers m (number_in r) (written r v (map.get m (number_in r)))

-- the nodes after an access
abbrev pub after_access : NodeMap → Access TreeRegister TreeValue → NodeMap
after_access m (Write r v) = after_write m r v
after_access m a = m

-- the access makes a node: only then may it be refused
abbrev pub may_refuse : NodeMap → Access TreeRegister TreeValue → Bool
may_refuse m (Write r v) = makes_node m r v
may_refuse m a = false

-- the answer to an access
abbrev pub answer_of : NodeMap → Access TreeRegister TreeValue → Answer TreeValue
answer_of m a = answer_from (register_of m) a

abbrev pub tree_steps : MemorySteps NodeMap TreeRegister TreeValue
tree_steps = record { register = register_of; after = after_access; may_refuse = may_refuse }

-- a tree of no node
abbrev pub empty_tree : NodeMap
empty_tree = map.empty
