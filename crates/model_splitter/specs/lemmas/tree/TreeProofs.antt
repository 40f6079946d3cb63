-- an access to a tree changes no register but the one that it names
use Rattle.std.proofs.Common.{◌≡◌, ◌≢◌, ℕ, Bool, true, false, not, ◌&&◌, ◌||◌, ◌/◌, cond, Option, Some, None, refl, sym, ap, ◌∙◌, inl, inr}
use Rattle.std.specs.Prelude.{◌==◌, is_some}
use Rattle.std.specs.Cmp.{unsigned_tied}
use Rattle.std.specs.FinMap as map
use Rattle.std.proofs.lemmas.Cmp.{nat_cmp_total}
use Rattle.std.proofs.lemmas.Bool.Decides.{eqb_tells}
use Rattle.model_steps.specs.declared.access.Access.{Access}
use Rattle.model_steps.specs.declared.access.Access.TheVariants.{Write}
use Rattle.model_steps.specs.Steps.{Spares}
use Rattle.model_steps.specs.SetAt.{set_at}
use Rattle.model_splitter.specs.declared.tree.node_registers.NodeRegisters.{NodeRegisters}
use Rattle.model_splitter.specs.declared.tree.register.TreeRegister.{TreeRegister}
use Rattle.model_splitter.specs.declared.tree.register.TreeRegister.TheVariants.{Mark, X, Y, Contents}
use Rattle.model_splitter.specs.declared.tree.register.TreeValue.{TreeValue}
use Rattle.model_splitter.specs.declared.tree.register.TreeValue.TheVariants as value
use Rattle.model_splitter.specs.tree.TreeSteps.{NodeMap, number_in, fresh_registers, value_in, register_of, registers_after_write, sets_mark, is_missing, makes_node, with_registers, written, after_write, after_access}

-- what is found at each number after an insertion
get_insert : (m : NodeMap) (p : ℕ) (registers : NodeRegisters) (q : ℕ) → map.get (map.insert m p registers) q ≡ set_at (map.get m) p (Some registers) q
get_insert m p registers q = map.get-insert nat_cmp_total m p registers q ∙ ap (λ b. cond b (Some registers) (map.get m q)) (unsigned_tied q p)

get_with_registers : (m : NodeMap) (p : ℕ) (o : Option NodeRegisters) (q : ℕ) → (o ≡ None → map.get m p ≡ None) → map.get (with_registers m p o) q ≡ set_at (map.get m) p o q
get_with_registers m p None q h = elim (eqb_tells q p) [ inl w ↦ rw w.0 (ap (map.get m) w.1 ∙ h refl) | inr w ↦ rw w.0 refl ]
get_with_registers m p (Some registers) q h = get_insert m p registers q

none_written : (r : TreeRegister) (v : TreeValue) (o : Option NodeRegisters) → written r v o ≡ None → o ≡ None
none_written r v None h = refl
none_written r v (Some registers) h = absurd (cc)

-- what is found at each number after a write
pub get_written : (m : NodeMap) (r : TreeRegister) (v : TreeValue) (q : ℕ) → map.get (after_write m r v) q ≡ set_at (map.get m) (number_in r) (cond (makes_node m r v) (Some fresh_registers) (written r v (map.get m (number_in r)))) q
get_written m r v q =
    elim (makes_node m r v) as (λ b. map.get (cond b (map.insert m (number_in r) fresh_registers) (with_registers m (number_in r) (written r v (map.get m (number_in r))))) q ≡ set_at (map.get m) (number_in r) (cond b (Some fresh_registers) (written r v (map.get m (number_in r)))) q) [
      | true ↦ get_insert m (number_in r) fresh_registers q
      | false ↦ get_with_registers m (number_in r) (written r v (map.get m (number_in r))) q (none_written r v (map.get m (number_in r)))
    ]

-- another register of the same node keeps its value
kept_in_node : (r q : TreeRegister) (v : TreeValue) (registers : NodeRegisters) → q ≢ r → number_in q ≡ number_in r → value_in q (Some (registers_after_write r v registers)) ≡ value_in q (Some registers)
kept_in_node (X p) (X k) v registers h e = absurd (h (ap X e))
kept_in_node (Y p) (Y k) v registers h e = absurd (h (ap Y e))
kept_in_node (Contents p) (Contents k) v registers h e = absurd (h (ap Contents e))
kept_in_node r q (value.Word w) registers h e = refl
kept_in_node r q (value.Contents s) registers h e = refl

kept_beside : (r q : TreeRegister) (v : TreeValue) (o : Option NodeRegisters) → q ≢ r → number_in q ≡ number_in r → value_in q (written r v o) ≡ value_in q o
kept_beside r q v None h e = refl
kept_beside r q v (Some registers) h e = kept_in_node r q v registers h e

-- the registers of a node that was made just now have the values that they had before, except its mark
fresh_as_none : (r q : TreeRegister) (v : TreeValue) → sets_mark r v ≡ true → q ≢ r → number_in q ≡ number_in r → value_in q (Some fresh_registers) ≡ value_in q None
fresh_as_none (Mark p) (Mark k) v m h e = absurd (h (ap Mark e))
fresh_as_none (Mark p) q v m h e = refl
fresh_as_none r q v m h e = absurd (cc)

first_true : (a b : Bool) → a && b ≡ true → a ≡ true
first_true true b h = refl
first_true false b h = h

second_true : (a b : Bool) → a && b ≡ true → b ≡ true
second_true true b h = h
second_true false b h = absurd (cc)

not_some : (o : Option NodeRegisters) → not (is_some o) ≡ true → o ≡ None
not_some None h = refl
not_some (Some registers) h = absurd (cc)

-- what makes a node sets its mark, and the node is not there
makes_mark : (m : NodeMap) (r : TreeRegister) (v : TreeValue) → makes_node m r v ≡ true → sets_mark r v ≡ true
makes_mark m r v h = first_true (sets_mark r v) (is_missing m (number_in r)) h

pub makes_absent : (m : NodeMap) (r : TreeRegister) (v : TreeValue) → makes_node m r v ≡ true → map.get m (number_in r) ≡ None
makes_absent m r v h =
    not_some (map.get m (number_in r)) (first_true (not (is_some (map.get m (number_in r)))) ((number_in r == 1) || is_some (map.get m (number_in r / 2))) (second_true (sets_mark r v) (is_missing m (number_in r)) h))

others_kept_write : (m : NodeMap) (r q : TreeRegister) (v : TreeValue) → q ≢ r → value_in q (map.get (after_write m r v) (number_in q)) ≡ value_in q (map.get m (number_in q))
others_kept_write m r q v h =
    ap (value_in q) (get_written m r v (number_in q))
    ∙ elim (eqb_tells (number_in q) (number_in r)) [
      | inl w ↦
          let same : map.get m (number_in r) ≡ map.get m (number_in q) = ap (map.get m) (sym w.1) in
          rw w.0 (elim (makes_node m r v) as (λ b. makes_node m r v ≡ b → value_in q (cond b (Some fresh_registers) (written r v (map.get m (number_in r)))) ≡ value_in q (map.get m (number_in q))) [
            | true ↦ λ e. fresh_as_none r q v (makes_mark m r v e) h w.1 ∙ ap (value_in q) (sym (makes_absent m r v e) ∙ same)
            | false ↦ λ e. kept_beside r q v (map.get m (number_in r)) h w.1 ∙ ap (value_in q) same
          ] refl)
      | inr w ↦ rw w.0 refl
    ]

pub others_kept : (m : NodeMap) (a : Access TreeRegister TreeValue) (r : TreeRegister) → Spares a r → register_of (after_access m a) r ≡ register_of m r
others_kept m (Write q v) r h = ap (λ x. (x, false)) (others_kept_write m q r v h)
others_kept m a r h = refl
