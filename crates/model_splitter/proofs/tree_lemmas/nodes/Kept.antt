-- the nodes of a tree, which a table keeps by their numbers
use Rattle.std.proofs.Common.{◌≡◌, ℕ, ◌/◌, ◌==◌, Bool, true, false, ◌&&◌, ◌||◌, cond, List, [], ◌∷◌, Some, None, is_some, refl, sym, ap, ◌∙◌}
use Rattle.std.specs.Prelude.{nat_eq}
use Rattle.std.specs.Cmp.{unsigned_tied, nat_eq_equiv}
use Rattle.std.specs.FinMap as map
use Rattle.std.specs.FinMap.{nat_cmp-IsAntisymmetric}
use Rattle.std.specs.Map.{lookup}
use Rattle.std.proofs.lemmas.Cmp.{nat_cmp_total}
use Rattle.model_splitter.proofs.tree_lemmas.Common.{nat_cmp, NodeRegisters, TreeRegister, TreeValue, number_in, fresh_registers}
use Rattle.model_splitter.specs.tree.TreeSteps.{NodeMap, after_write, makes_node, registers_after_write, sets_mark}

found : (q : ℕ) (es : List (ℕ × NodeRegisters)) → map.find nat_cmp q es ≡ lookup (nat_eq q) es
found q [] = refl
found q (e ∷ es) = ap (λ b. cond b (Some e.1) (map.find nat_cmp q es)) (unsigned_tied q e.0) ∙ ap (cond (nat_eq q e.0) (Some e.1)) (found q es)

-- a node is found in the table
pub get_kept : (es : List (ℕ × NodeRegisters)) (q : ℕ) → map.get (map.from_entries {R = nat_cmp} es) q ≡ lookup (nat_eq q) es
get_kept es q = map.get-from_entries nat_cmp_total es q ∙ found q es

-- a node is put into the table
pub put_kept : (es fs : List (ℕ × NodeRegisters)) (p : ℕ) (x : NodeRegisters) → ((q : ℕ) → lookup (nat_eq q) fs ≡ cond (nat_eq p q) (Some x) (lookup (nat_eq q) es)) → map.from_entries {R = nat_cmp} fs ≡ map.insert (map.from_entries es) p x
put_kept es fs p x h = map.same_map nat_cmp_total nat_cmp-IsAntisymmetric _ _ (λ q.
    get_kept fs q
    ∙ h q
    ∙ ap (λ b. cond b (Some x) (lookup (nat_eq q) es)) (nat_eq_equiv.symm p q ∙ sym (unsigned_tied q p))
    ∙ ap (cond _ (Some x)) (sym (get_kept es q))
    ∙ sym (map.get-insert nat_cmp_total (map.from_entries es) p x q))

and_false : (b : Bool) → b && false ≡ false
and_false true = refl
and_false false = refl

-- a write into a node that is there changes this node alone
pub written_there : (es fs : List (ℕ × NodeRegisters)) (r : TreeRegister) (v : TreeValue) (p : ℕ) (old new : NodeRegisters) → p ≡ number_in r → lookup (nat_eq p) es ≡ Some old → new ≡ registers_after_write r v old → ((q : ℕ) → lookup (nat_eq q) fs ≡ cond (nat_eq p q) (Some new) (lookup (nat_eq q) es)) → map.from_entries {R = nat_cmp} fs ≡ after_write (map.from_entries es) r v
written_there es fs r v p old new at there is h =
    let m : NodeMap = map.from_entries es in
    let here : map.get m (number_in r) ≡ Some old = ap (map.get m) (sym at) ∙ get_kept es p ∙ there in
    put_kept es fs p new h
    ∙ ap (λ k. map.insert m k new) at
    ∙ ap (map.insert m (number_in r)) is
    ∙ rw here (ap (λ b. cond b (map.insert m (number_in r) fresh_registers) (map.insert m (number_in r) (registers_after_write r v old))) (sym (and_false (sets_mark r v))))

-- a write into a node that is not there makes it, if it sets its mark and the node is the root or its parent is there
pub made_there : (es : List (ℕ × NodeRegisters)) (r : TreeRegister) (v : TreeValue) (p : ℕ) → p ≡ number_in r → lookup (nat_eq p) es ≡ None → makes_node (map.from_entries es) r v ≡ (sets_mark r v && ((p == 1) || is_some (map.get (map.from_entries {R = nat_cmp} es) (p / 2))))
made_there es r v p at none = rw (← at, get_kept es p, none) refl

pub after_made : (es : List (ℕ × NodeRegisters)) (r : TreeRegister) (v : TreeValue) (p : ℕ) → p ≡ number_in r → makes_node (map.from_entries es) r v ≡ true → map.insert (map.from_entries {R = nat_cmp} es) p fresh_registers ≡ after_write (map.from_entries es) r v
after_made es r v p at made = rw (made, ← at) refl

-- what makes no node and finds none is lost
pub written_nowhere : (es : List (ℕ × NodeRegisters)) (r : TreeRegister) (v : TreeValue) (p : ℕ) → p ≡ number_in r → lookup (nat_eq p) es ≡ None → makes_node (map.from_entries es) r v ≡ false → map.from_entries {R = nat_cmp} es ≡ after_write (map.from_entries es) r v
written_nowhere es r v p at none lost = rw (lost, ← at, get_kept es p, none) refl
