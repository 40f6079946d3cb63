use Rattle.std.proofs.Common.{◌≡◌, ◌∙◌, List, ℕ, true, None, OnErr, Ok, Err, sym, refl}
use Rattle.std.specs.Prelude.{nat_eq}
use Rattle.std.specs.FinMap as map
use Rattle.std.specs.Map.{lookup}
use Rattle.model_splitter.proofs.tree_lemmas.Common.{NodeRegisters}
use Rattle.model_splitter.proofs.tree_lemmas.nodes.Kept.{after_made, made_there, written_there, written_nowhere}
use Rattle.model_splitter.specs.tree.TreeSteps.{value_of, makes_node}
use Rattle.model_splitter.proofs.tree.tree.Tree.write.Goals.{then-not-is_set_by-via-then-not-is_set_by, then-not-is_set_by-via-else-not-is_set_by+then-not-may_have}
use Rattle.model_splitter.proofs.tree.tree.Tree.write.Given as Given
use Rattle.model_splitter.proofs.tree.tree.Tree.write.Goals as goal

pub returns-in-Some-clause-after : goal.returns-in-Some-clause-after
returns-in-Some-clause-after g c =
    rw (← c.self.view_is) (written_there c.self.inside.nodes.entries _ c.args.register (value_of c.args.value) c.node-place.result c.in-Some.registers.now c.write.new.self c.node-place.ensures (sym c.in-Some.ensures.value) c.write.ensures ((c.get_mut.follows.holds c.write.new.self).3 (rw (← c.in-Some.ensures.value) refl)).0)

pub returns-then-not-is_set_by-clause-after : goal.returns-then-not-is_set_by-clause-after
returns-then-not-is_set_by-clause-after g c =
    let es : List (ℕ × NodeRegisters) = c.get_mut.follows.lender-at-none.entries in
    let place = c.node-place.result in
    let none : lookup (nat_eq place) es ≡ None = rw c.get_mut.follows.holds-at-none (sym c.in_default.ensures.value) in
    let made = made_there es c.args.register (value_of c.args.value) place c.node-place.ensures none in
    elim c.then-not-is_set_by.branch [
      | then-not-is_set_by-via-then-not-is_set_by w ↦ rw (w.self-is, ← c.self.view_is, ← c.get_mut.follows.holds-at-none) (written_nowhere es c.args.register (value_of c.args.value) place c.node-place.ensures none (made ∙ rw (← w.if-not-is_set_by.ensures) refl))
      | then-not-is_set_by-via-else-not-is_set_by+then-not-may_have w ↦ rw (w.self-is, ← c.self.view_is, ← c.get_mut.follows.holds-at-none) (written_nowhere es c.args.register (value_of c.args.value) place c.node-place.ensures none (made ∙ rw (← w.if-not-is_set_by.ensures, ← w.if-not-may_have.ensures) refl))
    ]

makes : (g : Given.Over) (c : goal.After-make g) → makes_node (map.from_entries c.get_mut.follows.lender-at-none.entries) c.args.register (value_of c.args.value) ≡ true
makes g c =
    let es : List (ℕ × NodeRegisters) = c.get_mut.follows.lender-at-none.entries in
    made_there es c.args.register (value_of c.args.value) c.node-place.result c.node-place.ensures (rw c.get_mut.follows.holds-at-none (sym c.in_default.ensures.value))
    ∙ rw (← c.if-not-is_set_by.ensures, ← c.if-not-may_have.ensures) refl

pub returns-clause-after : goal.returns-clause-after
returns-clause-after g c =
    let es : List (ℕ × NodeRegisters) = c.get_mut.follows.lender-at-none.entries in
    rw (← c.self.view_is, ← c.get_mut.follows.holds-at-none, ← after_made es c.args.register (value_of c.args.value) c.node-place.result c.node-place.ensures (makes g c)) c.make.ensures.after

pub returns-clause-no_memory : goal.returns-clause-no_memory
returns-clause-no_memory g c = rw (← c.self.view_is, ← c.get_mut.follows.holds-at-none) (elim c.make.result as (λ r. OnErr r (makes_node (map.from_entries c.get_mut.follows.lender-at-none.entries) c.args.register (value_of c.args.value) ≡ true)) [ Ok done ↦ tt | Err refused ↦ makes g c ])
