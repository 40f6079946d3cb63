use Rattle.std.proofs.Common.{ℕ, ◌<◌, ◌≤◌, rules, sym, subst, arith}
use Rattle.model_snapshot.specs.FixedTies.{IsEmptyRow}
use Rattle.model_snapshot.proofs.cited.FixedLaw.{empty_row}
use Rattle.model_snapshot.proofs.fixed.Fixed.new.Goals as goal

pub returns-clause-empty : goal.returns-clause-empty
returns-clause-empty g c = c.in_ok-segments.ensures.items_if_clones_equal (λ y h. search rules)

pub returns-clause-fresh : goal.returns-clause-fresh
returns-clause-fresh g c = subst IsEmptyRow (sym (returns-clause-empty g c)) (empty_row c.args.most c.if-most-gt16.false)

never : (a b : ℕ) → a < b → b ≤ a → ⊥
never a b h k = omega arith

pub returns-clause-too_few : goal.returns-clause-too_few
returns-clause-too_few g c = λ h. absurd (never c.args.most 1 h c.if-most-lt1.false)

pub returns-clause-too_many : goal.returns-clause-too_many
returns-clause-too_many g c = λ h. absurd (never 16 c.args.most h c.if-most-gt16.false)
