use Rattle.std.proofs.Common.{◌≡◌, ◌<◌, ◌≤◌, ℕ, IfOk, Result, Ok, Err, arith}
use Rattle.model_steps.specs.declared.refusal.Refusal.{Refusal}
use Rattle.model_renaming.specs.over.Grid.{fresh_grid}
use Rattle.model_renaming.specs.over.GridState.{GridState}
use Rattle.model_renaming.specs.over.GridTies.{IsEmptyGrid}
use Rattle.model_renaming.proofs.over_lemmas.GridContents.{fresh_is_empty}
use Rattle.model_renaming.proofs.over.grid.Grid.new.Goals as goal

are_empty : (most : ℕ) → most ≤ 16 → (r : Result GridState Refusal) → IfOk r (λ g. g ≡ fresh_grid most) → IfOk r IsEmptyGrid
are_empty most few (Ok g) is = rw is (fresh_is_empty most few)
are_empty most few (Err why) is = tt

never : (a b : ℕ) → a < b → b ≤ a → ⊥
never a b h k = omega arith

pub returns : goal.returns
returns g c = record {
  empty = c.with_room.ensures.empty;
  fresh = are_empty c.args.most c.if-most-gt16.false c.with_room.result c.with_room.ensures.empty;
  too_few = λ h. absurd (never c.args.most 1 h c.if-most-lt1.false);
  too_many = λ h. absurd (never 16 c.args.most h c.if-most-gt16.false);
  in_range = λ some few. c.with_room.ensures.no_memory;
}
