-- what an access of a visit does to its two registers
use Rattle.std.proofs.Common.{◌≢◌, ℕ, ◌<◌, length, refl, sym}
use Rattle.model_splitter.proofs.Common.{VisitStage, Outside, WroteX, SawClear, WroteY, Gone, Visitor}
use Rattle.std.proofs.lemmas.List.{get_or-set_same, get_or-set_other}
use Rattle.std.proofs.Math.ListN.{length-set}
use Rattle.model_steps.specs.RegisterState.{Registers}
use Rattle.model_steps.specs.Steps.{ReadsOrWrites}
use Rattle.model_splitter.specs.Visitor.{IsAccessOf, access_at}

-- it reads or writes a register, or reaches none
pub own_access : (id x y : ℕ) (s : VisitStage) → ReadsOrWrites (access_at id x y s)
own_access id x y Outside = tt
own_access id x y s = tt

module _ (m : Registers ℕ) (id x y : ℕ) (apart : x ≢ y) (x_in : x < length m.values) (y_in : y < length m.values) where
  abbrev visit : VisitStage → Visitor ℕ
  visit s = record { identity = id; x = x; y = y; stage = s }

  at_stage : (s : VisitStage) → IsAccessOf m (visit s)
  at_stage Outside = record {
    stage = refl;
    x = get_or-set_same m.values x id m.first x_in;
    y = get_or-set_other m.values x y id m.first (λ e. apart (sym e));
    others = λ r n k. get_or-set_other m.values x r id m.first n;
    registers = length-set m.values x id;
  }
  at_stage WroteX = record { stage = refl; x = refl; y = refl; others = λ r n k. refl; registers = refl }
  at_stage SawClear = record {
    stage = refl;
    x = get_or-set_other m.values y x 1 m.first apart;
    y = get_or-set_same m.values y 1 m.first y_in;
    others = λ r n k. get_or-set_other m.values y r 1 m.first k;
    registers = length-set m.values y 1;
  }
  at_stage WroteY = record { stage = refl; x = refl; y = refl; others = λ r n k. refl; registers = refl }
  at_stage (Gone way) = record { stage = refl; x = refl; y = refl; others = λ r n k. refl; registers = refl }

pub is_access_of : (m : Registers ℕ) (v : Visitor ℕ) → v.x ≢ v.y → v.x < length m.values → v.y < length m.values → IsAccessOf m v
is_access_of m v apart x_in y_in = at_stage m v.identity v.x v.y apart x_in y_in v.stage
