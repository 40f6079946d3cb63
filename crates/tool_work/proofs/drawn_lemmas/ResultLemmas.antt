-- what holds of results
use Rattle.std.proofs.Common.{◌≡◌, ◌∙◌, ◌<◌, ℕ, List, [], Option, inl, inr, Ok, Err, Result, IfErr, ap, arith, refl, subst}
use Rattle.std.proofs.KnownBytes.{Appends-nil}
use Rattle.std.specs.Result.{OnOk, OnErr, IsErrAnd}
use Rattle.model_asked.specs.declared.config.Config.{Config}
use Rattle.text_lines.specs.declared.fault.Fault.{Fault}
use Rattle.text_lines.specs.declared.fault.Fault.TheVariants.{Write, Memory}
use Rattle.text_player.specs.Played.{writing}
use Rattle.tool_work.specs.drawn.Runs.{HasDrawnInto, TellsWrites}

-- what holds where it went well, twice
pub on_ok_both : {T E : Type 0} (P Q : Type 0) (r : Result T E) → OnOk r P → OnOk r Q → OnOk r (P × Q)
on_ok_both P Q (Ok x) p q = (p, q)
on_ok_both P Q (Err e) p q = tt

-- what holds at any fault holds at this one
pub on_err_at : {T E : Type 0} (P : Type 0) (r : Result T E) (e : E) → r ≡ Err e → OnErr r P → P
on_err_at P (Ok x) e is p = absurd cc
on_err_at P (Err f) e is p = p

-- a `?` hands the fault on as it is
pub handed_on : {T E : Type 0} (r : Result T E) (e : E) → IsErrAnd r (λ f. f ≡ e) → r ≡ Err e
handed_on (Ok x) e said = absurd said
handed_on (Err f) e same = ap Err same

-- an allocation failed, and no write
pub told_memory : (before now : ℕ) (why : Fault) → why ≡ Memory → now ≡ before → TellsWrites before now (Err why)
told_memory before now why is same = record { only = inr is; failed = λ write. absurd cc; memory = λ _. same; unfailed = tt }

-- behind writes that all went well, the last of which this tells
pub told_last : (before mid now : ℕ) (r : Result (Unit {0}) Fault) → mid ≡ before → IfErr r (λ why. why ≡ Write) → OnErr r (mid < now) → OnOk r (now ≡ mid) → TellsWrites before now r
told_last before mid now (Ok done) same only failed unfailed = record { only = tt; failed = λ write. absurd cc; memory = λ memory. absurd cc; unfailed = unfailed ∙ same }
told_last before mid now (Err why) same only failed unfailed = record { only = inl only; failed = λ _. subst (λ (n : ℕ). n < now) same failed; memory = λ memory. absurd cc; unfailed = tt }

-- an allocation failed before anything was written
pub none_drawn : {W : Type 0} (contents : W → Option (List ℕ)) (failed : W → ℕ) (config : Config) (seed ids n most : ℕ) (w : W) → HasDrawnInto config seed ids n most (writing contents failed w w) (Err Memory)
none_drawn contents failed config seed ids n most w = record {
  ok = tt;
  part = (0, omega arith, record { runs = []; drawn = tt; count_is = refl; reported = (0, omega arith, Appends-nil (contents w)) });
  told = told_memory (failed w) (failed w) Memory refl refl;
}
