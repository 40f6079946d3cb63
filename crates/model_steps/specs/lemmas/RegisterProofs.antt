-- an access changes no register but the one that it names
use Rattle.std.proofs.Common.{◌≡◌, ℕ, true, false, get_or, refl, ap}
use Rattle.std.proofs.lemmas.List.{get_or-set_other}
use Rattle.model_steps.specs.declared.access.Access.{Access}
use Rattle.model_steps.specs.declared.access.Access.TheVariants.{Read, Write, TestAndSet, Clear, Nothing}
use Rattle.model_steps.specs.Steps.{Spares}
use Rattle.model_steps.specs.Registers.{register_of, after_access}
use Rattle.model_steps.specs.RegisterState.{Registers}

pub others_kept : {V : Type 0} (m : Registers V) (a : Access ℕ V) (r : ℕ) → Spares a r → register_of (after_access m a) r ≡ register_of m r
others_kept m (Read q) r h = refl
others_kept m (Write q v) r h = ap (λ x. (x, get_or m.bits r false)) (get_or-set_other m.values q r v m.first h)
others_kept m (TestAndSet q) r h = ap (λ x. (get_or m.values r m.first, x)) (get_or-set_other m.bits q r true false h)
others_kept m (Clear q) r h = ap (λ x. (get_or m.values r m.first, x)) (get_or-set_other m.bits q r false false h)
others_kept m Nothing r h = refl
