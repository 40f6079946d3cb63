-- a call of the allocator that wraps another: its type arguments, and the allocator that it is a call of
use mathlib.Core.List.{[], ◌∷◌}
use mir.Syntax.{Args, a_type, dnil, dcons}
use denote.Builtin.{RefOf}
use denote.Param.{bounded, param}
use denote.Signature.{Slot, plain}
use Rattle.std.proofs.alloc.Calls.{Al}
use Rattle.tests_doubles.specs.contracts.failing_allocator.FailingAllocator as wrapper

abbrev pub args : Al → Args
args Z = bounded (a_type ∷ []) (Z.row, tt) (dcons Z.d (dcons Z.drops dnil))

abbrev pub self : Al → Slot 2
self Z = RefOf (0 ∷ []) tt (plain (λ _. wrapper.the_row (param 0 Z.row))) (λ _. tt)
