-- A handle and its parts own what a box at the same types owns.
use mir.Syntax.{impl, tnil, dnil}
use mathlib.Core.List.{[]}
use denote.RattleType.{RattleType}
use denote.Param.Laws.{Laws}
use denote.Signature.{Slot, plain}
use Rattle.std_alloc.proofs.BoxSteps.Form.{Bx}
use Rattle.std_heap.specs.contracts.Global as Heap
use Rattle.std_heap.specs.contracts.GlobalAllocator.TheImpl.{ghosts, dict}
use Rattle.std_heap.proofs.Global.TheLaws as heap
use Rattle.words_c.specs.Held.{part_row}
use Rattle.words_c.proofs.part.Part.TheLaws as part
use Rattle.words_c.specs.contracts.parts.Parts as Parts
use Rattle.words_c.specs.contracts.handle.Handle as Handle

abbrev pub boxed : (row : RattleType) → Laws row → Bx
boxed row laws = record { row = row; laws = laws; al = record { row = Heap.the_row; laws = heap.the_row_laws; g = ghosts; d = dict; drops = impl [] tnil dnil } }

abbrev pub PartBox : Bx
PartBox = boxed part_row part.the_row_laws

abbrev pub FromPartParts : Slot 0
FromPartParts = plain (λ _. Parts.the_row part_row Heap.the_row ghosts)

abbrev pub FromHandle : Slot 0
FromHandle = plain (λ _. Handle.the_row)
