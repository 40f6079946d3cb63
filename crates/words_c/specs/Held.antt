-- What a handle owns: what a box of a part owns, or nothing.
use denote.RattleType.{RattleType}
use base.Fml.{Fml, ftrue}
use base.Stored.{Coded}
use denote.RawPtr.{Ptr}
use Rattle.std.specs.Prelude.{Option, None, Some}
use Rattle.std.specs.Box.Ownership.{box_owns}
use Rattle.std.specs.Coded.{coded_option}
use Rattle.std.specs.Global.{Global}
use Rattle.std_heap.specs.contracts.GlobalAllocator.TheImpl.{ghosts}
use Rattle.words_c.specs.contracts.part.Part as part

abbrev pub part_row : RattleType
part_row = part.the_row

abbrev pub held_owns : (row : RattleType) → Global → Ptr → Option row.Denot → Fml
held_owns row alloc at None = ftrue
held_owns row alloc at (Some p) = box_owns (ghosts.dealloc_token alloc) row at p

abbrev pub held_coded : (row : RattleType) → Coded (Option row.Denot)
held_coded row = coded_option row.coded
