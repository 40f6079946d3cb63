-- What a handle owns may cross threads where its value may: so may the right to free its block.
use mir.Raw.{raw}
use base.Shift.{Keyless}
use denote.Memory.{lone}
use denote.RattleType.{RattleType}
use denote.RawPtr.{Ptr}
use denote.Param.Send.{IsSend}
use Rattle.std.specs.Prelude.{Option, None, Some}
use Rattle.std.specs.Global.{Global}
use Rattle.std.proofs.Crossing as heap
use Rattle.std_alloc.proofs.SendSync.{lies}
use Rattle.words_c.specs.Held.{held_owns}

pub crosses : (row : RattleType) → IsSend row → (alloc : Global) (at : Ptr) (held : Option row.Denot) → Keyless (held_owns row alloc at held)
crosses row sent alloc at None = tt
crosses row sent alloc at (Some p) = (lies row sent at p, heap.frees.frees alloc (raw (lone row.mir)) at)
