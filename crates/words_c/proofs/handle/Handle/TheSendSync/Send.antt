-- A handle may cross threads, as what it holds may.
use denote.Struct.Struct.{exits_of}
use denote.Struct.Owning.{shape, fields, to}
use denote.Param.Send.{IsSend, AllSend, owning_send, struct_send, sendable}
use Rattle.std_heap.proofs.Global.TheSendSync as handle
use Rattle.std_alloc.proofs.SendSync.{quiet}
use Rattle.words_c.proofs.part.Part.TheSendSync.{the_send}
use Rattle.words_c.proofs.Crosses.{crosses}
use Rattle.words_c.specs.Held.{part_row}
use Rattle.words_c.specs.contracts.handle.Handle.{the_row, the_type}

pub send : IsSend the_row
send =
    let all : AllSend (fields the_type) = (search sendable, (handle.the_field_send, tt)) in
    owning_send the_type all (λ d. crosses part_row the_send d.alloc d.at d.part)
    (λ k. quiet (to the_type) (exits_of k (fields the_type)) ((struct_send (shape the_type) all).leaving k))
