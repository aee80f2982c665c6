-- A slot may go to another thread, as its content may.
use mir.Raw.{raw}
use base.Shift.{Keyless}
use denote.Memory.{lone}
use denote.RawPtr.{Ptr}
use denote.Struct.Struct.{exits_of}
use denote.Struct.Owning.{shape, fields, to}
use denote.Param.Send.{IsSend, AllSend, owning_send, struct_send, sendable}
use Rattle.std.specs.{Prelude.Option, Prelude.Some, Prelude.None, Global.Global}
use Rattle.std.proofs.Crossing as heap
use Rattle.std_alloc.proofs.SendSync.{quiet, lies}
use Rattle.std_heap.proofs.Global.TheSendSync as handle
use Rattle.arena_c.specs.Slot.{Held, slot_owns}
use Rattle.arena_c.specs.contracts.content.Content as content
use Rattle.arena_c.proofs.content.Content.TheSendSync.{the_send as content_send}
use Rattle.arena_c.specs.contracts.slot.Slot.{the_row, the_type}

pub keyless : (a : Global) (p : Ptr) (h : Option Held) → Keyless (slot_owns a p h)
keyless a p None = tt
keyless a p (Some x) = (lies content.the_row content_send p x, heap.frees.frees a (raw (lone content.the_row.mir)) p)

pub send : IsSend the_row
send =
    let all : AllSend (fields the_type) = (search sendable, (handle.the_field_send, tt)) in
    owning_send the_type all (λ s. keyless s.alloc s.at s.held) (λ k. quiet (to the_type) (exits_of k (fields the_type)) ((struct_send (shape the_type) all).leaving k))
