-- What a slot owns.
use base.Fml.{Fml, ftrue}
use base.Stored.{Coded}
use denote.RawPtr.{Ptr}
use Rattle.std.specs.{Prelude.Option, Prelude.Some, Prelude.None, Coded.coded_option, Box.Ownership.box_owns, Global.Global}
use Rattle.std_heap.specs.contracts.GlobalAllocator.TheImpl.{ghosts}
use Rattle.arena_c.specs.contracts.content.Content.{the_row}

-- what a full slot holds, as contracts see it
abbrev pub Held : Type 0
Held = the_row.Denot

-- a box of this content at this address, or nothing
abbrev pub slot_owns : Global → Ptr → Option Held → Fml
slot_owns alloc p None = ftrue
slot_owns alloc p (Some x) = box_owns (ghosts.dealloc_token alloc) the_row p x

abbrev pub held_coded : Coded (Option Held)
held_coded = coded_option the_row.coded
