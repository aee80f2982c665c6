-- A full slot and a deed own what a box of the same value owns.
use mathlib.Core.Path.{◌≡◌, refl}
use mathlib.Core.List.{[]}
use mir.Syntax.{impl, tnil, dnil}
use denote.Signature.{Slot, plain}
use Rattle.std.specs.Prelude.{Option, Some, None, is_some, true}
use Rattle.std_alloc.proofs.BoxSteps.Form.{Bx}
use Rattle.std_heap.specs.contracts.Global as heap
use Rattle.std_heap.specs.contracts.GlobalAllocator.TheImpl.{ghosts, dict}
use Rattle.std_heap.proofs.Global.TheLaws as heap_laws
use Rattle.arena_c.specs.contracts.content.Content as content
use Rattle.arena_c.proofs.content.Content.TheLaws as content_laws
use Rattle.arena_c.specs.contracts.deed.Deed as deed
use Rattle.arena_c.specs.contracts.slot.Slot as slot

-- a box with what lives between the calls
abbrev pub E : Bx
E = record { row = content.the_row; laws = content_laws.the_row_laws; al = record { row = heap.the_row; laws = heap_laws.the_row_laws; g = ghosts; d = dict; drops = impl [] tnil dnil } }

-- parameters
abbrev pub ADeed : Slot 0
ADeed = plain (λ _. deed.the_row content.the_row heap.the_row ghosts)

abbrev pub ASlot : Slot 0
ASlot = plain (λ _. slot.the_row)

abbrev pub AnAllocator : Slot 0
AnAllocator = plain (λ _. heap.the_row)

-- the value that is there
pub held_value : {X : Type 0} → (h : Option X) → is_some h ≡ true → (x : X) × (h ≡ Some x)
held_value None e = cc e
held_value (Some x) e = (x, refl)
