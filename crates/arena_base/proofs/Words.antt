-- The words of std and the definitions that the proofs of this crate use.
pub use Rattle.std.proofs.Common.{◌==◌, ◌⊎◌, inl, inr, ◌≡◌, ℕ, zero, suc, ◌+◌, ◌<◌, ◌≤◌, true, Option, Some, None, List, [], ◌∷◌, ◌++◌, cond}
pub use Rattle.std.proofs.Common.{eqb, length, get_or, set, replicate, is_some, count_by, take, ◌-◌, refl, arith, ◌≢◌, drop, map, sym, ap}
pub use Rattle.std.proofs.Common.{◌∙◌, subst, add-one, reverse, false, unwrap_or, slice_get, max, min, Result, Ok, Err, rules, vec_len}
pub use Rattle.std.proofs.lemmas.List.{take_at, take-take, get_or-take, get_or_push, length-set, length-append, get_or-set_same}
pub use Rattle.std.proofs.lemmas.List.{get_or-set_other, map-append, take-map, take_all, length-map, length-replicate, length-take}
pub use Rattle.std.proofs.lemmas.List.{ext_get_or, get_or_past, drop_more, drop_all, set_at, get_or_at, append_assoc, map_push, length_push}
pub use Rattle.std.proofs.lemmas.List.{append-nil, take_more, map-set, get_or-map, reverse-append, reverse-reverse, get_or-drop, map-id}
pub use Rattle.std.proofs.lemmas.List.{set-set, set_comm, get_or_default, drop-set-lt, length-take-le, length-reverse, length-drop}
pub use Rattle.std.proofs.lemmas.{Bool.cases_eq, Bool.ne_eqb, Bool.false≢true, Bool.eq-eqb, Bool.cases_lt, Bool.eqb-true, Fn.FoldsTo-push}
pub use Rattle.std.proofs.lemmas.{Fn.chained_keeps, List.Sums.sum_by-cons, List.Sums.sum_by-append, List.Sums.sum_by-set, Option.none-some}
pub use Rattle.std.proofs.lemmas.{Option.same_Some, Option.slice_get_within, Option.get_or_from_slice_get, Result.on_ok_weaker}
pub use Rattle.std.{proofs.Common.vec_capacity, proofs.lemmas.Simd.map-map, specs.declared.alloc.AllocError.AllocError}
pub use Rattle.std.specs.{Result.OnOk, Result.OnErr, List.list_any, List.FoldsTo, Option.option_map, Option.ForSome}
pub use Rattle.std.proofs.lemmas.Grind.{common_steps}
pub use lib.LanesLaws.{map-replicate}
pub use Rattle.arena_base.specs.Arena.{vacant_from, times, Arena, IsSound, IsInsertion, limit_of, resized, greatest_occupied, HoldsSame}
pub use Rattle.arena_base.specs.Arena.{IsFresh, slot, arena_capacity, with_slot, freed, IsVacant, IsLawful, FindSame, item_if, swapped}
pub use Rattle.arena_base.specs.Arena.{generation_at, item_of, removed, IsLastEntry}
pub use Rattle.arena_base.specs.Clone.{CloneStep, IsClone, IsRefusedClone, StopsAtRefusal, Grants, with_items, taken_over, HasSamePointers}
pub use Rattle.arena_base.specs.Compression.{CompressionStep, IsCompression, compressed, items_rising}
pub use Rattle.arena_base.specs.Slot.{entry_in, vacant_slots, arena_of, AllVacantFrom, slot_entry, with_slot_item, with_slot_generation}
pub use Rattle.arena_base.specs.Walk.{entries_from, entries_rising, pointers_from, falling_from, rising_from}
pub use Rattle.arena_base.specs.{Generation.IsLawfulGeneration, Pointer.index_number, SlotMoves.ClonesSlots, SlotMoves.CompressesSlots}
pub use Rattle.arena_base.specs.declared.{arena.Arena.TheInside.Inside, ptr.BasePtrGen.Ghosts as Generations, ptr.BasePtrInx.Ghosts as Indexes}
pub use Rattle.arena_base.specs.declared.slot.Slot.{Slot, TheVariants.Occupied, TheVariants.Vacant}
