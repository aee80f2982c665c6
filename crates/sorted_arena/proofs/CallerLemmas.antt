-- For callers.
-- the pointers of the first entry, of the last, and of an entry's neighbours; what a pointer finds; what is left without it; pairs behind
-- all entries
pub use Rattle.sorted_arena.proofs.Cutting.{first-named, last-named, last-none, next-here, prev-here, found-here, without-here}
pub use Rattle.sorted_arena.proofs.{Extending.appended, Extending.last-item, Merging.sorted-back, Merging.keeps-all, Merging.keeps-more, Retaining.first-pointer}
-- what is true of each element, and of all entries but one
pub use Rattle.sorted_arena.proofs.Elements.{all-append, all-front, all-back, all-between, all-both, filter-all, filter-none}
pub use Rattle.listing.proofs.CallerLemmas.{distinct-rest, recursion-without}
-- what pointers find in a sorted arena after each change, for a caller's attribute; and what they find after a write through a reference
-- that went out
pub use Rattle.listing.proofs.CallerLemmas.{words}
-- the same by their names; that a listing stays sound; and where a new entry stands
pub use Rattle.listing.proofs.CallerLemmas.{get-free, generation-with_entry, capacity-with_entry, without_entry-some, entries-without_entry, capacity-without_entry, entries-without_first, generation-without_first, capacity-without_first, without_first-none, without_last-none, with_key-none, count-with_value, get-with_value, get-with_value_other}
pub use Rattle.listing.proofs.CallerLemmas.{removed-sound, IsPutBetween, inserted-between}

pub ruleset written = (count-with_value, get-with_value, get-with_value_other)
