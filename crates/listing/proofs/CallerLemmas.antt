-- For the containers, and for their callers.
-- what pointers find after each change of a listing: the ruleset that a caller's attribute names, and its rules by their names
pub use Rattle.listing.proofs.Rules.{words, count-with_entry, entries-with_entry, generation-with_entry, capacity-with_entry, get-free, entries-with_key, with_key-none, count-with_value, get-with_value, get-with_value_other}
pub use Rattle.listing.proofs.Rules.{without_entry-some, entries-without_entry, capacity-without_entry, without_entry-none, entries-without_first, generation-without_first, capacity-without_first, without_first-none}
pub use Rattle.listing.proofs.Rules.{entries-without_last, capacity-without_last, without_last-none, without_where-found, without_where-none}
pub use Rattle.listing.proofs.Pointers.{entry-updates, key-updates, without-updates, first-same, last-same}
-- what a pointer finds in a list by its first entry, and what is left without it
pub use Rattle.listing.proofs.Pointers.{found-first, found-behind, left-first, left-behind, distinct-rest, index-apart}
-- where a new entry is put, and that a listing stays sound
pub use Rattle.listing.proofs.{Places.IsPut, Places.put, Places.IsPutBetween, Places.inserted-between, Order.put-between, Order.removed-sound}
-- what is true of all entries but one
pub use Rattle.listing.proofs.Order.{fewer-without, shorter-without, recursion-without}
-- that each change is a step, and that pointers that ended stay so
pub use Rattle.listing.proofs.Stepping.{step-stays, step-without_entry, step-emptied, step-with_entry, none-with_entry, step-with_key, none-with_key}
pub use Rattle.listing.proofs.Ended.{ended_pointer, goes_on, nowhere, then}
-- what a change of an ordered arena makes of the listing that it holds
pub use Rattle.listing.proofs.Holding.{sorted-in_order, held-sound, removed-held, removed-listing, rekeyed}
