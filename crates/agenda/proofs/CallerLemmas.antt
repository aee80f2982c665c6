-- For callers: what tickets name after each change of an agenda.
pub use Rattle.listing.proofs.CallerLemmas.{words}
-- where a job is put, and what is left without one
pub use Rattle.listing.proofs.CallerLemmas.{IsPut, put}
pub use Rattle.listing.proofs.CallerLemmas.{entries-with_entry, entries-with_key, entries-without_entry}
-- what a ticket finds by the first job, and what is left without it
pub use Rattle.listing.proofs.CallerLemmas.{found-first, found-behind, left-first, left-behind, distinct-rest, index-apart}
