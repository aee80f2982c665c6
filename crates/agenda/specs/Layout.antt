-- How an agenda lies in its arena (layout).
use Rattle.std.specs.Ordering.{nat_cmp}
use Rattle.listing.specs.Tree.{Tree}
use Rattle.std.specs.Prelude.{ℕ}
-- the agenda that an arena holds
pub use Rattle.listing.specs.Held.{listing_of as agenda_of, HoldsListing}

-- the arena of an agenda
abbrev pub IsArenaOfJobs : {J : Type 0} → Tree (ℕ × J) → Type 0
IsArenaOfJobs {J} a = HoldsListing {V = J} nat_cmp a
