-- How a listing lies in an ordered arena (layout).
use Rattle.std.specs.Prelude.{◌≡◌, ℕ, None}
use Rattle.std.specs.declared.cmp.Ordering.{Ordering}
use Rattle.triple_ord.specs.Tree.{Tree}
use Rattle.listing.specs.Listing.{Listing, AreSorted, IsFree, with_entry}

-- the key of an item
abbrev pub item_key : {K V : Type 0} → K × V → K
item_key item = item.0

-- the listing that an ordered arena holds
abbrev pub listing_of : {T : Type 0} → Tree T → Listing T
listing_of a = record { entries = a.list.entries; generation = a.list.generation; capacity = a.list.capacity }

module _ {K V : Type 0} (cmp : K → K → Ordering) where
  -- the ordered arena of a listing: it is in the order of the keys, and no maximum is set
  pub record HoldsListing (a : Tree (K × V)) : Type 0 where
    pub sorted : AreSorted cmp a.list.entries
    pub unlimited : a.list.maximum ≡ None

  -- what an insertion after every entry with a key ≤ the new one makes of the listing that an ordered arena holds
  pub record Puts (most : ℕ) (old : Tree (K × V)) (p : ℕ × ℕ) (item : K × V) (new : Tree (K × V)) : Type 0 where
    pub equation : listing_of new ≡ with_entry cmp most (listing_of old) p item
    pub free : IsFree (listing_of old) p
    pub held : HoldsListing new
