-- Keys that no two entries are to share: which entry is in the way.
use Rattle.std.specs.Prelude.{ℕ, not, ◌&&◌, List, Option, Some, None, Result, Ok, Err}
use Rattle.std.specs.{Ordering.is_eq, declared.cmp.Ordering.Ordering}
use Rattle.listing.specs.Chain.{Entry}
use Rattle.sorted_arena.specs.declared.error.UniqueInsertionError.{UniqueInsertionError, TheVariants.EqualKey, TheVariants.BeyondMaxCapacity, TheVariants.AllocError}
use Rattle.sorted_arena.specs.declared.error.RekeyUniqueError.{RekeyUniqueError, TheVariants.Stale, TheVariants.EqualKey as OtherEqual}
use Rattle.sorted_arena.specs.Sorted.{first_where, is_named_by, key_of}

-- the pointer of the first entry whose key equals k, but for the entry that p names
abbrev pub first_other : {K V : Type 0} → (K → K → Ordering) → ℕ × ℕ → K → List (Entry (K × V)) → Option (ℕ × ℕ)
first_other cmp p k es = first_where (λ e. not (is_named_by p e) && is_eq (cmp k (key_of e))) es

-- the pointer of the entry that was in the way of a new one, or of another key, if that is why the call was refused
abbrev pub pointer_in_way : {P X : Type 0} → Result P (X × UniqueInsertionError P) → Option P
pointer_in_way (Ok p) = None
pointer_in_way (Err (x, EqualKey p)) = Some p
pointer_in_way (Err (x, BeyondMaxCapacity)) = None
pointer_in_way (Err (x, AllocError)) = None

abbrev pub other_in_way : {P X Y : Type 0} → Result X (Y × RekeyUniqueError P) → Option P
other_in_way (Ok x) = None
other_in_way (Err (y, Stale)) = None
other_in_way (Err (y, OtherEqual q)) = Some q
