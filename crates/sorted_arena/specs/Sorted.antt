-- What a sorted arena is: a listing of keys and values, in the order of the keys.
use Rattle.std.specs.Prelude.{◌≡◌, ℕ, ◌+◌, ◌^◌, ◌<◌, ◌≤◌, List, ◌∷◌, ◌++◌, map, length, Option, Some, None, IsSomeAnd}
use Rattle.std.specs.{Ordering.is_eq, Option.option_map, declared.cmp.Ordering.Ordering}
use Rattle.std.specs.declared.cmp.Ordering.TheVariants.{Greater}
use Rattle.listing.specs.{Chain.Entry, ChainCompression.numbered, Gap.last_of, Generation.next_generation}
-- the words for what a sorted arena is, and for what a call makes of it
pub use Rattle.listing.specs.Listing.{Listing, get, count, key_of, value_of, pair_of, pointer_of, first_where, is_named_by, next_of, prev_from, prev_of, behind_first, before_last, first_item, last_item}
pub use Rattle.listing.specs.Listing.{generation_after, with_left, with_rest, with_value, if_passing}
unfoldable pub use Rattle.listing.specs.Listing.{with_entry, with_key, with_passing, without_entry, without_first, without_last, without_where}
pub use Rattle.listing.specs.Listing.{Updates, Keeps, IsFree, AreSorted, IsSound, IsAbsent, first_item_until, entries_until, entries_above}

-- a sorted arena: its items are its keys, each with its value
abbrev pub Sorted : Type 0 → Type 0 → Type 0
Sorted K V = Listing (K × V)

-- the arena with its entries at the indexes from 1 on, in their order, under the next generation
abbrev pub with_numbers : {K V : Type 0} → Option ℕ → Sorted K V → Sorted K V
with_numbers greatest a = record a {
  entries = numbered (next_generation greatest a.generation) 1 (map pair_of a.entries);
  generation = next_generation greatest a.generation;
}

-- A search among n entries visits c of them with 2 ^ (c + 1) ≤ (n + 1) ^ 2, and none if there are none.
pub record IsWithinRankedBound (n c : ℕ) : Type 0 where
  pub few : 0 < n → 2 ^ (c + 1) ≤ (n + 1) ^ 2
  pub none : n ≡ 0 → c ≡ 0

module _ {K V : Type 0} where
  module _ (cmp : K → K → Ordering) where
    -- If no entry has an equal key, a new one is inserted. Otherwise the first that has one gets the value, and keeps its key and pointer.
    abbrev pub InsertsOrReplaces : ℕ → Sorted K V → ℕ × ℕ → K → V → Option V → Sorted K V → Type 0
    InsertsOrReplaces most old p k v None new = IsAbsent cmp old k × IsFree old p × (new ≡ with_entry cmp most old p (k, v))
    InsertsOrReplaces most old p k v (Some before) new = (Some p ≡ first_where (λ e. is_eq (cmp k (key_of e))) old.entries)
        × (option_map (λ e. e.1) (get old p) ≡ Some before) × (new ≡ with_value old p (get old p) v)

    -- keys and values are in order if they are those of entries that are
    abbrev pub AreInOrder : List (K × V) → Type 0
    AreInOrder items = (es : List (Entry (K × V))) × (map pair_of es ≡ items) × AreSorted cmp es

    -- the pair at an index is the first whose key is smaller than that of the pair before it, where these pairs come behind others
    pub record IsOutOfOrder (others pairs : List (K × V)) (at : ℕ) : Type 0 where
      pub front : List (K × V)
      pub pair : K × V
      pub back : List (K × V)
      pub cut : pairs ≡ front ++ pair ∷ back
      pub place : at ≡ length front
      pub in_order : AreInOrder (others ++ front)
      pub smaller : IsSomeAnd (last_of None (others ++ front)) (λ before. cmp before.0 pair.0 ≡ Greater)
