-- The results of a compression, the canonical order and a transfer.
use Rattle.std.specs.Prelude.{◌≡◌, ℕ, zero, suc, ◌+◌, nat_lt, if◌then◌else◌, max, List, [], ◌∷◌, ◌++◌, length, map, slice_index_or, Bool, Option, Some, None}
use Rattle.std.specs.List.{FoldsTo}
use Rattle.arena_base.specs.{declared.invalidation.InvalidationOption.InvalidationOption, Compression.CompressionStep, Compression.compressed_generation, Compression.compression_overflows}
use Rattle.arena_base.specs.{Generation.next_generation, Generation.overflows_after, Invalidation.allowed_value, Invalidation.is_overflow}
use Rattle.chain_base.specs.Chain.{Entry, Chain, entry_at, vacant_indexes, IsSound}

module _ {T : Type 0} where
  -- how many entries have a lesser index
  abbrev pub lesser : List (Entry T) → ℕ → ℕ
  lesser [] i = 0
  lesser (e ∷ es) i = (if nat_lt e.index i then 1 else 0) + lesser es i

  -- the index of an entry after a compression: its place by rising index, counted from 1
  abbrev pub compressed_index : List (Entry T) → ℕ → ℕ
  compressed_index es i = lesser es i + 1

  -- the entry at index i, if any, before these entries
  abbrev pub entry_before : ℕ → Option (ℕ × T) → List (ℕ × ℕ × T) → List (ℕ × ℕ × T)
  entry_before i None rest = rest
  entry_before i (Some e) rest = (i, e.0, e.1) ∷ rest

  -- the index, generation and item of each entry by rising index, among `count` indexes from `from` on
  abbrev pub rising_among : List (Entry T) → ℕ → ℕ → List (ℕ × ℕ × T)
  rising_among es from zero = []
  rising_among es from (suc count) = entry_before from (entry_at es from) (rising_among es (from + 1) count)

  -- the index, generation and item of each entry by rising index
  abbrev pub entries_rising : Chain T → List (ℕ × ℕ × T)
  entries_rising c = rising_among c.entries 1 c.capacity

  -- c with these entries, this generation and an ascending free list
  abbrev pub refilled : Chain T → ℕ → List (Entry T) → Chain T
  refilled c g es = record c { entries = es; vacant = vacant_indexes es c.capacity; generation = g }

  -- An entry with its compressed index, generation g, and the item at its place. There is an item for each place.
  abbrev pub moved : List (Entry T) → ℕ → List T → Entry T → Entry T
  moved es g items e =
      record { index = compressed_index es e.index; generation = g; item = slice_index_or items (lesser es e.index) e.item }

  -- c with its entries moved to the indexes from 1 on, by rising index, with these items; the list keeps its order
  abbrev pub compressed : Chain T → ℕ → List T → Chain T
  compressed c g items = refilled c g (map (moved c.entries g items) c.entries)

  -- the entry at its compressed index, with generation g
  abbrev pub at_compressed_index : List (Entry T) → ℕ → Entry T → Entry T
  at_compressed_index es g e = record { index = compressed_index es e.index; generation = g; item = e.item }

  -- c compressed, with its own items
  abbrev pub relocated : Chain T → ℕ → Chain T
  relocated c g = refilled c g (map (at_compressed_index c.entries g) c.entries)

  -- entries with these items in this order, with the indexes from `from` on and generation g
  abbrev pub numbered : ℕ → ℕ → List T → List (Entry T)
  numbered g from [] = []
  numbered g from (item ∷ items) = record { index = from; generation = g; item = item } ∷ numbered g (from + 1) items

  -- c with its entries numbered in list order: the entry at position i, counted from 0, has index i + 1
  abbrev pub canonical : Chain T → ℕ → Chain T
  canonical c g = refilled c g (numbered g 1 (map (λ e. e.item) c.entries))

  -- c with entries of these items alone, in this order from index 1 on; the capacity grows if it is less than their number
  abbrev pub replaced : Chain T → ℕ → List T → Chain T
  replaced c g items = refilled (record c { capacity = max c.capacity (length items) }) g (numbered g 1 items)

  -- c without entries, with this generation and an ascending free list
  abbrev pub left_empty : Chain T → ℕ → Chain T
  left_empty c g = refilled c g []

-- `numbers` reads a pointer as index and generation; `step` is what a call of the closure may do; g is the new generation
module _ {P T F : Type 0} (numbers : P → ℕ × ℕ) (step : F → P → T → P → T → F → Type 0) (g : ℕ) where
  -- the closure was called for each entry by rising index, each time in the state that the call before left
  pub record IsCompression (f : F) (old new : Chain T) : Type 0 where
    pub items : List T
    pub last : F
    pub calls : FoldsTo (CompressionStep numbers step g) (f, []) (entries_rising old) (last, items)
    pub after : new ≡ compressed old g items

-- A call that compresses a chain, which is sound before. It raises the generation, or resets it to the first if `reset` is true. `After`
-- holds with the new generation, and the result says whether the generations overflow.
pub record CompressesChain {R T : Type 0} (most : ℕ) (greatest : Option ℕ) (reset : Bool) (old : Chain T) (result : InvalidationOption R) (After : ℕ → Type 0) : Type 0 where
  pub after : After (compressed_generation greatest reset old.generation)
  pub overflow : is_overflow result ≡ compression_overflows greatest reset old.generation
  pub sound : IsSound most greatest old

-- the state of a transfer: the closure, the items so far, and the source's generation
pub record Transferring (F T : Type 0) : Type 0 where
  pub closure : F
  pub items : List T
  pub generation : ℕ

-- `numbers_from` reads the source's pointers, `numbers_to` the receiver's; `greatest` describes the source's generations
module _ {P Q T U F : Type 0} (numbers_from : Q → ℕ × ℕ) (numbers_to : P → ℕ × ℕ) (greatest : Option ℕ) (step : F → Q → InvalidationOption U → P → T → F → Type 0) (g : ℕ) where
  -- An entry was removed from the source. The closure was called with its old pointer, the result of the removal and its new pointer, and
  -- what it returned was added behind the items so far.
  pub record TransferStep (s : Transferring F T) (e : Entry U) (t : Transferring F T) : Type 0 where
    pub from : Q
    pub taken : InvalidationOption U
    pub to : P
    pub item : T
    pub from_index : (numbers_from from).0 ≡ e.index
    pub from_generation : (numbers_from from).1 ≡ e.generation
    pub taken_item : allowed_value taken ≡ e.item
    pub taken_overflow : is_overflow taken ≡ overflows_after greatest s.generation
    pub to_index : (numbers_to to).0 ≡ length s.items + 1
    pub to_generation : (numbers_to to).1 ≡ g
    pub called : step s.closure from taken to item t.closure
    pub behind : t.items ≡ s.items ++ item ∷ []
    pub raised : t.generation ≡ next_generation greatest s.generation

  -- all entries moved from the source to the receiver, in list order
  pub record IsTransfer (f : F) (source source_after : Chain U) (old new : Chain T) : Type 0 where
    pub last : Transferring F T
    pub calls : FoldsTo TransferStep (record { closure = f; items = []; generation = source.generation }) source.entries last
    pub left : source_after ≡ left_empty source last.generation
    pub after : new ≡ replaced old g last.items
