-- A chain arena as contracts see it: one list of entries, and the numbers around it.
use Rattle.std.specs.Prelude.{◌≡◌, ℕ, zero, suc, ◌+◌, ◌<◌, ◌≤◌, ◌==◌, if◌then◌else◌, max, List, [], ◌∷◌, length, Option, Some, None, IsSome, IfSome, IsNone, ◌↔◌, is_some, slice_get}
use Rattle.std.specs.Option.{option_map, ForSome}
use Rattle.arena_base.specs.Arena.{Arena, times as times_among, limit_of, doubled_capacity, slot, item_if, arena_capacity}
use Rattle.arena_base.specs.Generation.{first_generation, next_generation, IsLawfulGeneration}
use Rattle.chain_base.specs.Link.{Link}

-- an entry: its index and generation, which make its pointer, and its item
pub record Entry (T : Type 0) : Type 0 where
  pub index : ℕ
  pub generation : ℕ
  pub item : T

-- A chain arena: the entries in list order, the capacity, the free list, the generation of the next entry, and the maximum, if one is
-- set.
pub record Chain (T : Type 0) : Type 0 where
  pub entries : List (Entry T)
  pub capacity : ℕ
  pub vacant : List ℕ
  pub generation : ℕ
  pub maximum : Option ℕ

module _ {T : Type 0} where
  -- how many entries have this index
  abbrev pub times : ℕ → List (Entry T) → ℕ
  times i [] = 0
  times i (e ∷ es) = (if e.index == i then 1 else 0) + times i es

  -- the indexes are pairwise different
  abbrev pub IsDistinct : List (Entry T) → Type 0
  IsDistinct es = (i : ℕ) → times i es ≤ 1

  -- the generation and the item of the entry with this index
  abbrev pub entry_at : List (Entry T) → ℕ → Option (ℕ × T)
  entry_at [] i = None
  entry_at (e ∷ es) i = if e.index == i then Some (e.generation, e.item) else entry_at es i

  -- the index of the first entry, or `other` if there is none
  abbrev pub first_or : Option ℕ → List (Entry T) → Option ℕ
  first_or other [] = other
  first_or other (e ∷ es) = Some e.index

  -- the index of the last entry, or `other` if there is none
  abbrev pub last_or : Option ℕ → List (Entry T) → Option ℕ
  last_or other [] = other
  last_or other (e ∷ es) = last_or (Some e.index) es

  -- the generation and the link of the entry with this index, in a stretch of a list between these two neighbours
  abbrev pub link_between : Option ℕ → Option ℕ → List (Entry T) → ℕ → Option (ℕ × Link T)
  link_between before after [] i = None
  link_between before after (e ∷ es) i =
      if e.index == i then Some (e.generation, record { item = e.item; prev = before; next = first_or after es })
      else link_between (Some e.index) after es i

  -- the generation and the link of the entry with this index
  abbrev pub link_at : List (Entry T) → ℕ → Option (ℕ × Link T)
  link_at es i = link_between None None es i

  -- the list with a new entry directly after the one with this index
  abbrev pub insert_after : ℕ → Entry T → List (Entry T) → List (Entry T)
  insert_after i new [] = []
  insert_after i new (e ∷ es) = if e.index == i then e ∷ new ∷ es else e ∷ insert_after i new es

  -- the list with a new entry directly before the one with this index
  abbrev pub insert_before : ℕ → Entry T → List (Entry T) → List (Entry T)
  insert_before i new [] = []
  insert_before i new (e ∷ es) = if e.index == i then new ∷ e ∷ es else e ∷ insert_before i new es

  -- the list without the entry with this index
  abbrev pub without : ℕ → List (Entry T) → List (Entry T)
  without i [] = []
  without i (e ∷ es) = if e.index == i then es else e ∷ without i es

  -- the list with another item at this index
  abbrev pub with_item_among : List (Entry T) → ℕ → T → List (Entry T)
  with_item_among [] i item = []
  with_item_among (e ∷ es) i item = if e.index == i then record e { item = item } ∷ es else e ∷ with_item_among es i item

  -- the greatest index, or 0
  abbrev pub greatest_index : List (Entry T) → ℕ
  greatest_index [] = 0
  greatest_index (e ∷ es) = max e.index (greatest_index es)

  -- the indexes that no entry has, ascending, among `count` indexes from `from` on
  abbrev pub vacant_among : List (Entry T) → ℕ → ℕ → List ℕ
  vacant_among es from zero = []
  vacant_among es from (suc count) =
      if times from es == 0 then from ∷ vacant_among es (from + 1) count else vacant_among es (from + 1) count

  -- the vacant indexes within this capacity, ascending
  abbrev pub vacant_indexes : List (Entry T) → ℕ → List ℕ
  vacant_indexes es capacity = vacant_among es 1 capacity

  -- some entry has index i
  abbrev pub IsOccupied : Chain T → ℕ → Type 0
  IsOccupied c i = IsSome (entry_at c.entries i)

  -- the index that the next insertion takes; None if no slot is vacant
  abbrev pub next_index : Chain T → Option ℕ
  next_index c = slice_get c.vacant 0

  -- the free list is ascending, as if no slot had been used: insertions take the least index first
  abbrev pub IsFresh : Chain T → Type 0
  IsFresh c = c.vacant ≡ vacant_indexes c.entries c.capacity

  -- the greatest capacity that the arena may have; `most` is the greatest index of an entry
  abbrev pub chain_limit : ℕ → Chain T → ℕ
  chain_limit most c = limit_of most c.maximum

  -- the capacity after a growth
  abbrev pub grown_capacity : ℕ → Chain T → ℕ
  grown_capacity most c = doubled_capacity (chain_limit most c) c.capacity

  -- What holds of every chain arena. `most` is the greatest index of an entry, `greatest` describes the generations.
  pub record IsSound (most : ℕ) (greatest : Option ℕ) (c : Chain T) : Type 0 where
    pub distinct : IsDistinct c.entries
    pub within : (i : ℕ) → 1 ≤ times i c.entries → (0 < i) × (i ≤ c.capacity)
    pub within_limit : c.capacity ≤ chain_limit most c
    pub generation_lawful : IsLawfulGeneration greatest c.generation
    pub entries_lawful : (i : ℕ) → ForSome (entry_at c.entries i) (λ e. IsLawfulGeneration greatest e.0)
    pub vacant_listed : (i : ℕ) → times_among i c.vacant ≡ times_among i (vacant_indexes c.entries c.capacity)
    pub counted : length c.entries + length c.vacant ≡ c.capacity

  -- a chain arena without entries and with capacity 0
  abbrev pub new_chain : Option ℕ → Chain T
  new_chain greatest = record { entries = []; capacity = 0; vacant = []; generation = first_generation greatest; maximum = None }

  -- c after an insertion that takes the first of these vacant indexes; `place` puts the new entry into the list
  abbrev pub inserted_at : Chain T → (Entry T → List (Entry T)) → T → List ℕ → Chain T
  inserted_at c place item [] = c
  inserted_at c place item (i ∷ rest) =
      record c { entries = place (record { index = i; generation = c.generation; item = item }); vacant = rest }

  -- c with a new entry at the next index, put into the list by `place`
  abbrev pub inserted : Chain T → (Entry T → List (Entry T)) → T → Chain T
  inserted c place item = inserted_at c place item c.vacant

  -- c with capacity n and an ascending free list
  abbrev pub with_capacity : Chain T → ℕ → Chain T
  with_capacity c n = record c { capacity = n; vacant = vacant_indexes c.entries n }

  -- c with the next generation
  abbrev pub raised : Option ℕ → Chain T → Chain T
  raised greatest c = record c { generation = next_generation greatest c.generation }

  -- c with the next generation and without the entry at index i, which is now first in the free list
  abbrev pub removed : Option ℕ → Chain T → ℕ → Chain T
  removed greatest c i =
      record c { entries = without i c.entries; vacant = i ∷ c.vacant; generation = next_generation greatest c.generation }

  -- the list with another generation at this index
  abbrev pub with_generation : List (Entry T) → ℕ → ℕ → List (Entry T)
  with_generation [] i g = []
  with_generation (e ∷ es) i g = if e.index == i then record e { generation = g } ∷ es else e ∷ with_generation es i g

  -- c with the next generation, which the entry at index i gets too
  abbrev pub renewed : Option ℕ → Chain T → ℕ → Chain T
  renewed greatest c i = let next = next_generation greatest c.generation in
      record c { entries = with_generation c.entries i next; generation = next }

  -- c with the next generation, without entries and with an ascending free list
  abbrev pub cleared : Option ℕ → Chain T → Chain T
  cleared greatest c =
      record c { entries = []; vacant = vacant_indexes [] c.capacity; generation = next_generation greatest c.generation }

  -- c with another item at this index
  abbrev pub with_item : Chain T → ℕ → T → Chain T
  with_item c i item = record c { entries = with_item_among c.entries i item }

  -- the arena under the chain: each entry is at its index, with its neighbours' indexes
  pub record IsArenaOf (c : Chain T) (a : Arena (Link T)) : Type 0 where
    pub slots : (i : ℕ) → slot a i ≡ link_at c.entries i
    pub capacity : arena_capacity a ≡ c.capacity
    pub vacant : a.vacant ≡ c.vacant
    pub generation : a.generation ≡ c.generation
    pub maximum : a.maximum ≡ c.maximum

  -- the item of the entry with this index and generation
  abbrev pub item_of : List (Entry T) → ℕ × ℕ → Option T
  item_of es p = item_if p.1 (entry_at es p.0)

  -- the index and the generation of the first entry
  abbrev pub first_pointer : List (Entry T) → Option (ℕ × ℕ)
  first_pointer [] = None
  first_pointer (e ∷ es) = Some (e.index, e.generation)

  -- the index and the generation of the last entry
  abbrev pub last_pointer : List (Entry T) → Option (ℕ × ℕ)
  last_pointer [] = None
  last_pointer (e ∷ []) = Some (e.index, e.generation)
  last_pointer (e ∷ f ∷ es) = last_pointer (f ∷ es)

  -- the generation of the entry with this index
  abbrev pub generation_at : List (Entry T) → ℕ → Option ℕ
  generation_at es i = option_map (λ e. e.0) (entry_at es i)

  -- the entry with the least index has index i and generation g
  pub record IsFirstIndex (es : List (Entry T)) (i g : ℕ) : Type 0 where
    pub entry : generation_at es i ≡ Some g
    pub least : (k : ℕ) → k < i → times k es ≡ 0

  -- the entry with the greatest index has index i and generation g
  pub record IsLastIndex (es : List (Entry T)) (i g : ℕ) : Type 0 where
    pub entry : generation_at es i ≡ Some g
    pub greatest : (k : ℕ) → i < k → times k es ≡ 0

  -- a call returns the pointer of the entry with the least index, or nothing if there are no entries
  pub record FindsFirstEntry {P : Type 0} (numbers : P → ℕ × ℕ) (es : List (Entry T)) (result : Option P) : Type 0 where
    pub first : IfSome result (λ p. IsFirstIndex es (numbers p).0 (numbers p).1)
    pub empty : IsNone result ↔ (es ≡ [])

  -- a call returns the pointer of the entry with the greatest index, or nothing if there are no entries
  pub record FindsLastEntry {P : Type 0} (numbers : P → ℕ × ℕ) (es : List (Entry T)) (result : Option P) : Type 0 where
    pub last : IfSome result (λ p. IsLastIndex es (numbers p).0 (numbers p).1)
    pub empty : IsNone result ↔ (es ≡ [])

  -- c, grown if it has no vacant slot
  abbrev pub with_room : ℕ → Chain T → Chain T
  with_room most c = if is_some (next_index c) then c else with_capacity c (grown_capacity most c)

  -- the entries from the one with this index on
  abbrev pub from_index : List (Entry T) → ℕ → List (Entry T)
  from_index [] i = []
  from_index (e ∷ es) i = if e.index == i then e ∷ es else from_index es i

  -- the pointer of an entry at index i, as index and generation
  abbrev pub pointed : ℕ → Option (ℕ × T) → Option (ℕ × ℕ)
  pointed i entry = option_map (λ e. (i, e.0)) entry
