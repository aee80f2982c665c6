-- An arena as contracts see it: its slots by index, and its free list.
use Rattle.std.specs.Prelude.{◌≡◌, ◌≢◌, ◌⊎◌, ℕ, ◌+◌, ◌-◌, ◌*◌, ◌<◌, ◌≤◌, nat_lt, Bool, false, Result, IfOk, IfSome, IsNone, ◌↔◌, Option, Some, None, List, [], ◌∷◌, ◌++◌, ◌==◌, min, max, if◌then◌else◌, is_some, length, take, drop, replicate, count_by, slice_get, slice_index_or, slice_set, IsSome}
use Rattle.std.specs.{Option.option_map, Option.ForSome, List.list_any}
use Rattle.arena_base.specs.Generation.{first_generation, next_generation, IsLawfulGeneration}

-- The slots at their indexes: `Some` is an entry, with its generation and its item. Slot 0 is vacant.
-- `vacant` is the free list: insertions take its indexes in this order.
pub record Arena (T : Type 0) : Type 0 where
  pub slots : List (Option (ℕ × T))
  pub vacant : List ℕ
  pub generation : ℕ
  pub maximum : Option ℕ

-- the capacity after a growth within a limit: twice as much, but at least 4
abbrev pub doubled_capacity : ℕ → ℕ → ℕ
doubled_capacity limit capacity = min limit (max 4 (2 * capacity))

-- the capacity after room for so many entries was made: if it is too small, it grows at least as for one more entry
abbrev pub capacity_for : ℕ → ℕ → ℕ → ℕ
capacity_for limit capacity needed = if nat_lt capacity needed then max needed (doubled_capacity limit capacity) else capacity

module _ {X : Type 0} where
  -- the indexes of the vacant slots, if the first slot has index `from`
  abbrev pub vacant_from : ℕ → List (Option X) → List ℕ
  vacant_from from [] = []
  vacant_from from (None ∷ slots) = from ∷ vacant_from (from + 1) slots
  vacant_from from (Some entry ∷ slots) = vacant_from (from + 1) slots

  -- the vacant indexes, ascending
  abbrev pub vacant_indexes : List (Option X) → List ℕ
  vacant_indexes slots = vacant_from 1 (drop 1 slots)

  -- the greatest index with an entry, or 0
  abbrev pub greatest_occupied : List (Option X) → ℕ
  greatest_occupied [] = 0
  greatest_occupied (slot ∷ slots) = if list_any is_some slots then greatest_occupied slots + 1 else 0

  -- the first n slots, with vacant ones added if there are fewer
  abbrev pub resized : ℕ → List (Option X) → List (Option X)
  resized n slots = take n slots ++ replicate (n - length slots) None

-- how often n occurs in the list
abbrev pub times : ℕ → List ℕ → ℕ
times n ns = count_by (λ m. m == n) ns

-- the lesser of the maximum, if one is set, and the greatest index of an entry
abbrev pub limit_of : ℕ → Option ℕ → ℕ
limit_of most None = most
limit_of most (Some maximum) = min maximum most

module _ {T : Type 0} where
  -- the generation and the item of the entry at index i
  abbrev pub slot : Arena T → ℕ → Option (ℕ × T)
  slot a i = slice_index_or a.slots i None

  -- the item of an entry, if its generation is g
  abbrev pub item_if : ℕ → Option (ℕ × T) → Option T
  item_if g None = None
  item_if g (Some e) = if e.0 == g then Some e.1 else None

  -- the item of the entry with this index and generation
  abbrev pub item_of : Arena T → ℕ × ℕ → Option T
  item_of a p = item_if p.1 (slot a p.0)

  -- every pointer finds the same in both
  abbrev pub FindSame : Arena T → Arena T → Type 0
  FindSame a b = (p : ℕ × ℕ) → item_of a p ≡ item_of b p

  -- every other pointer finds the same in both
  abbrev pub FindSameBut : ℕ × ℕ → Arena T → Arena T → Type 0
  FindSameBut p a b = (q : ℕ × ℕ) → (q.0 ≢ p.0) ⊎ (q.1 ≢ p.1) → item_of a q ≡ item_of b q

  -- A call on the pointer p: every other pointer finds the same afterwards. If the call did nothing, every pointer does.
  pub record ChangesOnly (p : ℕ × ℕ) (done : Bool) (old new : Arena T) : Type 0 where
    pub others : FindSameBut p new old
    pub nothing : done ≡ false → FindSame new old

  -- the number of entries
  abbrev pub arena_len : Arena T → ℕ
  arena_len a = count_by is_some a.slots

  -- how many entries fit without growing
  abbrev pub arena_capacity : Arena T → ℕ
  arena_capacity a = length a.slots - 1

  -- the greatest capacity that the arena may have; `most` is the greatest index of an entry
  abbrev pub arena_limit : ℕ → Arena T → ℕ
  arena_limit most a = limit_of most a.maximum

  -- the index that the next insertion takes; None if no slot is vacant
  abbrev pub next_index : Arena T → Option ℕ
  next_index a = slice_get a.vacant 0

  -- the free list is ascending, as if no slot had been used: insertions take the least index first
  abbrev pub IsFresh : Arena T → Type 0
  IsFresh a = a.vacant ≡ vacant_indexes a.slots

  -- index i has an entry
  abbrev pub IsOccupied : Arena T → ℕ → Type 0
  IsOccupied a i = IsSome (slot a i)

  -- index i is within the capacity and has no entry
  pub record IsVacant (a : Arena T) (i : ℕ) : Type 0 where
    pub above : 0 < i
    pub within : i ≤ arena_capacity a
    pub free : slot a i ≡ None

  -- What holds of every arena, whatever the order of its free list. `most` is the greatest index of an entry, `greatest` describes the
  -- generations.
  pub record IsLawful (most : ℕ) (greatest : Option ℕ) (a : Arena T) : Type 0 where
    pub begins : take 1 a.slots ≡ None ∷ []
    pub within_capacity : arena_len a ≤ arena_capacity a
    pub within_limit : arena_capacity a ≤ arena_limit most a
    pub generation_lawful : IsLawfulGeneration greatest a.generation
    pub entries_lawful : (i : ℕ) → ForSome (slot a i) (λ e. IsLawfulGeneration greatest e.0)

  -- What holds of every arena of this crate. In addition, the free list has exactly the vacant indexes.
  pub record IsSound (most : ℕ) (greatest : Option ℕ) (a : Arena T) : Type 0 where
    pub begins : take 1 a.slots ≡ None ∷ []
    pub within_limit : arena_capacity a ≤ arena_limit most a
    pub generation_lawful : IsLawfulGeneration greatest a.generation
    pub entries_lawful : (i : ℕ) → ForSome (slot a i) (λ e. IsLawfulGeneration greatest e.0)
    pub vacant_listed : (i : ℕ) → times i a.vacant ≡ times i (vacant_indexes a.slots)
    pub counted : arena_len a + length a.vacant ≡ arena_capacity a

  -- A call that returns a number of the arena also says that the arena is sound, that its entries fit in the capacity, and that the capacity
  -- is an index.
  pub record Measures (most : ℕ) (greatest : Option ℕ) (a : Arena T) (result measure : ℕ) : Type 0 where
    pub value : result ≡ measure
    pub sound : IsSound most greatest a
    pub within : arena_len a ≤ arena_capacity a
    pub limit : arena_capacity a ≤ most

  -- the generation of the entry at index i
  abbrev pub generation_at : Arena T → ℕ → Option ℕ
  generation_at a i = option_map (λ e. e.0) (slot a i)

  -- the entry with the least index has index i and generation g
  pub record IsFirstEntry (a : Arena T) (i g : ℕ) : Type 0 where
    pub entry : generation_at a i ≡ Some g
    pub least : (k : ℕ) → k < i → slot a k ≡ None

  -- the entry with the greatest index has index i and generation g
  pub record IsLastEntry (a : Arena T) (i g : ℕ) : Type 0 where
    pub entry : generation_at a i ≡ Some g
    pub greatest : (k : ℕ) → i < k → slot a k ≡ None

  -- a call returns the pointer of the entry with the least index, or nothing if there are no entries
  pub record FindsFirstEntry {P : Type 0} (numbers : P → ℕ × ℕ) (a : Arena T) (result : Option P) : Type 0 where
    pub first : IfSome result (λ p. IsFirstEntry a (numbers p).0 (numbers p).1)
    pub empty : IsNone result ↔ (arena_len a ≡ 0)

  -- a call returns the pointer of the entry with the greatest index, or nothing if there are no entries
  pub record FindsLastEntry {P : Type 0} (numbers : P → ℕ × ℕ) (a : Arena T) (result : Option P) : Type 0 where
    pub last : IfSome result (λ p. IsLastEntry a (numbers p).0 (numbers p).1)
    pub empty : IsNone result ↔ (arena_len a ≡ 0)

  -- an arena without entries and with capacity 0
  abbrev pub new_arena : Option ℕ → Arena T
  new_arena greatest = record { slots = None ∷ []; vacant = []; generation = first_generation greatest; maximum = None }

  -- a with s in the slot at index i
  abbrev pub with_slot : Arena T → ℕ → Option (ℕ × T) → Arena T
  with_slot a i s = record a { slots = slice_set a.slots i s }

  -- a with another item in the entry at index i
  abbrev pub with_item : Arena T → ℕ → T → Arena T
  with_item a i item = with_slot a i (option_map (λ e. (e.0, item)) (slot a i))

  -- a after an insertion of the item, if `vacant` is the free list
  abbrev pub with_entry_at : Arena T → List ℕ → T → Arena T
  with_entry_at a [] item = a
  with_entry_at a (i ∷ rest) item = record a { slots = slice_set a.slots i (Some (a.generation, item)); vacant = rest }

  -- a with a new entry at the next index
  abbrev pub with_entry : Arena T → T → Arena T
  with_entry a item = with_entry_at a a.vacant item

  -- a with the next generation
  abbrev pub raised : Option ℕ → Arena T → Arena T
  raised greatest a = record a { generation = next_generation greatest a.generation }

  -- a without the entry at index i, which is now first in the free list
  abbrev pub freed : Arena T → ℕ → Arena T
  freed a i = record a { slots = slice_set a.slots i None; vacant = i ∷ a.vacant }

  -- a with the next generation and without the entry at index i, which is now first in the free list
  abbrev pub removed : Option ℕ → Arena T → ℕ → Arena T
  removed greatest a i = raised greatest (freed a i)

  -- a with the next generation, which the entry at index i gets too
  abbrev pub renewed : Option ℕ → Arena T → ℕ → Arena T
  renewed greatest a i = let next = next_generation greatest a.generation in
      record a { slots = slice_set a.slots i (option_map (λ e. (next, e.1)) (slot a i)); generation = next }

  -- a with capacity n and an ascending free list
  abbrev pub with_capacity : Arena T → ℕ → Arena T
  with_capacity a n = record a { slots = resized (n + 1) a.slots; vacant = vacant_indexes (resized (n + 1) a.slots) }

  -- a without entries and with an ascending free list
  abbrev pub emptied : Arena T → Arena T
  emptied a = let slots = replicate (length a.slots) None in record a { slots = slots; vacant = vacant_indexes slots }

  -- a with the next generation, without entries and with an ascending free list
  abbrev pub cleared : Option ℕ → Arena T → Arena T
  cleared greatest a = raised greatest (emptied a)

  -- the capacity after a growth
  abbrev pub grown_capacity : ℕ → Arena T → ℕ
  grown_capacity most a = doubled_capacity (arena_limit most a) (arena_capacity a)

  -- an entry with the item of another
  abbrev pub with_item_of : Option (ℕ × T) → Option (ℕ × T) → Option (ℕ × T)
  with_item_of None other = None
  with_item_of (Some e) None = Some e
  with_item_of (Some e) (Some other) = Some (e.0, other.1)

  -- a with the items at indexes i and j swapped
  abbrev pub swapped : Arena T → ℕ → ℕ → Arena T
  swapped a i j = with_slot (with_slot a i (with_item_of (slot a i) (slot a j))) j (with_item_of (slot a j) (slot a i))

  -- a, grown if it has no vacant slot
  abbrev pub with_room : ℕ → Arena T → Arena T
  with_room most a = if is_some (next_index a) then a else with_capacity a (grown_capacity most a)

  -- `new` is `old` with `item` inserted at index i with generation g
  pub record IsInsertion (old new : Arena T) (item : T) (i g : ℕ) : Type 0 where
    pub next : next_index old ≡ Some i
    pub vacant : IsVacant old i
    pub least : IsFresh old → (k : ℕ) → 0 < k → k < i → IsOccupied old k
    pub generation : g ≡ old.generation
    pub after : new ≡ with_entry old item
    pub fresh : IsFresh old → IsFresh new

  -- A call that inserts `item` returns its pointer: `new` is `before` with the item. Whatever the result, the arena is sound. `Refused` says
  -- when the call fails, `HasRoom` what becomes of the capacity.
  pub record InsertsItem {P E : Type 0} (numbers : P → ℕ × ℕ) (most : ℕ) (greatest : Option ℕ) (before new : Arena T) (item : T) (result : Result P E) (Refused HasRoom : Type 0) : Type 0 where
    pub ok : IfOk result (λ p. IsInsertion before new item (numbers p).0 (numbers p).1)
    pub refused : Refused
    pub sound : IsSound most greatest new
    pub room : HasRoom

  -- the arenas hold the same, whatever the order of their free lists
  pub record HoldsSame (a b : Arena T) : Type 0 where
    pub slots : a.slots ≡ b.slots
    pub generation : a.generation ≡ b.generation
    pub maximum : a.maximum ≡ b.maximum
