-- A clone of an arena: it has the source's pointers, and items made from the source's.
use Rattle.std.specs.Prelude.{◌≡◌, ℕ, ◌+◌, Option, Some, None, Result, Ok, Err, List, [], ◌∷◌, ◌++◌, max, is_some}
use Rattle.std.specs.{Borrow.Bor, List.FoldsTo, declared.alloc.AllocError.AllocError}
use Rattle.arena_base.specs.{Arena.Arena, Arena.HoldsSame, Arena.IsFresh, Arena.arena_capacity, Arena.greatest_occupied, Arena.item_of, Arena.resized, Arena.vacant_indexes, Walk.entries_rising}

module _ {T U : Type 0} where
  -- the same pointers find something in both
  abbrev pub HasSamePointers : Arena T → Arena U → Type 0
  HasSamePointers a b = (p : ℕ × ℕ) → is_some (item_of a p) ≡ is_some (item_of b p)

  -- the slots with these items in their entries, in order
  abbrev pub with_items : List (Option (ℕ × U)) → List T → List (Option (ℕ × T))
  with_items [] items = []
  with_items (None ∷ slots) items = None ∷ with_items slots items
  with_items (Some e ∷ slots) [] = []
  with_items (Some e ∷ slots) (item ∷ items) = Some (e.0, item) ∷ with_items slots items

  -- The receiver with these slots and the source's generation. Its capacity grows to the source's greatest occupied index if it was less.
  -- Its maximum stays, and its free list is ascending.
  abbrev pub taken_over : Arena U → Arena T → List (Option (ℕ × T)) → Arena T
  taken_over source old slots = let all = resized (max (arena_capacity old) (greatest_occupied source.slots) + 1) slots in
      record old { slots = all; vacant = vacant_indexes all; generation = source.generation }

  -- the receiver with the source's pointers and generation, and with these items
  abbrev pub cloned : Arena U → Arena T → List T → Arena T
  cloned source old items = taken_over source old (with_items source.slots items)

-- An arena became a clone of the source, as `Made` says. The same pointers find something in both, and its free list is ascending.
pub record IsArenaClone {T U : Type 0} (source : Arena U) (new : Arena T) (Made : Type 0) : Type 0 where
  pub made : Made
  pub pointers : HasSamePointers new source
  pub fresh : IsFresh new

-- a call that shows the closure an item
abbrev pub IsShown : {P U R F : Type 0} → (F → P → Bor U → R → F → Type 0) → F → P → U → R → F → Type 0
IsShown step f p item answer g = (shown : Bor _) × (shown.now ≡ item) × step f p shown answer g

-- `numbers` reads a pointer as index and generation; `step` is what a call of the closure may do
module _ {P T U F : Type 0} (numbers : P → ℕ × ℕ) (step : F → P → U → T → F → Type 0) where
  -- The closure was called with the entry's pointer and item, and its result was added behind the items so far. A state is the closure
  -- and the items so far.
  pub record CloneStep (s : F × List T) (e : ℕ × ℕ × U) (t : F × List T) : Type 0 where
    pub pointer : P
    pub item : T
    pub index : (numbers pointer).0 ≡ e.0
    pub generation : (numbers pointer).1 ≡ e.1
    pub called : step s.0 pointer e.2 item t.0
    pub behind : t.1 ≡ s.1 ++ item ∷ []

  -- The closure was called exactly once for each entry, by rising index, each time in the state that the call before left. `last` is the
  -- state that the last call left.
  pub record IsClone (f : F) (source : Arena U) (old new : Arena T) (last : F) : Type 0 where
    pub items : List T
    pub calls : FoldsTo CloneStep (f, []) (entries_rising source 0) (last, items)
    pub after : HoldsSame new (cloned source old items)

-- the same for a closure that may be refused memory for an item
module _ {P T U F : Type 0} (numbers : P → ℕ × ℕ) (step : F → P → U → Result T AllocError → F → Type 0) where
  -- a call that made an item
  abbrev pub Grants : F → P → U → T → F → Type 0
  Grants f p item answer g = step f p item (Ok answer) g

  -- The closure was called for the entries in order, up to one whose item was refused, and not again. That call left it as `last`.
  pub record StopsAtRefusal (f : F) (entries : List (ℕ × ℕ × U)) (last : F) : Type 0 where
    pub before : List (ℕ × ℕ × U)
    pub refused : ℕ × ℕ × U
    pub behind : List (ℕ × ℕ × U)
    pub split : entries ≡ before ++ refused ∷ behind
    pub items : List T
    pub reached : F
    pub calls : FoldsTo (CloneStep numbers Grants) (f, []) before (reached, items)
    pub pointer : P
    pub index : (numbers pointer).0 ≡ refused.0
    pub generation : (numbers pointer).1 ≡ refused.1
    pub refusal : AllocError
    pub called : step reached pointer refused.2 (Err refusal) last

  -- An item was refused, which ended the calls. The receiver is empty, with the generation and the capacity of a clone.
  pub record IsRefusedClone (f : F) (source : Arena U) (old new : Arena T) (last : F) : Type 0 where
    pub stops : StopsAtRefusal f (entries_rising source 0) last
    pub after : new ≡ taken_over source old []
