-- A compression: the items move to the indexes from 1 on, in index order.
use Rattle.std.specs.Prelude.{◌≡◌, ℕ, ◌+◌, Bool, false, if◌then◌else◌, Option, Some, None, List, [], ◌∷◌, ◌++◌, length, map}
use Rattle.std.specs.List.{FoldsTo}
use Rattle.arena_base.specs.{declared.invalidation.InvalidationOption.InvalidationOption, Invalidation.is_overflow}
use Rattle.arena_base.specs.{Generation.first_generation, Generation.next_generation, Generation.overflows_after, Arena.Arena, Arena.HoldsSame, Arena.IsFresh, Arena.resized, Arena.vacant_indexes, Walk.entries_rising}

-- the generation after a compression: the first if it is reset, else the next
abbrev pub compressed_generation : Option ℕ → Bool → ℕ → ℕ
compressed_generation greatest reset g = if reset then first_generation greatest else next_generation greatest g

-- whether the generations overflow in a compression; never if they are reset
abbrev pub compression_overflows : Option ℕ → Bool → ℕ → Bool
compression_overflows greatest reset g = if reset then false else overflows_after greatest g

-- A call raised the generation, or reset it to the first if `reset` is true. `After` holds with the new generation, and the result says
-- whether the generations overflow.
pub record Restarts {R : Type 0} (greatest : Option ℕ) (reset : Bool) (before : ℕ) (result : InvalidationOption R) (After : ℕ → Type 0) : Type 0 where
  pub after : After (compressed_generation greatest reset before)
  pub overflow : is_overflow result ≡ compression_overflows greatest reset before

-- A call compressed an arena. It raised the generation or reset it, as in `Restarts`, and afterwards the free list is ascending.
pub record CompressesArena {R T : Type 0} (greatest : Option ℕ) (reset : Bool) (old new : Arena T) (result : InvalidationOption R) (After : ℕ → Type 0) : Type 0 where
  pub after : After (compressed_generation greatest reset old.generation)
  pub overflow : is_overflow result ≡ compression_overflows greatest reset old.generation
  pub fresh : IsFresh new

-- a with these items at the indexes from 1 on, all with generation g, which becomes the arena's; its free list is ascending
abbrev pub compressed : {T : Type 0} → Arena T → ℕ → List T → Arena T
compressed a g items = let slots = resized (length a.slots) (None ∷ map (λ item. Some (g, item)) items) in
    record a { slots = slots; vacant = vacant_indexes slots; generation = g }

-- `numbers` reads a pointer as index and generation; `step` is what a call of the closure may do; g is the new generation
module _ {P T F : Type 0} (numbers : P → ℕ × ℕ) (step : F → P → T → P → T → F → Type 0) (g : ℕ) where
  -- The closure was called with the entry's pointer, its item and its new pointer, and its result was added behind the items so far. A
  -- state is the closure and the items so far.
  pub record CompressionStep (s : F × List T) (e : ℕ × ℕ × T) (t : F × List T) : Type 0 where
    pub from : P
    pub to : P
    pub item : T
    pub from_index : (numbers from).0 ≡ e.0
    pub from_generation : (numbers from).1 ≡ e.1
    pub to_index : (numbers to).0 ≡ length s.1 + 1
    pub to_generation : (numbers to).1 ≡ g
    pub called : step s.0 from e.2 to item t.0
    pub behind : t.1 ≡ s.1 ++ item ∷ []

  -- the closure was called for each entry by rising index, each time in the state that the call before left
  pub record IsCompression (f : F) (old new : Arena T) : Type 0 where
    pub items : List T
    pub last : F
    pub calls : FoldsTo CompressionStep (f, []) (entries_rising old 0) (last, items)
    pub after : HoldsSame new (compressed old g items)

-- the items by rising index
abbrev pub items_rising : {T : Type 0} → Arena T → List T
items_rising a = map (λ e. e.2) (entries_rising a 0)
