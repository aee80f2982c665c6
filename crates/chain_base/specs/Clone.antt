-- A clone of a chain: it has the source's pointers in the source's order, and items made from the source's.
use Rattle.std.specs.Prelude.{◌≡◌, ℕ, zero, suc, ◌+◌, ◌≤◌, max, List, [], Option, Result, Ok, slice_get}
use Rattle.std.specs.{declared.alloc.AllocError.AllocError, Option.option_map, List.FoldsTo, Borrow.Bor}
use Rattle.arena_base.specs.Clone.{CloneStep, StopsAtRefusal}
use Rattle.chain_base.specs.{Chain.Entry, Chain.Chain, Chain.times, Chain.entry_at, Chain.link_at, Chain.greatest_index, Walk.pointers}
use Rattle.chain_base.specs.{Compression.lesser, Compression.entry_before, Compression.refilled, Link.Link}

module _ {U : Type 0} where
  -- the index, generation and link of each entry by rising index, among `count` indexes from `from` on
  abbrev pub links_among : List (Entry U) → ℕ → ℕ → List (ℕ × ℕ × Link U)
  links_among es from zero = []
  links_among es from (suc count) = entry_before from (link_at es from) (links_among es (from + 1) count)

  -- the index, generation and link of each entry by rising index
  abbrev pub links_rising : Chain U → List (ℕ × ℕ × Link U)
  links_rising c = links_among c.entries 1 c.capacity

module _ {T U : Type 0} where
  -- The entries have the source's pointers in the source's order. Each has the item at its place by rising index.
  pub record HasItems (source : List (Entry U)) (items : List T) (new : List (Entry T)) : Type 0 where
    pub order : pointers new ≡ pointers source
    pub made : (i : ℕ) → 1 ≤ times i source → option_map (λ e. e.1) (entry_at new i) ≡ slice_get items (lesser source i)

  -- The receiver with these entries and the source's generation. Its capacity grows to the source's greatest index if it was less. Its
  -- maximum stays, and its free list is ascending.
  abbrev pub taken_over : Chain U → Chain T → List (Entry T) → Chain T
  taken_over source old es = refilled (record old { capacity = max old.capacity (greatest_index source.entries) }) source.generation es

-- a link of the clone was made from one of the source: the call returned its item, and it has the same neighbours
pub record ClonesLink {P T U M : Type 0} (step : M → P → Link U → Result T AllocError → M → Type 0) (m : M) (p : P) (link : Link U) (new : Link T) (n : M) : Type 0 where
  pub called : step m p link (Ok new.item) n
  pub before : new.prev ≡ link.prev
  pub behind : new.next ≡ link.next

-- a call that shows the closure a link: its item and the indexes of its neighbours
pub record ShowsLink {P I U R F : Type 0} (number : I → ℕ) (step : F → P → Bor U → Option I × Option I → R → F → Type 0) (f : F) (p : P) (link : Link U) (answer : R) (g : F) : Type 0 where
  pub shown : Bor U
  pub neighbours : Option I × Option I
  pub item : shown.now ≡ link.item
  pub before : option_map number neighbours.0 ≡ link.prev
  pub behind : option_map number neighbours.1 ≡ link.next
  pub called : step f p shown neighbours answer g

-- `numbers` reads a pointer as index and generation; `step` is what a call of the closure may do
module _ {P T U F : Type 0} (numbers : P → ℕ × ℕ) (step : F → P → Link U → T → F → Type 0) where
  -- The closure was called exactly once for each entry, by rising index, each time in the state that the call before left. `last` is the
  -- state that the last call left.
  pub record IsClone (f : F) (source : Chain U) (old new : Chain T) (last : F) : Type 0 where
    pub items : List T
    pub calls : FoldsTo (CloneStep numbers step) (f, []) (links_rising source) (last, items)
    pub entries : HasItems source.entries items new.entries
    pub after : new ≡ taken_over source old new.entries

-- An item was refused, which ended the calls, and the receiver is empty, with the generation and the capacity of a clone.
pub record IsRefusedClone {P T U F : Type 0} (numbers : P → ℕ × ℕ) (step : F → P → Link U → Result T AllocError → F → Type 0) (f : F) (source : Chain U) (old new : Chain T) (last : F) : Type 0 where
  pub stops : StopsAtRefusal numbers step f (links_rising source) last
  pub after : new ≡ taken_over source old []
