-- How each entry of a chain gets the new indexes of its neighbours from these. No public clause cites this file.
use Rattle.std.specs.Prelude.{◌≡◌, ◌≢◌, ℕ, ◌+◌, List, [], ◌∷◌, map, Option, Some, None, IsSome, is_some, count_by, take, length}
use Rattle.std.specs.{Option.option_map, Option.option_and_then, List.FoldsTo}
use Rattle.arena_base.specs.{Compression.CompressionStep, Compression.compressed, Arena.Arena, Arena.HoldsSame, Arena.slot}
use Rattle.arena_base.specs.Walk.{entries_rising}
use Rattle.chain_base.specs.{declared.chain.compress.Side.TheVariants.Before, declared.chain.compress.Side.TheVariants.After, Link.Link}
use Rattle.chain_base.specs.{Layout.with_next, Layout.with_prev, Layout.linked_next, Layout.linked_prev, declared.chain.compress.Side.Side}

module _ {T : Type 0} where
  -- the neighbour on a side
  abbrev pub neighbour_on : Side → Link T → Option ℕ
  neighbour_on Before l = l.prev
  neighbour_on After l = l.next

  -- the entry with another neighbour on the side that faces this one
  abbrev pub with_facing : Side → Option ℕ → ℕ × Link T → ℕ × Link T
  with_facing Before other e = with_next other e
  with_facing After other e = with_prev other e

  -- the arena after the entry at this index, if one is given, got another neighbour on the side that faces this one
  abbrev pub linked_facing : Side → Arena (Link T) → Option ℕ → Option ℕ → Arena (Link T)
  linked_facing Before a at other = linked_next a at other
  linked_facing After a at other = linked_prev a at other

  -- the index that the entry at index i names as its neighbour on a side
  abbrev pub named_neighbour : Side → Arena (Link T) → ℕ → Option ℕ
  named_neighbour side a i = option_and_then (λ e. neighbour_on side e.1) (slot a i)

  -- the compressed index of the entry at index i: its place by rising index, counted from 1
  abbrev pub compressed_index_in : Arena (Link T) → ℕ → ℕ
  compressed_index_in a i = count_by is_some (take i a.slots) + 1

  -- Each name on a side names an entry, and each entry is named at most once. At most one entry names none.
  pub record IsPaired (side : Side) (a : Arena (Link T)) : Type 0 where
    pub there : (i k : ℕ) → named_neighbour side a i ≡ Some k → IsSome (slot a k)
    pub once : (i j k : ℕ) → named_neighbour side a i ≡ Some k → named_neighbour side a j ≡ Some k → i ≡ j
    pub alone : (i j : ℕ) → IsSome (slot a i) → IsSome (slot a j) → named_neighbour side a i ≡ None → named_neighbour side a j ≡ None → i ≡ j

  -- Each entry that another one names on this side names that one's compressed index on the other side. `end` is the compressed index of
  -- the entry that names none.
  pub record NamesCompressedIndexes (side : Side) (old new : Arena (Link T)) (end : Option ℕ) : Type 0 where
    pub met : (i k : ℕ) → named_neighbour side old i ≡ Some k → slot new k ≡ option_map (with_facing side (Some (compressed_index_in old i))) (slot old k)
    pub unmet : (k : ℕ) → ((i : ℕ) → named_neighbour side old i ≢ Some k) → slot new k ≡ slot old k
    pub end_is : (i : ℕ) → IsSome (slot old i) → named_neighbour side old i ≡ None → end ≡ Some (compressed_index_in old i)
    pub no_end : ((i : ℕ) → IsSome (slot old i) → named_neighbour side old i ≢ None) → end ≡ None
    pub kept : new ≡ record old { slots = new.slots }
    pub begins : take 1 old.slots ≡ None ∷ []
    pub held : (i : ℕ) → is_some (slot new i) ≡ is_some (slot old i)
    pub within : length new.slots ≡ length old.slots

-- the call made a new item, and the link keeps its neighbours
pub record MapsItem {P T M : Type 0} (step : M → P → T → P → T → M → Type 0) (m : M) (old : P) (link : Link T) (new : P) (answer : Link T) (n : M) : Type 0 where
  pub called : step m old link.item new answer.item n
  pub before : answer.prev ≡ link.prev
  pub behind : answer.next ≡ link.next

-- `numbers` reads a pointer as index and generation; `step` is what making a new item may do; g is the new generation
module _ {P T M : Type 0} (numbers : P → ℕ × ℕ) (step : M → P → T → P → T → M → Type 0) (g : ℕ) where
  -- an entry without its neighbours
  abbrev pub bare : ℕ × ℕ × Link T → ℕ × ℕ × T
  bare e = (e.0, e.1, e.2.item)

  -- the arena was compressed with new items, and the links keep their neighbours
  pub record CompressesItems (m : M) (old new : Arena (Link T)) : Type 0 where
    pub links : List (Link T)
    pub last : M
    pub calls : FoldsTo (CompressionStep numbers step g) (m, []) (map bare (entries_rising old 0)) (last, map (λ l. l.item) links)
    pub before : map (λ l. l.prev) links ≡ map (λ e. e.2.prev) (entries_rising old 0)
    pub behind : map (λ l. l.next) links ≡ map (λ e. e.2.next) (entries_rising old 0)
    pub after : HoldsSame new (compressed old g links)
