-- How leaves lie in an ordered arena of their first entries and in rows of the others (layout).
use Rattle.std.specs.Prelude.{◌≡◌, ℕ, ◌+◌, ◌-◌, ◌*◌, ◌^◌, ◌<◌, ◌≤◌, List, [], ◌∷◌, map, length, slice_index_or, None}
use Rattle.triple_ord.specs.{Chain.Entry, Chain.entry_at, Tree.Tree}
use Rattle.leaf_list.specs.Leaves.{Leaf, Leaves}

module _ {K I : Type 0} (number : I → ℕ) where
  -- an entry with the number of its name
  abbrev pub shown : K × I → K × ℕ
  shown e = (e.0, number e.1)

  -- the leaf with this first entry: the others are in the row of its number, counted from 1
  abbrev pub leaf_by : List (List (K × I)) → Entry (K × I) → Leaf K
  leaf_by rows e = record { number = e.index; entries = map shown (e.item ∷ slice_index_or rows (e.index - 1) []) }

  abbrev pub leaves_in : List (Entry (K × I)) → List (List (K × I)) → List (Leaf K)
  leaves_in entries rows = map (leaf_by rows) entries

  -- the leaves, with room for 16 entries in each that there may be
  abbrev pub leaves_of : Tree (K × I) → List (List (K × I)) → Leaves K
  leaves_of index rows = record { leaves = leaves_in index.list.entries rows; room = 16 * index.list.capacity }

-- What holds of the parts of a store of leaves.
pub record AreStored {K I : Type 0} (index : Tree (K × I)) (rows : List (List (K × I))) : Type 0 where
  -- the rows of other numbers are empty
  pub emptied : (m : ℕ) → entry_at index.list.entries (m + 1) ≡ None → slice_index_or rows m [] ≡ []
  -- there is a row for each leaf that there may be
  pub enough : index.list.capacity ≤ length rows
  -- no maximum is set
  pub unlimited : index.list.maximum ≡ None
  -- the room fits in 64 bits
  pub fits : 16 * index.list.capacity < 2 ^ 64
