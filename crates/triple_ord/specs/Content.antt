-- An ordered arena as an arena: a finite map from pointers to items, with slots by index.
use Rattle.std.specs.Prelude.{ℕ, zero, suc, ◌+◌, Option, None, List, [], ◌∷◌}
use Rattle.ord_tree.specs.{PlainArena.Arena, Chain.Entry, Chain.entry_at, Tree.Tree}

module _ {T : Type 0} where
  -- the entries, if any, at n consecutive indexes from `from` on
  abbrev pub slots_from : List (Entry T) → ℕ → ℕ → List (Option (ℕ × T))
  slots_from es from zero = []
  slots_from es from (suc n) = entry_at es from ∷ slots_from es (from + 1) n

  -- the map: each index within the capacity holds the entry with this index, if any; index 0 has none
  abbrev pub content_of : Tree T → Arena T
  content_of a = record {
    slots = None ∷ slots_from a.list.entries 1 a.list.capacity;
    vacant = a.list.vacant;
    generation = a.list.generation;
    maximum = a.list.maximum;
  }
