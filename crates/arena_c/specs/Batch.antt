-- Calls on many entries.
use Rattle.std.specs.Prelude.{◌≡◌, ℕ, ◌+◌, ℤ, ◌++◌, min, false, if◌then◌else◌, List, [], ◌∷◌, length, map, take, drop, Option, Some, None, IsSome}
use Rattle.std.specs.{Ordering.int_cmp, Ordering.is_gt, List.zip, Option.option_map, Option.option_map_or}
use Rattle.sorted_arena.specs.{Chain.Entry as Listed, PlainArena.capacity_for, Sorted.count, Sorted.pair_of, Sorted.last_item, Sorted.get, Sorted.Keeps}
use Rattle.arena_c.specs.{declared.entry.Entry.Entry, declared.entry.Pointer.Pointer, Shown.Arena, Shown.most_entries, Shown.shown_entry, Shown.pointer_shown}

-- the index of the first key that is smaller than the one before it; one may stand before the first key, whose index is `at`
abbrev pub first_fall : Option ℤ → List ℤ → ℕ → Option ℕ
first_fall before [] at = None
first_fall before (k ∷ ks) at = if option_map_or (λ b. is_gt (int_cmp b k)) before false then Some at else first_fall (Some k) ks (at + 1)

-- the index of the first key that can't come next behind all entries of an arena
abbrev pub fall_behind : Arena → List ℤ → Option ℕ
fall_behind a keys = first_fall (option_map (λ pair. pair.0) (last_item a.entries)) keys 0

-- from one arena to another, pairs of these keys and values come behind all entries, and old pointers stay valid
pub record AppendsPairs (keys : List ℤ) (values : List ℕ) (old new : Arena) : Type 0 where
  pub entries : map pair_of new.entries ≡ map pair_of old.entries ++ zip keys values
  pub kept : Keeps old new
  pub generation : new.generation ≡ old.generation

-- the pointers of these entries are written to the front of an array, as many as it has room for, and it stays as it is behind them
abbrev pub with_pointers : List (Listed (ℤ × ℕ)) → List Pointer → List Pointer
with_pointers es before = map pointer_shown (take (length before) es) ++ drop (length es) before

-- From one arena to another, these pairs come behind all entries, with the capacity of a reservation for them. Old pointers stay valid, and
-- new ones have the arena's generation; those of the last entries, which are the new ones, are written to an array.
pub record ExtendsAtOnce (pairs : List (ℤ × ℕ)) (old new : Arena) (before after : List Pointer) : Type 0 where
  pub entries : map pair_of new.entries ≡ map pair_of old.entries ++ pairs
  pub kept : Keeps old new
  pub comes : (q : ℕ × ℕ) → get old q ≡ None → IsSome (get new q) → q.1 ≡ old.generation
  pub generation : new.generation ≡ old.generation
  pub capacity : new.capacity ≡ capacity_for most_entries old.capacity (count old + length pairs)
  pub pointers : after ≡ with_pointers (drop (count old) new.entries) before

-- as many of these entries are written to the front of an array as it has room for, and it stays as it is behind them
pub record Fills (es : List (Listed (ℤ × ℕ))) (before after : List Entry) (filled : ℕ) : Type 0 where
  pub count : filled ≡ min (length before) (length es)
  pub written : after ≡ map shown_entry (take filled es) ++ drop filled before

-- the keys of the pairs of two arrays
abbrev pub paired_keys : List ℤ → List ℕ → List ℤ
paired_keys keys values = take (min (length keys) (length values)) keys
