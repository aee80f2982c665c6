-- A key's place in a sorted arena, which it borrows.
use Rattle.std.specs.Prelude.{Option, Some, None}
use Rattle.std.specs.Borrow.{MutBor}
use Rattle.std.specs.declared.cmp.Ord as ord
use Rattle.std.specs.declared.cmp.PartialEq as equality
use Rattle.std.specs.declared.cmp.PartialOrd as comparison
use Rattle.triple_ord.specs.declared.BasePtr as pointers
use Rattle.triple_ord.specs.declared.BasePtrInx as indexes
use Rattle.triple_ord.specs.declared.BasePtrGen as generations
use Rattle.sorted_arena.specs.declared.entry.Entry.{Entry, TheVariants.Occupied, TheVariants.Vacant}
use Rattle.sorted_arena.specs.Sorted.{Sorted}

module _ {K V P A I G : Type 0} {o : ord.Ghosts K} {e : equality.Ghosts K} {c : comparison.Ghosts K} {p : pointers.Ghosts P I G} {f : equality.Ghosts P} {i : indexes.Ghosts I} {x : equality.Ghosts I}
    {g : generations.Ghosts G} {y : equality.Ghosts G} where
  -- the reference to the arena
  abbrev pub arena_behind : Entry K V P A I G o e c p f i x g y → MutBor (Sorted K V)
  arena_behind (Occupied at) = at.arena
  arena_behind (Vacant at) = at.arena

  -- the key that was asked for
  abbrev pub key_sought : Entry K V P A I G o e c p f i x g y → K
  key_sought (Occupied at) = at.key
  key_sought (Vacant at) = at.key

  -- the pointer of the entry, if there is one
  abbrev pub pointer_found : Entry K V P A I G o e c p f i x g y → Option P
  pointer_found (Occupied at) = Some at.pointer
  pointer_found (Vacant at) = None
