use Rattle.std.proofs.Common.{◌≡◌, ◌≤◌, ◌++◌, map, length, take, drop}
use Rattle.std.specs.{Ordering.int_cmp}
use Rattle.sorted_arena.specs.Sorted.{entries_until, generation_after}
use Rattle.arena_c.specs.Shown.{shown_entry, greatest_generation}
use Rattle.arena_c.proofs.content.Content.pop_until.Given as goal

-- the first entries, which were all due, are written, and the others are left
abbrev pub invariant-loop-i : goal.invariant-loop-i
invariant-loop-i l = record {
  left : l.self.entries ≡ drop l.i l.fn.self.entries;
  due : entries_until int_cmp l.until l.fn.self.entries ≡ take l.i l.fn.self.entries ++ entries_until int_cmp l.until l.self.entries;
  written : l.entries ≡ map shown_entry (take l.i l.fn.self.entries) ++ drop l.i l.fn.entries;
  generation : l.self.generation ≡ generation_after greatest_generation l.i l.fn.self.generation;
  capacity : l.self.capacity ≡ l.fn.self.capacity;
  reached : l.i ≤ length l.fn.self.entries;
}
