use Rattle.std.proofs.Common.{◌≡◌, ◌+◌, ◌++◌, map, take, drop, None}
use Rattle.std.specs.{Option.option_map, List.zip, Ordering.int_cmp}
use Rattle.sorted_arena.specs.Sorted.{count, pair_of, last_item, AreSorted, Keeps}
use Rattle.arena_c.specs.Batch.{first_fall}
use Rattle.arena_c.proofs.content.Content.append.Given as goal

-- the pairs so far stand behind what was there, and the next key is not smaller than the last one
abbrev pub invariant-loop-i : goal.invariant-loop-i
invariant-loop-i l = record {
  held : map pair_of l.self-inside.pairs.entries ≡ map pair_of l.fn.self.entries ++ zip (take l.i l.keys) (take l.i l.values);
  order : first_fall (option_map (λ pair. pair.0) (last_item l.self-inside.pairs.entries)) (drop l.i l.keys) l.i ≡ None;
  counted : count l.self-inside.pairs ≡ count l.fn.self + l.i;
  capacity : l.self-inside.pairs.capacity ≡ l.fn.self.capacity;
  sorted : AreSorted int_cmp l.self-inside.pairs.entries;
  keeps : Keeps l.fn.self l.self-inside.pairs;
  generation : l.self-inside.pairs.generation ≡ l.fn.self.generation;
}
