use Rattle.std.proofs.Common.{◌≡◌, ◌-◌, ◌++◌, map, take, drop, length}
use Rattle.sorted_arena.specs.Sorted.{count}
use Rattle.arena_c.specs.Shown.{pointer_shown}
use Rattle.arena_c.proofs.content.Content.write_last.Given as goal

-- the last entries are passed, and their pointers are written as far as there is room
abbrev pub invariant-loop-i : goal.invariant-loop-i
invariant-loop-i l = record {
  rest : l.range ≡ take (count l.self - l.i) l.self.entries;
  written : l.pointers ≡ take (l.n - l.i) l.fn.pointers ++ (map pointer_shown (take (length l.fn.pointers - (l.n - l.i)) (drop (count l.self - l.i) l.self.entries)) ++ drop l.n l.fn.pointers);
}
