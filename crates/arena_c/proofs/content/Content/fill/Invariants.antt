use Rattle.std.proofs.Common.{◌≡◌, ◌≤◌, ◌++◌, map, length, take, drop}
use Rattle.sorted_arena.specs.Chain.{from_index}
use Rattle.arena_c.specs.Shown.{shown_entry}
use Rattle.arena_c.proofs.content.Content.fill.Given as goal

-- the first entries are written, and the rest is left
abbrev pub invariant-loop-i : goal.invariant-loop-i
invariant-loop-i l = record {
  rest : l.range ≡ drop l.i (from_index l.self.entries l.fn.first.0);
  written : l.entries ≡ map shown_entry (take l.i (from_index l.self.entries l.fn.first.0)) ++ drop l.i l.fn.entries;
  reached : l.i ≤ length (from_index l.self.entries l.fn.first.0);
}
