use Rattle.std.proofs.Common.{◌≡◌, ◌≤◌, ◌++◌, map, length, reverse, take, drop}
use Rattle.sorted_arena.specs.Chain.{first_pointer, from_index}
use Rattle.arena_c.specs.Shown.{shown_entry}
use Rattle.arena_c.proofs.content.Content.fill_back.Given as goal

-- the first entries are written, and `next` names the one before them
abbrev pub invariant-loop-i : goal.invariant-loop-i
invariant-loop-i l = record {
  next : l.next ≡ first_pointer (drop l.i (from_index (reverse l.self.entries) l.fn.first.0));
  written : l.entries ≡ map shown_entry (take l.i (from_index (reverse l.self.entries) l.fn.first.0)) ++ drop l.i l.fn.entries;
  reached : l.i ≤ length (from_index (reverse l.self.entries) l.fn.first.0);
}
