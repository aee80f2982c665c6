use Rattle.std.proofs.Common.{◌≡◌, drop}
use Rattle.arena_c.specs.Batch.{first_fall}
use Rattle.arena_c.proofs.run.first_fall.Given as goal

-- what is left of the search is the whole search
abbrev pub invariant-loop-i : goal.invariant-loop-i
invariant-loop-i l = first_fall l.fn.before l.keys 0 ≡ first_fall l.before (drop l.i l.keys) l.i
