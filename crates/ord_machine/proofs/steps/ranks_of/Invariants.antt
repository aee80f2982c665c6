use Rattle.std.proofs.Common.{◌≡◌, List, ◌++◌}
use Rattle.triple_ord.specs.Chain.{Entry}
use Rattle.ord_machine.specs.Machine.{HaveRanks}
use Rattle.ord_machine.proofs.steps.ranks_of.Given as goal

-- the ranks of the entries so far, before those that are left
abbrev pub invariant-loop-p : goal.invariant-loop-p
invariant-loop-p g l =
    (before : List (Entry _)) × (before ++ l.p-iterator ≡ l.arena.list.entries) × HaveRanks l.arena.shape before l.ranks.items
