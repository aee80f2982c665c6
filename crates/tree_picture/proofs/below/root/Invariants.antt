use Rattle.std.proofs.Common.{◌≡◌, ℕ, List, ◌++◌, Some}
use Rattle.triple_ord.specs.Chain.{Entry, times}
use Rattle.triple_ord.specs.Shape.{root_of}
use Rattle.tree_picture.proofs.below.root.Given as goal

-- none of the entries so far is the root
abbrev pub invariant-loop-p : goal.invariant-loop-p
invariant-loop-p g l =
    (before : List (Entry _)) × (before ++ l.p-iterator ≡ l.arena.list.entries)
    × ((i : ℕ) → root_of l.arena.shape ≡ Some i → times i before ≡ 0)
