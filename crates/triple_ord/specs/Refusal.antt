-- The errors of insertions, by those of the tree.
use Rattle.ord_tree.specs.InsertionError.{InsertionError}
use Rattle.triple_ord.specs.declared.error.OrdInsertionError.TheVariants.{NotWithinCapacity, BeyondMaxCapacity, AllocError}
use Rattle.triple_ord.specs.declared.error.OrdInsertionError.{OrdInsertionError}
use Rattle.ord_tree.specs.InsertionError.TheVariants as tree

-- the insertion's error for an error of the tree
abbrev pub refusal_of : InsertionError → OrdInsertionError
refusal_of tree.NotWithinCapacity = NotWithinCapacity
refusal_of tree.BeyondMaxCapacity = BeyondMaxCapacity
refusal_of tree.AllocError = AllocError
