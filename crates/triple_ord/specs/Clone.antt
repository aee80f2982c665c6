-- The clone of an ordered arena: it has the source's entries in the same order, its shape and its generation.
use Rattle.std.specs.Prelude.{ℕ, [], IsSomeAnd}
use Rattle.ord_tree.specs.{ChainClone.taken_over, Shape.missing, Tree.Tree}
use Rattle.triple_ord.specs.Arena.{item_of}

module _ {T : Type 0} where
  -- The receiver as a clone of the source. Its capacity is raised to the source's greatest index if it was less. Its maximum stays, and
  -- its free list is ascending, as if no slot had been used.
  abbrev pub cloned : Tree T → Tree T → Tree T
  cloned source old = record { list = taken_over source.list old.list source.list.entries; shape = source.shape }

  -- the receiver without entries, with the generation and the capacity of a clone
  abbrev pub refused_clone : Tree T → Tree T → Tree T
  refused_clone source old = record { list = taken_over source.list old.list []; shape = missing }

  -- some pointer finds a fallible item: its clone may fail for lack of memory
  abbrev pub FindsFallible : (T → Type 0) → Tree T → Type 0
  FindsFallible infallible a = (p : ℕ × ℕ) × IsSomeAnd (item_of a p) (λ item. ¬ (infallible item))
