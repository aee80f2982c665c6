-- The place of a new entry in the list and in the tree. No public clause cites this file.
use Rattle.std.specs.Prelude.{◌≡◌, ℕ, ◌<◌, Option, None, Some, IsSomeAnd, List}
use Rattle.std.specs.declared.cmp.Ordering.{Ordering, TheVariants.Less, TheVariants.Equal, TheVariants.Greater as IsGreater}
use Rattle.chain_base.specs.declared.chain.insert.LinkInsertKind.TheVariants.{Disconnected, NextToInx, PrevToInx}
use Rattle.chain_base.specs.declared.chain.insert.LinkInsertKind.{LinkInsertKind}
use Rattle.ord_tree.specs.declared.tree_links.Side.TheVariants.{Lesser, Greater}
use Rattle.ord_tree.specs.{declared.tree_links.TreeLinks.TreeLinks, declared.tree_links.Branch.Branch, declared.tree_links.Side.Side}
use Rattle.ord_tree.specs.{Slots.Slots, Slots.times, TreeLinks.child_at, Leaf.beside}

-- the place that an insertion names, with its side; an order that isn't `Less` counts as `Greater`
abbrev pub sided : {I : Type 0} → Option (I × Ordering) → Option (I × Side)
sided None = None
sided (Some (i, Less)) = Some (i, Lesser)
sided (Some (i, Equal)) = Some (i, Greater)
sided (Some (i, IsGreater)) = Some (i, Greater)

-- the place in the chain before or after an entry
abbrev pub kind_on : {P I G : Type 0} → Side → I → LinkInsertKind P I G
kind_on Lesser i = PrevToInx i
kind_on Greater i = NextToInx i

-- the place in the chain that `at` names
abbrev pub kind_at : {P I G : Type 0} → Option (I × Side) → LinkInsertKind P I G
kind_at None = Disconnected
kind_at (Some at) = kind_on at.1 at.0

-- the branch is free, and a leaf there is directly beside i in the list, on that side
pub record IsLeafBranch {I : Type 0} (number : I → ℕ) (i : ℕ) (side : Side) (slots : Slots) (order : List ℕ) (branch : Branch I) : Type 0 where
  pub within : 0 < times (number branch.parent) order
  pub bare : (n : TreeLinks ℕ) → slots (number branch.parent) ≡ Some n → child_at branch.side n ≡ None
  pub put : (x : ℕ) → beside branch.side (number branch.parent) x order ≡ beside side i x order

-- the branch is a place for a new leaf at the named place, or `None` for the only entry
abbrev pub IsLeafBranchAt : {I : Type 0} → (I → ℕ) → Option (I × Side) → Slots → List ℕ → Option (Branch I) → Type 0
IsLeafBranchAt number None slots order branch = branch ≡ None
IsLeafBranchAt number (Some at) slots order branch = IsSomeAnd branch (IsLeafBranch number (number at.0) at.1 slots order)
