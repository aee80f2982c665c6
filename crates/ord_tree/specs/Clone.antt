-- What it means to clone one tree into another: the clone has the source's pointers in the same order, the same shape, and items made
-- from the source's.
use Rattle.std.specs.{Prelude.◌≡◌, Prelude.ℕ, Prelude.Result, declared.alloc.AllocError.AllocError, Borrow.Bor}
use Rattle.chain_base.specs.ArenaClone.{Grants, IsShown}
use Rattle.chain_base.specs.{Clone.IsClone as IsClonedList, Clone.IsRefusedClone as IsRefusedList, Link.Link}
use Rattle.ord_tree.specs.{Shape.missing, Tree.Tree}

-- a call with the item at a link
abbrev pub AtItem : {P U R F : Type 0} → (F → P → U → R → F → Type 0) → F → P → Link U → R → F → Type 0
AtItem step f p link answer g = step f p link.item answer g

-- a call that shows a closure the item at a link
abbrev pub ShowsItem : {P U R F : Type 0} → (F → P → Bor U → R → F → Type 0) → F → P → Link U → R → F → Type 0
ShowsItem step f p link answer g = AtItem (IsShown step) f p link answer g

-- `numbers` reads pointers as index and generation; `step` is what a call of the closure may do
module _ {P T U F : Type 0} (numbers : P → ℕ × ℕ) (step : F → P → U → Result T AllocError → F → Type 0) where
  -- The list is a clone of the source's, by calls that each made an item, and the shape is the source's. `last` is the closure's state
  -- after the last of these calls.
  pub record IsClone (f : F) (source : Tree U) (old new : Tree T) (last : F) : Type 0 where
    pub list : IsClonedList numbers (Grants numbers (AtItem step)) f source.list old.list new.list last
    pub shape : new.shape ≡ source.shape

  -- A call failed, which ended the calls. The tree is empty, with the generation and the capacity of a clone.
  pub record IsRefusedClone (f : F) (source : Tree U) (old new : Tree T) (last : F) : Type 0 where
    pub list : IsRefusedList numbers (AtItem step) f source.list old.list new.list last
    pub shape : new.shape ≡ missing
