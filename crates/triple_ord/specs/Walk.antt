-- Walking through a list of entries.
use Rattle.std.specs.Prelude.{◌≡◌, ℕ, List, [], Option, Some, None, IfSome, length}
use Rattle.std.specs.Iterator.{UpTo, item_count, SizeHint.IsWithinCount}
use Rattle.ord_tree.specs.Chain.{Entry, IsDistinct, from_index}

-- the entries from the one with this index on; none without an index
abbrev pub entries_left : {T : Type 0} → List (Entry T) → Option ℕ → List (Entry T)
entries_left es None = []
entries_left es (Some i) = from_index es i

-- a walk has come to this index and knows how many entries are left; no two entries have the same index
pub record IsWalking {T : Type 0} (es : List (Entry T)) (at : Option ℕ) (left : ℕ) : Type 0 where
  pub distinct : IsDistinct es
  pub counted : left ≡ length (entries_left es at)

-- the size hint of an iterator that has these items left: both bounds are their number
pub record IsExactHint {X : Type 0} (left : List X) (hint : ℕ × Option ℕ) : Type 0 where
  pub exact : hint ≡ (length left, Some (length left))
  pub lower : IsWithinCount hint.0 (item_count (λ left. left) left)
  pub upper : IfSome hint.1 (UpTo (item_count (λ left. left) left))
