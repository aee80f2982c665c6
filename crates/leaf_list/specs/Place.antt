-- Places in a list of leaves: the number of a leaf, and how many of its entries are before.
use Rattle.std.specs.Prelude.{◌≡◌, ℕ, zero, suc, ◌+◌, ◌==◌, if◌then◌else◌, List, [], ◌∷◌, length, slice_get, Option, Some, None, IsSome, IfSome, take, drop, ◌-◌}
use Rattle.leaf_list.specs.Leaves.{Leaf, entries_of}

module _ {K : Type 0} where
  -- the entry at a place
  abbrev pub entry_at : List (Leaf K) → ℕ × ℕ → Option (K × ℕ)
  entry_at [] p = None
  entry_at (l ∷ ls) p = if l.number == p.0 then slice_get l.entries p.1 else entry_at ls p

  -- how many entries of all leaves are before a place; before None they all are
  abbrev pub position : List (Leaf K) → Option (ℕ × ℕ) → ℕ
  position leaves None = length (entries_of leaves)
  position [] (Some p) = 0
  position (l ∷ ls) (Some p) = if l.number == p.0 then p.1 else length l.entries + position ls (Some p)

  -- there is an entry at the place, if it is one
  abbrev pub IsPlace : List (Leaf K) → Option (ℕ × ℕ) → Type 0
  IsPlace leaves p = IfSome p (λ p. IsSome (entry_at leaves p))

  -- the place of the entry with so many before it; None at the end
  pub record IsPlaceOf (leaves : List (Leaf K)) (p : Option (ℕ × ℕ)) (before : ℕ) : Type 0 where
    pub place : IsPlace leaves p
    pub position_is : position leaves p ≡ before

  -- the entries from a place on and before another; none if the second is not behind the first
  abbrev pub entries_between : List (Leaf K) → Option (ℕ × ℕ) → Option (ℕ × ℕ) → List (K × ℕ)
  entries_between leaves from until = take (position leaves until - position leaves from) (drop (position leaves from) (entries_of leaves))

  -- an entry with another name, if it is there
  abbrev pub renamed : List (K × ℕ) → ℕ → ℕ → List (K × ℕ)
  renamed [] at i = []
  renamed (e ∷ es) zero i = (e.0, i) ∷ es
  renamed (e ∷ es) (suc at) i = e ∷ renamed es at i

  -- the leaves with another name for the entry at a place
  abbrev pub with_name : List (Leaf K) → ℕ × ℕ → ℕ → List (Leaf K)
  with_name [] p i = []
  with_name (l ∷ ls) p i =
      if l.number == p.0 then record l { entries = renamed l.entries p.1 i } ∷ ls else l ∷ with_name ls p i
