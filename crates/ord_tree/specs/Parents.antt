-- Parents in a shape, and how many of them a change moves.
use Rattle.std.specs.Prelude.{◌≡◌, ℕ, ◌≤◌, ◌⊎◌, Option, None, Some, List, length, Contains}
use Rattle.ord_tree.specs.Shape.{Shape, missing, node}

-- the parent of i in the shape is p, if the shape itself hangs under `above`
abbrev pub HasParentUnder : Option ℕ → Shape → ℕ → Option ℕ → Type 0
HasParentUnder above missing i p = ⊥
HasParentUnder above (node l j k r) i p =
    (i ≡ j) × (p ≡ above) ⊎ HasParentUnder (Some j) l i p ⊎ HasParentUnder (Some j) r i p

-- the parent of i in the shape is p; the root has none
abbrev pub HasParent : Shape → ℕ → Option ℕ → Type 0
HasParent s i p = HasParentUnder None s i p

-- at most m of the entries in both shapes have another parent: a list of at most m indexes names them all
abbrev pub MovesAtMost : ℕ → Shape → Shape → Type 0
MovesAtMost m old new =
    (moved : List ℕ) × (length moved ≤ m)
    × ((i : ℕ) (p q : Option ℕ) → HasParent old i p → HasParent new i q → Contains moved i ⊎ (p ≡ q))
