-- In which leaf each name is after a change.
use Rattle.std.specs.Prelude.{◌≡◌, ◌≢◌, ℕ, ◌-◌, ◌≤◌, Bool, false, List, length, take, drop, nat_lt, Option, Some, None, IfSome, IsSomeAnd}
use Rattle.leaf_list.specs.Leaves.{Leaf, Leaves, leaf_at, leaf_of, times}

module _ {K : Type 0} where
  -- A stretch of a leaf is its number, and the places where it begins and ends. Whether the entry of a name is in it:
  abbrev pub is_within : Option (List (K × ℕ)) → ℕ × ℕ → ℕ → Bool
  is_within None s i = false
  is_within (Some es) s i = nat_lt 0 (times i (take (s.1 - s.0) (drop s.0 es)))

  abbrev pub has_moved : List (Leaf K) → Option (ℕ × (ℕ × ℕ)) → ℕ → Bool
  has_moved leaves None i = false
  has_moved leaves (Some s) i = is_within (leaf_at leaves s.0) s.1 i

  -- A change that brings one entry into a leaf, or takes it out, and moves those of a stretch there from another leaf. Every other entry
  -- stays in its leaf, and there is room for as many entries as before.
  pub record Houses (old new : Leaves K) (name : ℕ) (leaf : Option ℕ) (moved : Option (ℕ × (ℕ × ℕ))) : Type 0 where
    pub own : leaf_of new.leaves name ≡ leaf
    pub others : (i : ℕ) → i ≢ name → has_moved new.leaves moved i ≡ false → leaf_of new.leaves i ≡ leaf_of old.leaves i
    pub stretch : IfSome moved (λ s. IsSomeAnd (leaf_at new.leaves s.0) (λ es. s.1.1 ≤ length es))
    pub room : new.room ≡ old.room

  -- The entry at a place has a new name. Every other name stays in its leaf.
  pub record Renames (old new : Leaves K) (p : ℕ × ℕ) (before after : ℕ) : Type 0 where
    pub own : leaf_of new.leaves after ≡ Some p.0
    pub gone : leaf_of new.leaves before ≡ None
    pub others : (i : ℕ) → i ≢ before → i ≢ after → leaf_of new.leaves i ≡ leaf_of old.leaves i

  -- The entries at two places have each other's name. Every other name stays in its leaf.
  pub record SwapsNames (old new : Leaves K) (p q : ℕ × ℕ) (first second : ℕ) : Type 0 where
    pub first_leaf : leaf_of new.leaves first ≡ Some q.0
    pub second_leaf : leaf_of new.leaves second ≡ Some p.0
    pub others : (i : ℕ) → i ≢ first → i ≢ second → leaf_of new.leaves i ≡ leaf_of old.leaves i
