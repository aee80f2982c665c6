-- What searches find in a sorted arena: the pointer of the entry that they look for, or `None`, if there is no such entry.
use Rattle.std.specs.Prelude.{◌≡◌, ◌≢◌, ℕ, Bool, Option, IfSome, IfNone, IsSome, IsSomeAnd}
use Rattle.std.specs.{List.All, Option.option_map, Ordering.is_eq, Ordering.is_le, Ordering.is_lt, declared.cmp.Ordering.Ordering}
use Rattle.std.specs.declared.cmp.Ordering.TheVariants.{Equal, Less, Greater}
use Rattle.listing.specs.Chain.{first_pointer, last_pointer}
use Rattle.sorted_arena.specs.Sorted.{Sorted, count, get, first_where, key_of, IsSound, IsWithinRankedBound}

-- Searches by key. The parameters: the order of keys, the greatest index of a pointer, the numbers of a pointer, the arena, and the key.
module _ {K V P : Type 0} (cmp : K → K → Ordering) (most : ℕ) (numbers : P → ℕ × ℕ) (a : Sorted K V) (k : K) where
  -- The first entry that passes a test of how k compares with its key. `Passes` holds of an order that passes, and `Fails` of one that
  -- doesn't.
  pub record FindsFirst (test : Ordering → Bool) (Passes Fails : Ordering → Type 0) (result : Option P) : Type 0 where
    pub value : option_map numbers result ≡ first_where (λ e. test (cmp k (key_of e))) a.entries
    pub finds : IfSome result (λ p. IsSomeAnd (get a (numbers p)) (λ e. Passes (cmp k e.0)))
    pub none : IfNone result (All (λ e. Fails (cmp k (key_of e))) a.entries)
    pub sound : IsSound cmp most a

  -- the first entry whose key equals k; the first whose key is at least k; the first whose key is greater than k
  abbrev pub FindsFirstEqual : Option P → Type 0
  FindsFirstEqual = FindsFirst is_eq (λ o. o ≡ Equal) (λ o. o ≢ Equal)

  abbrev pub FindsLowerBound : Option P → Type 0
  FindsLowerBound = FindsFirst is_le (λ o. o ≢ Greater) (λ o. o ≡ Greater)

  abbrev pub FindsUpperBound : Option P → Type 0
  FindsUpperBound = FindsFirst is_lt (λ o. o ≡ Less) (λ o. o ≢ Less)

-- A search among n entries that visits c of them: what it finds, and the bound on c.
pub record IsCountedSearch (n c : ℕ) (Finds : Type 0) : Type 0 where
  pub finds : Finds
  pub visits : IsWithinRankedBound n c

-- Searches by place. The parameters: the order of keys, the greatest index of a pointer, the numbers of a pointer, the arena, and what
-- was found.
module _ {K V P : Type 0} (cmp : K → K → Ordering) (most : ℕ) (numbers : P → ℕ × ℕ) (a : Sorted K V) (result : Option P) where
  -- the first entry, whose key is at most each key
  pub record FindsLeast : Type 0 where
    pub value : option_map numbers result ≡ first_pointer a.entries
    pub least : IfSome result (λ p. IsSomeAnd (get a (numbers p)) (λ own. All (λ e. cmp own.0 (key_of e) ≢ Greater) a.entries))
    pub none : IfNone result (count a ≡ 0)
    pub sound : IsSound cmp most a

  -- the last entry, whose key is at least each key
  pub record FindsGreatest : Type 0 where
    pub value : option_map numbers result ≡ last_pointer a.entries
    pub greatest : IfSome result (λ p. IsSomeAnd (get a (numbers p)) (λ own. All (λ e. cmp (key_of e) own.0 ≢ Greater) a.entries))
    pub none : IfNone result (count a ≡ 0)
    pub sound : IsSound cmp most a

  -- The neighbour of a pointer's entry at a place, which has these numbers. The relation holds of the entry's key and the neighbour's.
  pub record FindsNeighbour (R : K → K → Type 0) (place : Option (ℕ × ℕ)) (p : ℕ × ℕ) : Type 0 where
    pub value : option_map numbers result ≡ place
    pub named : IfSome result (λ q. IsSome (get a (numbers q)))
    pub in_order : IfSome result (λ q. IsSomeAnd (get a p) (λ own. IsSomeAnd (get a (numbers q)) (λ other. R own.0 other.0)))
    pub sound : IsSound cmp most a
