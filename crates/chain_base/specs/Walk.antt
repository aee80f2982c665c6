-- A walk along a chain: the index of the entry that it returns next, or None.
use Rattle.std.specs.Prelude.{◌≡◌, ℕ, List, [], ◌∷◌, map, Option, Some, None, MatchOption}
use Rattle.std.specs.Option.{option_and_then}
use Rattle.chain_base.specs.Chain.{Entry, Chain, from_index, link_at}

module _ {T : Type 0} where
  -- the index and generation of each entry, in list order
  abbrev pub pointers : List (Entry T) → List (ℕ × ℕ)
  pointers es = map (λ e. (e.index, e.generation)) es

  -- the pointers from the entry with this index on; none without an index
  abbrev pub pointers_left : Option ℕ → Chain T → List (ℕ × ℕ)
  pointers_left None c = []
  pointers_left (Some i) c = pointers (from_index c.entries i)

  -- the index of the entry after the one with this index, as its link names it
  abbrev pub index_after : List (Entry T) → ℕ → Option ℕ
  index_after es i = option_and_then (λ e. e.1.next) (link_at es i)

  -- A step over the chain took the walk from `old` to `new` and returned the entry at its index i, with generation g. The walk is now at
  -- the index of the entry after that, or at None.
  pub record GivesEntry (old new : Option ℕ) (c : Chain T) (i g : ℕ) : Type 0 where
    pub stood : old ≡ Some i
    pub first : pointers_left old c ≡ (i, g) ∷ pointers_left new c
    pub stands : new ≡ index_after c.entries i

  -- a step returned nothing: no entry has the index, and the walk has ended
  pub record GivesNothing (old new : Option ℕ) (c : Chain T) : Type 0 where
    pub none_left : pointers_left old c ≡ []
    pub ends : new ≡ None

  -- a step over the chain took the walk from `old` to `new` and returned this pointer or nothing
  abbrev pub WalkSteps : {P : Type 0} → (P → ℕ × ℕ) → Option ℕ → Chain T → Option P → Option ℕ → Type 0
  WalkSteps numbers old c result new = MatchOption result (GivesNothing old new c) (λ p. GivesEntry old new c (numbers p).0 (numbers p).1)
