-- A walk along the list of an arena that borrows nothing. It holds the index of the entry that it returns next, or none.
use Rattle.std.specs.Prelude.{◌≡◌, ℕ, Bool, Option, Some, None, List, [], ◌∷◌, if◌then◌else◌, map, reverse, MatchOption, IsSome}
use Rattle.std.specs.Option.{option_and_then}
use Rattle.ord_tree.specs.{Chain.link_at, Tree.Tree}
use Rattle.triple_ord.specs.{Arena.item_of, Search.pointer, Walk.entries_left}

-- the position of a walk, and whether it goes back along the list
pub record OrderedWalk : Type 0 where
  pub at : Option ℕ
  pub falling : Bool

module _ {T : Type 0} where
  -- what a walk returns as long as the list is unchanged: the pointers from its position to the end in its direction
  abbrev pub ordered_rest : OrderedWalk → Tree T → List (ℕ × ℕ)
  ordered_rest w a = map pointer (entries_left (if w.falling then reverse a.list.entries else a.list.entries) w.at)

  -- the index of the neighbour of the entry at index i: the next one, or the previous one if the walk goes back
  abbrev pub neighbour_at : Tree T → Bool → ℕ → Option ℕ
  neighbour_at a falling i = option_and_then (λ e. if falling then e.1.prev else e.1.next) (link_at a.list.entries i)

  -- A step over the arena in its current state took a walk from `old` to `new` and returned the entry at the walk's position, with index
  -- i and generation g. The walk goes to that entry's neighbour, or to none.
  pub record GivesEntry (old new : OrderedWalk) (a : Tree T) (i g : ℕ) : Type 0 where
    pub stood : old.at ≡ Some i
    pub there : IsSome (item_of a (i, g))
    pub first : ordered_rest old a ≡ (i, g) ∷ ordered_rest new a
    pub stands : new ≡ record old { at = neighbour_at a old.falling i }

  -- a step returned nothing: no entry has the index, and the walk has ended
  pub record GivesNothing (old new : OrderedWalk) (a : Tree T) : Type 0 where
    pub none_left : ordered_rest old a ≡ []
    pub ends : new ≡ record old { at = None }

  -- a step over the arena took the walk from `old` to `new` and returned this pointer or nothing
  abbrev pub OrderedWalkSteps : {P : Type 0} → (P → ℕ × ℕ) → OrderedWalk → Tree T → Option P → OrderedWalk → Type 0
  OrderedWalkSteps numbers old a result new = MatchOption result (GivesNothing old new a) (λ p. GivesEntry old new a (numbers p).0 (numbers p).1)
