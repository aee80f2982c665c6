-- Gaps of a list: the places before, between and after its entries.
use Rattle.std.specs.Prelude.{◌≡◌, ℕ, ◌+◌, List, [], ◌∷◌, ◌++◌, Option, Some, None}

module _ {X : Type 0} where
  -- the first element of a list, if any
  abbrev pub first_of : List X → Option X
  first_of [] = None
  first_of (x ∷ xs) = Some x

  -- the last element of a list, or `other` if the list is empty
  abbrev pub last_of : Option X → List X → Option X
  last_of other [] = other
  last_of other (x ∷ xs) = last_of (Some x) xs

  -- a gap cuts a list into the part before it and the part after it
  pub record Gap (xs : List X) : Type 0 where
    pub front : List X
    pub back : List X
    pub cut : xs ≡ front ++ back

  -- the neighbours before and after a gap
  abbrev pub before : {xs : List X} → Gap xs → Option X
  before gap = last_of None gap.front

  abbrev pub after : {xs : List X} → Gap xs → Option X
  after gap = first_of gap.back

  -- 1 for a value, else 0
  abbrev pub present : Option X → ℕ
  present None = 0
  present (Some x) = 1

  -- the number of neighbours of a gap: 2, or 1 at an end of the list, or 0 in an empty list
  abbrev pub neighbour_count : {xs : List X} → Gap xs → ℕ
  neighbour_count gap = present (before gap) + present (after gap)

  -- the list with x in the gap
  abbrev pub with_between : {xs : List X} → Gap xs → X → List X
  with_between gap x = gap.front ++ x ∷ gap.back
