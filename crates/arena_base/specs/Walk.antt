-- Walks over an arena by index: the pointers that an advancer has yet to return, and the entries that a drain has yet to remove.
use Rattle.std.specs.Prelude.{◌≡◌, ℕ, ◌+◌, ◌-◌, Bool, true, false, Option, Some, None, List, [], ◌∷◌, ◌==◌, ◌&&◌, count_by, if◌then◌else◌, take, drop, reverse, MatchOption, IfSome, IsSome}
use Rattle.arena_base.specs.Arena.{Arena, item_of}

-- a walk is between the indexes `at` and `at + 1`, and goes up or down from there
pub record Walk : Type 0 where
  pub at : ℕ
  pub falling : Bool

-- a walk up that begins with the entry at index i, or else the next one above
abbrev pub rising_walk : ℕ → Walk
rising_walk i = record { at = i - 1; falling = false }

-- a walk down that begins with the entry at index i, or else the next one below
abbrev pub falling_walk : ℕ → Walk
falling_walk i = record { at = i; falling = true }

-- the walk after it returned the entry at index i: it goes on from there in the same direction
abbrev pub walk_from : Walk → ℕ → Walk
walk_from w i = record w { at = if w.falling then i - 1 else i }

-- the walk never returns anything again, whatever entries are inserted
abbrev pub HasEnded : Walk → Type 0
HasEnded w = w ≡ falling_walk 0

-- how many of these pointers are p
abbrev pub times_named : ℕ × ℕ → List (ℕ × ℕ) → ℕ
times_named p ps = count_by (λ q. q.0 == p.0 && q.1 == p.1) ps

module _ {T : Type 0} where
  -- the index, generation and item of each entry, if the first slot has index `from`
  abbrev pub entries_from : ℕ → List (Option (ℕ × T)) → List (ℕ × ℕ × T)
  entries_from from [] = []
  entries_from from (None ∷ slots) = entries_from (from + 1) slots
  entries_from from (Some e ∷ slots) = (from, e.0, e.1) ∷ entries_from (from + 1) slots

  -- the index and generation of each entry, if the first slot has index `from`
  abbrev pub pointers_from : ℕ → List (Option (ℕ × T)) → List (ℕ × ℕ)
  pointers_from from [] = []
  pointers_from from (None ∷ slots) = pointers_from (from + 1) slots
  pointers_from from (Some e ∷ slots) = (from, e.0) ∷ pointers_from (from + 1) slots

  -- the entries from index i on, by rising index
  abbrev pub entries_rising : Arena T → ℕ → List (ℕ × ℕ × T)
  entries_rising a i = entries_from i (drop i a.slots)

  -- the pointers of all entries, by rising index
  abbrev pub pointers : Arena T → List (ℕ × ℕ)
  pointers a = pointers_from 0 a.slots

  -- the pointers from index i on, by rising index
  abbrev pub rising_from : Arena T → ℕ → List (ℕ × ℕ)
  rising_from a i = pointers_from i (drop i a.slots)

  -- the pointers up to index i, by falling index
  abbrev pub falling_from : Arena T → ℕ → List (ℕ × ℕ)
  falling_from a i = reverse (pointers_from 0 (take (i + 1) a.slots))

  -- A call that looks for the next entry of a walk returns a place and the first pointer that is left, or `None` if none is. `way` has the
  -- pointers that are left, and `rest` those that are left behind a place. The entry is there, at the index that `index` reads off the place.
  pub record FindsNext {P : Type 0} (numbers : P → ℕ × ℕ) (a : Arena T) (way : List (ℕ × ℕ)) (rest : ℕ → List (ℕ × ℕ)) (index : ℕ → ℕ) (result : Option (ℕ × P)) : Type 0 where
    pub pointers : MatchOption result (way ≡ []) (λ e. way ≡ numbers e.1 ∷ rest e.0)
    pub there : IfSome result (λ e. IsSome (item_of a (numbers e.1)))
    pub next : IfSome result (λ e. index e.0 ≡ (numbers e.1).0)

  -- what a walk still returns if the arena doesn't change
  abbrev pub walk_rest : Walk → Arena T → List (ℕ × ℕ)
  walk_rest w a = if w.falling then falling_from a w.at else rising_from a (w.at + 1)

  -- a walk begins before the least index, so all pointers are on its way
  pub record GoesOverAll (w : Walk) (a : Arena T) : Type 0 where
    pub begins : w ≡ rising_walk 1
    pub rest : walk_rest w a ≡ pointers a

  -- a walk begins with index i and goes up, or down if `rev` is true
  pub record GoesFrom (w : Walk) (a : Arena T) (i : ℕ) (rev : Bool) : Type 0 where
    pub begins : w ≡ (if rev then falling_walk i else rising_walk i)
    pub rising : rev ≡ false → walk_rest w a ≡ rising_from a i
    pub falling : rev ≡ true → walk_rest w a ≡ falling_from a i

  -- A step over the arena took the walk from `old` to `new` and returned the next entry on its way, which has index i and generation g.
  pub record GivesEntry (old new : Walk) (a : Arena T) (i g : ℕ) : Type 0 where
    pub there : IsSome (item_of a (i, g))
    pub first : walk_rest old a ≡ (i, g) ∷ walk_rest new a
    pub stands : new ≡ walk_from old i

  -- A step returned nothing: no entry is on the way now. The walk stays, so entries that are inserted there later come next.
  pub record GivesNothing (old new : Walk) (a : Arena T) : Type 0 where
    pub none_left : walk_rest old a ≡ []
    pub stays : new ≡ old

  -- a step over the arena took the walk from `old` to `new` and returned this pointer or nothing
  abbrev pub WalkSteps : {P : Type 0} → (P → ℕ × ℕ) → Walk → Arena T → Option P → Walk → Type 0
  WalkSteps numbers old a result new = MatchOption result (GivesNothing old new a) (λ p. GivesEntry old new a (numbers p).0 (numbers p).1)
