-- The entries whose keys are in a range, and what iterators over entries give.
use Rattle.std.specs.Prelude.{◌≡◌, ◌==◌, ℕ, ◌<◌, ◌^◌, Bool, if◌then◌else◌, List, [], ◌∷◌, filter, not, length}
use Rattle.std.specs.{Borrow.Bor, declared.cmp.Ordering.Ordering, declared.ops.Bound.Bound, BTreeMap.Range.range_contains}
use Rattle.std.specs.Iterator.{YieldsFirstBy, YieldsLastBy, Runs.EveryRun, Runs.ItemsMapTo, Runs.ItemsMapToReversed}
use Rattle.listing.specs.Chain.{Entry, from_index}
use Rattle.sorted_arena.specs.Sorted.{Sorted, key_of, IsSound}

-- the entries whose keys are between two bounds, in order
abbrev pub entries_between : {K V : Type 0} → (K → K → Ordering) → Bound K → Bound K → List (Entry (K × V)) → List (Entry (K × V))
entries_between cmp from until es = filter (λ e. range_contains cmp from until (key_of e)) es

-- whether the key of an entry is not in the range, and the entries for which it is so, in order
abbrev pub is_outside : {K V : Type 0} → (K → K → Ordering) → Bound K → Bound K → Entry (K × V) → Bool
is_outside cmp from until e = not (range_contains cmp from until (key_of e))

abbrev pub entries_outside : {K V : Type 0} → (K → K → Ordering) → Bound K → Bound K → List (Entry (K × V)) → List (Entry (K × V))
entries_outside cmp from until es = filter (is_outside cmp from until) es

-- an entry as an iterator gives it: its pointer, and references to its key and its value
abbrev pub shown_entry : {P K V : Type 0} → (P → ℕ × ℕ) → P × Bor K × Bor V → Entry (K × V)
shown_entry numbers x = record { index = (numbers x.0).0; generation = (numbers x.0).1; item = (x.1.now, x.2.now) }

-- a key and a value as an iterator gives them
abbrev pub shown_item : {K V : Type 0} → Bor K × Bor V → K × V
shown_item x = (x.0.now, x.1.now)

-- what a reference points to
abbrev pub target_of : {T : Type 0} → Bor T → T
target_of x = x.now

module _ {T : Type 0} where
  -- the entries up to the one with this index; all of them, if none has it
  abbrev pub up_to_index : ℕ → List (Entry T) → List (Entry T)
  up_to_index i [] = []
  up_to_index i (e ∷ es) = if e.index == i then e ∷ [] else e ∷ up_to_index i es

  -- the entries from the one with the first index to the one with the second; none, if that one is before it
  abbrev pub entries_from_to : ℕ → ℕ → List (Entry T) → List (Entry T)
  entries_from_to i j es = from_index (up_to_index j es) i

module _ {A X : Type 0} (shows : A → X) where
  -- each run of `next` shows what is left in order, and each run of `next_back` in reverse
  abbrev pub GivesInOrder : Type 0
  GivesInOrder = EveryRun (YieldsFirstBy shows (λ left. left)) (λ p. ItemsMapTo p shows p.from)

  abbrev pub GivesInReverse : Type 0
  GivesInReverse = EveryRun (YieldsLastBy shows (λ left. left)) (λ p. ItemsMapToReversed p shows p.from)

  -- What a chain of iterators needs of an iterator over these items: each run from either end shows what was left, and there are fewer
  -- than 2 ^ 64 items.
  pub record IsChainable {T : Type 0} (given : List T) : Type 0 where
    pub runs : GivesInOrder
    pub runs_back : GivesInReverse
    pub fits : length given < 2 ^ 64

  -- What a chain of iterators needs of an iterator over a part of each of these items.
  pub record IsChainableAs {T U : Type 0} (given : List T) (parts : List U) : Type 0 where
    pub runs : GivesInOrder
    pub runs_back : GivesInReverse
    pub fits : length parts ≡ length given

-- A call that returns an iterator over entries of a sorted arena: which entries, that the arena is sound, and what chains need.
pub record IteratesOver {P K V : Type 0} (cmp : K → K → Ordering) (most : ℕ) (numbers : P → ℕ × ℕ) (a : Sorted K V)
    (given : List (Entry (K × V))) (Which : Type 0) : Type 0 where
  pub entries : Which
  pub sound : IsSound cmp most a
  pub chains : IsChainable (shown_entry {K = K} {V = V} numbers) given
