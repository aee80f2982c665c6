-- How an iterator over a sorted arena stands in its list (layout).
use Rattle.std.specs.Prelude.{◌≡◌, ◌==◌, ℕ, Bool, true, false, if◌then◌else◌, List, [], ◌∷◌, ◌++◌, Option, Some, None}
use Rattle.std.specs.{Option.option_map, declared.cmp.Ordering.Ordering, declared.ops.Bound.Bound, BTreeMap.Range.is_from_start}
use Rattle.listing.specs.{Chain.Entry, Chain.IsDistinct, Chain.from_index, Gap.first_of}

module _ {T : Type 0} where
  -- the entries before the one with this index
  abbrev pub before_index : ℕ → List (Entry T) → List (Entry T)
  before_index i [] = []
  before_index i (e ∷ es) = if e.index == i then [] else e ∷ before_index i es

  -- the entries from the one with the first index on, and before the one with the second; none and all of them where an index is None
  abbrev pub stretch : List (Entry T) → Option ℕ → Option ℕ → List (Entry T)
  stretch es None end = []
  stretch es (Some i) None = from_index es i
  stretch es (Some i) (Some j) = before_index j (from_index es i)

  -- the index of the first entry, if any
  abbrev pub first_index : List (Entry T) → Option ℕ
  first_index es = option_map (λ e. e.index) (first_of es)

  -- whether an entry has this index
  abbrev pub has_index : ℕ → List (Entry T) → Bool
  has_index i [] = false
  has_index i (e ∷ es) = if e.index == i then true else has_index i es

  -- whether the entry with the second index, if any, is not before the one with the first; without a first one there is no second
  abbrev pub are_in_order : Option ℕ → Option ℕ → List (Entry T) → Bool
  are_in_order (Some i) (Some j) es = has_index j (from_index es i)
  are_in_order None (Some j) es = false
  are_in_order first None es = true

  -- the list is cut at two places, and these are the indexes of the entries behind them
  pub record IsStretch (es : List (Entry T)) (first end : Option ℕ) : Type 0 where
    pub distinct : IsDistinct es
    pub front : List (Entry T)
    pub middle : List (Entry T)
    pub back : List (Entry T)
    pub cut : es ≡ front ++ (middle ++ back)
    pub begins : first_index (middle ++ back) ≡ first
    pub ends : first_index back ≡ end

-- whether a pair, if any, is not before the start of a range
abbrev pub is_forward : {K V : Type 0} → (K → K → Ordering) → Bound K → Option (K × V) → Bool
is_forward cmp from None = true
is_forward cmp from (Some pair) = is_from_start cmp from pair.0
