-- Leaves by their numbers, as the private calls change them.
use Rattle.std.specs.Prelude.{◌≡◌, ℕ, ◌==◌, ◌<◌, Bool, true, false, if◌then◌else◌, List, [], ◌∷◌, ◌++◌, length, slice_get, Option, Some, None, IfSome}
use Rattle.triple_ord.specs.Gap.{first_of, last_of}
use Rattle.leaf_list.specs.Leaves.{Leaf}

module _ {K : Type 0} where
  -- the entries of the leaf with this number; none if there is no such leaf
  abbrev pub entries_in : List (Leaf K) → ℕ → List (K × ℕ)
  entries_in [] n = []
  entries_in (l ∷ ls) n = if l.number == n then l.entries else entries_in ls n

  -- there is a leaf with this number, and it has an entry
  abbrev pub HasLeaf : List (Leaf K) → ℕ → Type 0
  HasLeaf leaves n = 0 < length (entries_in leaves n)

  -- the leaves with other entries in the one with this number
  abbrev pub with_entries : List (Leaf K) → ℕ → List (K × ℕ) → List (Leaf K)
  with_entries [] n es = []
  with_entries (l ∷ ls) n es = if l.number == n then record l { entries = es } ∷ ls else l ∷ with_entries ls n es

  -- the leaves without the one with this number
  abbrev pub without_leaf : List (Leaf K) → ℕ → List (Leaf K)
  without_leaf [] n = []
  without_leaf (l ∷ ls) n = if l.number == n then ls else l ∷ without_leaf ls n

  -- the leaves with one more, behind the one with this number
  abbrev pub with_leaf : List (Leaf K) → ℕ → Leaf K → List (Leaf K)
  with_leaf [] n new = []
  with_leaf (l ∷ ls) n new = if l.number == n then l ∷ new ∷ ls else l ∷ with_leaf ls n new

  -- the number of the first leaf, and of the last one
  abbrev pub first_number : List (Leaf K) → Option ℕ
  first_number [] = None
  first_number (l ∷ ls) = Some l.number

  abbrev pub last_number : List (Leaf K) → Option ℕ
  last_number [] = None
  last_number (l ∷ []) = Some l.number
  last_number (l ∷ m ∷ ls) = last_number (m ∷ ls)

  -- the number of the leaf behind the one with this number, and of the leaf before it
  abbrev pub number_after : List (Leaf K) → ℕ → Option ℕ
  number_after [] n = None
  number_after (l ∷ ls) n = if l.number == n then first_number ls else number_after ls n

  abbrev pub number_before : Option ℕ → List (Leaf K) → ℕ → Option ℕ
  number_before before [] n = None
  number_before before (l ∷ ls) n = if l.number == n then before else number_before (Some l.number) ls n

-- Where a search of the leaves' first entries stops: those of the leaves before are passed, as far as the last one tells, and those behind
-- aren't, as far as the first one tells.
pub record StopsBetween {K : Type 0} (passes : K → Bool) (leaves front back : List (Leaf K)) : Type 0 where
  pub cut : leaves ≡ front ++ back
  pub low : IfSome (last_of None front) (λ l. IfSome (slice_get l.entries 0) (λ e. passes e.0 ≡ true))
  pub high : IfSome (first_of back) (λ l. IfSome (slice_get l.entries 0) (λ e. passes e.0 ≡ false))

-- The search ends at the leaf n, which is directly before the stop, or directly behind it.
pub record StopsBeside {K : Type 0} (passes : K → Bool) (leaves : List (Leaf K)) (n : ℕ) (is_before : Bool) : Type 0 where
  pub front : List (Leaf K)
  pub back : List (Leaf K)
  pub stop : StopsBetween passes leaves front back
  pub here : (if is_before then last_number front else first_number back) ≡ Some n

-- The search leads to the leaf n, which is directly before the stop, or else it stops before all leaves, and n is the first.
pub record LeadsTo {K : Type 0} (passes : K → Bool) (leaves : List (Leaf K)) (n : ℕ) (is_behind : Bool) : Type 0 where
  pub front : List (Leaf K)
  pub back : List (Leaf K)
  pub stop : StopsBetween passes leaves front back
  pub here : (if is_behind then first_number back else last_number front) ≡ Some n
  pub none_before : is_behind ≡ true → front ≡ []

-- the leaf itself, if the stop is behind it, and else the leaf before it; or the leaf and true, if it is the first and the stop is before it
abbrev pub chosen : {I : Type 0} → I → Bool → Option I → I × Bool
chosen leaf true before = (leaf, false)
chosen leaf false (Some before) = (before, false)
chosen leaf false None = (leaf, true)
