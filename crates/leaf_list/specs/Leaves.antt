-- What a list of leaves is: entries in the order of their keys, cut into leaves.
use Rattle.std.specs.Prelude.{◌≡◌, ◌≢◌, ℕ, ◌+◌, ◌*◌, ◌/◌, ◌==◌, ◌<◌, ◌≤◌, max, if◌then◌else◌, List, [], ◌∷◌, length, nat_lt, Option, Some, None}
use Rattle.std.specs.{List.All, List.flat_map, Ordering.is_lt, declared.cmp.Ordering.Ordering}
use Rattle.std.specs.declared.cmp.Ordering.TheVariants.{Greater}

-- A leaf: its number, and its entries. An entry is a key and a name; the name is the index of its slot.
pub record Leaf (K : Type 0) : Type 0 where
  pub number : ℕ
  pub entries : List (K × ℕ)

-- The leaves in order, and how many entries there is room for, wherever they are put.
pub record Leaves (K : Type 0) : Type 0 where
  pub leaves : List (Leaf K)
  pub room : ℕ

module _ {K : Type 0} where
  -- the entries of all leaves, in order, and how many there are
  abbrev pub entries_of : List (Leaf K) → List (K × ℕ)
  entries_of leaves = flat_map (λ l. l.entries) leaves

  abbrev pub count : Leaves K → ℕ
  count a = length (entries_of a.leaves)

  -- how many entries have this name
  abbrev pub times : ℕ → List (K × ℕ) → ℕ
  times i [] = 0
  times i (e ∷ es) = (if e.1 == i then 1 else 0) + times i es

  -- the entries without the one of this name
  abbrev pub without : ℕ → List (K × ℕ) → List (K × ℕ)
  without i [] = []
  without i (e ∷ es) = if e.1 == i then es else e ∷ without i es

  -- the entries of the leaf with this number
  abbrev pub leaf_at : List (Leaf K) → ℕ → Option (List (K × ℕ))
  leaf_at [] n = None
  leaf_at (l ∷ ls) n = if l.number == n then Some l.entries else leaf_at ls n

  -- the number of the leaf where the entry of this name is
  abbrev pub leaf_of : List (Leaf K) → ℕ → Option ℕ
  leaf_of [] i = None
  leaf_of (l ∷ ls) i = if nat_lt 0 (times i l.entries) then Some l.number else leaf_of ls i

  -- how many leaves have this number, and the greatest number of a leaf, or 0
  abbrev pub times_numbered : ℕ → List (Leaf K) → ℕ
  times_numbered n [] = 0
  times_numbered n (l ∷ ls) = (if l.number == n then 1 else 0) + times_numbered n ls

  abbrev pub greatest_number : List (Leaf K) → ℕ
  greatest_number [] = 0
  greatest_number (l ∷ ls) = max l.number (greatest_number ls)

  -- a name that a new entry may get: not 0, and no entry has it
  pub record IsFree (a : Leaves K) (i : ℕ) : Type 0 where
    pub positive : 0 < i
    pub unused : times i (entries_of a.leaves) ≡ 0

  -- each leaf but the last has at least 16 entries
  abbrev pub AreFilled : List (Leaf K) → Type 0
  AreFilled [] = Unit {0}
  AreFilled (l ∷ []) = Unit {0}
  AreFilled (l ∷ m ∷ ls) = (16 ≤ length l.entries) × AreFilled (m ∷ ls)

  -- No two leaves have the same number, and none has 0. Each leaf has an entry.
  pub record AreApart (leaves : List (Leaf K)) : Type 0 where
    pub distinct : (n : ℕ) → times_numbered n leaves ≤ 1
    pub positive : times_numbered 0 leaves ≡ 0
    pub some : All (λ l. 0 < length l.entries) leaves

  module _ (cmp : K → K → Ordering) where
    -- no entry's key is greater than that of a later entry
    abbrev pub AreSorted : List (K × ℕ) → Type 0
    AreSorted [] = Unit {0}
    AreSorted (e ∷ es) = All (λ f. cmp e.0 f.0 ≢ Greater) es × AreSorted es

    -- the entries with one more, behind all whose key is at most its own
    abbrev pub put_behind : K × ℕ → List (K × ℕ) → List (K × ℕ)
    put_behind x [] = x ∷ []
    put_behind x (e ∷ es) = if is_lt (cmp x.0 e.0) then x ∷ e ∷ es else e ∷ put_behind x es

    -- The entries are in the order of their keys. No two have the same name, and none has 0. Each leaf but the last is filled.
    pub record AreOrdered (leaves : List (Leaf K)) : Type 0 where
      pub sorted : AreSorted (entries_of leaves)
      pub distinct : (i : ℕ) → times i (entries_of leaves) ≤ 1
      pub positive : times 0 (entries_of leaves) ≡ 0
      pub filled : AreFilled leaves

    -- what holds of every list of leaves
    pub record IsSound (a : Leaves K) : Type 0 where
      pub ordered : AreOrdered a.leaves
      pub apart : AreApart a.leaves

-- the room that is made for so many entries: each leaf counts for the 16 that it has at least
abbrev pub room_for : ℕ → ℕ
room_for n = 16 * ((n + 15) / 16)
