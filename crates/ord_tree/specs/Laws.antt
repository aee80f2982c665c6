-- The laws of balance: how the rank rules bound a tree's size and height.
use Rattle.std.specs.Prelude.{◌≡◌, ℕ, ◌+◌, ◌^◌, ◌<◌, ◌≤◌, List}
use Rattle.ord_tree.specs.{Shape.Shape, Shape.rank_of, Shape.size_of, Shape.walk, Shape.height, Numbers.fib, Numbers.HasDigits}
use Rattle.ord_tree.specs.{Ranks.IsRanked, Ranks.IsTight, Half.IsRebuilt}

-- no path down has more nodes than the root's rank
abbrev pub HeightLaw : Type 0
HeightLaw = (s : Shape) → IsRanked s → height s ≤ rank_of s

-- a nonempty tree of n nodes and rank R has 2 ^ (R + 1) ≤ (n + 1) ^ 2
abbrev pub RankSquareLaw : Type 0
RankSquareLaw = (s : Shape) → IsRanked s → 0 < size_of s → 2 ^ (rank_of s + 1) ≤ (size_of s + 1) ^ 2

-- a tree of n nodes, n + 1 < 2 ^ 64, has a rank of at most 126
abbrev pub RankLaw : Type 0
RankLaw = (s : Shape) → IsRanked s → size_of s + 1 < 2 ^ 64 → rank_of s ≤ 126

-- a tight tree of n nodes and rank R has fib (R + 2) ≤ n + 1
abbrev pub TightRankLaw : Type 0
TightRankLaw = (s : Shape) → IsRanked s → IsTight s → fib (rank_of s + 2) ≤ size_of s + 1

-- a rebuilt tree obeys the rank rules
abbrev pub RebuiltRanksLaw : Type 0
RebuiltRanksLaw = (s : Shape) → IsRebuilt s → IsRanked s

-- the longest path down in a rebuilt tree of n nodes has as many nodes as n has binary digits
abbrev pub RebuiltHeightLaw : Type 0
RebuiltHeightLaw = (s : Shape) (d : ℕ) → IsRebuilt s → HasDigits (size_of s) d → height s ≡ d

-- every list of indexes is the walk of a rebuilt tree
abbrev pub RebuiltExistsLaw : Type 0
RebuiltExistsLaw = (order : List ℕ) → (s : Shape) × (walk s ≡ order) × IsRebuilt s

-- every number has a number of binary digits
abbrev pub DigitsExistLaw : Type 0
DigitsExistLaw = (n : ℕ) → (d : ℕ) × HasDigits n d
