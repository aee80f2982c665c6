-- The potential of a shape (Sleator and Tarjan, "Amortized computational complexity", 1985), and the rank changes that it pays for.
use Rattle.std.specs.Prelude.{◌≡◌, ℕ, ◌+◌, ◌≤◌, ◌==◌, ◌&&◌, ◌⊎◌, if◌then◌else◌, List, length, Contains}
use Rattle.ord_tree.specs.{Shape.Shape, Shape.missing, Shape.node, Shape.rank_of, Ranks.HasRank}

-- The potential of a node of rank k over sides of ranks l and r: 1 if it is full, with both rank differences 1; 3 if it is slack,
-- with both differences 2; otherwise 0.
unfoldable pub node_potential : ℕ → ℕ → ℕ → ℕ
node_potential k l r = if (k == l + 1) && (k == r + 1) then 1 else (if (k == l + 2) && (k == r + 2) then 3 else 0)

-- the potential of a shape, which is the sum over its nodes
abbrev pub potential : Shape → ℕ
potential missing = 0
potential (node l i k r) = node_potential k (rank_of l) (rank_of r) + potential l + potential r

-- the list names the index of each entry that is in both shapes with different ranks
abbrev pub NamesRankChanges : List ℕ → Shape → Shape → Type 0
NamesRankChanges changed old new = (i k l : ℕ) → HasRank old i k → HasRank new i l → Contains changed i ⊎ (k ≡ l)

-- the number of entries whose rank changes, plus the new potential, is at most the old potential plus m
abbrev pub ChangesRanksWithin : ℕ → Shape → Shape → Type 0
ChangesRanksWithin m old new = (changed : List ℕ) × (length changed + potential new ≤ potential old + m) × NamesRankChanges changed old new
