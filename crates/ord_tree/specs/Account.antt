-- The amortized account of a repair, step by step: which ranks have changed, and what the potential has to pay for. No public clause
-- cites this file.
use Rattle.std.specs.Prelude.{◌≡◌, ℕ, zero, suc, ◌+◌, ◌-◌, ◌≤◌, ◌==◌, ◌⊎◌, if◌then◌else◌, Option, Some, None, List, [], ◌∷◌, length}
use Rattle.ord_tree.specs.Slots.{Slots, Holds, Way, top, up, here, Among}
use Rattle.ord_tree.specs.{Shape.Shape, Shape.missing, Shape.node, Shape.rank_of, Shape.walk, Potential.node_potential, Potential.potential, Promote.IsRising, Promote.IsSteep}
use Rattle.ord_tree.specs.{Demote.IsFallen, Demote.IsLeaning, Demote.IsLow, declared.tree_links.Side.Side}

-- the potential of the nodes on a path up to the root, with this rank at its end
abbrev pub potential_way : Way → ℕ → ℕ
potential_way top rank = 0
potential_way (up side i k far rest) rank = node_potential k rank (rank_of far) + potential far + potential_way rest k

-- k if the two indexes are equal, else 0
abbrev pub rank_here : ℕ → ℕ → ℕ → ℕ
rank_here j i k = if j == i then k else 0

-- the rank of an index in a shape and on a path; 0 if it isn't there
abbrev pub rank_in : Shape → ℕ → ℕ
rank_in missing j = 0
rank_in (node l i k r) j = rank_in l j + rank_here j i k + rank_in r j

abbrev pub rank_way : Way → ℕ → ℕ
rank_way top j = 0
rank_way (up side i k far rest) j = rank_here j i k + rank_in far j + rank_way rest j

-- the list names each index whose rank changes, except new ones, whose rank was 0
abbrev pub NamesChanges : List ℕ → (ℕ → ℕ) → (ℕ → ℕ) → Type 0
NamesChanges named was is = (j : ℕ) → Among j named ⊎ (was j ≡ 0) ⊎ (was j ≡ is j)

-- a state of the tree: the number of indexes whose ranks have changed since `was`, plus the credit that the state needs, is at most
-- the credit
pub record IsWithin {S : Type 0} (was : ℕ → ℕ) (ranks : S → ℕ → ℕ) (needs : S → ℕ) (credit : ℕ) : Type 0 where
  pub state : S
  pub named : List ℕ
  pub within : length named + needs state ≤ credit
  pub names : NamesChanges named was (ranks state)

-- the nodes form a tree over this list
pub record IsSpelled (at : Slots) (root : Option ℕ) (order : List ℕ) : Type 0 where
  pub shape : Shape
  pub held : Holds at None root shape
  pub listed : walk shape ≡ order

-- a tree over this list: it needs its potential
abbrev pub IsSpelledWithin : (ℕ → ℕ) → Slots → Option ℕ → List ℕ → ℕ → Type 0
IsSpelledWithin was at root order credit = IsWithin {S = IsSpelled at root order} was (λ s. rank_in s.shape) (λ s. potential s.shape) credit

-- y, if its change from the rank low is still to be counted; nothing if y is new
abbrev pub pending_change : ℕ → ℕ → List ℕ
pending_change y zero = []
pending_change y (suc low) = y ∷ []

module _ {at : Slots} {root : Option ℕ} {y : ℕ} {order : List ℕ} {slack : ℕ} (rising : IsRising at root y order slack) where
  -- the ranks before y rose
  abbrev pub rising_ranks : ℕ → ℕ
  rising_ranks j = rank_way rising.way j + rank_in rising.shape j - here j y

  -- the potential with y as it was, plus one for y's change
  abbrev pub rising_credit : ℕ
  rising_credit = length (pending_change y rising.low) + potential_way rising.way rising.low + potential rising.shape

module _ {at : Slots} {root : Option ℕ} {side : Side} {z y : ℕ} {order : List ℕ} {slack : ℕ} (steep : IsSteep at root side z y order slack) where
  -- the ranks before y rose
  abbrev pub steep_ranks : ℕ → ℕ
  steep_ranks j =
      rank_way steep.site.way j + (rank_in steep.site.outer j + rank_here j y steep.site.low + rank_in steep.site.inner j)
      + rank_here j z steep.site.high + rank_in steep.site.far j - here j y

  -- the same credit, written out: before y rose, z was neither full nor slack, and y now isn't either
  abbrev pub steep_credit : ℕ
  steep_credit = 1 + potential_way steep.site.way steep.site.high + potential steep.site.outer + potential steep.site.inner + potential steep.site.far

-- z has now risen: this needs the credit of that state
abbrev pub IsRisingWithin : (ℕ → ℕ) → Slots → Option ℕ → ℕ → List ℕ → ℕ → ℕ → Type 0
IsRisingWithin was at root z order slack credit = IsWithin {S = IsRising at root z order slack} was (λ r. rising_ranks r) (λ r. rising_credit r) credit

-- the reserve for an empty side: its node may become a leaf, which changes one rank and makes a full node
abbrev pub leaf_reserve : ℕ → ℕ
leaf_reserve zero = 2
leaf_reserve (suc k) = 0

-- the ranks of all indexes but z
abbrev pub ranks_without : ℕ → Shape → ℕ → ℕ
ranks_without z s j = if j == z then 0 else rank_in s j

module _ {at : Slots} {root : Option ℕ} {y : ℕ} {side : Side} {order : List ℕ} (fallen : IsFallen at root y side order) where
  -- the ranks in this state
  abbrev pub fallen_ranks : ℕ → ℕ
  fallen_ranks j = rank_way fallen.way j + rank_in fallen.low j + rank_here j y fallen.rank + rank_in fallen.far j

  -- the potential with y as if its side had not fallen, plus the reserve for a leaf
  abbrev pub fallen_credit : ℕ
  fallen_credit =
      leaf_reserve (rank_of fallen.low) + node_potential fallen.rank (rank_of fallen.low + 1) (rank_of fallen.far) + potential fallen.low + potential fallen.far
      + potential_way fallen.way fallen.rank

module _ {at : Slots} {root : Option ℕ} {side : Side} {y s : ℕ} {order : List ℕ} (lean : IsLeaning at root side y s order) where
  -- the ranks in this state
  abbrev pub leaning_ranks : ℕ → ℕ
  leaning_ranks j =
      rank_way lean.site.way j + rank_in lean.site.outer j + rank_here j s lean.site.low + rank_in lean.site.inner j + rank_here j y lean.site.high
      + rank_in lean.site.far j

  -- the same credit, written out: before its other side fell, y was neither full nor slack
  abbrev pub leaning_credit : ℕ
  leaning_credit =
      node_potential lean.site.low (rank_of lean.site.outer) (rank_of lean.site.inner) + potential lean.site.outer + potential lean.site.inner
      + potential lean.site.far + potential_way lean.site.way lean.site.high

-- y was demoted: this needs the potential with y one higher as seen from its parent
abbrev pub IsDemotedWithin : (ℕ → ℕ) → Slots → Option ℕ → ℕ → List ℕ → ℕ → Type 0
IsDemotedWithin was at root y order credit =
    IsWithin {S = IsLow at root (Some y) order} was (λ d j. rank_way d.way j + rank_in d.shape j)
    (λ d. potential_way d.way (rank_of d.shape + 1) + potential d.shape) credit

-- this side of y has now fallen: this needs the credit of that state
abbrev pub IsFallenWithin : (ℕ → ℕ) → Slots → Option ℕ → ℕ → Side → List ℕ → ℕ → Type 0
IsFallenWithin was at root y side order credit = IsWithin {S = IsFallen at root y side order} was (λ f. fallen_ranks f) (λ f. fallen_credit f) credit
