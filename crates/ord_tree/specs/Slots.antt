-- What nodes store together: slots as a function from index to links, and the shape that the links form.
use Rattle.std.specs.Prelude.{◌≡◌, ◌≢◌, ℕ, zero, suc, ◌+◌, ◌≤◌, ◌==◌, ◌⊎◌, if◌then◌else◌, Option, None, Some, option_map, unwrap_or, is_some, List, [], ◌∷◌, length}
use Rattle.chain_base.specs.Chain.{Chain}
use Rattle.ord_tree.specs.{Shape.Shape, Shape.missing, Shape.node, Shape.fork, TreeLinks.other_side, TreeLinks.child_at, TreeLinks.with_child_at}
use Rattle.ord_tree.specs.{declared.tree_links.TreeLinks.TreeLinks, declared.tree_links.Side.Side}

-- the links at each index, None without a node
abbrev pub Slots : Type 0
Slots = ℕ → Option (TreeLinks ℕ)

-- the link leads to nodes that form the shape, with this parent above the root
abbrev pub Holds : Slots → Option ℕ → Option ℕ → Shape → Type 0
Holds at above link missing = link ≡ None
Holds at above link (node l i k r) =
    (n : TreeLinks ℕ) × (link ≡ Some i) × (at i ≡ Some n) × (n.back ≡ above) × (n.rank ≡ k)
    × Holds at (Some i) n.lesser l × Holds at (Some i) n.greater r

-- the path from a branch of a tree up to the root: for each step the side it comes from, the node, its rank, and the shape on its other
-- side
pub data Way : Type 0 where
  top : Way
  up : Side → ℕ → ℕ → Shape → Way → Way

-- the whole tree, with this shape at the path's end
abbrev pub plug : Way → Shape → Shape
plug top s = s
plug (up side i k far rest) s = plug rest (fork side s i k far)

-- the parent of the shape at the path's end
abbrev pub above : Way → Option ℕ
above top = None
above (up side i k far rest) = Some i

-- from the root on, the nodes form the path, with this link at its end
abbrev pub HoldsWay : Slots → Option ℕ → Way → Option ℕ → Type 0
HoldsWay at root top link = root ≡ link
HoldsWay at root (up side i k far rest) link =
    (n : TreeLinks ℕ) × (at i ≡ Some n) × (n.back ≡ above rest) × (n.rank ≡ k) × (child_at side n ≡ link)
    × Holds at (Some i) (child_at (other_side side) n) far × HoldsWay at root rest (Some i)

-- 1 if the two indexes are equal, else 0
abbrev pub here : ℕ → ℕ → ℕ
here j i = if j == i then 1 else 0

-- how often an index occurs in a list, in a shape and on a path
abbrev pub times : ℕ → List ℕ → ℕ
times j [] = 0
times j (i ∷ is) = here j i + times j is

abbrev pub times_in : ℕ → Shape → ℕ
times_in j missing = 0
times_in j (node l i k r) = times_in j l + here j i + times_in j r

abbrev pub times_way : ℕ → Way → ℕ
times_way j top = 0
times_way j (up side i k far rest) = here j i + times_in j far + times_way j rest

-- no index occurs twice on the path and in the shape at its end
abbrev pub IsApart : Way → Shape → Type 0
IsApart way s = (j : ℕ) → times_way j way + times_in j s ≤ 1

-- no index occurs twice in the list
abbrev pub IsOnce : List ℕ → Type 0
IsOnce order = (j : ℕ) → times j order ≤ 1

-- the parent that an index stores, None without a node
abbrev pub back_at : Slots → ℕ → Option (Option ℕ)
back_at at j = option_map (λ n. n.back) (at j)

-- the index is in the list
abbrev pub Among : ℕ → List ℕ → Type 0
Among j [] = ⊥
Among j (i ∷ is) = (j ≡ i) ⊎ Among j is

-- at most m indexes store another parent: a list of at most m indexes names them all
abbrev pub MovesBacks : ℕ → Slots → Slots → Type 0
MovesBacks m old new =
    (moved : List ℕ) × (length moved ≤ m) × ((j : ℕ) → Among j moved ⊎ (back_at old j ≡ back_at new j))

-- the rank of the node that a link leads to, 0 for an empty link
abbrev pub rank_at : Slots → Option ℕ → ℕ
rank_at at None = 0
rank_at at (Some i) = unwrap_or (option_map (λ (n : TreeLinks ℕ). n.rank) (at i)) 0

-- the node i with these links, over the shapes below its links
abbrev pub node_with : ℕ → Option (TreeLinks ℕ) → (Option ℕ → Shape) → Shape
node_with i None below = missing
node_with i (Some n) below = node (below n.lesser) i n.rank (below n.greater)

-- the shape that a link leads to, at most this many levels deep
abbrev pub shape_under : ℕ → Slots → Option ℕ → Shape
shape_under zero at link = missing
shape_under (suc n) at None = missing
shape_under (suc n) at (Some i) = node_with i (at i) (shape_under n at)

-- From old to new, the links at i become what `write` makes of them. All other links stay, and so does the list.
pub record Writes {T : Type 0} (i : ℕ) (write : TreeLinks ℕ → TreeLinks ℕ) (old new : Slots) (list_old list_new : Chain T) : Type 0 where
  pub here : (n : TreeLinks ℕ) → old i ≡ Some n → new i ≡ Some (write n)
  pub elsewhere : (j : ℕ) → j ≢ i → new j ≡ old j
  pub occupied : (j : ℕ) → is_some (new j) ≡ is_some (old j)
  pub kept : list_new ≡ list_old

-- From old to new, the node that the link leads to, if any, gets this parent. All other links stay, and so does the list.
pub record Hangs {T : Type 0} (link back : Option ℕ) (old new : Slots) (list_old list_new : Chain T) : Type 0 where
  pub here : (i : ℕ) (n : TreeLinks ℕ) → link ≡ Some i → old i ≡ Some n → new i ≡ Some (record n { back = back })
  pub elsewhere : (j : ℕ) → link ≢ Some j → new j ≡ old j
  pub occupied : (j : ℕ) → is_some (new j) ≡ is_some (old j)
  pub kept : list_new ≡ list_old

-- From old to new, `instead` takes the place of the child: as the root if the child has no parent, else on its side of the parent. All
-- other links stay, and so does the list.
pub record ReplacesChild {T : Type 0} (parent : Option ℕ) (child : ℕ) (instead root_old root_new : Option ℕ) (old new : Slots)
    (list_old list_new : Chain T) : Type 0 where
  pub at_top : parent ≡ None → root_new ≡ instead
  pub below : (p : ℕ) → parent ≡ Some p → root_new ≡ root_old
  pub here : (p : ℕ) (n : TreeLinks ℕ) (side : Side) → parent ≡ Some p → old p ≡ Some n → child_at side n ≡ Some child
      → child_at (other_side side) n ≢ Some child → new p ≡ Some (with_child_at side instead n)
  pub elsewhere : (j : ℕ) → parent ≢ Some j → new j ≡ old j
  pub occupied : (j : ℕ) → is_some (new j) ≡ is_some (old j)
  pub kept : list_new ≡ list_old
  pub backs : (j : ℕ) → back_at old j ≡ back_at new j
