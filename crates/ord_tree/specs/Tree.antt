-- A tree as its users see it: a list of entries, with a shape.
use Rattle.std.specs.Prelude.{◌≡◌, ◌<◌, ℕ, Bool, Option, None, Some, IsSome, Result, IfOk, OnOk, List, [], ◌∷◌, length, refl}
use Rattle.std.specs.declared.cmp.Ordering.{Ordering, TheVariants.Less, TheVariants.Equal, TheVariants.Greater}
use Rattle.std.specs.Coded.{Coded, code_by, coded×, coded_ℕ, coded_list, coded_option}
use Rattle.chain_base.specs.{InvalidationOption.InvalidationOption, ArenaCompression.compressed_generation, ArenaCompression.compression_overflows}
use Rattle.chain_base.specs.{Insert.IsInsertion, Link.Link, PlainArena.Arena, Invalidation.is_overflow}
use Rattle.chain_base.specs.Chain.{Entry, Chain, insert_after, insert_before, next_index, link_at, IsArenaOf, with_item as chain_with_item, IsOccupied, IsSound}
use Rattle.ord_tree.specs.{declared.node.SimpleOrdArenaNode.SimpleOrdArenaNode as Node, Shape.Shape, Shape.root_of, Shape.walk, Shape.missing, Slots.Holds}
use Rattle.ord_tree.specs.{declared.tree_links.Side.Side, declared.tree_links.Side.TheVariants.Lesser, declared.tree_links.Side.TheVariants.Greater}
use Rattle.ord_tree.specs.{Node.indexes, Node.bare, Node.slots_of, Half.IsRebuilt, Ranks.IsRanked, Ranks.IsTight, ShapeCode.shape_code, Parents.MovesAtMost, Potential.ChangesRanksWithin}

-- the list of entries, with capacity, free list, generation and maximum, as in a chain arena, and the shape over the entries' indexes
pub record Tree (T : Type 0) : Type 0 where
  pub list : Chain T
  pub shape : Shape

-- the codes by which a proof distinguishes values: an entry as a tuple, then a chain and a tree
abbrev pub entry_code : {T : Type 0} → Coded T → Coded (Entry T)
entry_code {T} code =
    code_by (ℕ × (ℕ × T)) (coded× coded_ℕ (coded× coded_ℕ code)) (λ e. (e.index, (e.generation, e.item)))
    (λ p. record { index = p.0; generation = p.1.0; item = p.1.1 }) (λ _. refl)

abbrev pub chain_code : {T : Type 0} → Coded T → Coded (Chain T)
chain_code {T} code =
    code_by (List (Entry T) × (ℕ × (List ℕ × (ℕ × Option ℕ))))
    (coded× (coded_list (entry_code code)) (coded× coded_ℕ (coded× (coded_list coded_ℕ) (coded× coded_ℕ (coded_option coded_ℕ)))))
    (λ c. (c.entries, (c.capacity, (c.vacant, (c.generation, c.maximum)))))
    (λ p. record { entries = p.0; capacity = p.1.0; vacant = p.1.1.0; generation = p.1.1.1.0; maximum = p.1.1.1.1 }) (λ _. refl)

abbrev pub tree_code : {T : Type 0} → Coded T → Coded (Tree T)
tree_code {T} code =
    code_by (Chain T × Shape) (coded× (chain_code code) shape_code) (λ t. (t.list, t.shape)) (λ p. record { list = p.0; shape = p.1 }) (λ _. refl)

-- true of every tree: the walk of the shape is the list, and the rank rules hold
pub record IsSoundTree {T : Type 0} (t : Tree T) : Type 0 where
  pub listed : walk t.shape ≡ indexes t.list.entries
  pub ranked : IsRanked t.shape

-- the chain of nodes below the tree: it has the list, and its nodes' links and ranks form the shape
pub record IsChainOf {P T I G : Type 0} (t : Tree T) (c : Chain (Node P T I G)) : Type 0 where
  pub list : bare c ≡ t.list
  pub held : Holds (slots_of c) None (root_of t.shape) t.shape

-- The arena below the tree: its slots hold the entries of a chain below the tree, with their links.
pub record IsArenaBelow {P T I G : Type 0} (t : Tree T) (a : Arena (Link (Node P T I G))) : Type 0 where
  pub chain : Chain (Node P T I G)
  pub below : IsChainOf t chain
  pub holds : IsArenaOf chain a
  pub sound : IsSoundTree t

-- A look-up at index i shows a node of generation g with its link, as a chain below the tree has it.
pub record ShowsNode {P T I G : Type 0} (t : Tree T) (i g : ℕ) (link : Link (Node P T I G)) : Type 0 where
  pub chain : Chain (Node P T I G)
  pub below : IsChainOf t chain
  pub shown : link_at chain.entries i ≡ Some (g, link)
  pub sound : IsSoundTree t

-- the list with a new entry directly before or after the entry with this index
abbrev pub put_on : {T : Type 0} → Side → ℕ → List (Entry T) → Entry T → List (Entry T)
put_on Lesser i es new = insert_before i new es
put_on Greater i es new = insert_after i new es

-- the list with a new entry at the named place: before or after an entry, or as the only entry
abbrev pub put_at : {I T : Type 0} → (I → ℕ) → Option (I × Side) → List (Entry T) → Entry T → List (Entry T)
put_at number None es new = new ∷ es
put_at number (Some at) es new = put_on at.1 (number at.0) es new

-- a new entry can be put there: as the only entry of an empty list, else before or after an entry
abbrev pub CanPutAt : {I T : Type 0} → (I → ℕ) → Option (I × Side) → Chain T → Type 0
CanPutAt number None c = c.entries ≡ []
CanPutAt number (Some at) c = IsOccupied c (number at.0)

-- An insertion can go there: as the only entry of an empty list, else directly before (`Less`) or after (`Greater`) an entry.
abbrev pub CanInsertAt : {I T : Type 0} → (I → ℕ) → Option (I × Ordering) → Chain T → Type 0
CanInsertAt number None c = c.entries ≡ []
CanInsertAt number (Some (i, Less)) c = IsOccupied c (number i)
CanInsertAt number (Some (i, Equal)) c = ⊥
CanInsertAt number (Some (i, Greater)) c = IsOccupied c (number i)

-- the list with a new entry there; `Equal` names no place
abbrev pub insert_at : {I T : Type 0} → (I → ℕ) → Option (I × Ordering) → List (Entry T) → Entry T → List (Entry T)
insert_at number None es new = new ∷ es
insert_at number (Some (i, Less)) es new = insert_before (number i) new es
insert_at number (Some (i, Equal)) es new = es
insert_at number (Some (i, Greater)) es new = insert_after (number i) new es

-- A call that returns a number of the tree also says that its list and the tree are sound.
pub record Measures {T : Type 0} (most : ℕ) (greatest : Option ℕ) (t : Tree T) (result measure : ℕ) : Type 0 where
  pub value : result ≡ measure
  pub list : IsSound most greatest t.list
  pub sound : IsSoundTree t

-- What an insertion does to the shape. A tight shape stays tight, and at most five entries get another parent. The number of old entries
-- whose rank changes, plus the new potential, is at most the old potential plus 4.
pub record IsGrown (old new : Shape) : Type 0 where
  pub ranked : IsRanked new
  pub tight : IsTight old → IsTight new
  pub moved : MovesAtMost 5 old new
  pub rank_changes : ChangesRanksWithin 4 old new

-- A call that inserts `item` returns its pointer: the new list is `before` with the item, at the place of the list that `place` puts it, and
-- the shape grows. `Refused` says when the call fails.
pub record InsertsItem {P E T : Type 0} (numbers : P → ℕ × ℕ) (before : Chain T) (old new : Tree T) (place : Entry T → List (Entry T)) (item : T) (result : Result P E) (Refused : Type 0) : Type 0 where
  pub ok : IfOk result (λ p. IsInsertion before new.list place item (numbers p).0 (numbers p).1)
  pub shape : OnOk result (IsGrown old.shape new.shape)
  pub refused : Refused

-- A call makes room for one more entry, and no entry changes. `After` is true if it succeeds, `Refused` says when it fails.
pub record MakesRoom {R E T : Type 0} (old new : Tree T) (result : Result R E) (After Refused : Type 0) : Type 0 where
  pub ok : OnOk result After
  pub room : OnOk result (length new.list.entries < new.list.capacity)
  pub next : OnOk result (IsSome (next_index new.list))
  pub entries : new.list.entries ≡ old.list.entries
  pub shape : new.shape ≡ old.shape
  pub refused : Refused

-- What a removal does to the shape. At most nine entries get another parent. The number of entries whose rank changes, plus the new
-- potential, is at most the old potential plus 9.
pub record IsShrunk (old new : Shape) : Type 0 where
  pub ranked : IsRanked new
  pub moved : MovesAtMost 9 old new
  pub rank_changes : ChangesRanksWithin 9 old new

-- What a compression does to a tree. All entries get one generation, of which `After` is true: the first if `reset` is true, else the
-- next. The tree is rebuilt, and the result says whether the generations overflow.
pub record Compresses {T R : Type 0} (greatest : Option ℕ) (reset : Bool) (old new : Tree T) (result : InvalidationOption R)
    (After : ℕ → Type 0) : Type 0 where
  pub after : After (compressed_generation greatest reset old.list.generation)
  pub shape : IsRebuilt new.shape
  pub overflow : is_overflow result ≡ compression_overflows greatest reset old.list.generation

-- All entries moved from a tree, which is left as `source`, into this one. `Lists` says what became of the two lists. This tree is rebuilt,
-- and the other has no node.
pub record TransfersTree {T U : Type 0} (source : Tree U) (new : Tree T) (Lists : Type 0) : Type 0 where
  pub lists : Lists
  pub shape : IsRebuilt new.shape
  pub left : source.shape ≡ missing

-- the tree with another item at this index
abbrev pub with_item : {T : Type 0} → Tree T → ℕ → T → Tree T
with_item t i item = record t { list = chain_with_item t.list i item }
