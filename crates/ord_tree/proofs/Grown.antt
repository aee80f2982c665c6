-- An insertion: from the chain's new entry to the tree with it.
use Rattle.std.proofs.Common.{◌≡◌, ◌≢◌, ℕ, ◌+◌, ◌<◌, ◌^◌, Option, Some, None, List, [], ◌∷◌, map, length, arith, refl, sym, ◌∙◌, ap, subst, inl, is_some, true, option_map, MatchOption, slice_get}
use Rattle.std.proofs.{lemmas.Grind.common_steps, lemmas.List.length-map, lemmas.Bool.eq-eqb}
use Rattle.chain_base.specs.Chain.{Entry, Chain, entry_at, times as entry_times, IsFresh, IsSound, IsDistinct, inserted}
use Rattle.chain_base.specs.{declared.chain.insert.LinkInsertKind.LinkInsertKind, Insert.placed, Insert.CanPlace, Insert.IsInsertion}
use Rattle.std.specs.declared.cmp.Ordering.{Ordering, TheVariants.Less, TheVariants.Equal, TheVariants.Greater}
use Rattle.ord_tree.specs.{LeafBranch.kind_at, LeafBranch.sided, LeafBranch.IsLeafBranch, LeafBranch.IsLeafBranchAt, Balance.IsBalanced}
use Rattle.ord_tree.specs.{Node.bare_entry, Node.bare, Node.links_in, Node.slots_of, Node.indexes, declared.tree_links.Branch.Branch, declared.tree_links.Side.Side}
use Rattle.ord_tree.specs.{declared.node.SimpleOrdArenaNode.SimpleOrdArenaNode as Node, Shape.Shape, Shape.missing, Shape.node}
use Rattle.ord_tree.specs.{Slots.Holds, Slots.times, Slots.IsOnce, Slots.shape_under, Tree.put_on, Tree.put_at, Tree.CanPutAt, Tree.insert_at, Tree.CanInsertAt, Tree.IsGrown}
use Rattle.ord_tree.specs.{Leaf.beside, Leaf.leaf_links, Leaf.IsNewLeaf, Layout.shape_in, Layout.IsLaidOut, Promote.IsRepaired}
use Rattle.ord_tree.specs.{Ranks.IsTight, Potential.potential, Account.IsSpelledWithin, Account.rank_in}
use Rattle.ord_tree.proofs.{RankChanges.ChangesRanksWithin-spelled, Potentials.node_potential-full}
use Rattle.chain_base.proofs.ArenaLemmas.{limit_of-below}
use Rattle.ord_tree.proofs.Trees.{links_at, times-bare, indexes-bare, vacant_among-bare, shape_in-held, IsLaidOut-held, is_some-bare}
use Rattle.ord_tree.proofs.Slack.{IsRanked-balanced, IsBalanced-ranked, IsTight-balanced, IsBalanced-tight}
use Rattle.ord_tree.proofs.{LeafBranches.times-indexes, LeafBranches.IsOnce-distinct, LeafBranches.within-occupied, Views.MovesAtMost-backs}
use Rattle.ord_tree.proofs.{Puts.put-same, Puts.put-other, Puts.put-indexes, Puts.put-bare, Spots.times-beside-ge, Spots.length-beside_in}
use Rattle.ord_tree.proofs.{Forks.times-walk, Forks.apart-from, Frames.Holds-frame}

module _ (P G : Type 0) {T I : Type 0} (number : I → ℕ) where
  -- the named place in the chain is the place in the list
  pub placed-put : (at : Option (I × Side)) (es : List (Entry T)) (new : Entry T) → placed {P = P} {G = G} number (kind_at at) es new ≡ put_at number at es new
  placed-put None es new = refl
  placed-put (Some at) es new = grind (arith, common_steps)

  pub CanPlace-put : (at : Option (I × Side)) (c : Chain T) → CanPutAt number at c → CanPlace {P = P} {G = G} number (kind_at at) c
  CanPlace-put None c h = h
  CanPlace-put (Some at) c h = grind (arith, common_steps)

-- a place that is named by an order, and the same place by its side
module _ {T I : Type 0} (number : I → ℕ) where
  pub CanPutAt-sided : (at : Option (I × Ordering)) (c : Chain T) → CanInsertAt number at c → CanPutAt number (sided at) c
  CanPutAt-sided None c h = h
  CanPutAt-sided (Some (i, Less)) c h = h
  CanPutAt-sided (Some (i, Equal)) c h = absurd h
  CanPutAt-sided (Some (i, Greater)) c h = h

  pub put_at-sided : (at : Option (I × Ordering)) (c : Chain T) → CanInsertAt number at c → put_at number (sided at) c.entries ≡ insert_at number at c.entries
  put_at-sided None c h = refl
  put_at-sided (Some (i, Less)) c h = refl
  put_at-sided (Some (i, Equal)) c h = absurd h
  put_at-sided (Some (i, Greater)) c h = refl

-- the chain after an insertion
module _ {T : Type 0} where
  -- the entry that an insertion puts into the list
  pub inserted-entries : (old new : Chain T) (place : Entry T → List (Entry T)) (e : Entry T)
      → IsInsertion old new place e.item e.index e.generation → new.entries ≡ place e
  inserted-entries old new place e h = go old.vacant h.next h.after
    where
      go : (vacant : List ℕ) → slice_get vacant 0 ≡ Some e.index → new ≡ inserted (record old { vacant = vacant }) place e.item → new.entries ≡ place e
      go [] next after = absurd cc
      go (j ∷ rest) next after =
          let same : j ≡ e.index = cc in
          ap (λ (c : Chain T). c.entries) after ∙ ap (λ (j : ℕ). place (record { index = j; generation = old.generation; item = e.item })) same
          ∙ ap (λ (g : ℕ). place (record e { generation = g })) (sym h.generation)

module _ {P T I G : Type 0} where
  IsFresh-bare : (c : Chain (Node P T I G)) → IsFresh (bare c) → IsFresh c
  IsFresh-bare c h = h ∙ vacant_among-bare c.entries 1 c.capacity

  module _ (old new last : Chain (Node P T I G)) (place : Entry (Node P T I G) → List (Entry (Node P T I G))) (put : Entry T → List (Entry T)) (item : Node P T I G) (i g : ℕ)
      (same : (e : Entry (Node P T I G)) → map bare_entry (place e) ≡ put (bare_entry e)) (kept : bare last ≡ bare new) where
    bare_inserted : (vacant : List ℕ) → bare (inserted (record old { vacant = vacant }) place item) ≡ inserted (record (bare old) { vacant = vacant }) put item.t
    bare_inserted [] = refl
    bare_inserted (i ∷ rest) =
        ap (λ (es : List (Entry T)). record { entries = es; capacity = old.capacity; vacant = rest; generation = old.generation; maximum = old.maximum })
        (same (record { index = i; generation = old.generation; item = item }))

    -- the insertion as seen by the list
    pub IsInsertion-bare : IsInsertion old new place item i g → IsInsertion (bare old) (bare last) put item.t i g
    IsInsertion-bare h = record {
      next = h.next;
      vacant = record { above = h.vacant.above; within = h.vacant.within; free = times-bare old.entries i ∙ h.vacant.free };
      least = λ fresh k low high. is_some-bare old.entries k ∙ h.least (IsFresh-bare old fresh) k low high;
      generation = h.generation;
      after = kept ∙ ap bare h.after ∙ bare_inserted old.vacant;
      fresh = λ fresh. subst (λ (c : Chain T). IsFresh c) (sym kept) (h.fresh (IsFresh-bare old fresh) ∙ sym (vacant_among-bare new.entries 1 new.capacity));
    }

-- the tree that lies in a chain, grown from this shape
abbrev pub IsGrownTo : {P T I G : Type 0} → Shape → Chain (Node P T I G) → Option ℕ → Type 0
IsGrownTo old new root = IsLaidOut new root (shape_in new root) × IsGrown old (shape_in new root)

-- the tree with the new entry beside another
module _ {P T I G : Type 0} (number : I → ℕ) (c d : Chain (Node P T I G)) (root : Option ℕ) (at : I × Side) (new_entry : Entry (Node P T I G))
    (laid : IsLaidOut c root (shape_in c root)) (occupied : is_some (entry_at c.entries (number at.0)) ≡ true) (free : entry_times new_entry.index c.entries ≡ 0)
    (entries : d.entries ≡ put_on at.1 (number at.0) c.entries new_entry)
    (most : ℕ) (greatest : Option ℕ) (sound : IsSound most greatest d) (fits : most + 1 < 2 ^ 64) where
  abbrev x : ℕ
  x = new_entry.index

  abbrev order : List ℕ
  order = indexes c.entries

  abbrev before : Shape
  before = shape_in c root

  pub slots_other : (j : ℕ) → j ≢ x → slots_of d j ≡ slots_of c j
  slots_other j ne =
      ap (λ (es : List (Entry (Node P T I G))). links_at es j) entries
      ∙ ap (option_map (λ (e : ℕ × Node P T I G). links_in e.1)) (put-other at.1 c.entries (number at.0) occupied new_entry j ne)

  pub slots_x : slots_of d x ≡ Some (links_in new_entry.item)
  slots_x =
      ap (λ (es : List (Entry (Node P T I G))). links_at es x) entries
      ∙ ap (option_map (λ (e : ℕ × Node P T I G). links_in e.1)) (put-same at.1 c.entries (number at.0) occupied new_entry free)

  pub order_is : indexes d.entries ≡ beside at.1 (number at.0) x order
  order_is =
      ap (λ (es : List (Entry (Node P T I G))). indexes es) entries ∙ put-indexes at.1 c.entries (number at.0) new_entry

  pub fresh : times x order ≡ 0
  fresh = times-indexes c.entries x ∙ free

  pub once : IsOnce order
  once j = omega (arith, IsOnce-distinct d.entries sound.distinct j, ap (times j) order_is, times-beside-ge at.1 (number at.0) x j order)

  pub distinct : IsDistinct c.entries
  distinct j = omega (arith, once j, times-indexes c.entries j)

  pub few : length order + 1 < 2 ^ 64
  few =
      omega (
        arith,
        length-beside_in at.1 (number at.0) x order (within-occupied c.entries (number at.0) occupied),
        ap length order_is,
        length-map d.entries (λ (e : Entry (Node P T I G)). e.index),
        sound.counted,
        sound.within_limit,
        limit_of-below most d.maximum,
        fits,
      )

  pub held_d : Holds (slots_of d) None root before
  held_d =
      Holds-frame (slots_of c) (slots_of d) before None root
      (λ j inside. slots_other j (apart-from x j (λ j. times j order) fresh (omega (arith, inside, times-walk j before, ap (times j) laid.listed)))) laid.held

  module _ (branch : Branch I) (bud : IsLeafBranch number (number at.0) at.1 (slots_of c) order branch)
      (leaf_is : links_in new_entry.item ≡ leaf_links (Some (number branch.parent))) where
    unfoldable pub new_leaf : (slack : ℕ) → IsBalanced slack before → IsNewLeaf (slots_of d) root branch.side (number branch.parent) x order slack
    new_leaf slack balanced = record {
      built = record { shape = before; held = held_d; listed = laid.listed; balanced = balanced };
      within = bud.within;
      bare = λ n e. bud.bare n (sym (slots_other (number branch.parent) (apart-from x (number branch.parent) (λ j. times j order) fresh bud.within)) ∙ e);
      leaf = slots_x ∙ ap Some leaf_is;
      fresh = fresh;
      once = once;
      few = few;
    }

  module _ (new : Chain (Node P T I G)) (root' : Option ℕ) (branch : Branch I) (bud : IsLeafBranch number (number at.0) at.1 (slots_of c) order branch) (kept : bare new ≡ bare d)
      (repaired : (slack : ℕ) → IsBalanced slack before → IsRepaired (slots_of d) (slots_of new) root' (beside branch.side (number branch.parent) x order) slack) where
    listed_new : beside branch.side (number branch.parent) x order ≡ indexes new.entries
    listed_new = bud.put x ∙ sym order_is ∙ sym (indexes-bare d.entries) ∙ ap (λ (c : Chain T). indexes c.entries) (sym kept) ∙ indexes-bare new.entries

    shape_is : (slack : ℕ) (balanced : IsBalanced slack before) → shape_in new root' ≡ (repaired slack balanced).built.shape
    shape_is slack balanced = let b = (repaired slack balanced).built in shape_in-held new root' b.shape b.held (b.listed ∙ listed_new)

    done : IsRepaired (slots_of d) (slots_of new) root' (beside branch.side (number branch.parent) x order) 1
    done = repaired 1 (IsBalanced-ranked before laid.ranked)

    laid_new : IsLaidOut new root' (shape_in new root')
    laid_new =
        IsLaidOut-held new root' (record { held = done.built.held; listed = done.built.listed ∙ listed_new; ranked = IsRanked-balanced 1 done.built.shape done.built.balanced })

    pub planted : IsSpelledWithin (rank_in before) (slots_of new) root' (beside branch.side (number branch.parent) x order) (potential before + 4) → IsGrownTo before new root'
    planted paid = (
      laid_new,
      record {
        ranked = laid_new.ranked;
        tight = λ tight. let b = IsBalanced-tight before laid.ranked tight in
            subst (λ (s : Shape). IsTight s) (sym (shape_is 0 b)) (IsTight-balanced (repaired 0 b).built.shape (repaired 0 b).built.balanced);
        moved = MovesAtMost-backs 5 (slots_of d) (slots_of new) root root' before (shape_in new root') held_d laid_new.held done.backs;
        rank_changes = ChangesRanksWithin-spelled 4 before (shape_in new root') laid.listed once laid.ranked laid_new.held
            (λ j. omega (arith, ap (times j) (bud.put x ∙ sym order_is), IsOnce-distinct d.entries sound.distinct j)) (λ j inside. refl) paid;
      },
    )

-- the tree of one entry
module _ {P T I G : Type 0} (c d : Chain (Node P T I G)) (root : Option ℕ) (x g : ℕ) (leaf : Node P T I G)
    (empty : c.entries ≡ []) (entries : d.entries ≡ record { index = x; generation = g; item = leaf } ∷ []) (leaf_is : links_in leaf ≡ leaf_links None) where
  slots_alone : slots_of d x ≡ Some (leaf_links None)
  slots_alone =
      ap (λ (es : List (Entry (Node P T I G))). links_at es x) entries
      ∙ rw (eq-eqb x x refl) (ap Some leaf_is)

  laid_alone : IsLaidOut d (Some x) (node missing x 1 missing)
  laid_alone = record {
    held = (leaf_links None, refl, slots_alone, refl, refl, refl, refl);
    listed = ap (λ (es : List (Entry (Node P T I G))). indexes es) (sym entries);
    ranked = (record { lesser = omega arith; greater = omega arith; leaf = λ _ _. refl }, tt, tt);
  }

  shape_none : shape_in c root ≡ missing
  shape_none = ap (λ (es : List (Entry (Node P T I G))). shape_under (length es) (slots_of c) root) empty

  pub alone : IsGrownTo (shape_in c root) d (Some x)
  alone = rw (shape_none, shape_in-held d (Some x) (node missing x 1 missing) laid_alone.held laid_alone.listed) (
    laid_alone,
    record {
      ranked = laid_alone.ranked;
      tight = λ _. (inl refl, tt, tt);
      moved = ([], omega arith, λ i p q old new. elim old [ ]);
      rank_changes = ([], omega (arith, node_potential-full 1 0 0), λ i k l old new. elim old [ ]);
    },
  )

-- the facts that the steps of an insertion pass on; `branch` is where the new entry x is attached
module _ {P T I G : Type 0} (number : I → ℕ) (branch : Option (Branch I)) where
  -- the branch fits this place, in each tree that lies in the chain
  abbrev pub IsBranchFor : Chain (Node P T I G) → Option (I × Side) → Type 0
  IsBranchFor c at = (root : Option ℕ) (s : Shape) → IsLaidOut c root s → IsDistinct c.entries → IsLeafBranchAt number at (slots_of c) (indexes c.entries) branch

  -- x is a new leaf at the branch
  abbrev pub CanGrow : Chain (Node P T I G) → Option ℕ → ℕ → Type 0
  CanGrow d root x = MatchOption branch (Unit {0}) (λ p. (order : List ℕ) × (slack : ℕ) × IsNewLeaf (slots_of d) root p.side (number p.parent) x order slack)

  -- the tree is repaired, or x is its only node
  abbrev pub HasGrown : Chain (Node P T I G) → Option ℕ → I → Chain (Node P T I G) → Option I → Type 0
  HasGrown d root x new root' = MatchOption branch ((new ≡ d) × (root' ≡ Some x)) (λ p. (order : List ℕ) (slack : ℕ) → IsNewLeaf (slots_of d) root p.side (number p.parent) (number x) order slack
      → IsRepaired (slots_of d) (slots_of new) (option_map number root') (beside p.side (number p.parent) (number x) order) slack)

  -- and the account of its rank changes holds
  abbrev pub HasAccount : Chain (Node P T I G) → Option ℕ → I → Chain (Node P T I G) → Option I → Type 0
  HasAccount d root x new root' = MatchOption branch (Unit {0}) (λ p. (order : List ℕ) (slack : ℕ) (bud : IsNewLeaf (slots_of d) root p.side (number p.parent) (number x) order slack)
      → IsSpelledWithin (rank_in bud.built.shape) (slots_of new) (option_map number root') (beside p.side (number p.parent) (number x) order) (potential bud.built.shape + 4))

  -- the new entry e is in the list at this place, and its node has the links of a leaf at the branch
  pub record IsPut (c d : Chain (Node P T I G)) (at : Option (I × Side)) (e : Entry (Node P T I G)) : Type 0 where
    pub can : CanPutAt number at c
    pub found : IsBranchFor c at
    pub entries : d.entries ≡ put_at number at c.entries e
    pub links : links_in e.item ≡ leaf_links (option_map (λ (p : Branch I). number p.parent) branch)

-- a complete insertion
module _ {P T I G : Type 0} (number : I → ℕ) (c d : Chain (Node P T I G)) (root : Option ℕ) (x : I) (g : ℕ) (leaf : Node P T I G)
    (laid : IsLaidOut c root (shape_in c root)) (free : entry_times (number x) c.entries ≡ 0)
    (most : ℕ) (greatest : Option ℕ) (sound : IsSound most greatest d) (fits : most + 1 < 2 ^ 64) where
  abbrev new_entry : Entry (Node P T I G)
  new_entry = record { index = number x; generation = g; item = leaf }

  grow_allowed : (at : Option (I × Side)) (branch : Option (Branch I)) → IsPut number branch c d at new_entry → CanGrow number branch d root (number x)
  grow_allowed at None put = tt
  grow_allowed None (Some branch) put = absurd (let none = put.found root (shape_in c root) laid (λ i. let e = ap (entry_times i) put.can in omega arith) in cc)
  grow_allowed (Some at) (Some branch) put =
      let here = put.found root (shape_in c root) laid (distinct number c d root at new_entry laid put.can free put.entries most greatest sound fits) in
      (indexes c.entries, 1, new_leaf number c d root at new_entry laid put.can free put.entries most greatest sound fits branch here put.links 1 (IsBalanced-ranked (shape_in c root) laid.ranked))

  module _ (new : Chain (Node P T I G)) (root' : Option I) (kept : bare new ≡ bare d) where
    has_grown : (at : Option (I × Side)) (on : Option (Branch I)) → IsPut number on c d at new_entry
        → HasGrown number on d root x new root' → HasAccount number on d root x new root' → IsGrownTo (shape_in c root) new (option_map number root')
    unfolding new_leaf
    has_grown None None put same paid =
        let entry = put.entries ∙ ap (λ (es : List (Entry (Node P T I G))). new_entry ∷ es) put.can in
        rw (same.0, same.1) (alone c d root (number x) g leaf put.can entry put.links)
    has_grown (Some at) None put same paid =
        absurd (elim (put.found root (shape_in c root) laid (distinct number c d root at new_entry laid put.can free put.entries most greatest sound fits)) [ ])
    has_grown None (Some branch) put repaired paid = absurd (let none = put.found root (shape_in c root) laid (λ i. let e = ap (entry_times i) put.can in omega arith) in cc)
    has_grown (Some at) (Some branch) put repaired paid =
        let here = put.found root (shape_in c root) laid (distinct number c d root at new_entry laid put.can free put.entries most greatest sound fits) in
        let leaves = new_leaf number c d root at new_entry laid put.can free put.entries most greatest sound fits branch here put.links in
        let again = λ (slack : ℕ) (balanced : IsBalanced slack (shape_in c root)). repaired (indexes c.entries) slack (leaves slack balanced) in
        planted number c d root at new_entry laid put.can free put.entries most greatest sound fits new (option_map number root') branch here kept again
        (paid (indexes c.entries) 1 (leaves 1 (IsBalanced-ranked (shape_in c root) laid.ranked)))

-- small steps of the insertion call
bare_empty : {P T I G : Type 0} (es : List (Entry (Node P T I G))) → map bare_entry es ≡ [] → es ≡ []
bare_empty [] h = refl
bare_empty (e ∷ es) h = absurd cc

module _ {P T I G : Type 0} (number : I → ℕ) where
  pub CanPutAt-bare : (at : Option (I × Side)) (c : Chain (Node P T I G)) → CanPutAt number at (bare c) → CanPutAt number at c
  CanPutAt-bare None c h = bare_empty c.entries h
  CanPutAt-bare (Some at) c h = sym (is_some-bare c.entries (number at.0)) ∙ h

module _ {P T I G : Type 0} (number : I → ℕ) (es : List (Entry (Node P T I G))) (e : Entry (Node P T I G)) where
  put_at-bare : (at : Option (I × Side)) → map bare_entry (put_at number at es e) ≡ put_at number at (map bare_entry es) (bare_entry e)
  put_at-bare None = refl
  put_at-bare (Some at) = put-bare at.1 es (number at.0) e

mapped-twice : {I : Type 0} (number : I → ℕ) (branch : Option (Branch I)) → option_map number (option_map (λ (p : Branch I). p.parent) branch) ≡ option_map (λ (p : Branch I). number p.parent) branch
mapped-twice number None = refl
mapped-twice number (Some p) = refl

-- the insertion call, from what its steps ensure
module _ {P T I G : Type 0} (number : I → ℕ) (c : Chain (Node P T I G)) (root : Option ℕ) (at : Option (I × Side)) (branch : Option (Branch I))
    {d : Chain (Node P T I G)} {kind : LinkInsertKind P I G}
    {back : Option I} {t : T} {leaf : Node P T I G} {index era : ℕ} {x : I}
    (laid : IsLaidOut c root (shape_in c root)) (can : CanPutAt number at c)
    (branch_is : IsBranchFor number branch c at)
    (back_is : back ≡ option_map (λ (p : Branch I). p.parent) branch)
    (leaf_is : leaf ≡ record { p_tree0 = None; p_tree1 = None; t = t; p_back = option_map number back; rank = 1 }) (kind_is : kind ≡ kind_at at)
    (insertion : IsInsertion c d (placed number kind c.entries) leaf index era) (x_is : number x ≡ index)
    (most : ℕ) (greatest : Option ℕ) (sound : IsSound most greatest d) (fits : most + 1 < 2 ^ 64) where
  put_is : (e : Entry (Node P T I G)) → placed number kind c.entries e ≡ put_at number at c.entries e
  put_is e = ap (λ (kind : LinkInsertKind P I G). placed number kind c.entries e) kind_is ∙ placed-put P G number at c.entries e

  entries_are : d.entries ≡ put_at number at c.entries (record { index = number x; generation = era; item = leaf })
  entries_are =
      inserted-entries c d (placed number kind c.entries) (record { index = index; generation = era; item = leaf }) insertion
      ∙ put_is (record { index = index; generation = era; item = leaf })
      ∙ ap (λ (i : ℕ). put_at number at c.entries (record { index = i; generation = era; item = leaf })) (sym x_is)

  put : IsPut number branch c d at (record { index = number x; generation = era; item = leaf })
  put = record {
    can = can;
    found = branch_is;
    entries = entries_are;
    links = ap links_in leaf_is ∙ ap (λ (b : Option I). leaf_links (option_map number b)) back_is ∙ ap leaf_links (mapped-twice number branch);
  }

  x_free : entry_times (number x) c.entries ≡ 0
  x_free = ap (λ (i : ℕ). entry_times i c.entries) x_is ∙ insertion.vacant.free

  pub call_allowed : CanGrow number branch d root (number x)
  call_allowed = grow_allowed number c d root x era leaf laid x_free most greatest sound fits at branch put

  module _ (new : Chain (Node P T I G)) (root' : Option I) (kept : bare new ≡ bare d) (grown : HasGrown number branch d root x new root') (paid : HasAccount number branch d root x new root') where
    pub call_grown : IsGrownTo (shape_in c root) new (option_map number root')
    call_grown = has_grown number c d root x era leaf laid x_free most greatest sound fits new root' kept at branch put grown paid

    pub call_listed : IsInsertion (bare c) (bare new) (put_at number at (map bare_entry c.entries)) t index era
    call_listed =
        rw (ap (λ (n : Node P T I G). n.t) leaf_is) at (IsInsertion-bare c d new (placed number kind c.entries) (put_at number at (map bare_entry c.entries)) leaf index era
        (λ e. ap (λ (es : List (Entry (Node P T I G))). map bare_entry es) (put_is e) ∙ put_at-bare number c.entries e at) kept insertion)
