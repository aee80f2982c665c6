-- A new entry in a list of entries: lookups by index, the indexes, the items.
use Rattle.std.proofs.Common.{arith, ◌≡◌, ◌≢◌, ℕ, Some, List, [], ◌∷◌, ◌∙◌, map, refl, sym, ap, is_some, true}
use Rattle.std.proofs.lemmas.Grind.{common_steps}
use Rattle.chain_base.specs.Chain.{Entry, entry_at, times as entry_times}
use Rattle.chain_base.proofs.CallerLemmas.{entry_at-between, entry_at-between_other, Parted, insert_after-between, insert_before-between}
use Rattle.ord_tree.specs.{declared.tree_links.Side.TheVariants.Lesser, declared.tree_links.Side.TheVariants.Greater, Leaf.beside, Tree.put_on}
use Rattle.ord_tree.specs.{declared.node.SimpleOrdArenaNode.SimpleOrdArenaNode as Node, Node.indexes, Node.bare_entry, declared.tree_links.Side.Side}

module _ {T : Type 0} where
  -- on either side, the entry is between two parts of the list
  put-between : (side : Side) (es : List (Entry T)) (i : ℕ) → is_some (entry_at es i) ≡ true → Parted es (put_on side i es)
  put-between Lesser es i there = insert_before-between es i there
  put-between Greater es i there = insert_after-between es i there

  module _ (side : Side) (es : List (Entry T)) (i : ℕ) (there : is_some (entry_at es i) ≡ true) (new : Entry T) where
    abbrev parted : Parted es (put_on side i es)
    parted = put-between side es i there

    pub put-same : entry_times new.index es ≡ 0 → entry_at (put_on side i es new) new.index ≡ Some (new.generation, new.item)
    put-same none = ap (λ xs. entry_at xs new.index) (parted.3 new) ∙ entry_at-between parted.0 new parted.1 (ap (entry_times new.index) (sym parted.2) ∙ none)

    pub put-other : (j : ℕ) → j ≢ new.index → entry_at (put_on side i es new) j ≡ entry_at es j
    put-other j other = ap (λ xs. entry_at xs j) (parted.3 new) ∙ entry_at-between_other parted.0 new parted.1 j other ∙ ap (λ xs. entry_at xs j) (sym parted.2)

  pub put-indexes : (side : Side) (es : List (Entry T)) (i : ℕ) (new : Entry T) → indexes (put_on side i es new) ≡ beside side i new.index (indexes es)
  put-indexes Lesser [] i new = refl
  put-indexes Greater [] i new = refl
  put-indexes Lesser (a ∷ es) i new = grind (arith, common_steps, put-indexes Lesser es i new)
  put-indexes Greater (a ∷ es) i new = grind (arith, common_steps, put-indexes Greater es i new)

module _ {P T I G : Type 0} where
  pub put-bare : (side : Side) (es : List (Entry (Node P T I G))) (i : ℕ) (new : Entry (Node P T I G))
      → map bare_entry (put_on side i es new) ≡ put_on side i (map bare_entry es) (bare_entry new)
  put-bare Lesser [] i new = refl
  put-bare Greater [] i new = refl
  put-bare Lesser (a ∷ es) i new = grind (arith, common_steps, put-bare Lesser es i new)
  put-bare Greater (a ∷ es) i new = grind (arith, common_steps, put-bare Greater es i new)
