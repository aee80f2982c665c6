-- A new pointer for an entry; the tree is unchanged.
use Rattle.std.proofs.Common.{arith, ◌≡◌, ℕ, Option, Some, None, List, [], ◌∷◌, map, refl, sym, ◌∙◌, ap, is_some, option_map, OnSome, IfNone, subst}
use Rattle.std.proofs.{lemmas.Grind.common_steps, lemmas.Option.IfSome_then}
use Rattle.chain_base.specs.{Generation.next_generation, PlainArena.item_if}
use Rattle.chain_base.specs.Chain.{Entry, Chain, entry_at, item_of, with_generation, renewed}
use Rattle.ord_tree.specs.{declared.node.SimpleOrdArenaNode.SimpleOrdArenaNode as Node, Layout.shape_in, Layout.tree_of, Layout.IsLaidOut}
use Rattle.ord_tree.specs.Node.{bare_entry, bare, entry_in, indexes}
use Rattle.ord_tree.proofs.Trees.{links_at, entry_at-bare, IsLaidOut-linked, shape_in-linked, either_option}

module _ {P T I G : Type 0} where
  -- a pointer names an entry of the list if it names a node
  is_some-item_if : (g : ℕ) (o : Option (ℕ × Node P T I G)) → is_some (item_if g (option_map entry_in o)) ≡ is_some (item_if g o)
  is_some-item_if g None = refl
  is_some-item_if g (Some e) = grind (arith, common_steps)

  pub item_of-bare : (es : List (Entry (Node P T I G))) (p : ℕ × ℕ) → is_some (item_of (map bare_entry es) p) ≡ is_some (item_of es p)
  item_of-bare es p = ap (λ (o : Option (ℕ × T)). is_some (item_if p.1 o)) (entry_at-bare es p.0) ∙ is_some-item_if p.1 (entry_at es p.0)

  -- another generation of an entry
  links-renewed : (es : List (Entry (Node P T I G))) (i g j : ℕ) → links_at (with_generation es i g) j ≡ links_at es j
  links-renewed [] i g j = refl
  links-renewed (e ∷ es) i g j = grind (arith, common_steps, links-renewed es i g j)

  indexes-renewed : (es : List (Entry (Node P T I G))) (i g : ℕ) → indexes (with_generation es i g) ≡ indexes es
  indexes-renewed [] i g = refl
  indexes-renewed (e ∷ es) i g = grind (arith, common_steps, indexes-renewed es i g)

  bare-renewed : (es : List (Entry (Node P T I G))) (i g : ℕ) → map bare_entry (with_generation es i g) ≡ with_generation (map bare_entry es) i g
  bare-renewed [] i g = refl
  bare-renewed (e ∷ es) i g = grind (arith, common_steps, bare-renewed es i g)

  module _ (greatest : Option ℕ) (c : Chain (Node P T I G)) (root : Option ℕ) (i : ℕ) (laid : IsLaidOut c root (shape_in c root)) where
    pub IsLaidOut-renewed : IsLaidOut (renewed greatest c i) root (shape_in (renewed greatest c i) root)
    IsLaidOut-renewed =
        IsLaidOut-linked c (renewed greatest c i) root (λ j. links-renewed c.entries i (next_generation greatest c.generation) j) (indexes-renewed c.entries i (next_generation greatest c.generation)) laid

    pub tree_of-renewed : tree_of (renewed greatest c i) root ≡ record (tree_of c root) { list = renewed greatest (bare c) i }
    tree_of-renewed =
        let g = next_generation greatest c.generation in
        let same = shape_in-linked c (renewed greatest c i) root (λ j. links-renewed c.entries i g j) (indexes-renewed c.entries i g) laid in
        let list : Chain T = renewed greatest (bare c) i in
        ap (λ (es : List (Entry T)). record { list = record { entries = es; capacity = c.capacity; vacant = c.vacant; generation = g; maximum = c.maximum }; shape = shape_in (renewed greatest c i) root }) (bare-renewed c.entries i g)
        ∙ ap (λ s. record { list = list; shape = s }) same

    -- the call, from what the chain's call ensures
    module _ {X : Type 0} (o : Option X) (new : Chain (Node P T I G)) (renewing : OnSome o (new ≡ renewed greatest c i)) where
      pub call_laid_out : IfNone o (new ≡ c) → IsLaidOut new root (shape_in new root)
      call_laid_out keeping =
          let L : Chain (Node P T I G) → Type 0 = λ c. IsLaidOut c root (shape_in c root) in
          either_option o renewing keeping (λ (e : new ≡ renewed greatest c i). subst L (sym e) IsLaidOut-renewed) (λ (e : new ≡ c). subst L (sym e) laid)

      pub call_renewed : OnSome o (tree_of new root ≡ record (tree_of c root) { list = renewed greatest (bare c) i })
      call_renewed = IfSome_then o renewing (λ _ (e : new ≡ renewed greatest c i). ap (λ (c : Chain (Node P T I G)). tree_of c root) e ∙ tree_of-renewed)
