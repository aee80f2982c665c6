-- Entries of a chain of nodes: what a write of a node changes and keeps.
use Rattle.std.proofs.Common.{arith, ◌≡◌, ◌≢◌, ℕ, Some, List, [], ◌∷◌, map, refl, sym, ◌∙◌, ap, option_map}
use Rattle.std.proofs.{lemmas.Grind.common_steps, lemmas.Option.same_Some}
use Rattle.chain_base.specs.Chain.{Entry, Chain, entry_at, with_item_among, with_item as chain_with_item}
use Rattle.chain_base.proofs.CallerLemmas.{entry_at-with_item_among, entry_at-with_item_among_other}
use Rattle.ord_tree.specs.{declared.node.SimpleOrdArenaNode.SimpleOrdArenaNode as Node, declared.tree_links.TreeLinks.TreeLinks}
use Rattle.ord_tree.specs.{Node.bare_entry, Node.bare, Node.links_in, Node.slots_of, Slots.Writes}

module _ {P T I G : Type 0} where
  module _ (i : ℕ) (e : ℕ × Node P T I G) (x : Node P T I G) (t : x.t ≡ e.1.t) where
    bare-with_item : (es : List (Entry (Node P T I G))) → entry_at es i ≡ Some e → map bare_entry (with_item_among es i x) ≡ map bare_entry es
    bare-with_item [] h = refl
    bare-with_item (a ∷ es) h = grind (arith, common_steps, bare-with_item es)

  -- the same for a whole chain
  module _ (c : Chain (Node P T I G)) (i : ℕ) (e : ℕ × Node P T I G) (x : Node P T I G) (there : entry_at c.entries i ≡ Some e) (t : x.t ≡ e.1.t) where
    slots_of-written : slots_of (chain_with_item c i x) i ≡ Some (links_in x)
    slots_of-written = ap (option_map (λ (e : ℕ × Node P T I G). links_in e.1)) (entry_at-with_item_among c.entries i x ∙ ap (option_map (λ d. (d.0, x))) there)

    slots_of-changed : (change : TreeLinks ℕ → TreeLinks ℕ) → links_in x ≡ change (links_in e.1) → (n : TreeLinks ℕ) → slots_of c i ≡ Some n → slots_of (chain_with_item c i x) i ≡ Some (change n)
    slots_of-changed change made n is =
        let read : slots_of c i ≡ Some (links_in e.1) = ap (option_map (λ (e : ℕ × Node P T I G). links_in e.1)) there in
        slots_of-written ∙ (ap (λ (m : TreeLinks ℕ). Some m) made ∙ ap (λ (m : TreeLinks ℕ). Some (change m)) (same_Some (links_in e.1) n (sym read ∙ is)))

    slots_of-elsewhere : (j : ℕ) → j ≢ i → slots_of (chain_with_item c i x) j ≡ slots_of c j
    slots_of-elsewhere j ne = ap (option_map (λ (e : ℕ × Node P T I G). links_in e.1)) (entry_at-with_item_among_other c.entries i j x ne)

    pub Writes-entry : (change : TreeLinks ℕ → TreeLinks ℕ) → links_in x ≡ change (links_in e.1)
        → Writes i change (slots_of c) (slots_of (chain_with_item c i x)) (bare c) (bare (chain_with_item c i x))
    Writes-entry change made = record {
      here = slots_of-changed change made;
      elsewhere = slots_of-elsewhere;
      occupied = λ j. grind (arith, common_steps, j, slots_of-written, there, slots_of-elsewhere j);
      kept = ap (λ (es : List (Entry T)). record { entries = es; capacity = c.capacity; vacant = c.vacant; generation = c.generation; maximum = c.maximum }) (bare-with_item i e x t c.entries there);
    }
