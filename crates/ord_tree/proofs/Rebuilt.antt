-- A rebuild over a chain of nodes: what it requires of the chain, and what it does to the tree.
use Rattle.std.proofs.Common.{◌≡◌, ℕ, ◌<◌, ◌≤◌, Option, Some, None, List, [], ◌∷◌, map, arith, refl, sym, ◌∙◌, ap, subst, is_some, true}
use Rattle.std.proofs.{lemmas.Grind.common_steps, lemmas.Bool.ne_eqb}
use Rattle.chain_base.specs.{Pointer.index_number, Chain.Entry, Chain.Chain, Chain.entry_at, Chain.first_pointer, Chain.IsSound}
use Rattle.chain_base.proofs.{CallerLemmas.occurs-entry, ArenaLemmas.limit_of-below}
use Rattle.ord_tree.specs.{Node.bare_entry, Node.bare, Node.links_in, Node.slots_of, Node.indexes, Slots.times, Slots.Holds, Slots.IsOnce}
use Rattle.ord_tree.specs.Shape.{Shape, walk}
use Rattle.ord_tree.specs.{declared.node.SimpleOrdArenaNode.SimpleOrdArenaNode as Node, Layout.shape_in, Layout.IsLaidOut, Half.IsRebuilt}
use Rattle.ord_tree.proofs.LeafBranches.{is_some-mapped, times-indexes, within-occupied, IsOnce-distinct}
use Rattle.ord_tree.proofs.{Trees.indexes-bare, Trees.shape_in-held, Trees.IsLaidOut-held, Halves.IsRanked-from_rebuilt}

-- an index above 0 has a number
pub index-some : (n : ℕ) → 0 < n → is_some (index_number n) ≡ true
index-some n some = rw (ne_eqb n 0 (λ e. omega arith)) refl

-- the first pointer names an entry
pub first-occupied : {T : Type 0} (es : List (Entry T)) (i g : ℕ) → Some (i, g) ≡ first_pointer es → is_some (entry_at es i) ≡ true
first-occupied [] i g first = absurd (cc)
first-occupied (e ∷ es) i g first = grind (arith, common_steps)

module _ {P T I G : Type 0} (c : Chain (Node P T I G)) where
  pub entry-occupied : (i : ℕ) → is_some (slots_of c i) ≡ true → is_some (entry_at c.entries i) ≡ true
  entry-occupied i some = sym (is_some-mapped (λ (e : ℕ × Node P T I G). links_in e.1) (entry_at c.entries i)) ∙ some

  pub slots-within_bare : (i : ℕ) → 0 < times i (indexes (map bare_entry c.entries)) → is_some (slots_of c i) ≡ true
  slots-within_bare i some =
      is_some-mapped (λ (e : ℕ × Node P T I G). links_in e.1) (entry_at c.entries i)
      ∙ occurs-entry c.entries i (omega (arith, some, ap (times i) (indexes-bare c.entries), times-indexes c.entries i))

  pub IsOnce-bare : (most : ℕ) (greatest : Option ℕ) → IsSound most greatest c → IsOnce (indexes (map bare_entry c.entries))
  IsOnce-bare most greatest sound = rw (indexes-bare c.entries) (IsOnce-distinct c.entries sound.distinct)

  pub number-within : (most : ℕ) (greatest : Option ℕ) → IsSound most greatest c → (i : ℕ) → is_some (slots_of c i) ≡ true → (0 < i) × (i ≤ most)
  number-within most greatest sound i some =
      let inside = sound.within i (omega (arith, times-indexes c.entries i, within-occupied c.entries i (entry-occupied i some))) in
      (inside.0, omega (arith, inside.1, sound.within_limit, limit_of-below most c.maximum))

-- the obligation of a rebuild: the nodes form a rebuilt shape over the chain, which is the tree's shape
module _ {P T I G : Type 0} (c new : Chain (Node P T I G)) (kept : bare new ≡ bare c) (root : Option ℕ)
    (r : (s : Shape) × (walk s ≡ indexes (map bare_entry c.entries)) × IsRebuilt s × Holds (slots_of new) None root s) where
  laid_rebuilt : IsLaidOut new root r.0
  laid_rebuilt = record {
    held = r.3;
    listed = r.1 ∙ ap (λ (b : Chain T). indexes b.entries) (sym kept) ∙ indexes-bare new.entries;
    ranked = IsRanked-from_rebuilt r.0 r.2;
  }

  pub rebuilt-shape_in : IsLaidOut new root (shape_in new root) × IsRebuilt (shape_in new root)
  rebuilt-shape_in = (IsLaidOut-held new root laid_rebuilt, subst (λ (s : Shape). IsRebuilt s) (sym (shape_in-held new root r.0 laid_rebuilt.held laid_rebuilt.listed)) r.2)
