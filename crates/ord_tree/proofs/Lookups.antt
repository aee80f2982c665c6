-- What the arena below a tree shows at an index.
use Rattle.std.proofs.Common.{◌≡◌, ℕ, Option, Some, None, IsSome, is_some, MatchOption, sym, ap, ◌∙◌, option_map}
use Rattle.chain_base.specs.{Chain.Chain, Chain.entry_at, Chain.link_at, Link.Link, PlainArena.Arena, PlainArena.slot}
use Rattle.chain_base.proofs.CallerLemmas.{entry_at-link}
use Rattle.ord_tree.specs.{declared.node.SimpleOrdArenaNode.SimpleOrdArenaNode as Node, Tree.Tree, Tree.IsArenaBelow, Tree.ShowsNode}
use Rattle.ord_tree.proofs.{LeafBranches.is_some-mapped, LeafBranches.none_of, Trees.is_some-bare}

module _ {P T I G : Type 0} {t : Tree T} {a : Arena (Link (Node P T I G))} (arena : IsArenaBelow t a) where
  -- an index has an entry in the list if and only if its slot has one
  occupied-alike : (i : ℕ) → is_some (slot a i) ≡ is_some (entry_at t.list.entries i)
  occupied-alike i =
      ap is_some (arena.holds.slots i) ∙ sym (is_some-mapped _ (link_at arena.chain.entries i)) ∙ ap is_some (sym (entry_at-link None None arena.chain.entries i))
      ∙ sym (is_some-bare arena.chain.entries i) ∙ ap (λ (l : Chain T). is_some (entry_at l.entries i)) arena.below.list

  pub slot-occupied : (i : ℕ) → IsSome (entry_at t.list.entries i) → IsSome (slot a i)
  slot-occupied i there = occupied-alike i ∙ there

  pub slot-shown : (i g : ℕ) (link : Link (Node P T I G)) → slot a i ≡ Some (g, link) → ShowsNode t i g link
  slot-shown i g link is = record { chain = arena.chain; below = arena.below; shown = sym (arena.holds.slots i) ∙ is; sound = arena.sound }

  pub slot-looked_up : {X : Type 0} (f : X → ℕ × Link (Node P T I G)) (o : Option X) (i : ℕ) → option_map f o ≡ slot a i
      → MatchOption o (entry_at t.list.entries i ≡ None) (λ x. ShowsNode t i (f x).0 (f x).1)
  slot-looked_up f None i is = none_of (entry_at t.list.entries i) (sym (occupied-alike i) ∙ ap is_some (sym is))
  slot-looked_up f (Some x) i is = slot-shown i (f x).0 (f x).1 (sym is)
