-- A leaf attached to its parent has risen there, and the account of that.
use Rattle.std.proofs.Common.{◌≡◌, ◌≢◌, ℕ, ◌+◌, Option, Some, List, [], arith, refl, sym, ◌∙◌, ap, inl, inr, is_some, true}
use Rattle.std.proofs.{lemmas.Grind.common_steps}
use Rattle.ord_tree.specs.Slots.{Slots, up, plug, here, times, times_in, times_way, back_at}
use Rattle.ord_tree.specs.{Promote.IsRising, Promote.IsRepaired, Shape.missing, Shape.node, Shape.fork, Shape.walk, declared.tree_links.Side.Side}
use Rattle.ord_tree.specs.{Potential.potential, Account.potential_way, Account.rank_in, Account.IsSpelledWithin, Account.rising_ranks, Account.rising_credit}
use Rattle.ord_tree.specs.{TreeLinks.other_side, TreeLinks.child_at, TreeLinks.with_child_at, Leaf.beside, Leaf.leaf_links, Leaf.IsNewLeaf}
use Rattle.ord_tree.specs.declared.tree_links.TreeLinks.{TreeLinks}
use Rattle.ord_tree.proofs.Forks.{rank-fork, here-same, apart-from, child-with_child, other_child-with_child, back-with_child, rank-with_child}
use Rattle.ord_tree.proofs.Spots.{Spot, IsBare, bare_spot, bare_occupied, bare_whole, bare_total, bare_split, bare_first, bare_balanced, beside-split, IsOnce-beside, length-beside}
use Rattle.ord_tree.proofs.{Frames.Holds-frame, Frames.HoldsWay-frame, Promoting.IsRepaired-after, RankChanges.IsWithin-before}
use Rattle.ord_tree.proofs.{RankChanges.rank_in-fork, RankChanges.rank_in-plug, Potentials.node_potential-full, Potentials.potential-fork, Potentials.potential-plug}

module _ {at : Slots} {root : Option ℕ} {side : Side} {y x : ℕ} {order : List ℕ} {slack : ℕ} (bud : IsNewLeaf at root side y x order slack) where
  abbrev bare : IsBare at root side y order slack
  bare = record { built = bud.built; within = bud.within; bare = bud.bare; once = bud.once }

  abbrev spot : Spot at root side y bud.built.shape
  spot = bare_spot bare

  pub y_occupied : is_some (at y) ≡ true
  y_occupied = bare_occupied bare

  -- no index occurs twice, and x doesn't occur
  pub total : (j : ℕ) → times j order ≡ times_way j spot.way + here j y + times_in j spot.far
  total j = bare_total bare j

  pub x≢y : x ≢ y
  x≢y e = let same = ap (here x) e in omega (arith, bud.fresh, total x, here-same x)

  -- the list with x in it
  pub listed : walk (plug spot.way (fork side (node missing x 1 missing) y spot.rank spot.far)) ≡ beside side y x order
  listed =
      let split = bare_split bare in
      split.with_leaf x ∙ sym (beside-split side y x split.front split.back (bare_first bare)) ∙ ap (beside side y x) (sym split.is)

  module _ (new : Slots) (written : (n : TreeLinks ℕ) → at y ≡ Some n → new y ≡ Some (with_child_at side (Some x) n)) (elsewhere : (j : ℕ) → j ≢ y → new j ≡ at j) where
    abbrev pub IsRising-attached : IsRising new root x (beside side y x order) slack
    IsRising-attached =
        let once = bud.once y in
        let n = with_child_at side (Some x) spot.links in
        record {
          way = up side y spot.rank spot.far spot.way;
          shape = node missing x 1 missing;
          low = 0;
          held_way = (
            n,
            written spot.links spot.at_y,
            back-with_child side (Some x) spot.links ∙ spot.holds.back,
            rank-with_child side (Some x) spot.links ∙ spot.holds.rank,
            child-with_child side (Some x) spot.links,
            rw (other_child-with_child side (Some x) spot.links) (Holds-frame at new spot.far (Some y) (child_at (other_side side) spot.links)
                (λ j in_far. elsewhere j (apart-from y j (λ j. times_in j spot.far) (omega (arith, total y, here-same y)) in_far)) spot.holds.far_held),
            HoldsWay-frame at new spot.way root (Some y) (λ j in_way. elsewhere j (apart-from y j (λ j. times_way j spot.way) (omega (arith, total y, here-same y)) in_way)) spot.held_way,
          );
          held = (leaf_links (Some y), refl, elsewhere x x≢y ∙ bud.leaf, refl, refl, refl, refl);
          listed = listed;
          balanced = (record { lesser = omega arith; greater = omega arith; leaf = λ _ _. refl; tight = omega arith }, tt, tt);
          balanced_way = bare_balanced bare;
          risen = refl;
          uneven = inl refl;
          once = IsOnce-beside side y x order bud.once bud.fresh;
          few = omega (arith, length-beside side y x order, bud.few);
        }

    backs-attached : (j : ℕ) → back_at at j ≡ back_at new j
    backs-attached j = grind (arith, common_steps, j, spot.at_y, written spot.links, elsewhere j, back-with_child side (Some x) spot.links)

    -- the new leaf is full, so it costs one
    pub attached : {last : Slots} {root' : Option ℕ} → IsRepaired new last root' (beside side y x order) slack
        × IsSpelledWithin (rising_ranks IsRising-attached) last root' (beside side y x order) (rising_credit IsRising-attached + 3)
        → IsRepaired at last root' (beside side y x order) slack × IsSpelledWithin (rank_in bud.built.shape) last root' (beside side y x order) (potential bud.built.shape + 4)
    attached done =
        let before = fork side missing y spot.rank spot.far in (
          IsRepaired-after backs-attached done.0,
          IsWithin-before []
              (λ j. inr (inr (omega (arith, ap (λ s. rank_in s j) (bare_whole bare), rank_in-plug j spot.way before, rank_in-fork j side missing spot.far y spot.rank))))
              (omega (
                arith,
                ap potential (bare_whole bare),
                potential-plug spot.way before,
                potential-fork side missing spot.far y spot.rank,
                ap (potential_way spot.way) (rank-fork side missing spot.far y spot.rank),
                node_potential-full 1 0 0,
              )) done.1,
        )
