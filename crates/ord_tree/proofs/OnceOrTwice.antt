-- The single or double rotation that ends a repair after an insertion, and its account.
use Rattle.std.proofs.Common.{◌≡◌, ◌≢◌, ℕ, ◌+◌, Option, Some, List, [], arith, ap, inl, inr, is_some, true}
use Rattle.ord_tree.specs.{Balance.IsOver, Balance.IsBalanced, TreeLinks.other_side, TreeLinks.child_at, Slots.Slots}
use Rattle.ord_tree.specs.{declared.tree_links.TreeLinks.TreeLinks, Promote.IsSteep, Promote.IsRepaired, declared.tree_links.Side.Side}
use Rattle.ord_tree.specs.{Shape.rank_of, Shape.root_of, Rotate.IsRotated}
use Rattle.ord_tree.specs.Account.{rank_here, steep_ranks, steep_credit, IsSpelledWithin}
use Rattle.ord_tree.proofs.Doubles.{root-some, low_rank, inner_root, rotated_once, middle, middle_rank_is, middle_over, site_below, site_above, rotated_twice}
use Rattle.ord_tree.proofs.{Forks.fork_balanced, Forks.here-other, RankChanges.rank_here-other, RankChanges.rank_here-next, Potentials.node_potential-tight}

module _ {old : Slots} {old_root : Option ℕ} {side : Side} {z y : ℕ} {order : List ℕ} {slack : ℕ} (steep : IsSteep old old_root side z y order slack) where
  parts : IsOver slack steep.site.low (rank_of steep.site.outer) (rank_of steep.site.inner) × IsBalanced slack steep.site.outer × IsBalanced slack steep.site.inner
  parts = fork_balanced slack side steep.site.outer steep.site.inner y steep.site.low steep.balanced

  -- if the outer side isn't one below, the inner side is, so there is a node
  pub inner_some : (ny : TreeLinks ℕ) → old y ≡ Some ny → ny.rank ≢ rank_of steep.site.outer + 1 → is_some (child_at (other_side side) ny) ≡ true
  inner_some ny e not_outer =
      rw (inner_root steep.site ny e) (root-some steep.site.inner (omega (arith, low_rank steep.site ny e, steep.equal, steep.sibling, steep.uneven, parts.0.lesser)))

  -- the single rotation
  module _ {new : Slots} {root : Option ℕ} {rank_z rank_y : ℕ} (r : IsRotated steep.site new root rank_z rank_y) where
    pub rotated_single : rank_z ≡ rank_of steep.site.outer → rank_y ≡ steep.site.low → rank_y ≡ rank_z + 1
        → IsRepaired old new root order slack × IsSpelledWithin (steep_ranks steep) new root order (steep_credit steep + 3)
    rotated_single is_z is_y outer =
        let site = steep.site in
        rotated_once site r (omega (arith, steep.equal)) (omega (arith, steep.sibling, steep.equal, steep.uneven)) (omega (arith, steep.equal))
        parts.1 parts.2 steep.balanced_far steep.balanced_way steep.listed
        (λ j not_z not_y. omega (arith, rank_here-other j y site.low not_y, rank_here-other j z site.high not_z, here-other j y not_y))
        (omega (
          arith,
          node_potential-tight rank_y (rank_of site.outer) rank_z (inl (omega arith)),
          node_potential-tight rank_z (rank_of site.inner) (rank_of site.far) (inr (omega (arith, steep.sibling, steep.equal))),
        ))

  -- the double rotation: y has again the rank it had before it rose
  module _ (x : ℕ) (root_is : root_of steep.site.inner ≡ Some x) {mid : Slots} {mid_root : Option ℕ} {rank_low rank_high : ℕ} (r : IsRotated (site_below steep.site x root_is) mid mid_root rank_low rank_high)
      {new : Slots} {root : Option ℕ} (t : IsRotated (site_above steep.site x root_is r) new root rank_low rank_high) where
    pub rotated_double : rank_low ≡ (middle steep.site x root_is).rank → rank_high ≡ steep.site.low → rank_high ≢ rank_of steep.site.outer + 1
        → IsRepaired old new root order slack × IsSpelledWithin (steep_ranks steep) new root order (steep_credit steep + 3)
    rotated_double is_low is_high not_outer =
        let site = steep.site in
        let inner = middle_over site x root_is slack parts.2 in
        let rank_is = middle_rank_is site x root_is in
        let outer_one : rank_of site.outer + 1 ≡ rank_low = omega (arith, steep.equal, steep.uneven, parts.0, rank_is, inner.0) in
        let inner_one : rank_low + 1 ≡ site.low = omega (arith, steep.equal, steep.uneven, parts.0, rank_is, inner.0) in
        rotated_twice site x root_is r t is_low (omega (arith, steep.equal)) outer_one (omega (arith, steep.sibling, steep.equal)) (omega arith)
        parts.1 parts.2 steep.balanced_far steep.balanced_way steep.listed
        [] (λ j. inr (inr (omega (arith, ap (rank_here j y) inner_one, rank_here-next j y rank_low))))
        (omega (arith, node_potential-tight rank_high rank_low rank_low (inl (omega arith))))
