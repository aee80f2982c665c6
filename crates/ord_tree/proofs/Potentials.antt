-- The potential of a node by its rank differences, and that of forks and ways.
use Rattle.std.proofs.Common.{◌≡◌, ℕ, ◌+◌, ◌*◌, ◌<◌, ◌≤◌, ◌⊎◌, arith, refl, ap}
use Rattle.std.proofs.lemmas.Bool.Decides.{nat_tests}
use Rattle.ord_tree.specs.declared.tree_links.Side.TheVariants.{Lesser, Greater}
use Rattle.ord_tree.specs.{Slots.Way, Slots.top, Slots.up, Slots.plug, Shape.Shape, Shape.missing, Shape.node, Shape.fork, Shape.rank_of, Shape.size_of}
use Rattle.ord_tree.specs.{Potential.node_potential, Potential.potential, Account.potential_way, declared.tree_links.Side.Side}
use Rattle.ord_tree.proofs.Forks.{rank-fork}

module _ (k l r : ℕ) where
  pub node_potential-full : k ≡ l + 1 → k ≡ r + 1 → node_potential k l r ≡ 1
  unfolding node_potential
  node_potential-full a b = grind (arith, nat_tests)

  pub node_potential-slack : k ≡ l + 2 → k ≡ r + 2 → node_potential k l r ≡ 3
  unfolding node_potential
  node_potential-slack a b = grind (arith, nat_tests)

  pub node_potential-uneven : 2 * k ≡ l + r + 3 → node_potential k l r ≡ 0
  unfolding node_potential
  node_potential-uneven a = grind (arith, nat_tests)

  pub node_potential-most : node_potential k l r ≤ 3
  unfolding node_potential
  node_potential-most = grind (arith, nat_tests)

  -- a node that exceeds one side's rank by at most 1 isn't slack
  pub node_potential-tight : (k ≤ l + 1) ⊎ (k ≤ r + 1) → node_potential k l r ≤ 1
  unfolding node_potential
  node_potential-tight h = grind (arith, nat_tests)

  pub node_potential-turned : node_potential k l r ≡ node_potential k r l
  unfolding node_potential
  node_potential-turned = grind (arith, nat_tests)

  -- under the rank rules
  pub node_potential-cases : l < k → k ≤ l + 2 → r < k → k ≤ r + 2
      → (2 * k ≡ l + r + 2) × (node_potential k l r ≡ 1) ⊎ (2 * k ≡ l + r + 3) × (node_potential k l r ≡ 0) ⊎ (2 * k ≡ l + r + 4) × (node_potential k l r ≡ 3)
  unfolding node_potential
  node_potential-cases l1 l2 r1 r2 = grind (arith, nat_tests)

pub potential-fork : (side : Side) (near far : Shape) (i k : ℕ) → potential (fork side near i k far) ≡ node_potential k (rank_of near) (rank_of far) + potential near + potential far
potential-fork Lesser near far i k = refl
potential-fork Greater near far i k = omega (arith, node_potential-turned k (rank_of near) (rank_of far))

-- the potential of a path with a shape at its end is the sum of both
pub potential-plug : (way : Way) (s : Shape) → potential (plug way s) ≡ potential_way way (rank_of s) + potential s
potential-plug top s = omega arith
potential-plug (up side i k far rest) s =
    omega (arith, potential-plug rest (fork side s i k far), potential-fork side s far i k, ap (potential_way rest) (rank-fork side s far i k))

-- the potential is at most three per node
pub potential-le-size : (s : Shape) → potential s ≤ 3 * size_of s
potential-le-size missing = omega arith
potential-le-size (node l i k r) = omega (arith, potential-le-size l, potential-le-size r, node_potential-most k (rank_of l) (rank_of r))
