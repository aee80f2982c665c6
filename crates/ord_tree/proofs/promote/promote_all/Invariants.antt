use Rattle.std.proofs.Common.{◌≡◌, ℕ, ◌-◌, Some, List, option_map}
use Rattle.ord_tree.specs.{Slots.back_at, Slots.rank_at, Promote.IsRising, Account.IsRisingWithin, Account.rising_ranks, Account.rising_credit}
use Rattle.ord_tree.proofs.promote.promote_all.Given as goal

-- the node has risen as the first one had, no node has another parent, and the account is passed up
abbrev pub invariant-loop-z : goal.invariant-loop-z
invariant-loop-z g l =
    let was = g.N.Nodes.at l.fn.nodes in
    let now = g.N.Nodes.at l.nodes in
    let number = g.N.Nodes.number in
    let was_root = option_map number l.fn.root in
    let root = option_map number l.root in
    record {
      rising : (order : List ℕ) (slack : ℕ) → IsRising was was_root (number l.fn.y) order slack
          → IsRising now root (number l.rising) order slack × ((j : ℕ) → back_at was j ≡ back_at now j);
      paid : (order : List ℕ) (slack : ℕ) (first : IsRising was was_root (number l.fn.y) order slack)
          → IsRisingWithin (rising_ranks first) now root (number l.rising) order slack (rising_credit first);
      kept : g.N.Nodes.list l.nodes ≡ g.N.Nodes.list l.fn.nodes;
    }

-- ranks rise with each step, and fit into a byte
abbrev pub decreases-loop-z : goal.decreases-loop-z
decreases-loop-z g l = 256 - rank_at (g.N.Nodes.at l.nodes) (Some (g.N.Nodes.number l.rising))
