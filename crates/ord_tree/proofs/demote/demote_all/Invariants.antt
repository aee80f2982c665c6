use Rattle.std.proofs.Common.{◌≡◌, ℕ, ◌-◌, Some, List, option_map}
use Rattle.ord_tree.specs.{Slots.back_at, Slots.rank_at, Demote.IsFallen, Account.IsFallenWithin, Account.fallen_ranks, Account.fallen_credit}
use Rattle.ord_tree.proofs.demote.demote_all.Given as goal

-- the branch has fallen as the first one had, no node has another parent, and the account is passed up
abbrev pub invariant-loop-next : goal.invariant-loop-next
invariant-loop-next g l =
    let was = g.N.Nodes.at l.fn.nodes in
    let now = g.N.Nodes.at l.nodes in
    let number = g.N.Nodes.number in
    let first = l.fn.fallen in
    let was_root = option_map number l.fn.root in
    let root = option_map number l.root in
    record {
      fallen : (order : List ℕ) → IsFallen was was_root (number first.parent) first.side order
          → IsFallen now root (number l.branch.parent) l.branch.side order × ((j : ℕ) → back_at was j ≡ back_at now j);
      paid : (order : List ℕ) (start : IsFallen was was_root (number first.parent) first.side order)
          → IsFallenWithin (fallen_ranks start) now root (number l.branch.parent) l.branch.side order (fallen_credit start);
      kept : g.N.Nodes.list l.nodes ≡ g.N.Nodes.list l.fn.nodes;
    }

-- ranks rise with each step up, and fit into a byte
abbrev pub decreases-loop-next : goal.decreases-loop-next
decreases-loop-next g l = 256 - rank_at (g.N.Nodes.at l.nodes) (Some (g.N.Nodes.number l.branch.parent))
