use Rattle.std.proofs.Common.{◌≡◌, ◌≤◌, ℕ, List, option_map, length}
use Rattle.ord_tree.specs.{Rebuild.IsPlan, Rebuild.IsFinished, Shape.Shape}
use Rattle.ord_tree.proofs.rebuild.close.Given as goal

-- the finished part is still finished, with everything now attached to it
abbrev pub invariant-loop-middle : goal.invariant-loop-middle
invariant-loop-middle g l =
    let was = g.N.Nodes.at l.fn.nodes in
    let now = g.N.Nodes.at l.nodes in
    let number = g.N.Nodes.number in
    record {
      plan : (s : Shape) (top : ℕ) → IsPlan was top s → IsPlan now top s;
      finished : (s : Shape) (top : ℕ) (todo : List ℕ) → IsPlan was top s → IsFinished was l.fn.stack.items s (option_map number l.fn.greater) todo
          → IsFinished now l.stack.items s (option_map number l.finished) todo;
      few : length l.stack.items ≤ length l.fn.stack.items;
      kept : g.N.Nodes.list l.nodes ≡ g.N.Nodes.list l.fn.nodes;
    }

-- each ended run leaves the stack
abbrev pub decreases-loop-middle : goal.decreases-loop-middle
decreases-loop-middle g l = length l.stack.items
