-- How the node of a clone is made. No public clause cites this file.
use Rattle.std.specs.{Prelude.◌≡◌, Prelude.Result, Prelude.Ok, declared.alloc.AllocError.AllocError}
use Rattle.ord_tree.specs.{declared.node.SimpleOrdArenaNode.SimpleOrdArenaNode as Node, Node.links_in}

-- the call made an item from the node's item, and the new node has the node's links and rank
pub record ClonesNode {P T U I G M : Type 0} (step : M → P → U → Result T AllocError → M → Type 0) (m : M) (p : P)
    (node : Node P U I G) (new : Node P T I G) (n : M) : Type 0 where
  pub called : step m p node.t (Ok new.t) n
  pub links : links_in new ≡ links_in node
