-- How the item of a node is mapped. No public clause cites this file.
use Rattle.std.specs.Prelude.{◌≡◌}
use Rattle.chain_base.specs.{InvalidationOption.InvalidationOption, Invalidation.allowed_value, Invalidation.is_overflow}
use Rattle.ord_tree.specs.declared.node.SimpleOrdArenaNode.{SimpleOrdArenaNode as Node}

-- the call made the new item from the item of the removed node
pub record MapsTaken {Q U J H P T I G M : Type 0} (step : M → Q → InvalidationOption U → P → T → M → Type 0) (m : M) (old : Q)
    (taken : InvalidationOption (Node Q U J H)) (new : P) (answer : Node P T I G) (n : M) : Type 0 where
  pub plain : InvalidationOption U
  pub item : allowed_value plain ≡ (allowed_value taken).t
  pub overflow : is_overflow plain ≡ is_overflow taken
  pub called : step m old plain new answer.t n
