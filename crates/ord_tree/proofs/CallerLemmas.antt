-- For callers: a chain of nodes and the list of its items, and the size of a shape.
-- after a removal the shape is always one that a removal leaves
pub use Rattle.ord_tree.proofs.Shrunk.{some_always}
-- an append of many items keeps generation, capacity and maximum
pub use Rattle.ord_tree.proofs.Appended.{numbers-one, numbers-appended}
-- the list finds and counts the same entries as the chain
pub use Rattle.ord_tree.proofs.Trees.{entry_at-bare, is_some-bare, times-bare, indexes-bare, vacant_among-bare, greatest_index-bare, bare-with_capacity}
-- an index occurs in the list of indexes as often as in the list of entries
pub use Rattle.ord_tree.proofs.LeafBranches.{times-indexes}
-- a shape has as many nodes as its walk, and its height is at most its size
pub use Rattle.ord_tree.proofs.Halves.{size_of-walk}
pub use Rattle.ord_tree.proofs.Trees.{height-le-size}
-- an index that occurs once in a shape has one rank there
pub use Rattle.ord_tree.proofs.RankChanges.{rank_in-standing}
pub use Rattle.ord_tree.proofs.Forks.{times-walk}
-- the potential of a shape is at most three for each node
pub use Rattle.ord_tree.proofs.Potentials.{potential-le-size}
