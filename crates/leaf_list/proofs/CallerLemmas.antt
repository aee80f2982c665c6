-- For the arena above.
-- entries by their places
pub use Rattle.leaf_list.proofs.{Cutting.entry_at-entries, Placing.entry-position, Parting.leaf-entry, Walking.places-apart, Walking.within-all}
-- entries by their names, and the leaves where they are
pub use Rattle.leaf_list.proofs.{Cutting.times-append, Leaving.times-removed, Leaving.leaf_of-none, Renaming.times-renamed, Renaming.named-times, Renaming.entry-leaf, Placing.leaf_of-there, Placing.leaf_of-in}
-- the order of the keys after a change
pub use Rattle.leaf_list.proofs.{Entering.sorted-put, Entering.times-put, Leaving.sorted-cut, Renaming.sorted-renamed}
