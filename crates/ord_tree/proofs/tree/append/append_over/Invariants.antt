use Rattle.std.proofs.Common.{◌≡◌, ◌+◌, ◌≤◌, ◌++◌, List, length}
use Rattle.std.specs.{List.AllZip, Vec.Iter.into_iter_items, Vec.Iter.into_iter_len}
use Rattle.ord_tree.specs.{Append.Appends, Node.bare}
use Rattle.ord_tree.proofs.tree.append.append_over.Given as goal

-- the items of the sources so far are appended, and there is room for the rest
abbrev pub invariant-loop-source : goal.invariant-loop-source
invariant-loop-source g l = record {
  cut : l.fn.sources.items ≡ l.yielded ++ into_iter_items l.source-iterator;
  count : into_iter_len l.source-iterator ≡ length (into_iter_items l.source-iterator);
  room : length l.chain.entries + length (into_iter_items l.source-iterator) ≤ l.chain.capacity;
  appended : (items : List g.row.T.Denot) × AllZip g.T.From.from_gives l.yielded items × Appends (bare l.initial.chain) items (bare l.chain);
}
