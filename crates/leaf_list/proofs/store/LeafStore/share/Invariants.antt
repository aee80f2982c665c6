use Rattle.std.proofs.Common.{◌≡◌, ◌++◌, take, drop}
use Rattle.leaf_list.specs.Parts.{entries_in, with_entries}
use Rattle.leaf_list.proofs.store.LeafStore.share.Given as goal

-- the first entries have gone
abbrev pub invariant-loop-i : goal.invariant-loop-i
invariant-loop-i g l = l.self ≡ record l.initial.self {
  leaves = with_entries (with_entries l.initial.self.leaves (g.P.Inx.BasePtrInx.number l.to)
      (entries_in l.initial.self.leaves (g.P.Inx.BasePtrInx.number l.to) ++ take l.i (entries_in l.initial.self.leaves (g.P.Inx.BasePtrInx.number l.from))))
      (g.P.Inx.BasePtrInx.number l.from) (drop l.i (entries_in l.initial.self.leaves (g.P.Inx.BasePtrInx.number l.from)));
}
