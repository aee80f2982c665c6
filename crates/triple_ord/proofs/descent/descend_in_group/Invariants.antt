use Rattle.triple_ord.proofs.Words.{◌≡◌, ℕ, Some, ◌+◌, ◌-◌, ◌≤◌, option_map, Equal, height, taken, HasDescendedByKey}
use Rattle.triple_ord.proofs.descent.descend_in_group.Given as goal

abbrev pub invariant-loop-at : goal.invariant-loop-at
invariant-loop-at g l = record {
  tree : l.probe.tree.now ≡ l.initial.probe.tree.now;
  more : l.initial.probe.visits ≤ l.probe.visits;
  descended : (before : ℕ)
      → HasDescendedByKey g.T.SimpleOrdItem.key_of (taken l.ties g.T.Key.Ord.cmp) l.initial.probe.tree.now.list.entries l.initial.probe.tree.now.shape l.k
      before (option_map g.P.Inx.BasePtrInx.number l.fn.lesser) l.initial.probe.visits (Some (g.P.BasePtr.numbers l.fn.p, Equal)) (Some (g.P.BasePtr.numbers l.fn.p))
      → HasDescendedByKey g.T.SimpleOrdItem.key_of (taken l.ties g.T.Key.Ord.cmp) l.initial.probe.tree.now.list.entries l.initial.probe.tree.now.shape l.k
      before (option_map g.P.Inx.BasePtrInx.number l.at) l.probe.visits (option_map (λ a. ((g.P.BasePtr.numbers a.0), a.1)) l.last) (option_map g.P.BasePtr.numbers l.met);
}

abbrev pub decreases-loop-at : goal.decreases-loop-at
decreases-loop-at g l = height l.initial.probe.tree.now.shape + l.initial.probe.visits - l.probe.visits
