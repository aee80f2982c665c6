use Rattle.triple_ord.proofs.Words.{◌≡◌, None, ◌+◌, ◌-◌, option_map, height, taken, HasDescendedByKey}
use Rattle.triple_ord.proofs.descent.descend_by_key.Given as goal

abbrev pub invariant-loop-at : goal.invariant-loop-at
invariant-loop-at g l = record {
  tree : l.probe.tree.now ≡ l.initial.probe.tree.now;
  descended : HasDescendedByKey g.T.SimpleOrdItem.key_of (taken l.ties g.T.Key.Ord.cmp) l.initial.probe.tree.now.list.entries l.initial.probe.tree.now.shape l.k
      l.initial.probe.visits (option_map g.P.Inx.BasePtrInx.number l.at) l.probe.visits (option_map (λ a. ((g.P.BasePtr.numbers a.0), a.1)) l.last) None;
}

abbrev pub decreases-loop-at : goal.decreases-loop-at
decreases-loop-at g l = height l.initial.probe.tree.now.shape + l.initial.probe.visits - l.probe.visits
