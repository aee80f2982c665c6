use Rattle.triple_ord.proofs.Words.{◌≡◌, ◌+◌, ◌-◌, option_map, height, HasDescended}
use Rattle.triple_ord.specs.Around.{AnswersAround}
use Rattle.triple_ord.proofs.around.descend_around.Given as goal

abbrev pub invariant-loop-at : goal.invariant-loop-at
invariant-loop-at g l = record {
  tree : l.probe.tree.now ≡ l.initial.probe.tree.now;
  descended : HasDescended {F = Unit {0}} (λ f s h. AnswersAround g.T.SimpleOrdItem.key_of g.T.Key.Ord.cmp l.initial.probe.tree.now.list.entries (g.P.Inx.BasePtrInx.number l.passed) l.k s)
      l.initial.probe.tree.now.list.entries l.initial.probe.tree.now.shape l.initial.probe.visits tt tt
      (option_map g.P.Inx.BasePtrInx.number l.at) l.probe.visits (option_map (λ a. ((g.P.BasePtr.numbers a.0), a.1)) l.last);
}

abbrev pub decreases-loop-at : goal.decreases-loop-at
decreases-loop-at g l = height l.initial.probe.tree.now.shape + l.initial.probe.visits - l.probe.visits
