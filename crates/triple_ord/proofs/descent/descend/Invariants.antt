use Rattle.triple_ord.proofs.Words.{◌≡◌, ◌+◌, ◌-◌, option_map, height, Asks, HasDescended}
use Rattle.triple_ord.proofs.descent.descend.Given as goal

abbrev pub invariant-loop-at : goal.invariant-loop-at
invariant-loop-at g l = record {
  callable : goal.F-IsAlwaysCallable g l.f;
  tree : l.probe.tree.now ≡ l.initial.probe.tree.now;
  descended : HasDescended (Asks g.P.BasePtr.numbers (goal.F-step g)) l.initial.probe.tree.now.list.entries l.initial.probe.tree.now.shape l.initial.probe.visits l.fn.f l.f
      (option_map g.P.Inx.BasePtrInx.number l.at) l.probe.visits (option_map (λ a. ((g.P.BasePtr.numbers a.0), a.1)) l.last);
}

abbrev pub decreases-loop-at : goal.decreases-loop-at
decreases-loop-at g l = height l.initial.probe.tree.now.shape + l.initial.probe.visits - l.probe.visits
