use Rattle.triple_ord.proofs.Words.{◌≡◌, position_of, IsStepping, taken}
use Rattle.triple_ord.proofs.steps.step_along.Given as goal

abbrev pub invariant-loop-step : goal.invariant-loop-step
invariant-loop-step g l = record {
  tree : l.probe.tree.now ≡ l.initial.probe.tree.now;
  counted : l.probe.visits ≡ l._step;
  stepping : IsStepping g.T.SimpleOrdItem.key_of (taken l.ties g.T.Key.Ord.cmp) l.initial.probe.tree.now.list.entries l.k
      (position_of l.initial.probe.tree.now.list.entries (g.P.Inx.BasePtrInx.number l.fn.p_init)) (g.P.Inx.BasePtrInx.number l.at) l.probe.visits l.came;
}
