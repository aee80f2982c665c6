use Rattle.std.proofs.Common.{◌-◌, ◌≤◌, length, vec_capacity}
use Rattle.self_trade.proofs.Surveying.{IsSurveying}
use Rattle.self_trade.proofs.survey.survey_of.Given as goal

-- these orders were asked about, and the others are to come
abbrev pub invariant-loop-resting : goal.invariant-loop-resting
invariant-loop-resting g l = record {
  callable : goal.F-IsAlwaysCallable g l.may_trade;
  surveying : IsSurveying g.F.FnMut l.fn.may_trade l.fn.policy l.fn.book l.fn.order (vec_capacity l.fn.cancelled - length l.fn.cancelled.items) l.fn.cancelled.items
      l.survey l.may_trade l.resting-iterator l.cancelled.items;
  room : vec_capacity l.fn.cancelled ≤ vec_capacity l.cancelled;
}
