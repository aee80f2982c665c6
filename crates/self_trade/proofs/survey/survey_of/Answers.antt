use Rattle.std.proofs.Common.{◌≡◌, ◌-◌, ◌∷◌, ◌⊎◌, List, true, false, length, vec_capacity, refl, ap, subst, ◌∙◌, arith, rules, of_calls}
use Rattle.order_book.specs.Queue.{meets}
use Rattle.order_book.specs.{declared.order.Order.Order, Book.opposite, Book.queue, Book.limit_of}
use Rattle.self_trade.specs.Prevention.{facing}
use Rattle.self_trade.proofs.Admitting.{facing-side}
use Rattle.self_trade.proofs.Surveying.{IsSurveying, surveying-start, surveying-count, surveying-next, surveying-end, ended-none, ended-beyond}
use Rattle.self_trade.proofs.survey.survey_of.Goals.{in-None, in-Some+then-is_done}
use Rattle.self_trade.proofs.survey.survey_of.Goals as goal

pub loop-resting-init : goal.loop-resting-init
loop-resting-init g c =
    let same : c.into_iter-resting-iterator.result ≡ c.iter-resting-items.result = search rules in
    let orders : c.into_iter-resting-iterator.result ≡ facing c.args.book.now c.args.order =
    same ∙ c.iter-resting-items.ensures ∙ ap (λ s. (queue c.args.book.now s).orders) c.opposite-side.ensures in
    record {
      callable = c.requires;
      surveying = rw orders (surveying-start g.F.FnMut c.args.may_trade c.args.policy c.args.book.now c.args.order (vec_capacity c.args.cancelled.now - length c.args.cancelled.now.items) c.args.cancelled.now.items
          (record { left = c.args.order.quantity; count = 0; is_stopped = false; lacks_room = false }) refl);
      room = omega arith;
    }

pub after-survey-requires : goal.after-survey-requires
after-survey-requires g c =
    let now = subst (λ (coming : List (Order g.row.T.Denot)). IsSurveying g.F.FnMut c.args.may_trade c.args.policy c.args.book.now c.args.order (vec_capacity c.args.cancelled.now - length c.args.cancelled.now.items)
    c.args.cancelled.now.items c.loop-resting.survey c.loop-resting.may_trade coming c.loop-resting.cancelled.items) c.in-Some.ensures.steps c.loop-resting.invariant.surveying in
    let few = (facing-side c.args.book.now (opposite c.args.order.side) c.count.ensures.lawful).sound.summable.few in
    omega (
      arith,
      few,
      surveying-count g.F.FnMut c.args.may_trade c.args.policy c.args.book.now c.args.order (vec_capacity c.args.cancelled.now - length c.args.cancelled.now.items)
          c.args.cancelled.now.items c.loop-resting.survey c.loop-resting.may_trade c.in-Some.resting c.next.new.self c.loop-resting.cancelled.items now,
    )

pub loop-resting-preserved : goal.loop-resting-preserved
loop-resting-preserved g c =
    let now = subst (λ (coming : List (Order g.row.T.Denot)). IsSurveying g.F.FnMut c.args.may_trade c.args.policy c.args.book.now c.args.order (vec_capacity c.args.cancelled.now - length c.args.cancelled.now.items)
    c.args.cancelled.now.items c.loop-resting.survey c.loop-resting.may_trade coming c.loop-resting.cancelled.items) c.in-Some.ensures.steps c.loop-resting.invariant.surveying in
    let on = c.if-is_done.ensures.met refl in
    let hits : meets (opposite c.args.order.side) c.in-Some.resting.price (limit_of c.args.order.side c.args.order.kind) ≡ true =
    subst (λ n. meets (opposite c.args.order.side) c.in-Some.resting.price n ≡ true) c.limit-limit.ensures
    (subst (λ s. meets s c.in-Some.resting.price c.limit-limit.result ≡ true) c.opposite-side.ensures on.2) in
    record {
      callable = search of_calls;
      surveying = surveying-next g.F.FnMut c.args.may_trade c.args.policy c.args.book.now c.args.order (vec_capacity c.args.cancelled.now - length c.args.cancelled.now.items) c.args.cancelled.now.items
          c.loop-resting.survey c.after-survey.result c.loop-resting.may_trade c.may_trade.new.self c.in-Some.resting c.next.new.self c.loop-resting.cancelled.items c.after-survey.new.cancelled.items c.may_trade.result
          now c.may_trade.ensures on.0 (on.1, hits) c.after-survey.ensures.left c.after-survey.ensures.count c.after-survey.ensures.stopped
          (vec_capacity c.args.cancelled.now) (vec_capacity c.loop-resting.cancelled) refl c.loop-resting.invariant.room
          c.after-survey.ensures.listed c.after-survey.ensures.lacks c.after-survey.ensures.kept;
      room = omega (arith, c.loop-resting.invariant.room, c.after-survey.ensures.capacity);
    }

pub returns-clause-surveys : goal.returns-clause-surveys
returns-clause-surveys g c =
    elim c.match-next.branch [
      | in-None w ↦ surveying-end g.F.FnMut c.args.may_trade c.args.policy c.args.book.now c.args.order (vec_capacity c.args.cancelled.now - length c.args.cancelled.now.items) c.args.cancelled.now.items
          c.loop-resting.survey c.loop-resting.may_trade c.loop-resting.resting-iterator c.loop-resting.cancelled.items c.loop-resting.invariant.surveying
          (ended-none g.F.FnMut c.args.may_trade c.args.policy c.args.book.now c.args.order (vec_capacity c.args.cancelled.now - length c.args.cancelled.now.items) c.args.cancelled.now.items
          c.loop-resting.survey c.loop-resting.resting-iterator w.in-None.ensures.steps.0)
      | in-Some+then-is_done w ↦
          let now = subst (λ (coming : List (Order g.row.T.Denot)). IsSurveying g.F.FnMut c.args.may_trade c.args.policy c.args.book.now c.args.order (vec_capacity c.args.cancelled.now - length c.args.cancelled.now.items)
          c.args.cancelled.now.items c.loop-resting.survey c.loop-resting.may_trade coming c.loop-resting.cancelled.items) w.in-Some.ensures.steps c.loop-resting.invariant.surveying in
          let beyond : (c.loop-resting.survey.is_stopped ≡ true) ⊎ (c.loop-resting.survey.left ≡ 0) ⊎ (meets (opposite c.args.order.side) w.in-Some.resting.price (limit_of c.args.order.side c.args.order.kind) ≡ false) =
          subst (λ n. (c.loop-resting.survey.is_stopped ≡ true) ⊎ (c.loop-resting.survey.left ≡ 0) ⊎ (meets (opposite c.args.order.side) w.in-Some.resting.price n ≡ false)) c.limit-limit.ensures
          (subst (λ s. (c.loop-resting.survey.is_stopped ≡ true) ⊎ (c.loop-resting.survey.left ≡ 0) ⊎ (meets s w.in-Some.resting.price c.limit-limit.result ≡ false)) c.opposite-side.ensures (w.if-is_done.ensures.done refl)) in
          surveying-end g.F.FnMut c.args.may_trade c.args.policy c.args.book.now c.args.order (vec_capacity c.args.cancelled.now - length c.args.cancelled.now.items) c.args.cancelled.now.items
          c.loop-resting.survey c.loop-resting.may_trade (w.in-Some.resting ∷ c.next.new.self) c.loop-resting.cancelled.items now
          (ended-beyond g.F.FnMut c.args.may_trade c.args.policy c.args.book.now c.args.order (vec_capacity c.args.cancelled.now - length c.args.cancelled.now.items) c.args.cancelled.now.items
          c.loop-resting.survey w.in-Some.resting c.next.new.self beyond)
    ]
