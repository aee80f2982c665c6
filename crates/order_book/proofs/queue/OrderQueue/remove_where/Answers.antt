use Rattle.std.proofs.Common.{◌≡◌, ◌<◌, ◌∙◌, List, length, sym, ap, subst, arith}
use Rattle.std.specs.Prelude.{IsSome}
use Rattle.order_book.specs.Queue.{Queue, order_of, first_of}
use Rattle.order_book.specs.{Ladder.rows_of, declared.order.Order.Order}
use Rattle.std.specs.Option.{option_map}
use Rattle.order_book.proofs.{Naming.first-order, Cancelling.named-kept}
use Rattle.order_book.proofs.Retaining.{retains-none, meets, at_next, named-next, retains-more, retains-done}
use Rattle.order_book.proofs.queue.OrderQueue.remove_where.Goals as goal

pub loop-init : goal.loop-init
loop-init g c = record {
  callable = c.requires;
  distinct = c.len-before.ensures.sound.distinct;
  retains = retains-none g.F.FnMut c.args.self.now c.args.f c.first-next.result (c.first-next.ensures ∙ first-order c.self.inside.side (rows_of c.self.inside.ladder.orders).entries
      ∙ ap (λ (q : Queue g.row.T.Denot). option_map (λ (x : Order g.row.T.Denot). x.id.pointer) (first_of q.orders)) c.self.view_is);
}

pub ask-next-requires-clause-named : goal.ask-next-requires-clause-named
ask-next-requires-clause-named g c =
    let more : c.loop.counter < length c.args.self.now.orders = omega (arith, c.loop-test.true, c.len-before.ensures.value) in
    named-next g.F.FnMut c.args.self.now c.args.f c.loop.self c.loop.next c.loop.f c.loop.counter c.loop.invariant.retains (meets g.F.FnMut c.args.self.now c.args.f c.loop.self c.loop.next c.loop.f c.loop.counter c.loop.invariant.retains more) c.unwrap.result c.unwrap.ensures c.loop.invariant.distinct

pub loop-preserved : goal.loop-preserved
loop-preserved g c =
    let more : c.loop.counter < length c.args.self.now.orders = omega (arith, c.loop-test.true, c.len-before.ensures.value) in
    let m = meets g.F.FnMut c.args.self.now c.args.f c.loop.self c.loop.next c.loop.f c.loop.counter c.loop.invariant.retains more in
    record {
      callable = c.ask-next.ensures.still_callable;
      distinct = c.ask-next.ensures.sound.distinct;
      retains = retains-more g.F.FnMut c.args.self.now c.args.f c.loop.self c.loop.next c.loop.f c.loop.counter c.loop.invariant.retains m c.unwrap.result c.unwrap.ensures
          c.ask-next.new.self c.ask-next.result c.ask-next.new.f c.loop.invariant.distinct (c.ask-next.ensures.asks (at_next g.F.FnMut c.args.self.now c.args.f c.loop.self c.loop.next c.loop.f c.loop.counter c.loop.invariant.retains m c.unwrap.result c.unwrap.ensures));
    }

pub returns-clause-cancels : goal.returns-clause-cancels
returns-clause-cancels g c = retains-done g.F.FnMut c.args.self.now c.args.f c.loop.self c.loop.next c.loop.f c.loop.counter c.loop.invariant.retains (omega (arith, c.loop-test.false, c.len-before.ensures.value))

pub returns-clause-kept : goal.returns-clause-kept
returns-clause-kept g c = λ p.
    let filtered = (returns-clause-cancels g c).filtered in
    subst (λ (xs : List (Order g.row.T.Denot)). IsSome (order_of xs p) → order_of xs p ≡ order_of c.args.self.now.orders p) (sym filtered.4) (named-kept filtered.0 c.args.self.now.orders p c.len-before.ensures.sound.distinct)
