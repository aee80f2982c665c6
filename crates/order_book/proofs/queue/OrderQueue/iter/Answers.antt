use Rattle.std.proofs.Common.{◌∙◌, map, sym, ap}
use Rattle.order_book.specs.{QueueLayout.order_in, Queue.Queue}
use Rattle.order_book.proofs.Rows.{rows-distinct}
use Rattle.order_book.proofs.queue.OrderQueue.iter.Goals as goal

pub invariant_of-result : goal.invariant_of-result
invariant_of-result g c = rows-distinct c.ladder-ladder.result.now.orders.entries c.ladder-ladder.ensures.ladder.distinct

pub returns-clause-orders : goal.returns-clause-orders
returns-clause-orders g c = rw c.side.ensures (ap (map (order_in c.args.self.now.side)) c.first_index.ensures ∙ ap (λ (q : Queue g.row.T.Denot). q.orders) (sym c.ladder-ladder.ensures.view))
