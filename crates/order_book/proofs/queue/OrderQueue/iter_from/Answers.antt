use Rattle.std.proofs.Common.{◌≤◌, ◌∙◌, map, sym, ap, arith}
use Rattle.order_book.specs.{QueueLayout.most_price, QueueLayout.order_in, Queue.Queue, Queue.orders_from, Ladder.rows_of}
use Rattle.order_book.proofs.{Rows.rows-distinct, AtPrice.from-ranked}
use Rattle.order_book.proofs.queue.OrderQueue.iter_from.Goals as goal

pub invariant_of-result : goal.invariant_of-result
invariant_of-result g c = rows-distinct c.ladder-ladder.result.now.orders.entries c.ladder-ladder.ensures.ladder.distinct

pub returns-clause-orders : goal.returns-clause-orders
returns-clause-orders g c =
    let side = c.args.self.now.side in
    let bounded : c.args.price ≤ most_price = omega (arith, c.ranges.price) in
    let given = rw (c.ranked.ensures, c.side-2.ensures) at c.index_from.ensures in
    rw c.side.ensures (ap (map (order_in side)) given ∙ from-ranked side c.args.price bounded (rows_of c.ladder-ladder.result.now.orders).entries c.ladder-ladder.ensures.ladder.lawful
    ∙ ap (λ (q : Queue g.row.T.Denot). orders_from q.side c.args.price q.orders) (sym c.ladder-ladder.ensures.view))
