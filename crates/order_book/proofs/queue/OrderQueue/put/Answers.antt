use Rattle.std.proofs.Common.{◌≤◌, arith}
use Rattle.std.proofs.lemmas.List.{length-map}
use Rattle.order_book.specs.{QueueLayout.most_price, Ladder.rows_of, Ladder.row_of}
use Rattle.order_book.proofs.Putting.{rests-inserted, updates-inserted}
use Rattle.order_book.proofs.queue.OrderQueue.put.Goals as goal

pub returns-clause-ok : goal.returns-clause-ok
returns-clause-ok g c =
    let bounded : c.args.price ≤ most_price = omega (arith, c.ranges.price) in
    let old = c.self.inside.ladder.orders in
    let puts = rw c.ranked.ensures at c.in_ok-pointer.ensures.ok in
    rw (← c.self.view_is) (rests-inserted c.self.inside.side (rows_of old) (rows_of c.insert.new.self.orders) c.in_ok-pointer.pointer c.args.price (record { quantity = c.args.quantity; tag = c.args.tag }) bounded
    puts c.self.invariant.lawful c.self.invariant.distinct (rw (length-map old.entries row_of) c.in_ok-pointer.ensures.capacity))

pub returns-clause-updates : goal.returns-clause-updates
returns-clause-updates g c =
    let bounded : c.args.price ≤ most_price = omega (arith, c.ranges.price) in
    let puts = rw c.ranked.ensures at c.in_ok-pointer.ensures.ok in
    rw (← c.self.view_is) (updates-inserted c.self.inside.side (rows_of c.self.inside.ladder.orders) (rows_of c.insert.new.self.orders) c.in_ok-pointer.pointer c.args.price
    (record { quantity = c.args.quantity; tag = c.args.tag }) bounded puts c.self.invariant.distinct c.in_ok-pointer.ensures.ladder.distinct)
