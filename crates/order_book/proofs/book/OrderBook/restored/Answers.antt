use Rattle.std.proofs.Common.{◌≡◌, ◌+◌, ◌<◌, ap, drop, arith, Err}
use Rattle.order_book.specs.{Book.Book, declared.order.Order.Order}
use Rattle.order_book.specs.declared.error.AddingError.TheVariants.{NoQuantity, BeyondMaxCapacity}
use Rattle.order_book.proofs.{Restoring.all-left, Restoring.same-error, Restoring.restoring-start, Restoring.left-next, Restoring.left-none, Restoring.restoring-next, Restoring.restoring-few, Restoring.restored-same}
use Rattle.order_book.proofs.book.OrderBook.restored.Goals as goal

pub loop-order-preserved : goal.loop-order-preserved
loop-order-preserved g c =
    let xs = c.args.orders.now in
    let i = c.loop-order.order-index in
    let x = c.order-item.result in
    restoring-next xs (drop i xs) (drop (i + 1) xs) i x c.loop-order.book c.add.new.self c.in_ok-add.field-0 c.side-in-loop-order.result c.side-in-loop-order.ensures
    c.loop-order.invariant (left-next xs i x c.loop-order-test.true c.order-item.is) c.count.ensures.lawful
    c.in_ok-add.ensures.rests c.in_ok-add.ensures.other_side c.in_ok-add.ensures.count

pub loop-order-init : goal.loop-order-init
loop-order-init g c = restoring-start c.args.orders.now c.new-book.result
    (ap (λ (b : Book g.row.T.Denot). b.bids.orders) c.new-book.ensures.value) (ap (λ (b : Book g.row.T.Denot). b.asks.orders) c.new-book.ensures.value)

pub returns-in_err-add-clause-nothing : goal.returns-in_err-add-clause-nothing
returns-in_err-add-clause-nothing g c = λ some refused.
    let xs = c.args.orders.now in
    let i = c.loop-order.order-index in
    let x = c.order-item.result in
    let came = same-error c.from_residual.result NoQuantity c.in_err-add.field-0.0 c.from_residual.ensures.1 refused in
    let none : x.quantity ≡ 0 = c.in_err-add.ensures.nothing.0 (ap Err came) in
    let more : 0 < x.quantity = all-left (λ (y : Order g.row.T.Denot). 0 < y.quantity) xs i x (drop (i + 1) xs) some
    (left-next xs i x c.loop-order-test.true c.order-item.is) in
    absurd (omega (arith, none, more))

pub returns-in_err-add-clause-full : goal.returns-in_err-add-clause-full
returns-in_err-add-clause-full g c = λ few refused.
    let xs = c.args.orders.now in
    let i = c.loop-order.order-index in
    let came = same-error c.from_residual.result BeyondMaxCapacity c.in_err-add.field-0.0 c.from_residual.ensures.1 refused in
    let within = restoring-few xs (drop i xs) i c.loop-order.book c.side-in-loop-order.result c.loop-order.invariant in
    let full = (c.in_err-add.ensures.full.0 (ap Err came)).1 in
    absurd (omega (arith, within, few, full, c.loop-order-test.true))

pub returns-clause-same : goal.returns-clause-same
returns-clause-same g c = λ b lawful is.
    let xs = c.args.orders.now in
    let i = c.loop-order.order-index in
    restored-same b lawful xs (drop i xs) i c.loop-order.book c.loop-order.invariant (left-none xs i c.loop-order-test.false) is
