use Rattle.std.proofs.Common.{◌≡◌, ◌+◌, ◌≤◌, ◌∷◌, sym, ap, ◌∙◌, arith, rules}
use Rattle.order_book.specs.{Queue.Queue, Queue.levels_of, Queue.total, AuctionSteps.quantity_of}
use Rattle.order_book.proofs.{Levels.most_total, Levels.total-fits, Seeking.quantity-levels}
use Rattle.order_book.proofs.queue.OrderQueue.volume.Goals as goal

pub loop-level-init : goal.loop-level-init
loop-level-init g c =
    let q = c.args.self.now in
    let same : c.into_iter-level-iterator.result ≡ levels_of q.orders = search rules in
    rw same (omega (arith, quantity-levels q.orders))

pub overflow_add-volume : goal.overflow_add-volume
overflow_add-volume g c =
    let q : Queue g.row.T.Denot = c.args.self.now in
    let x = c.in-Some.level in
    let coming = ap quantity_of c.in-Some.ensures.steps in
    let fits : total q.orders ≤ most_total = total-fits q.orders c.levels-level-items.ensures.sound.summable in
    omega (arith, c.loop-level.invariant, coming, fits)
