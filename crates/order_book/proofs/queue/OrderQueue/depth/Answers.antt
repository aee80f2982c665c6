use Rattle.std.proofs.Common.{◌∙◌, take, sym, ap}
use Rattle.order_book.specs.Queue.{Queue, first_levels}
use Rattle.order_book.proofs.Summing.{ladder-levels}
use Rattle.order_book.proofs.queue.OrderQueue.depth.Goals as goal

pub returns : goal.returns
returns g c =
    let q = c.args.self.now in
    let l = c.ladder.result.now in
    rw (c.side.ensures, c.iter.ensures.entries)
    (ap (take c.args.levels) (sym (ladder-levels q.side l.levels.entries l.orders.entries c.ladder.ensures.ladder.laid c.ladder.ensures.ladder.rising c.ladder.ensures.ladder.lawful))
    ∙ ap (λ (r : Queue g.row.T.Denot). first_levels c.args.levels r.orders) (sym c.ladder.ensures.view))
