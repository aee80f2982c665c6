use Rattle.std.proofs.Common.{◌∙◌, reverse, sym, ap}
use Rattle.order_book.specs.Queue.{Queue, levels_of}
use Rattle.order_book.proofs.Summing.{ladder-levels}
use Rattle.order_book.proofs.queue.OrderQueue.levels_from_worst.Goals as goal

pub returns-clause-levels : goal.returns-clause-levels
returns-clause-levels g c =
    let q = c.args.self.now in
    let l = c.ladder.result.now in
    rw (c.side.ensures, c.iter.ensures.entries)
    (ap reverse (sym (ladder-levels q.side l.levels.entries l.orders.entries c.ladder.ensures.ladder.laid c.ladder.ensures.ladder.rising c.ladder.ensures.ladder.lawful))
    ∙ ap (λ (r : Queue g.row.T.Denot). reverse (levels_of r.orders)) (sym c.ladder.ensures.view))
