use Rattle.std.proofs.Common.{◌≤◌, ◌∙◌, sym, ap, arith}
use Rattle.order_book.specs.QueueLayout.{most_price}
use Rattle.order_book.specs.Queue.{Queue, levels_of}
use Rattle.order_book.proofs.Summing.{ladder-levels, lawful-levels}
use Rattle.order_book.proofs.AtPrice.{level_where, level-found, none-at, some-at}
use Rattle.order_book.proofs.queue.OrderQueue.level_at.Goals as goal

pub returns-in-Some : goal.returns-in-Some
returns-in-Some g c =
    let q = c.args.self.now in
    let l = c.ladder.result.now in
    let ladder = c.ladder.ensures.ladder in
    let bounded : c.args.price ≤ most_price = omega (arith, c.ranges.price) in
    let finds = rw (c.ranked-rank.ensures, c.side.ensures) at c.in-Some.ensures.finds.value in
    rw (c.level_of.ensures, c.side-in-Some.ensures) (sym (some-at q.side c.args.price bounded l.levels.entries (lawful-levels l.levels.entries l.orders.entries ladder.laid ladder.lawful)
    c.in-Some.ensures.finds.sound.distinct c.in-Some.field-0-0 finds (c.in-Some.rank.now, c.in-Some.totals.now) c.in-Some.ensures.item)
    ∙ ap (level_where c.args.price) (sym (ladder-levels q.side l.levels.entries l.orders.entries ladder.laid ladder.rising ladder.lawful) ∙ ap (λ (r : Queue g.row.T.Denot). levels_of r.orders) (sym c.ladder.ensures.view))
    ∙ level-found q.side c.args.price q.orders c.len.ensures.sound.in_order)

pub returns-in-None : goal.returns-in-None
returns-in-None g c =
    let q = c.args.self.now in
    let l = c.ladder.result.now in
    let ladder = c.ladder.ensures.ladder in
    let bounded : c.args.price ≤ most_price = omega (arith, c.ranges.price) in
    let finds = rw (c.ranked-rank.ensures, c.side.ensures) at c.in-None.ensures.finds.value in
    sym (none-at q.side c.args.price bounded l.levels.entries (lawful-levels l.levels.entries l.orders.entries ladder.laid ladder.lawful) finds)
    ∙ ap (level_where c.args.price) (sym (ladder-levels q.side l.levels.entries l.orders.entries ladder.laid ladder.rising ladder.lawful) ∙ ap (λ (r : Queue g.row.T.Denot). levels_of r.orders) (sym c.ladder.ensures.view))
    ∙ level-found q.side c.args.price q.orders c.len.ensures.sound.in_order
