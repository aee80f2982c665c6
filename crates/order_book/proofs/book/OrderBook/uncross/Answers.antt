use Rattle.order_book.proofs.Uncrossing.{auctioned, uncrossed-auctioned, step-auctioned}
use Rattle.order_book.proofs.book.OrderBook.uncross.Goals as goal

pub returns-clause-auction : goal.returns-clause-auction
returns-clause-auction g c = auctioned c.self.inside.bids c.self.inside.asks c.take_volume.new.self c.take_volume-2.new.self c.args.self.now c.self.view_is
    c.in-Some.auction c.in-Some.ensures.best c.take_volume.ensures.after c.take_volume-2.ensures.after
    c.args.trades.now.items c.fill.new.trades.items c.fill-2.new.trades.items c.in_ok-fill.ensures.trades c.in_default-fill.ensures.trades

pub returns-clause-uncrossed : goal.returns-clause-uncrossed
returns-clause-uncrossed g c = uncrossed-auctioned c.self.inside.bids c.self.inside.asks c.take_volume.new.self c.take_volume-2.new.self c.args.self.now c.self.view_is
    c.in-Some.auction c.in-Some.ensures.best c.take_volume.ensures.after c.take_volume-2.ensures.after c.count.ensures.lawful

pub returns-clause-steps : goal.returns-clause-steps
returns-clause-steps g c = record {
  step = step-auctioned c.self.inside.bids c.self.inside.asks c.take_volume.new.self c.take_volume-2.new.self c.args.self.now c.self.view_is
      c.in-Some.auction c.in-Some.ensures.best c.take_volume.ensures.after c.take_volume-2.ensures.after c.count.ensures.lawful;
  err = tt;
  kept = tt;
}
