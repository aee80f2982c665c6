use Rattle.std.proofs.Common.{sym, subst, ap, ◌∙◌}
use Rattle.order_book.specs.declared.side.Side.TheVariants.{Buy, Sell}
use Rattle.order_book.specs.Book.{Book, IsBook, opposite}
use Rattle.order_book.proofs.Pairs.{apart-of, uncrossed-by, pair-settled_bid, pair-settled_ask}
use Rattle.order_book.proofs.Rooms.{granted, room-on}
use Rattle.order_book.proofs.Names.{goes-own, goes-other, step-of}
use Rattle.order_book.proofs.book.OrderBook.place.Goals.{in-Buy, in-Sell}
use Rattle.order_book.proofs.book.OrderBook.place.Goals as goal

pub returns-in-Ok-clause-uncrossed : goal.returns-in-Ok-clause-uncrossed
returns-in-Ok-clause-uncrossed g c = λ uncrossed.
    let bids = c.self.inside.bids in
    let asks = c.self.inside.asks in
    let lawful : IsBook (record { bids = bids; asks = asks }) = subst (λ (b : Book g.row.T.Denot). IsBook b) (sym c.self.view_is) c.count.ensures.lawful in
    let apart = apart-of bids asks c.args.self.now c.self.invariant c.self.view_is uncrossed in
    elim c.match-order.branch [
      | in-Buy w ↦
          let settled = w.settle-settled in
          uncrossed-by settled.new.own settled.new.other c.match-order.self (pair-settled_bid bids asks settled.new.own settled.new.other apart c.args.order _ _ bids apart settled.result
          lawful.asks.in_order settled.ensures.rests settled.ensures.settles) w.self-is
      | in-Sell w ↦
          let settled = w.settle-settled-in-Sell in
          uncrossed-by settled.new.other settled.new.own c.match-order.self (pair-settled_ask bids asks settled.new.other settled.new.own apart c.args.order _ _ asks apart settled.result
          lawful.bids.in_order settled.ensures.rests settled.ensures.settles) w.self-is
    ]

pub returns-in-Ok-clause-steps : goal.returns-in-Ok-clause-steps
returns-in-Ok-clause-steps g c =
    let bids = c.self.inside.bids in
    let asks = c.self.inside.asks in
    let lawful : IsBook (record { bids = bids; asks = asks }) = subst (λ (b : Book g.row.T.Denot). IsBook b) (sym c.self.view_is) c.count.ensures.lawful in
    record {
      step = elim c.match-order.branch [
        | in-Buy w ↦
            let settled = w.settle-settled in
            step-of bids asks settled.new.own settled.new.other c.args.self.now c.match-order.self c.self.view_is w.self-is
            (λ counted. goes-own settled.result bids settled.new.own settled.ensures.settles.own_kept _ _ _ settled.ensures.rests)
            (λ counted. goes-other settled.result asks settled.new.other settled.ensures.settles.other_kept _ lawful.asks.summable.few settled.ensures.settles.taken counted)
        | in-Sell w ↦
            let settled = w.settle-settled-in-Sell in
            step-of bids asks settled.new.other settled.new.own c.args.self.now c.match-order.self c.self.view_is w.self-is
            (λ counted. goes-other settled.result bids settled.new.other settled.ensures.settles.other_kept _ lawful.bids.summable.few settled.ensures.settles.taken counted)
            (λ counted. goes-own settled.result asks settled.new.own settled.ensures.settles.own_kept _ _ _ settled.ensures.rests)
      ];
      err = tt;
      kept = tt;
    }

pub returns-in-Ok-clause-other_room : goal.returns-in-Ok-clause-other_room
returns-in-Ok-clause-other_room g c = elim c.match-order.branch [
  | in-Buy w ↦
      let settled = w.settle-settled in
      room-on (opposite c.args.order.side) Sell c.args.self.now c.match-order.self c.self.inside.asks settled.new.other (ap opposite w.in-Buy.is)
      (ap (λ (b : Book g.row.T.Denot). b.asks) (sym c.self.view_is)) (ap (λ (b : Book g.row.T.Denot). b.asks) w.self-is)
      (granted settled.result _ (sym w.settled-is ∙ c.in-Ok.is) settled.ensures.other_room)
  | in-Sell w ↦
      let settled = w.settle-settled-in-Sell in
      room-on (opposite c.args.order.side) Buy c.args.self.now c.match-order.self c.self.inside.bids settled.new.other (ap opposite w.in-Sell.is)
      (ap (λ (b : Book g.row.T.Denot). b.bids) (sym c.self.view_is)) (ap (λ (b : Book g.row.T.Denot). b.bids) w.self-is)
      (granted settled.result _ (sym w.settled-is ∙ c.in-Ok.is) settled.ensures.other_room)
]
