use Rattle.order_book.specs.{Queue.with_left, declared.new_order.NewOrder.NewOrder}
use Rattle.std.proofs.Common.{sym, subst, ap, ◌∙◌}
use Rattle.order_book.specs.declared.side.Side.TheVariants.{Buy, Sell}
use Rattle.order_book.specs.Book.{Book, IsBook, opposite}
use Rattle.order_book.proofs.Pairs.{apart-of, uncrossed-by, pair-without_bid, pair-without_ask, pair-settled_bid, pair-settled_ask}
use Rattle.order_book.proofs.Rooms.{granted, room-on}
use Rattle.order_book.proofs.Names.{goes-own_anew, goes-other, step-of}
use Rattle.order_book.proofs.book.OrderBook.replace.Goals.{in-Buy, in-Sell}
use Rattle.order_book.proofs.book.OrderBook.replace.Goals as goal

pub returns-in-Ok-clause-uncrossed : goal.returns-in-Ok-clause-uncrossed
returns-in-Ok-clause-uncrossed g c = λ uncrossed.
    let bids = c.self.inside.bids in
    let asks = c.self.inside.asks in
    let p = c.pointer-pointer.result in
    let order : NewOrder g.row.T.Denot = record { side = c.side.result; kind = c.args.kind; quantity = c.args.quantity; tag = c.in-Some.old.tag } in
    let lawful : IsBook (record { bids = bids; asks = asks }) = subst (λ (b : Book g.row.T.Denot). IsBook b) (sym c.self.view_is) c.count.ensures.lawful in
    let apart = apart-of bids asks c.args.self.now c.self.invariant c.self.view_is uncrossed in
    elim c.match-side.branch [
      | in-Buy w ↦
          let settled = w.settle_anew-settled in
          uncrossed-by settled.new.own settled.new.other c.match-side.self (pair-settled_bid bids asks settled.new.own settled.new.other apart order _ _ (with_left bids p) (pair-without_bid bids asks apart p) settled.result
          lawful.asks.in_order settled.ensures.rests settled.ensures.settles) w.self-is
      | in-Sell w ↦
          let settled = w.settle_anew-settled-in-Sell in
          uncrossed-by settled.new.other settled.new.own c.match-side.self (pair-settled_ask bids asks settled.new.other settled.new.own apart order _ _ (with_left asks p) (pair-without_ask bids asks apart p) settled.result
          lawful.bids.in_order settled.ensures.rests settled.ensures.settles) w.self-is
    ]

pub returns-in-Ok-clause-steps : goal.returns-in-Ok-clause-steps
returns-in-Ok-clause-steps g c =
    let bids = c.self.inside.bids in
    let asks = c.self.inside.asks in
    let lawful : IsBook (record { bids = bids; asks = asks }) = subst (λ (b : Book g.row.T.Denot). IsBook b) (sym c.self.view_is) c.count.ensures.lawful in
    record {
      step = elim c.match-side.branch [
        | in-Buy w ↦
            let settled = w.settle_anew-settled in
            step-of bids asks settled.new.own settled.new.other c.args.self.now c.match-side.self c.self.view_is w.self-is
            (λ counted. goes-own_anew settled.result bids settled.new.own settled.ensures.settles.own_kept _ _ _ _ settled.ensures.rests counted)
            (λ counted. goes-other settled.result asks settled.new.other settled.ensures.settles.other_kept _ lawful.asks.summable.few settled.ensures.settles.taken counted)
        | in-Sell w ↦
            let settled = w.settle_anew-settled-in-Sell in
            step-of bids asks settled.new.other settled.new.own c.args.self.now c.match-side.self c.self.view_is w.self-is
            (λ counted. goes-other settled.result bids settled.new.other settled.ensures.settles.other_kept _ lawful.bids.summable.few settled.ensures.settles.taken counted)
            (λ counted. goes-own_anew settled.result asks settled.new.own settled.ensures.settles.own_kept _ _ _ _ settled.ensures.rests counted)
      ];
      err = tt;
      kept = tt;
    }

pub returns-in-Ok-clause-room : goal.returns-in-Ok-clause-room
returns-in-Ok-clause-room g c = elim c.match-side.branch [
  | in-Buy w ↦
      let settled = w.settle_anew-settled in
      room-on c.args.id.side Buy c.args.self.now c.match-side.self c.self.inside.bids settled.new.own (sym c.side-3.ensures ∙ w.in-Buy.is)
      (ap (λ (b : Book g.row.T.Denot). b.bids) (sym c.self.view_is)) (ap (λ (b : Book g.row.T.Denot). b.bids) w.self-is)
      (granted settled.result _ (sym w.settled-is ∙ c.in-Ok.is) settled.ensures.room)
  | in-Sell w ↦
      let settled = w.settle_anew-settled-in-Sell in
      room-on c.args.id.side Sell c.args.self.now c.match-side.self c.self.inside.asks settled.new.own (sym c.side-3.ensures ∙ w.in-Sell.is)
      (ap (λ (b : Book g.row.T.Denot). b.asks) (sym c.self.view_is)) (ap (λ (b : Book g.row.T.Denot). b.asks) w.self-is)
      (granted settled.result _ (sym w.settled-is ∙ c.in-Ok.is) settled.ensures.room)
]

pub returns-in-Ok-clause-other_room : goal.returns-in-Ok-clause-other_room
returns-in-Ok-clause-other_room g c = elim c.match-side.branch [
  | in-Buy w ↦
      let settled = w.settle_anew-settled in
      room-on (opposite c.args.id.side) Sell c.args.self.now c.match-side.self c.self.inside.asks settled.new.other
      (ap opposite (sym c.side-3.ensures ∙ w.in-Buy.is)) (ap (λ (b : Book g.row.T.Denot). b.asks) (sym c.self.view_is)) (ap (λ (b : Book g.row.T.Denot). b.asks) w.self-is)
      (granted settled.result _ (sym w.settled-is ∙ c.in-Ok.is) settled.ensures.other_room)
  | in-Sell w ↦
      let settled = w.settle_anew-settled-in-Sell in
      room-on (opposite c.args.id.side) Buy c.args.self.now c.match-side.self c.self.inside.bids settled.new.other
      (ap opposite (sym c.side-3.ensures ∙ w.in-Sell.is)) (ap (λ (b : Book g.row.T.Denot). b.bids) (sym c.self.view_is)) (ap (λ (b : Book g.row.T.Denot). b.bids) w.self-is)
      (granted settled.result _ (sym w.settled-is ∙ c.in-Ok.is) settled.ensures.other_room)
]
