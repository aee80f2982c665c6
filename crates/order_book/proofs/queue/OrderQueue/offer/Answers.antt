use Rattle.std.proofs.Common.{◌≡◌, ◌<◌, List, [], ◌∷◌, ◌++◌, length, take, true, false, Result, Ok, Err, is_ok, is_err, if◌then◌else◌, sym, ap, ◌∙◌, arith, rules}
use Rattle.order_book.specs.{QueueLayout.queue_of, Queue.Queue, Queue.meets, Queue.trade_with}
use Rattle.order_book.proofs.Trading.{IsOffering, offering-start, offering-next, offer-done, done-ended, done-filled, done-missed, room-wanted, front-kept, owed}
use Rattle.order_book.specs.Ladder.{rows_of}
use Rattle.order_book.proofs.queue.OrderQueue.offer.Goals as goal

-- what a push leaves that went well or was refused
pushed : {X E T : Type 0} (r : Result X E) (items more same : List T) → false ≡ is_err r → items ≡ (if is_ok r then more else same) → items ≡ more
pushed (Ok x) items more same well after = after
pushed (Err e) items more same well after = absurd (cc)

unpushed : {X E T : Type 0} (r : Result X E) (items more same : List T) → true ≡ is_err r → items ≡ (if is_ok r then more else same) → items ≡ same
unpushed (Ok x) items more same refused after = absurd (cc)
unpushed (Err e) items more same refused after = after

pub loop-order-init : goal.loop-order-init
loop-order-init g c =
    let same : c.into_iter-order-iterator.result ≡ c.args.self.now.orders = search rules in
    record {
      offering = rw same (offering-start c.args.self.now c.args.limit c.args.quantity c.args.trades.now.items c.iter-order-items.ensures.sound.in_order c.iter-order-items.ensures.sound.some_left);
      room = omega arith;
    }

pub returns-in-None : goal.returns-in-None
returns-in-None g c =
    let done = offer-done c.args.self.now c.args.limit c.args.quantity c.args.trades.now.items c.loop-order.left c.loop-order.trades.items c.loop-order.order-iterator c.loop-order.invariant.offering
    (done-ended c.args.self.now c.args.limit c.args.quantity c.args.trades.now.items c.loop-order.left c.loop-order.trades.items c.loop-order.order-iterator c.in-None.ensures.steps.0) in
    record { left = done.0; trades = done.1; memory = tt; err = tt; kept_room = c.loop-order.invariant.room; sound = search rules }

pub returns-then-left-eq0 : goal.returns-then-left-eq0
returns-then-left-eq0 g c =
    let done = offer-done c.args.self.now c.args.limit c.args.quantity c.args.trades.now.items c.loop-order.left c.loop-order.trades.items c.loop-order.order-iterator c.loop-order.invariant.offering
    (done-filled c.args.self.now c.args.limit c.args.quantity c.args.trades.now.items c.loop-order.left c.loop-order.trades.items c.loop-order.order-iterator c.if-left-eq0.true) in
    record { left = done.0; trades = done.1; memory = tt; err = tt; kept_room = c.loop-order.invariant.room; sound = search rules }

pub returns-then-not-meets : goal.returns-then-not-meets
returns-then-not-meets g c =
    let q : Queue g.row.T.Denot = queue_of c.self.inside.side (rows_of c.self.inside.ladder.orders) in
    let x = c.in-Some.order in
    let now : IsOffering q c.args.limit c.args.quantity c.args.trades.now.items c.loop-order.left c.loop-order.trades.items (x ∷ c.next.new.self) =
    rw (c.self.view_is, ← c.in-Some.ensures.steps) c.loop-order.invariant.offering in
    let done = offer-done q c.args.limit c.args.quantity c.args.trades.now.items c.loop-order.left c.loop-order.trades.items (x ∷ c.next.new.self) now
    (done-missed q c.args.limit c.args.quantity c.args.trades.now.items c.loop-order.left c.loop-order.trades.items x c.next.new.self now (sym c.if-not-meets.ensures)) in
    record { left = rw (← c.self.view_is) done.0; trades = rw (← c.self.view_is) done.1; memory = tt; err = tt; kept_room = c.loop-order.invariant.room; sound = search rules }

pub loop-order-preserved : goal.loop-order-preserved
loop-order-preserved g c =
    let q : Queue g.row.T.Denot = queue_of c.self.inside.side (rows_of c.self.inside.ladder.orders) in
    let x = c.in-Some.order in
    let now : IsOffering q c.args.limit c.args.quantity c.args.trades.now.items c.loop-order.left c.loop-order.trades.items (x ∷ c.next.new.self) =
    rw (c.self.view_is, ← c.in-Some.ensures.steps) c.loop-order.invariant.offering in
    let wanted : 0 < c.loop-order.left = omega (arith, c.if-left-eq0.false) in
    let hits : meets q.side x.price c.args.limit ≡ true = sym c.if-not-meets.ensures in
    let added : c.push.new.self.items ≡ c.loop-order.trades.items ++ trade_with x c.min-quantity.result ∷ [] =
    pushed c.push.result _ _ _ c.if-is_err.ensures.value c.push.ensures.items ∙ ap (λ t. c.loop-order.trades.items ++ t ∷ []) c.trade.ensures in
    record {
      offering = rw (added, c.min-quantity.ensures, ← c.self.view_is)
          (offering-next q c.args.limit c.args.quantity c.args.trades.now.items c.loop-order.left c.loop-order.trades.items x c.next.new.self now wanted hits);
      room = omega (arith, c.loop-order.invariant.room, c.push.ensures.capacity);
    }

pub returns-then-is_err-clause-memory : goal.returns-then-is_err-clause-memory
returns-then-is_err-clause-memory g c =
    let q : Queue g.row.T.Denot = queue_of c.self.inside.side (rows_of c.self.inside.ladder.orders) in
    let x = c.in-Some.order in
    let now : IsOffering q c.args.limit c.args.quantity c.args.trades.now.items c.loop-order.left c.loop-order.trades.items (x ∷ c.next.new.self) =
    rw (c.self.view_is, ← c.in-Some.ensures.steps) c.loop-order.invariant.offering in
    let wanted : 0 < c.loop-order.left = omega (arith, c.if-left-eq0.false) in
    let hits : meets q.side x.price c.args.limit ≡ true = sym c.if-not-meets.ensures in
    rw (← c.self.view_is) (omega (
      arith,
      c.loop-order.invariant.room,
      c.loop-order.trades.ok.0,
      owed c.push.result c.if-is_err.ensures.value c.push.ensures.full,
      room-wanted q c.args.limit c.args.quantity c.args.trades.now.items c.loop-order.left c.loop-order.trades.items x c.next.new.self now wanted hits,
    ))

pub returns-then-is_err-clause-err : goal.returns-then-is_err-clause-err
returns-then-is_err-clause-err g c =
    let before : c.len-before.result ≡ length c.args.trades.now.items = c.len-before.ensures ∙ c.args.trades.now.ok.0 in
    c.truncate.ensures.items ∙ ap (λ n. take n c.push.new.self.items) before
    ∙ ap (take (length c.args.trades.now.items)) (unpushed c.push.result _ _ _ c.if-is_err.ensures.value c.push.ensures.items)
    ∙ front-kept c.args.self.now c.args.limit c.args.quantity c.args.trades.now.items c.loop-order.left c.loop-order.trades.items c.loop-order.order-iterator c.loop-order.invariant.offering
