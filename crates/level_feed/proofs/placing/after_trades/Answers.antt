use Rattle.std.proofs.Common.{◌≡◌, ◌≢◌, ◌+◌, ◌++◌, ◌∷◌, [], Some, drop, ap, subst, arith, ◌∙◌}
use Rattle.std.proofs.lemmas.Bool.Decides.{nat_tests}
use Rattle.level_feed.specs.Feed.{update_of}
use Rattle.level_feed.proofs.Publishing.{IsPublishing, left-next, publishing-next, publishing-room, pushed, owed}
use Rattle.level_feed.proofs.placing.after_trades.Goals as goal

pub returns-then-is_err-clause-memory : goal.returns-then-is_err-clause-memory
returns-then-is_err-clause-memory g c =
    let book = c.args.book.now in
    let trades = c.args.trades.now in
    let before = c.args.updates.now.items in
    let i = c.loop-trade.trade-index in
    let t = c.trade-item.result in
    let updates = c.loop-trade.updates.items in
    let last = c.loop-trade.last in
    let now : IsPublishing book c.args.side trades before last updates (t ∷ drop (i + 1) trades) =
    subst (IsPublishing book c.args.side trades before last updates) (left-next trades i t c.loop-trade-test.true c.trade-item.is) c.loop-trade.invariant.publishing in
    let other : last ≢ Some t.price = λ same. absurd (let e = rw same at c.eq.ensures in grind (arith, nat_tests, e, c.if-eq.false)) in
    omega (
      arith,
      c.loop-trade.invariant.room,
      c.loop-trade.updates.ok.0,
      owed c.push.result c.if-is_err.ensures.value c.push.ensures.full,
      publishing-room book c.args.side trades before last updates t (drop (i + 1) trades) now other,
    )

pub loop-trade-preserved : goal.loop-trade-preserved
loop-trade-preserved g c =
    let book = c.args.book.now in
    let trades = c.args.trades.now in
    let before = c.args.updates.now.items in
    let i = c.loop-trade.trade-index in
    let t = c.trade-item.result in
    let updates = c.loop-trade.updates.items in
    let last = c.loop-trade.last in
    let now : IsPublishing book c.args.side trades before last updates (t ∷ drop (i + 1) trades) =
    subst (IsPublishing book c.args.side trades before last updates) (left-next trades i t c.loop-trade-test.true c.trade-item.is) c.loop-trade.invariant.publishing in
    let added : c.push.new.self.items ≡ updates ++ update_of book c.args.side t.price ∷ [] =
    pushed c.push.result _ _ _ c.if-is_err.ensures.value c.push.ensures.items ∙ ap (λ u. updates ++ u ∷ []) c.update_now.ensures in
    let other : last ≢ Some t.price = λ same. absurd (let e = rw same at c.eq.ensures in grind (arith, nat_tests, e, c.if-eq.false)) in
    record {
      publishing = rw added (publishing-next book c.args.side trades before last updates t (drop (i + 1) trades) now other);
      room = omega (arith, c.loop-trade.invariant.room, c.push.ensures.capacity);
    }
