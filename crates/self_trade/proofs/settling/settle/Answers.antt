use Rattle.std.proofs.Common.{◌++◌, refl, sym, ap, ◌∙◌}
use Rattle.std.proofs.lemmas.List.{append-nil}
use Rattle.self_trade.proofs.Going.{step-stays}
use Rattle.self_trade.proofs.Rooming.{places-nothing, trades-nothing}
use Rattle.self_trade.proofs.settling.settle.Goals as goal

pub returns-then-order-eq0-clause-placed : goal.returns-then-order-eq0-clause-placed
returns-then-order-eq0-clause-placed g c = places-nothing c.args.book.now c.args.order c.count.ensures.lawful c.if-order-eq0.true

pub returns-then-order-eq0-clause-trades : goal.returns-then-order-eq0-clause-trades
returns-then-order-eq0-clause-trades g c =
    sym (append-nil c.args.trades.now.items) ∙ ap (λ ts. c.args.trades.now.items ++ ts) (sym (trades-nothing c.args.book.now c.args.order c.count.ensures.lawful c.if-order-eq0.true))

pub returns-then-order-eq0-clause-step : goal.returns-then-order-eq0-clause-step
returns-then-order-eq0-clause-step g c = step-stays c.args.book.now c.args.book.now refl
