use Rattle.std.proofs.Common.{◌∙◌, sym, ap}
use Rattle.std.specs.Option.{option_map}
use Rattle.order_book.proofs.Naming.{order_under, order_of-found}
use Rattle.order_book.specs.Ladder.{rows_of}
use Rattle.order_book.proofs.queue.OrderQueue.get.Goals as goal

pub returns-in_err-rank : goal.returns-in_err-rank
returns-in_err-rank g c =
    rw (← c.self.view_is) (c.from_residual.ensures ∙ sym (order_of-found c.self.inside.side (rows_of c.self.inside.ladder.orders).entries c.self.invariant.distinct c.args.pointer
    ∙ ap (option_map (order_under c.self.inside.side c.args.pointer)) (sym c.in_err-rank.ensures)))

pub returns : goal.returns
returns g c =
    rw (← c.self.view_is, c.order_at.ensures) (sym (order_of-found c.self.inside.side (rows_of c.self.inside.ladder.orders).entries c.self.invariant.distinct c.args.pointer
    ∙ ap (option_map (order_under c.self.inside.side c.args.pointer)) (sym c.in_ok-rank.ensures)))
