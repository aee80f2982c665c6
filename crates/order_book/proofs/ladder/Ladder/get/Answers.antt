use Rattle.std.proofs.Common.{◌∙◌, sym, ap}
use Rattle.std.specs.Option.{option_map}
use Rattle.order_book.proofs.Rows.{row_item, item-rows}
use Rattle.order_book.proofs.ladder.Ladder.get.Goals as goal

pub returns-in_err-order : goal.returns-in_err-order
returns-in_err-order g c = c.from_residual.ensures ∙ sym (item-rows c.args.self.now.orders.entries c.args.pointer ∙ ap (option_map row_item) (sym c.in_err-order.ensures))

pub returns : goal.returns
returns g c = sym (item-rows c.args.self.now.orders.entries c.args.pointer ∙ ap (option_map row_item) (sym c.in_ok-order.ensures))
