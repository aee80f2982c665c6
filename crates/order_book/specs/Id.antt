-- What names an order.
use Rattle.std.specs.Prelude.{ℕ}
use Rattle.order_book.specs.declared.side.Side.{Side}

-- the name of an order: its side, and its pointer there, an index and a generation
pub record Id : Type 0 where
  pub side : Side
  pub pointer : ℕ × ℕ
