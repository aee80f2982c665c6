use Rattle.std.proofs.Common.{◌≡◌, drop}
use Rattle.order_book.specs.{Id.Id, Book.named, Book.IsUncrossed}
use Rattle.self_trade.specs.{Prevention.without_all, Prevention.IsNoneOf, Survey.AreNamed}
use Rattle.self_trade.proofs.cancelling.cancel_each.Given as goal

-- the others are to be cancelled yet
abbrev pub invariant-loop-order : goal.invariant-loop-order
invariant-loop-order g l = record {
  are_named : AreNamed l.book (drop l.order-index l.orders);
  after : without_all l.book (drop l.order-index l.orders) ≡ without_all l.fn.book l.orders;
  others : (id : Id) → IsNoneOf id l.orders → named l.book id ≡ named l.fn.book id;
  uncrossed : IsUncrossed l.fn.book → IsUncrossed l.book;
}
