-- The room that is left once units were taken.
use Rattle.std.proofs.Common.{◌≡◌, ℕ, ◌-◌, ◌≤◌, List, [], ◌∷◌, length, arith}
use Rattle.std.proofs.lemmas.Grind.{common_steps}
use Rattle.order_book.specs.declared.order.Order.{Order}
use Rattle.order_book.specs.Queue.{Queue, behind, taken, HasRoomFor}

module _ {T : Type 0} where
  -- no order comes
  behind-fewer : (n : ℕ) (xs : List (Order T)) → length (behind n xs) ≤ length xs
  behind-fewer n [] = omega arith
  behind-fewer n (x ∷ xs) = grind (arith, common_steps, behind-fewer (n - x.quantity) xs)

  pub taken-room : (n : ℕ) (q new : Queue T) → new ≡ taken n q → (m : ℕ) → HasRoomFor m q → HasRoomFor m new
  taken-room n q new after m room = rw after (omega (arith, behind-fewer n q.orders, room))
