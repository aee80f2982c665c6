-- How much trades come to, and how much is left of the orders behind them.
use Rattle.std.proofs.Common.{◌≡◌, ℕ, ◌+◌, ◌-◌, ◌≤◌, List, [], ◌∷◌, sym, arith, inl, inr}
use Rattle.std.proofs.{lemmas.Bool.Decides.leb_tells, lemmas.Bool.Decides.eqb_tells, lemmas.Bool.lt-ltb, lemmas.Bool.le-ltb}
use Rattle.order_book.proofs.Levels.{within-most}
use Rattle.order_book.specs.Queue.{Queue, total, traded, trades_of_first, volume, behind, taken}
use Rattle.order_book.specs.declared.order.Order.{Order}

module _ {T : Type 0} where
  -- what is traded is at most all
  traded-total : (q : Queue T) (limit quantity : ℕ) → traded q limit quantity ≤ total q.orders
  traded-total q limit quantity = omega (arith, within-most q.side limit q.orders)

  traded-most : (q : Queue T) (limit quantity : ℕ) → traded q limit quantity ≤ quantity
  traded-most q limit quantity = omega arith

  -- the trades of the first n units come to n
  pub volume-first : (n : ℕ) (xs : List (Order T)) → n ≤ total xs → volume (trades_of_first n xs) ≡ n
  volume-first n [] most = omega (arith, most)
  volume-first n (x ∷ xs) most = elim (eqb_tells n 0) [
    | inl none ↦ rw none.0 (sym none.1)
    | inr some ↦ rw some.0 (omega (arith, volume-first (n - x.quantity) xs (omega (arith, most))))
  ]

  -- what is left is all but these
  total-behind : (n : ℕ) (xs : List (Order T)) → n ≤ total xs → total (behind n xs) + n ≡ total xs
  total-behind n [] most = omega (arith, most)
  total-behind n (x ∷ xs) most = elim (leb_tells x.quantity n) [
    | inl whole ↦ rw (le-ltb n x.quantity whole.1) (omega (arith, whole.1, total-behind (n - x.quantity) xs (omega (arith, most, whole.1))))
    | inr part ↦ rw (lt-ltb n x.quantity part.1) (omega (arith, part.1))
  ]

  -- what an order trades and what is left of it come to its quantity, and the other side has so much less
  module _ (q : Queue T) (limit quantity : ℕ) where
    pub bought-traded : volume (trades_of_first (traded q limit quantity) q.orders) + (quantity - traded q limit quantity) ≡ quantity
    bought-traded = omega (arith, volume-first (traded q limit quantity) q.orders (traded-total q limit quantity), traded-most q limit quantity)

    pub sold-traded : (new : Queue T) → new ≡ taken (traded q limit quantity) q
        → total new.orders + volume (trades_of_first (traded q limit quantity) q.orders) ≡ total q.orders
    sold-traded new after = rw after
        (omega (arith, volume-first (traded q limit quantity) q.orders (traded-total q limit quantity), total-behind (traded q limit quantity) q.orders (traded-total q limit quantity)))
