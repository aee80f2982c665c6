-- Of each order something is left, so that an execution trades something, and one of no units changes nothing.
use Rattle.std.proofs.Common.{◌≡◌, ◌≢◌, ℕ, ◌<◌, ◌-◌, min, true, false, List, [], ◌∷◌, Option, Some, None, refl, sym, subst, arith, if◌then◌else◌}
use Rattle.std.proofs.lemmas.Bool.{lt-ltb}
use Rattle.std.specs.{Prelude.IfSome, List.AllByRecursion}
use Rattle.order_book.specs.Queue.{is_named_by, order_of, reduced_order}
use Rattle.order_book.specs.declared.order.Order.{Order}

module _ {T : Type 0} where
  module _ (p : ℕ × ℕ) where
    -- a pointer that names an order names one of which something is left
    some-named : (xs : List (Order T)) → AllByRecursion (λ (x : Order T). 0 < x.quantity) xs → IfSome (order_of xs p) (λ x. 0 < x.quantity)
    some-named [] some = tt
    some-named (x ∷ xs) some = elim (is_named_by p x) as (λ b. IfSome (if b then Some x else order_of xs p) (λ x. 0 < x.quantity)) [
      | true ↦ some.0
      | false ↦ some-named xs some.1
    ]

    module _ (xs : List (Order T)) (some : AllByRecursion (λ (x : Order T). 0 < x.quantity) xs) where
      -- if no unit is taken off an order, it stays as it is
      pub reduced-by_none : order_of xs p ≡ reduced_order (order_of xs p) 0
      reduced-by_none = go (order_of xs p) (some-named xs some)
        where
          go : (o : Option (Order T)) → IfSome o (λ x. 0 < x.quantity) → o ≡ reduced_order o 0
          go None left = refl
          go (Some x) left = let all : x.quantity - 0 ≡ x.quantity = omega arith in rw (lt-ltb 0 x.quantity left, all) refl

      -- and if some are, some are traded
      pub executed-some : (x : Order T) (n : ℕ) → Some x ≡ order_of xs p → n ≢ 0 → 0 < min n x.quantity
      executed-some x n named more =
          let left : 0 < x.quantity = subst (λ (o : Option (Order T)). IfSome o (λ y. 0 < y.quantity)) (sym named) (some-named xs some) in
          omega (arith, left, more)
