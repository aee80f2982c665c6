-- Units taken out of a queue, from the first order on.
use Rattle.std.proofs.Common.{◌≡◌, ℕ, ◌-◌, ◌≤◌, ◌<◌, List, [], ◌∷◌, refl, arith}
use Rattle.std.proofs.lemmas.Bool.{lt-ltb}
use Rattle.std.specs.List.{AllByRecursion}
use Rattle.order_book.specs.declared.order.Order.{Order}
use Rattle.order_book.specs.Queue.{Queue, behind, generation_behind, taken}

module _ {T : Type 0} where
  -- none is taken of a queue
  pub behind-none : (xs : List (Order T)) → AllByRecursion (λ x. 0 < x.quantity) xs → behind 0 xs ≡ xs
  behind-none [] some = refl
  behind-none (x ∷ xs) some = let all : x.quantity - 0 ≡ x.quantity = omega arith in rw (lt-ltb 0 x.quantity some.0, all) refl

  pub generation-none : (xs : List (Order T)) (g : ℕ) → AllByRecursion (λ x. 0 < x.quantity) xs → generation_behind 0 xs g ≡ g
  generation-none [] g some = refl
  generation-none (x ∷ xs) g some = rw (lt-ltb 0 x.quantity some.0) refl

  pub taken-none : (n : ℕ) (q : Queue T) → n ≤ 0 → AllByRecursion (λ x. 0 < x.quantity) q.orders → taken n q ≡ q
  taken-none n q none some =
      let zero : n ≡ 0 = omega (arith, none) in
      rw (zero, behind-none q.orders some, generation-none q.orders q.generation some) refl

  -- of a queue without orders nothing is taken
  pub taken-empty : (n : ℕ) (q : Queue T) → q.orders ≡ [] → taken n q ≡ q
  taken-empty n q empty = go q.orders empty
    where
      go : (xs : List (Order T)) → xs ≡ [] → record q { orders = behind n xs; generation = generation_behind n xs q.generation } ≡ record q { orders = xs }
      go [] none = refl
      go (x ∷ xs) none = absurd (cc)
