-- The order of ranks, and what it says of prices.
use Rattle.std.proofs.Common.{◌≡◌, ◌≢◌, ℕ, ◌<◌, ◌≤◌, List, [], ◌∷◌, map, refl, arith}
use Rattle.std.proofs.lemmas.{Bool.Decides.nat_tests, List.Elements.recursion_from_All}
use Rattle.std.specs.{declared.cmp.Ordering.TheVariants.Greater, List.AllByRecursion, Ordering.nat_cmp}
use Rattle.sorted_arena.specs.Chain.{Entry}
use Rattle.sorted_arena.specs.Sorted.{AreSorted}
use Rattle.order_book.specs.{declared.side.Side.TheVariants.Buy, declared.side.Side.TheVariants.Sell, declared.side.Side.Side}
use Rattle.order_book.specs.{QueueLayout.most_price, QueueLayout.ranked, QueueLayout.order_in, declared.order.Lot.Lot}
use Rattle.order_book.specs.Queue.{IsNoWorse, IsWorse, IsInOrder}

-- of a rank that is not greater a price is no worse, and of a greater one it is worse
pub no_worse-ranked : (side : Side) (r s : ℕ) → nat_cmp r s ≢ Greater → IsNoWorse side (ranked side r) (ranked side s)
no_worse-ranked Buy r s least = let at_most : r ≤ s = grind (arith, nat_tests, least) in omega (arith, at_most)
no_worse-ranked Sell r s least = grind (arith, nat_tests, least)

pub no_worse-ahead : (side : Side) (r s : ℕ) → r ≤ s → IsNoWorse side (ranked side r) (ranked side s)
no_worse-ahead Buy r s most = omega (arith, most)
no_worse-ahead Sell r s most = omega (arith, most)

pub worse-ranked : (side : Side) (r s : ℕ) → r ≤ most_price → s < r → IsWorse side (ranked side r) (ranked side s)
worse-ranked Buy r s lawful more = omega (arith, lawful, more)
worse-ranked Sell r s lawful more = omega (arith, more)

-- the rank of a rank is the price
pub ranked-twice : (side : Side) (price : ℕ) → price ≤ most_price → ranked side (ranked side price) ≡ price
ranked-twice Buy price lawful = omega (arith, lawful)
ranked-twice Sell price lawful = refl

-- what is true of each element is true of what is made of each
module _ {X : Type 0} where
  pub recursion-map : {Y : Type 0} (f : X → Y) (P : X → Type 0) (Q : Y → Type 0) → ((x : X) → P x → Q (f x)) → (xs : List X) → AllByRecursion P xs → AllByRecursion Q (map f xs)
  recursion-map f P Q follows [] all = tt
  recursion-map f P Q follows (x ∷ xs) all = (follows x all.0, recursion-map f P Q follows xs all.1)

-- entries of orders, by the ranks of their prices
abbrev pub Entries : Type 0 → Type 0
Entries T = List (Entry (ℕ × Lot T))

module _ {T : Type 0} where
  -- entries in the order of their ranks are orders in order
  pub in_order-sorted : (side : Side) (es : Entries T) → AreSorted nat_cmp es → IsInOrder side (map (order_in side) es)
  in_order-sorted side [] sorted = tt
  in_order-sorted side (e ∷ es) sorted = (
    recursion-map (order_in side) (λ (f : Entry (ℕ × Lot T)). nat_cmp e.item.0 f.item.0 ≢ Greater) (λ y. IsNoWorse side (ranked side e.item.0) y.price)
        (λ f least. no_worse-ranked side e.item.0 f.item.0 least) es (recursion_from_All _ es sorted.0),
    in_order-sorted side es sorted.1,
  )
