-- Which levels of a side change where units are taken, an order comes to rest, leaves or is reduced.
use Rattle.std.proofs.Common.{◌≡◌, ◌≢◌, ℕ, zero, suc, ◌⊎◌, ◌+◌, ◌-◌, ◌≤◌, ◌<◌, ◌==◌, Bool, true, false, List, [], ◌∷◌, ◌++◌, Option, Some, None, refl, sym, ap, ◌∙◌, arith, inl, inr, if◌then◌else◌}
use Rattle.std.proofs.{lemmas.Bool.Decides.eqb_tells, lemmas.Bool.Decides.leb_tells, lemmas.Bool.Decides.nat_tests, lemmas.Bool.lt-ltb, lemmas.Bool.le-ltb}
use Rattle.std.specs.List.{AllByRecursion}
use Rattle.order_book.specs.Queue.{Queue, IsSound, Rests, orders_at, level_at, summed, total, behind, trades_of_first, reduced, without, with_quantity, with_rest, is_named_by, order_of, resting}
use Rattle.order_book.specs.Book.{Book, queue, IsBook, RestsOrNot}
use Rattle.order_book.specs.{declared.side.Side.TheVariants.Buy, declared.side.Side.TheVariants.Sell, declared.side.Side.Side, declared.level.Level.Level, declared.order.Order.Order, declared.order.Trade.Trade, Id.Id}
use Rattle.level_feed.proofs.{Prices.NoneAt, Prices.all-weaker}

module _ {T : Type 0} where
  -- what holds of every side
  pub sound-side : (b : Book T) → IsBook b → (side : Side) → IsSound (queue b side)
  sound-side b lawful Buy = lawful.bids
  sound-side b lawful Sell = lawful.asks

  -- an order of another price changes none of those at a price, and one at the price is among them
  at-skip : (price : ℕ) (x : Order T) (xs : List (Order T)) → (x.price == price) ≡ false → orders_at price (x ∷ xs) ≡ orders_at price xs
  at-skip price x xs other = rw other refl

  at-own : (price : ℕ) (x : Order T) (xs : List (Order T)) → (x.price == price) ≡ true → orders_at price (x ∷ xs) ≡ x ∷ orders_at price xs
  at-own price x xs own = rw own refl

  at-between : (price : ℕ) (front : List (Order T)) (x : Order T) (back : List (Order T)) → (x.price == price) ≡ false
      → orders_at price (front ++ x ∷ back) ≡ orders_at price (front ++ back)
  at-between price [] x back other = at-skip price x back other
  at-between price (y ∷ front) x back other = ap (λ ys. if y.price == price then y ∷ ys else ys) (at-between price front x back other)

  -- no units taken
  none-taken : (xs : List (Order T)) → AllByRecursion (λ (x : Order T). 0 < x.quantity) xs → behind 0 xs ≡ xs
  none-taken [] some = refl
  none-taken (x ∷ xs) some = let all : x.quantity - 0 ≡ x.quantity = omega arith in rw (lt-ltb 0 x.quantity some.0, all) refl

  -- units taken with no trade at a price leave the orders at it
  pub at-behind : (price n : ℕ) (xs : List (Order T)) → AllByRecursion (λ (x : Order T). 0 < x.quantity) xs → NoneAt price (trades_of_first n xs)
      → orders_at price (behind n xs) ≡ orders_at price xs
  at-behind price n [] some apart = refl
  at-behind price n (x ∷ xs) some apart = elim (eqb_tells n 0) [
    | inl none ↦ rw none.1 (ap (orders_at price) (none-taken (x ∷ xs) some))
    | inr more ↦
        let others : ((x.price == price) ≡ false) × NoneAt price (trades_of_first (n - x.quantity) xs) = rw more.0 at apart in
        elim (leb_tells x.quantity n) [
          | inl whole ↦ rw (le-ltb n x.quantity whole.1) (at-behind price (n - x.quantity) xs some.1 others.1 ∙ sym (at-skip price x xs others.0))
          | inr part ↦ rw (lt-ltb n x.quantity part.1) (at-skip price (with_rest x (x.quantity - n)) xs others.0 ∙ sym (at-skip price x xs others.0))
        ]
  ]

  -- an order that comes to rest changes its own level alone
  module _ (old new : Queue T) (limit rest : ℕ) (tag : T) where
    pub at-rest : (id : Option Id) → RestsOrNot old limit rest tag id new → (price : ℕ) → (limit == price) ≡ false → orders_at price new.orders ≡ orders_at price old.orders
    at-rest None rests price other = ap (λ (q : Queue T). orders_at price q.orders) rests.1
    at-rest (Some id) rests price other =
        let r : Rests old limit rest tag id.pointer new = rests.2 in
        ap (orders_at price) r.after ∙ at-between price r.ahead (resting old.side id.pointer limit rest tag) r.later other ∙ ap (orders_at price) (sym r.before)

  -- an order that leaves, or of which less is left, changes its own level alone
  pub at-without : (price : ℕ) (xs : List (Order T)) (p : ℕ × ℕ) (x : Order T) → order_of xs p ≡ Some x → (x.price == price) ≡ false → orders_at price (without xs p) ≡ orders_at price xs
  at-without price [] p x named other = refl
  at-without price (y ∷ ys) p x named other = go (is_named_by p y) refl (λ named. at-without price ys p x named other)
    where
      go : (b : Bool) → is_named_by p y ≡ b → (order_of ys p ≡ Some x → orders_at price (without ys p) ≡ orders_at price ys) → orders_at price (without (y ∷ ys) p) ≡ orders_at price (y ∷ ys)
      go true is later =
          let gone : without (y ∷ ys) p ≡ ys = rw is refl in
          let here : order_of (y ∷ ys) p ≡ Some y = rw is refl in
          let same : y ≡ x = cc in
          ap (orders_at price) gone ∙ sym (at-skip price y ys (ap (λ (z : Order T). z.price == price) same ∙ other))
      go false is later =
          let left : without (y ∷ ys) p ≡ y ∷ without ys p = rw is refl in
          let there : order_of (y ∷ ys) p ≡ order_of ys p = rw is refl in
          ap (orders_at price) left ∙ ap (λ zs. if y.price == price then y ∷ zs else zs) (later (sym there ∙ named))

  at-with_quantity : (price : ℕ) (xs : List (Order T)) (p : ℕ × ℕ) (n : ℕ) (x : Order T) → order_of xs p ≡ Some x → (x.price == price) ≡ false
      → orders_at price (with_quantity xs p n) ≡ orders_at price xs
  at-with_quantity price [] p n x named other = refl
  at-with_quantity price (y ∷ ys) p n x named other = go (is_named_by p y) refl (λ named. at-with_quantity price ys p n x named other)
    where
      go : (b : Bool) → is_named_by p y ≡ b → (order_of ys p ≡ Some x → orders_at price (with_quantity ys p n) ≡ orders_at price ys)
          → orders_at price (with_quantity (y ∷ ys) p n) ≡ orders_at price (y ∷ ys)
      go true is later =
          let less : with_quantity (y ∷ ys) p n ≡ with_rest y n ∷ ys = rw is refl in
          let here : order_of (y ∷ ys) p ≡ Some y = rw is refl in
          let same : y ≡ x = cc in
          let apart : (y.price == price) ≡ false = ap (λ (z : Order T). z.price == price) same ∙ other in
          ap (orders_at price) less ∙ at-skip price (with_rest y n) ys apart ∙ sym (at-skip price y ys apart)
      go false is later =
          let left : with_quantity (y ∷ ys) p n ≡ y ∷ with_quantity ys p n = rw is refl in
          let there : order_of (y ∷ ys) p ≡ order_of ys p = rw is refl in
          ap (orders_at price) left ∙ ap (λ zs. if y.price == price then y ∷ zs else zs) (later (sym there ∙ named))

  pub at-reduced : (price : ℕ) (q : Queue T) (p : ℕ × ℕ) (left : ℕ) (x : Order T) → order_of q.orders p ≡ Some x → (x.price == price) ≡ false
      → orders_at price (reduced q p left).orders ≡ orders_at price q.orders
  at-reduced price q p zero x named other = at-without price q.orders p x named other
  at-reduced price q p (suc left) x named other = at-with_quantity price q.orders p (suc left) x named other

-- how much a level holds; 0 if there is none
quantity_in : Option Level → ℕ
quantity_in None = 0
quantity_in (Some l) = l.quantity

module _ {T : Type 0} where
  quantity-summed : (price : ℕ) (xs : List (Order T)) → quantity_in (summed price xs) ≡ total xs
  unfolding quantity_in
  quantity-summed price [] = refl
  quantity-summed price (x ∷ xs) = refl

  -- levels that hold different quantities are different
  pub levels-differ : (price : ℕ) (xs ys : List (Order T)) → total (orders_at price xs) ≢ total (orders_at price ys) → level_at price xs ≢ level_at price ys
  levels-differ price xs ys apart same =
      apart (sym (quantity-summed price (orders_at price xs)) ∙ ap quantity_in same ∙ quantity-summed price (orders_at price ys))

  -- an order more holds no less
  at-more : (price : ℕ) (x : Order T) (xs : List (Order T)) → total (orders_at price xs) ≤ total (orders_at price (x ∷ xs))
  at-more price x xs = elim (eqb_tells x.price price) [
    | inl h ↦ let more : total (orders_at price (x ∷ xs)) ≡ x.quantity + total (orders_at price xs) = ap total (at-own price x xs h.0) in omega (arith, more)
    | inr h ↦ let same : total (orders_at price (x ∷ xs)) ≡ total (orders_at price xs) = ap total (at-skip price x xs h.0) in omega (arith, same)
  ]

  at-first : (x : Order T) (xs : List (Order T)) → total (orders_at x.price (x ∷ xs)) ≡ x.quantity + total (orders_at x.price xs)
  at-first x xs = ap total (at-own x.price x xs (grind (arith, nat_tests)))

  -- units taken leave no level more than it had
  fewer-behind : (price n : ℕ) (xs : List (Order T)) → total (orders_at price (behind n xs)) ≤ total (orders_at price xs)
  fewer-behind price n [] = omega arith
  fewer-behind price n (x ∷ xs) = elim (leb_tells x.quantity n) [
    | inl whole ↦ rw (le-ltb n x.quantity whole.1) (omega (arith, fewer-behind price (n - x.quantity) xs, at-more price x xs))
    | inr part ↦ rw (lt-ltb n x.quantity part.1) (part_left (elim (eqb_tells x.price price) [ inl h ↦ inl h.0 | inr h ↦ inr h.0 ]))
  ]
    where
      part_left : ((x.price == price) ≡ true) ⊎ ((x.price == price) ≡ false) → total (orders_at price (with_rest x (x.quantity - n) ∷ xs)) ≤ total (orders_at price (x ∷ xs))
      part_left (inl own) =
          let now : total (orders_at price (with_rest x (x.quantity - n) ∷ xs)) ≡ (x.quantity - n) + total (orders_at price xs) = ap total (at-own price (with_rest x (x.quantity - n)) xs own) in
          let was : total (orders_at price (x ∷ xs)) ≡ x.quantity + total (orders_at price xs) = ap total (at-own price x xs own) in
          omega (arith, now, was)
      part_left (inr other) =
          let now : total (orders_at price (with_rest x (x.quantity - n) ∷ xs)) ≡ total (orders_at price xs) = ap total (at-skip price (with_rest x (x.quantity - n)) xs other) in
          let was : total (orders_at price (x ∷ xs)) ≡ total (orders_at price xs) = ap total (at-skip price x xs other) in
          omega (arith, now, was)

  -- and less at the price of each trade
  pub less-behind : (n : ℕ) (xs : List (Order T)) → AllByRecursion (λ (x : Order T). 0 < x.quantity) xs
      → AllByRecursion (λ (t : Trade T). total (orders_at t.price (behind n xs)) < total (orders_at t.price xs)) (trades_of_first n xs)
  less-behind n [] some = tt
  less-behind n (x ∷ xs) some = elim (eqb_tells n 0) [
    | inl none ↦ rw none.0 tt
    | inr more ↦ elim (leb_tells x.quantity n) [
      | inl whole ↦
          let left : behind n (x ∷ xs) ≡ behind (n - x.quantity) xs = rw (le-ltb n x.quantity whole.1) refl in
          let first : total (orders_at x.price (behind n (x ∷ xs))) < total (orders_at x.price (x ∷ xs)) =
          rw left (omega (arith, fewer-behind x.price (n - x.quantity) xs, at-first x xs, some.0)) in
          rw more.0 (first, all-weaker _ _ (λ t less. rw left (omega (arith, less, at-more t.price x xs))) (trades_of_first (n - x.quantity) xs) (less-behind (n - x.quantity) xs some.1))
      | inr part ↦
          let left : behind n (x ∷ xs) ≡ with_rest x (x.quantity - n) ∷ xs = rw (lt-ltb n x.quantity part.1) refl in
          let first : total (orders_at x.price (behind n (x ∷ xs))) < total (orders_at x.price (x ∷ xs)) =
          rw left (omega (arith, at-first x xs, at-first (with_rest x (x.quantity - n)) xs, more.1, part.1)) in
          let none : n - x.quantity ≡ 0 = omega (arith, part.1) in
          rw more.0 (first, rw (none, no_more xs) tt)
    ]
  ]
    where
      no_more : (xs : List (Order T)) → trades_of_first 0 xs ≡ []
      no_more [] = refl
      no_more (x ∷ xs) = refl

  -- an order between others is one more at its price
  more-between : (front : List (Order T)) (x : Order T) (back : List (Order T)) → total (orders_at x.price (front ++ x ∷ back)) ≡ x.quantity + total (orders_at x.price (front ++ back))
  more-between [] x back = at-first x back
  more-between (y ∷ front) x back = elim (eqb_tells y.price x.price) [
    | inl h ↦
        let now : total (orders_at x.price (y ∷ (front ++ x ∷ back))) ≡ y.quantity + total (orders_at x.price (front ++ x ∷ back)) = ap total (at-own x.price y (front ++ x ∷ back) h.0) in
        let was : total (orders_at x.price (y ∷ (front ++ back))) ≡ y.quantity + total (orders_at x.price (front ++ back)) = ap total (at-own x.price y (front ++ back) h.0) in
        omega (arith, now, was, more-between front x back)
    | inr h ↦
        let now : total (orders_at x.price (y ∷ (front ++ x ∷ back))) ≡ total (orders_at x.price (front ++ x ∷ back)) = ap total (at-skip x.price y (front ++ x ∷ back) h.0) in
        let was : total (orders_at x.price (y ∷ (front ++ back))) ≡ total (orders_at x.price (front ++ back)) = ap total (at-skip x.price y (front ++ back) h.0) in
        omega (arith, now, was, more-between front x back)
  ]

  pub more-rest : (old new : Queue T) (limit rest : ℕ) (tag : T) (p : ℕ × ℕ) → Rests old limit rest tag p new → total (orders_at limit new.orders) ≡ rest + total (orders_at limit old.orders)
  more-rest old new limit rest tag p r =
      ap (λ xs. total (orders_at limit xs)) r.after ∙ more-between r.ahead (resting old.side p limit rest tag) r.later ∙ ap (λ xs. rest + total (orders_at limit xs)) (sym r.before)
