-- What changes where one order is added, leaves, or is reduced: the level at its price.
use Rattle.std.proofs.Common.{◌≡◌, ℕ, ◌==◌, false, List, [], ◌∷◌, ◌++◌, length, min, Option, Some, None, refl, sym, ap, ◌∙◌, inl, inr}
use Rattle.std.proofs.{lemmas.Bool.Decides.eqb_tells}
use Rattle.order_book.specs.Queue.{Queue, level_at, summed, total, reduced, executed, left_of, trade_with}
use Rattle.order_book.specs.Book.{Book, RestsOrNot, named, opposite, queue, with_queue, with_less, without}
use Rattle.order_book.specs.{declared.side.Side.TheVariants.Buy, declared.side.Side.TheVariants.Sell, declared.side.Side.Side, declared.level.Level.Level, declared.order.Order.Order, declared.order.Trade.Trade, Id.Id}
use Rattle.level_feed.specs.declared.update.LevelUpdate.{LevelUpdate}
use Rattle.level_feed.specs.Feed.{update_of, Follows}
use Rattle.level_feed.proofs.Following.{follows-append, follows-both}
use Rattle.level_feed.proofs.Changing.{at-rest, at-reduced}

module _ {T : Type 0} where
  -- a book with another queue on a side has that, and the old one on the other side
  pub queue-with : (b : Book T) (side : Side) (q : Queue T) → queue (with_queue b side q) side ≡ q
  queue-with b Buy q = refl
  queue-with b Sell q = refl

  pub queue-kept : (b : Book T) (side : Side) (q : Queue T) → queue (with_queue b side q) (opposite side) ≡ queue b (opposite side)
  queue-kept b Buy q = refl
  queue-kept b Sell q = refl

  -- the update of the only level that changes
  leads-one : (old new : Book T) (side : Side) (price : ℕ) → queue new (opposite side) ≡ queue old (opposite side)
      → ((p : ℕ) → (price == p) ≡ false → level_at p (queue new side).orders ≡ level_at p (queue old side).orders) → Follows old new (update_of new side price ∷ [])
  leads-one old new side price same kept = follows-both old new side [] (price ∷ []) (λ p none. ap (λ (q : Queue T). level_at p q.orders) same) (λ p none. kept p none.0)

  -- a list that led to the old book, with that update behind it
  pub follows-one : (start old new : Book T) (us : List LevelUpdate) (u : LevelUpdate) (side : Side) (price : ℕ) → u ≡ update_of new side price → Follows start old us
      → Follows old new (update_of new side price ∷ []) → Follows start new (us ++ u ∷ [])
  follows-one start old new us u side price is led one = rw is (follows-append start old new us (update_of new side price ∷ []) led one)

  pub leads-added : (old new : Book T) (side : Side) (price quantity : ℕ) (tag : T) (id : Id) → RestsOrNot (queue old side) price quantity tag (Some id) (queue new side)
      → queue new (opposite side) ≡ queue old (opposite side) → Follows old new (update_of new side price ∷ [])
  leads-added old new side price quantity tag id rests same =
      leads-one old new side price same (λ p other. ap (summed p) (at-rest (queue old side) (queue new side) price quantity tag (Some id) rests p other))

  module _ (old new : Book T) (id : Id) (side : Side) (price : ℕ) (own : id.side ≡ side) where
    -- of the order that a name names, so much is left
    pub leads-reduced : (x : Order T) (left : ℕ) → named old id ≡ Some x → new ≡ with_less old id left → x.price ≡ price → Follows old new (update_of new side price ∷ [])
    leads-reduced x left there is at = rw (← own) (leads-one old new id.side price other_side levels)
      where
        other_side : queue new (opposite id.side) ≡ queue old (opposite id.side)
        other_side = ap (λ (b : Book T). queue b (opposite id.side)) is ∙ queue-kept old id.side (reduced (queue old id.side) id.pointer left)

        levels : (p : ℕ) → (price == p) ≡ false → level_at p (queue new id.side).orders ≡ level_at p (queue old id.side).orders
        levels p other =
            ap (λ (b : Book T). level_at p (queue b id.side).orders) is
            ∙ ap (λ (q : Queue T). level_at p q.orders) (queue-with old id.side (reduced (queue old id.side) id.pointer left))
            ∙ ap (summed p) (at-reduced p (queue old id.side) id.pointer left x there (ap (λ (n : ℕ). n == p) at ∙ other))

    pub leads-cancelled : (x : Order T) → named old id ≡ Some x → new ≡ without old id → x.price ≡ price → Follows old new (update_of new side price ∷ [])
    leads-cancelled x there is at = leads-reduced x 0 there is at

    -- the trade of an order has its price
    of-order : (o : Option (Order T)) (quantity : ℕ) (trade : Trade T) → executed o quantity ≡ Some trade → (x : Order T) × (o ≡ Some x) × (x.price ≡ trade.price)
    of-order None quantity trade traded = absurd (cc)
    of-order (Some x) quantity trade traded = elim (eqb_tells quantity 0) [
      | inl h ↦ absurd (let nothing : executed (Some x) quantity ≡ None = rw h.0 refl in cc)
      | inr h ↦ (
        x,
        refl,
        let some : executed (Some x) quantity ≡ Some (trade_with x (min quantity x.quantity)) = rw h.0 refl in
            let same : trade ≡ trade_with x (min quantity x.quantity) = cc in ap (λ (t : Trade T). t.price) (sym same),
      )
    ]

    pub leads-executed : (quantity : ℕ) (trade : Trade T) → executed (named old id) quantity ≡ Some trade → new ≡ with_less old id (left_of (named old id) quantity) → trade.price ≡ price
        → Follows old new (update_of new side price ∷ [])
    leads-executed quantity trade traded is at =
        let order : (x : Order T) × (named old id ≡ Some x) × (x.price ≡ trade.price) = of-order (named old id) quantity trade traded in
        leads-reduced order.0 (left_of (named old id) quantity) order.1 is (order.2 ∙ at)

  -- what a level that was looked up holds
  pub read-some : (price : ℕ) (xs : List (Order T)) (l : Level) → Some l ≡ summed price xs → (l.quantity ≡ total xs) × (l.count ≡ length xs)
  read-some price [] l is = absurd (cc)
  read-some price (x ∷ xs) l is =
      let same : l ≡ record { price = price; quantity = total (x ∷ xs); count = length (x ∷ xs) } = cc in
      (ap (λ (m : Level). m.quantity) same, ap (λ (m : Level). m.count) same)

  pub read-none : (price : ℕ) (xs : List (Order T)) → None ≡ summed price xs → (0 ≡ total xs) × (0 ≡ length xs)
  read-none price [] is = (refl, refl)
  read-none price (x ∷ xs) is = absurd (cc)
