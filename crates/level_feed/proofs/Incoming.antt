-- What changes where an order comes in, or takes the place of another: the levels at the prices of its trades, and those of its own side at
-- which something came to rest or left.
use Rattle.std.proofs.Common.{◌≡◌, ◌≢◌, ℕ, ◌<◌, ◌==◌, Bool, true, false, List, [], ◌∷◌, ◌++◌, Option, Some, None, refl, sym, ap, subst, ◌∙◌, arith, inl, inr}
use Rattle.std.proofs.{lemmas.Bool.Decides.eqb_tells}
use Rattle.std.specs.List.{AllByRecursion}
use Rattle.order_book.specs.Queue.{Queue, IsSound, orders_at, level_at, summed, total, behind, taken, trades_of_first, with_left, is_named_by, order_of}
use Rattle.order_book.specs.Book.{Book, queue, opposite, limit_of, IsBook, Places, RestsOrNot, named, replacement, rest_of, trades_for, trades_of, without}
use Rattle.order_book.specs.{declared.side.Side.TheVariants.Buy, declared.side.Side.TheVariants.Sell, declared.side.Side.Side, declared.order.Order.Order, declared.order.Trade.Trade, declared.new_order.NewOrder.NewOrder, declared.new_order.OrderKind.OrderKind, Id.Id}
use Rattle.level_feed.specs.declared.update.LevelUpdate.{LevelUpdate}
use Rattle.level_feed.specs.Feed.{reported, updates_at, updates_after, updates_replacing, own_prices, prices_of, rest_price, Follows, Publishes, AreChanges}
use Rattle.level_feed.proofs.Following.{IsNone, follows-append, follows-both, reported-now}
use Rattle.level_feed.proofs.Prices.{AreApart, all-append, current-both, distinct-both, none-traded, prices-all, prices-apart, trades-ordered}
use Rattle.level_feed.proofs.Changing.{at-behind, at-rest, at-without, less-behind, levels-differ, more-rest, sound-side}
use Rattle.level_feed.proofs.Levelling.{queue-with, queue-kept}

own-apart : (limit : ℕ) (id : Option Id) → AreApart (rest_price limit id)
own-apart limit None = tt
own-apart limit (Some id) = (tt, tt)

module _ {T : Type 0} where
  -- Updates of prices of one side and then of the other one publish what changed where no other level did.
  pub publishes-both : (old new : Book T) (side : Side) (prices own : List ℕ) → AreApart prices → AreApart own
      → ((price : ℕ) → IsNone price prices → level_at price (queue new (opposite side)).orders ≡ level_at price (queue old (opposite side)).orders)
      → ((price : ℕ) → IsNone price own → level_at price (queue new side).orders ≡ level_at price (queue old side).orders)
      → Publishes old new (updates_at new (opposite side) prices ++ updates_at new side own)
  publishes-both old new side prices own once own_once other_kept own_kept = record {
    follows = follows-both old new side prices own other_kept own_kept;
    once = distinct-both new side prices own once own_once;
    current = current-both new (opposite side) side prices own;
  }

  -- where the first units are taken from a queue, the levels at the prices of their trades change, and no others
  module _ (old new : Queue T) (n : ℕ) (sound : IsSound old) (took : new ≡ taken n old) where
    pub taken-kept : (price : ℕ) → IsNone price (prices_of (trades_of_first n old.orders)) → level_at price new.orders ≡ level_at price old.orders
    taken-kept price none =
        ap (λ (q : Queue T). level_at price q.orders) took
        ∙ ap (summed price) (at-behind price n old.orders sound.some_left (none-traded price (trades_of_first n old.orders) none))

    pub taken-apart : AreApart (prices_of (trades_of_first n old.orders))
    taken-apart = prices-apart old.side (trades_of_first n old.orders) (trades-ordered old.side n old.orders sound.in_order)

    pub taken-less : AllByRecursion (λ p. total (orders_at p new.orders) < total (orders_at p old.orders)) (prices_of (trades_of_first n old.orders))
    taken-less = subst (λ (q : Queue T). AllByRecursion (λ p. total (orders_at p q.orders) < total (orders_at p old.orders)) (prices_of (trades_of_first n old.orders))) (sym took)
        (prices-all (λ p. total (orders_at p (behind n old.orders)) < total (orders_at p old.orders)) (trades_of_first n old.orders) (less-behind n old.orders sound.some_left))

  -- so their updates are changes
  pub changes-less : (old new : Book T) (side : Side) (ps : List ℕ) → AllByRecursion (λ p. total (orders_at p (queue new side).orders) < total (orders_at p (queue old side).orders)) ps
      → AreChanges old (updates_at new side ps)
  changes-less old new side [] less = tt
  changes-less old new side (p ∷ ps) less =
      (λ same. levels-differ p (queue new side).orders (queue old side).orders (λ equal. omega (arith, less.0, equal)) (sym (reported-now new side p) ∙ same), changes-less old new side ps less.1)

  pub changes-append : (old : Book T) (us vs : List LevelUpdate) → AreChanges old us → AreChanges old vs → AreChanges old (us ++ vs)
  changes-append old us vs first second = all-append (λ (u : LevelUpdate). reported u ≢ level_at u.price (queue old u.side).orders) us vs first second

  -- the own side keeps every level but that of the limit, if something rests; then that level is another
  own-kept : (old new : Queue T) (limit rest : ℕ) (tag : T) (id : Option Id) → RestsOrNot old limit rest tag id new → (price : ℕ) → IsNone price (rest_price limit id)
      → level_at price new.orders ≡ level_at price old.orders
  own-kept old new limit rest tag None rests price none = ap (λ (q : Queue T). level_at price q.orders) rests.1
  own-kept old new limit rest tag (Some id) rests price none = ap (summed price) (at-rest old new limit rest tag (Some id) rests price none.0)

  own-changes : (old new : Book T) (side : Side) (limit rest : ℕ) (tag : T) (id : Option Id) → RestsOrNot (queue old side) limit rest tag id (queue new side)
      → AreChanges old (updates_at new side (rest_price limit id))
  own-changes old new side limit rest tag None rests = tt
  own-changes old new side limit rest tag (Some id) rests = (λ same. levels-differ limit (queue new side).orders (queue old side).orders more (sym (reported-now new side limit) ∙ same), tt)
    where
      more : total (orders_at limit (queue new side).orders) ≢ total (orders_at limit (queue old side).orders)
      more same = omega (arith, more-rest (queue old side) (queue new side) limit rest tag id.pointer rests.2, rests.0, same)

  module _ (old new : Book T) (o : NewOrder T) (id : Option Id) (lawful : IsBook old) (places : Places old o id new) where
    abbrev other : Side
    other = opposite o.side

    abbrev limit : ℕ
    limit = limit_of o.side o.kind

    sound : IsSound (queue old other)
    sound = sound-side old lawful other

    pub publishes-placed : Publishes old new (updates_after new o id (trades_of old o))
    publishes-placed =
        publishes-both old new o.side (prices_of (trades_of old o)) (rest_price limit id) (taken-apart (queue old other) (queue new other) (trades_for old o) sound places.trades) (own-apart limit id)
        (taken-kept (queue old other) (queue new other) (trades_for old o) sound places.trades)
        (own-kept (queue old o.side) (queue new o.side) limit (rest_of old o) o.tag id places.rests)

    pub changes-placed : AreChanges old (updates_after new o id (trades_of old o))
    changes-placed =
        changes-append old (updates_at new other (prices_of (trades_of old o))) (updates_at new o.side (rest_price limit id))
        (changes-less old new other (prices_of (trades_of old o)) (taken-less (queue old other) (queue new other) (trades_for old o) sound places.trades))
        (own-changes old new o.side limit (rest_of old o) o.tag id places.rests)

  -- the same of trades that are those of the order, and of a list that led to the old book
  module _ (old new : Book T) (o : NewOrder T) (id : Option Id) (ts : List (Trade T)) (lawful : IsBook old) (places : Places old o id new) (traded : ts ≡ trades_of old o) where
    pub publishes-after : Publishes old new (updates_after new o id ts)
    publishes-after = rw traded (publishes-placed old new o id lawful places)

    pub changes-after : AreChanges old (updates_after new o id ts)
    changes-after = rw traded (changes-placed old new o id lawful places)

    pub follows-after : (start : Book T) (before after : List LevelUpdate) → after ≡ before ++ updates_after new o id ts → Follows start old before → Follows start new after
    follows-after start before after appended led = rw appended (follows-append start old new before (updates_after new o id ts) led publishes-after.follows)

  -- an order that a pointer names is one of the orders
  named-all : (P : Order T → Type 0) (xs : List (Order T)) (p : ℕ × ℕ) (x : Order T) → AllByRecursion P xs → order_of xs p ≡ Some x → P x
  named-all P [] p x all there = absurd (cc)
  named-all P (y ∷ ys) p x all there = go (is_named_by p y) refl (λ later. named-all P ys p x all.1 later)
    where
      go : (b : Bool) → is_named_by p y ≡ b → (order_of ys p ≡ Some x → P x) → P x
      go true is later =
          let here : order_of (y ∷ ys) p ≡ Some y = rw is refl in
          let same : y ≡ x = cc in
          subst P same all.0
      go false is later =
          let rest : order_of (y ∷ ys) p ≡ order_of ys p = rw is refl in
          later (sym rest ∙ there)

  side-of : (b : Book T) → IsBook b → (side : Side) → (queue b side).side ≡ side
  side-of b lawful Buy = lawful.buys
  side-of b lawful Sell = lawful.sells

  -- it is of the name's side
  pub named-side : (b : Book T) (id : Id) (x : Order T) → IsBook b → named b id ≡ Some x → x.id.side ≡ id.side
  named-side b id x lawful there =
      named-all (λ (y : Order T). y.id.side ≡ (queue b id.side).side) (queue b id.side).orders id.pointer x (sound-side b lawful id.side).of_side there ∙ side-of b lawful id.side

-- the prices of a replaced order and of the new one are apart, and another price is neither
own_prices-apart : (price limit : ℕ) (id : Option Id) → AreApart (own_prices price limit id)
own_prices-apart price limit None = (tt, tt)
own_prices-apart price limit (Some id) = elim (eqb_tells limit price) [
  | inl h ↦ rw h.0 (tt, tt)
  | inr h ↦ rw h.0 ((h.0, tt), (tt, tt))
]

own_prices-none : (price limit : ℕ) (id : Option Id) (p : ℕ) → IsNone p (own_prices price limit id) → ((price == p) ≡ false) × IsNone p (rest_price limit id)
own_prices-none price limit None p none = (none.0, tt)
own_prices-none price limit (Some id) p none = elim (eqb_tells limit price) [
  | inl h ↦
      let one : IsNone p (price ∷ []) = rw h.0 at none in
      (one.0, (ap (λ (n : ℕ). n == p) h.1 ∙ one.0, tt))
  | inr h ↦
      let two : IsNone p (price ∷ limit ∷ []) = rw h.0 at none in
      (two.0, (two.1.0, tt))
]

module _ {T : Type 0} where
  -- a replaced order leaves, and the new one comes in
  module _ (old new : Book T) (name : Id) (x : Order T) (kind : OrderKind) (quantity : ℕ) (id : Option Id) (lawful : IsBook old) (there : named old name ≡ Some x)
      (places : Places (without old name) (replacement name x.tag kind quantity) id new) where
    abbrev without_it : Book T
    without_it = without old name

    abbrev o : NewOrder T
    o = replacement name x.tag kind quantity

    abbrev its_limit : ℕ
    its_limit = limit_of name.side kind

    other-same : queue without_it (opposite name.side) ≡ queue old (opposite name.side)
    other-same = queue-kept old name.side (with_left (queue old name.side) name.pointer)

    left-kept : (p : ℕ) → (x.price == p) ≡ false → level_at p (queue without_it name.side).orders ≡ level_at p (queue old name.side).orders
    left-kept p apart =
        ap (λ (q : Queue T). level_at p q.orders) (queue-with old name.side (with_left (queue old name.side) name.pointer))
        ∙ ap (summed p) (at-without p (queue old name.side).orders name.pointer x there apart)

    sound-left : IsSound (queue without_it (opposite name.side))
    sound-left = rw other-same (sound-side old lawful (opposite name.side))

    of-name : Publishes old new (updates_at new (opposite name.side) (prices_of (trades_of without_it o)) ++ updates_at new name.side (own_prices x.price its_limit id))
    of-name =
        publishes-both old new name.side (prices_of (trades_of without_it o)) (own_prices x.price its_limit id)
        (taken-apart (queue without_it (opposite name.side)) (queue new (opposite name.side)) (trades_for without_it o) sound-left places.trades) (own_prices-apart x.price its_limit id)
        (λ p none. taken-kept (queue without_it (opposite name.side)) (queue new (opposite name.side)) (trades_for without_it o) sound-left places.trades p none
        ∙ ap (λ (q : Queue T). level_at p q.orders) other-same)
        (λ p none. own-kept (queue without_it name.side) (queue new name.side) its_limit (rest_of without_it o) x.tag id places.rests p (own_prices-none x.price its_limit id p none).1
        ∙ left-kept p (own_prices-none x.price its_limit id p none).0)

    pub publishes-replaced : Publishes old new (updates_replacing new x kind id (trades_of without_it o))
    publishes-replaced = rw (named-side old name x lawful there) of-name

    pub publishes-replacing : (ts : List (Trade T)) → ts ≡ trades_of without_it o → Publishes old new (updates_replacing new x kind id ts)
    publishes-replacing ts traded = rw traded publishes-replaced

    pub follows-replacing : (ts : List (Trade T)) → ts ≡ trades_of without_it o → (start : Book T) (before after : List LevelUpdate) → after ≡ before ++ updates_replacing new x kind id ts
        → Follows start old before → Follows start new after
    follows-replacing ts traded start before after appended led = rw appended (follows-append start old new before (updates_replacing new x kind id ts) led (publishes-replacing ts traded).follows)
