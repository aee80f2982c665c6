-- What the deals of an order leave: within its limit, and no other name changes.
use Rattle.std.proofs.Common.{◌≡◌, ◌≢◌, ℕ, ◌+◌, ◌-◌, ◌<◌, ◌≤◌, Bool, true, false, List, [], ◌∷◌, ◌++◌, Option, Some, None, Ok, OnSome, IfSome, IfNone, refl, sym, ap, ◌∙◌, arith, inl, inr, if◌then◌else◌}
use Rattle.std.proofs.{lemmas.Bool.Decides.eqb_tells, lemmas.Bool.Decides.leb_tells, lemmas.Bool.lt-ltb, lemmas.Bool.le-ltb, lemmas.List.append-nil}
use Rattle.std.specs.List.{AllByRecursion}
use Rattle.order_book.specs.Queue.{Queue, IsInOrder, IsSound, Rests, taken, is_named_by, meets, order_of, resting, traded, trades_of_first, within, with_left, behind}
use Rattle.order_book.specs.{declared.order.Order.Order, declared.order.Trade.Trade, declared.side.Side.Side, Id.Id}
use Rattle.order_book.proofs.Trading.{within-missed, trades-none}
use Rattle.order_book.proofs.Taking.{behind-none}
use Rattle.order_book.specs.Book.{IsUntraded, RestsOrNot, limit_of, dealt, deals, remainder}
use Rattle.order_book.specs.{Layout.Settles, declared.new_order.NewOrder.NewOrder}
use Rattle.order_book.proofs.Volumes.{bought-traded, sold-traded}

module _ {T : Type 0} where
  -- trades of at most what meets a limit meet it
  within-first : (side : Side) (limit n : ℕ) (x : Order T) (xs : List (Order T)) → IsInOrder side (x ∷ xs) → n ≤ within side limit (x ∷ xs) → n ≢ 0
      → (meets side x.price limit ≡ true) × (n - x.quantity ≤ within side limit xs)
  within-first side limit n x xs sorted most some = go (meets side x.price limit) refl
    where
      go : (b : Bool) → meets side x.price limit ≡ b → (meets side x.price limit ≡ true) × (n - x.quantity ≤ within side limit xs)
      go true met =
          let here : within side limit (x ∷ xs) ≡ x.quantity + within side limit xs = rw met refl in
          (met, omega (arith, most, here))
      go false unmet = absurd (some (omega (arith, most, within-missed side limit x xs unmet sorted)))

  deals-within : (side : Side) (limit n : ℕ) (xs : List (Order T)) → IsInOrder side xs → n ≤ within side limit xs
      → AllByRecursion (λ (t : Trade T). meets side t.price limit ≡ true) (trades_of_first n xs)
  deals-within side limit n [] sorted most = tt
  deals-within side limit n (x ∷ xs) sorted most = elim (eqb_tells n 0) [
    | inl none ↦ rw none.0 tt
    | inr some ↦
        let first = within-first side limit n x xs sorted most (λ is. some.1 is) in
        rw some.0 (first.0, deals-within side limit (n - x.quantity) xs sorted.1 first.1)
  ]

  pub deals-limited : (q : Queue T) (limit quantity : ℕ) → IsInOrder q.side q.orders
      → AllByRecursion (λ (t : Trade T). meets q.side t.price limit ≡ true) (trades_of_first (traded q limit quantity) q.orders)
  deals-limited q limit quantity sorted = deals-within q.side limit (traded q limit quantity) q.orders sorted (omega arith)

-- the name of these parts
abbrev pub id_of : Side → ℕ × ℕ → Id
id_of side p = record { side = side; pointer = p }

module _ {T : Type 0} where
  -- a pointer doesn't name an order that has another name
  unnamed : (side : Side) (p : ℕ × ℕ) (x : Order T) → x.id.side ≡ side → x.id ≢ id_of side p → is_named_by p x ≡ false
  unnamed side p x of_side other = elim (eqb_tells x.id.pointer.0 p.0) [
    | inl h ↦ elim (eqb_tells x.id.pointer.1 p.1) [
      | inl k ↦ absurd (other (ap (λ s. id_of s x.id.pointer) of_side ∙ ap (id_of side) (rw (h.1, k.1) refl)))
      | inr k ↦ rw (h.0, k.0) refl
    ]
    | inr h ↦ rw h.0 refl
  ]

  -- a name that wasn't traded with names what it named
  pub behind-others : (side : Side) (p : ℕ × ℕ) (n : ℕ) (xs : List (Order T)) → AllByRecursion (λ (x : Order T). x.id.side ≡ side) xs → AllByRecursion (λ (x : Order T). 0 < x.quantity) xs
      → IsUntraded (id_of side p) (trades_of_first n xs) → order_of (behind n xs) p ≡ order_of xs p
  behind-others side p n [] of_side some untraded = refl
  behind-others side p n (x ∷ xs) of_side some untraded = elim (eqb_tells n 0) [
    | inl none ↦ rw (none.1, behind-none (x ∷ xs) some) refl
    | inr more ↦
        let apart : (x.id ≢ id_of side p) × IsUntraded (id_of side p) (trades_of_first (n - x.quantity) xs) = rw more.0 at untraded in
        let other : is_named_by p x ≡ false = unnamed side p x of_side.0 apart.0 in
        elim (leb_tells x.quantity n) [
          | inl whole ↦ rw (le-ltb n x.quantity whole.1, other) (behind-others side p (n - x.quantity) xs of_side.1 some.1 apart.1)
          | inr part ↦ rw (lt-ltb n x.quantity part.1, other) refl
        ]
  ]

  -- an order between others hides no other
  between-others : (front : List (Order T)) (x : Order T) (back : List (Order T)) (p : ℕ × ℕ) → is_named_by p x ≡ false → order_of (front ++ x ∷ back) p ≡ order_of (front ++ back) p
  between-others [] x back p other = rw other refl
  between-others (y ∷ front) x back p other = ap (λ o. if is_named_by p y then Some y else o) (between-others front x back p other)

  -- nothing is added if nothing is dealt
  pub deals-none : (items : List (Trade T)) (n : ℕ) (xs : List (Order T)) → n ≡ 0 → items ++ trades_of_first n xs ≡ items
  deals-none items n xs none = ap (λ m. items ++ trades_of_first m xs) none ∙ ap (λ ts. items ++ ts) (trades-none xs) ∙ append-nil items

  -- the side of a queue stays if an order leaves
  pub side-left : (o : Option (Order T)) (old new : Queue T) (p : ℕ × ℕ) → OnSome o (new ≡ with_left old p) → IfNone o (new ≡ old) → new.side ≡ old.side
  side-left None old new p gone none = ap (λ (q : Queue T). q.side) none
  side-left (Some x) old new p gone none = ap (λ (q : Queue T). q.side) gone

  module _ (own new : Queue T) (price rest : ℕ) (tag : T) where
    -- an order that comes to rest leaves every other name of its side as it was
    pub rests-others : (id : Option Id) → RestsOrNot own price rest tag id new → (p : ℕ × ℕ) → Some (id_of own.side p) ≢ id → order_of new.orders p ≡ order_of own.orders p
    rests-others None rests p other = ap (λ (q : Queue T). order_of q.orders p) rests.1
    rests-others (Some id) rests p other =
        let r : Rests own price rest tag id.pointer new = rests.2 in
        let x : Order T = resting own.side id.pointer price rest tag in
        let named : id_of own.side id.pointer ≡ id = ap (λ s. id_of s id.pointer) (sym rests.1) in
        let apart : id_of own.side id.pointer ≢ id_of own.side p = λ same. other (ap (λ (i : Id). Some i) (sym same ∙ named)) in
        ap (λ xs. order_of xs p) r.after ∙ between-others r.ahead x r.later p (unnamed own.side p x refl apart) ∙ ap (λ xs. order_of xs p) (sym r.before)

  -- an order is settled where its trades are appended, and taken off the other side
  pub deals-settle : {E : Type 0} (own other new_own new_other : Queue T) (o : NewOrder T) (before after : List (Trade T)) (id : Option Id) → IsSound other
      → IfSome id (λ i. order_of new_own.orders i.pointer ≡ Some (resting own.side i.pointer (limit_of o.side o.kind) (remainder other o) o.tag))
      → new_other ≡ taken (dealt other o) other → after ≡ before ++ deals other o → Settles {E = E} own other o before (Ok id) new_own new_other after
  deals-settle own other new_own new_other o before after id sound names took appended = record {
    names = names;
    taken = took;
    trades = appended;
    bought = bought-traded other (limit_of o.side o.kind) o.quantity;
    sold = sold-traded other (limit_of o.side o.kind) o.quantity new_other took;
    others = λ p untraded. rw took (behind-others other.side p (dealt other o) other.orders sound.of_side sound.some_left untraded);
    limited = deals-limited other (limit_of o.side o.kind) o.quantity sound.in_order;
    own_kept = tt;
    other_kept = tt;
    trades_kept = tt;
  }
