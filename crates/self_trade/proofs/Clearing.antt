-- What is left of a book once the orders are cancelled for which the answer was `false`.
use Rattle.std.proofs.Common.{◌≡◌, ℕ, Bool, true, false, not, map, List, [], ◌∷◌, Some, None, inl, inr, refl, sym, ap, subst, ◌∙◌}
use Rattle.std.proofs.lemmas.Bool.Decides.{eqb_tells}
use Rattle.std.specs.List.{AllByRecursion, items_where_true}
use Rattle.order_book.specs.{declared.side.Side.TheVariants.Buy, declared.side.Side.TheVariants.Sell, declared.order.Order.Order, Id.Id}
use Rattle.order_book.specs.declared.side.Side.{Side}
use Rattle.order_book.specs.Queue.{Queue, IsDistinct, is_named_by, order_of, without as without_named, with_left}
use Rattle.order_book.specs.Book.{Book, opposite, queue, with_queue, without}
use Rattle.self_trade.specs.Prevention.{refused, without_all}
use Rattle.self_trade.specs.Survey.{AreNamed}
use Rattle.self_trade.proofs.Asking.{cleared_orders}

-- what is true of each is true of those that are picked
module _ {X : Type 0} where
  pub all-picked : (P : X → Type 0) (bs : List Bool) (xs : List X) → AllByRecursion P xs → AllByRecursion P (items_where_true bs xs)
  all-picked P [] xs all = tt
  all-picked P (b ∷ bs) [] all = tt
  all-picked P (true ∷ bs) (x ∷ xs) all = (all.0, all-picked P bs xs all.1)
  all-picked P (false ∷ bs) (x ∷ xs) all = all-picked P bs xs all.1

  pub all-map : (P Q : X → Type 0) (xs : List X) → ((x : X) → P x → Q x) → AllByRecursion P xs → AllByRecursion Q xs
  all-map P Q [] step all = tt
  all-map P Q (x ∷ xs) step all = (step x all.0, all-map P Q xs step all.1)

module _ {T : Type 0} where
  -- an order is named by its own pointer, and by no other
  own-named : (x : Order T) → is_named_by x.id.pointer x ≡ true
  own-named x = elim (eqb_tells x.id.pointer.0 x.id.pointer.0) [
    | inl h ↦ elim (eqb_tells x.id.pointer.1 x.id.pointer.1) [
      | inl k ↦ rw (h.0, k.0) refl
      | inr k ↦ absurd (k.1 refl)
    ]
    | inr h ↦ absurd (h.1 refl)
  ]

  pointer-own : (p : ℕ × ℕ) (x : Order T) → is_named_by p x ≡ true → p ≡ x.id.pointer
  pointer-own p x = elim (eqb_tells x.id.pointer.0 p.0) [
    | inl h ↦ elim (eqb_tells x.id.pointer.1 p.1) [
      | inl k ↦ λ own. sym (rw (h.1, k.1) refl)
      | inr k ↦ λ own. absurd (let other : is_named_by p x ≡ false = rw (h.0, k.0) refl in cc)
    ]
    | inr h ↦ λ own. absurd (let other : is_named_by p x ≡ false = rw h.0 refl in cc)
  ]

  -- an order in front of another one has another pointer
  apart-first : (x : Order T) (xs : List (Order T)) (y : Order T) → order_of xs x.id.pointer ≡ None → order_of xs y.id.pointer ≡ Some y → is_named_by y.id.pointer x ≡ false
  apart-first x xs y unused found = go (is_named_by y.id.pointer x) refl
    where
      go : (b : Bool) → is_named_by y.id.pointer x ≡ b → is_named_by y.id.pointer x ≡ false
      go false other = other
      go true same = absurd (let lost : order_of xs y.id.pointer ≡ None = ap (order_of xs) (pointer-own y.id.pointer x same) ∙ unused in cc)

  -- each order is found by its own pointer
  pub found-each : (xs : List (Order T)) → IsDistinct xs → AllByRecursion (λ y. order_of xs y.id.pointer ≡ Some y) xs
  found-each [] distinct = tt
  found-each (x ∷ xs) distinct = (
    rw (own-named x) refl,
    all-map (λ y. order_of xs y.id.pointer ≡ Some y) (λ y. order_of (x ∷ xs) y.id.pointer ≡ Some y) xs (λ y found. rw (apart-first x xs y distinct.0 found) found) (found-each xs distinct.1),
  )

  -- the refused ones among the orders behind one are not named by its pointer
  apart-refused : (x : Order T) (xs : List (Order T)) (bs : List Bool) → IsDistinct (x ∷ xs) → AllByRecursion (λ y. is_named_by y.id.pointer x ≡ false) (refused bs xs)
  apart-refused x xs bs distinct =
      all-map (λ y. order_of xs y.id.pointer ≡ Some y) (λ y. is_named_by y.id.pointer x ≡ false) (refused bs xs) (λ y found. apart-first x xs y distinct.0 found)
      (all-picked (λ y. order_of xs y.id.pointer ≡ Some y) (map not bs) xs (found-each xs distinct.1))

  -- the orders without each of these
  abbrev pub without_each : List (Order T) → List (Order T) → List (Order T)
  without_each xs [] = xs
  without_each xs (y ∷ ys) = without_each (without_named xs y.id.pointer) ys

  without-front : (x : Order T) (xs ys : List (Order T)) → AllByRecursion (λ y. is_named_by y.id.pointer x ≡ false) ys → without_each (x ∷ xs) ys ≡ x ∷ without_each xs ys
  without-front x xs [] apart = refl
  without-front x xs (y ∷ ys) apart =
      let one : without_named (x ∷ xs) y.id.pointer ≡ x ∷ without_named xs y.id.pointer = rw apart.0 refl in
      ap (λ zs. without_each zs ys) one ∙ without-front x (without_named xs y.id.pointer) ys apart.1

  -- cancelling the refused ones leaves the others
  pub without-refused : (bs : List Bool) (xs : List (Order T)) → IsDistinct xs → without_each xs (refused bs xs) ≡ cleared_orders true bs xs
  without-refused [] xs distinct = refl
  without-refused (b ∷ bs) [] distinct = refl
  without-refused (true ∷ bs) (x ∷ xs) distinct =
      without-front x xs (refused bs xs) (apart-refused x xs bs distinct) ∙ ap (λ zs. x ∷ zs) (without-refused bs xs distinct.1)
  without-refused (false ∷ bs) (x ∷ xs) distinct =
      let own : without_named (x ∷ xs) x.id.pointer ≡ xs = rw (own-named x) refl in
      ap (λ zs. without_each zs (refused bs xs)) own ∙ without-refused bs xs distinct.1

  -- if none is cancelled, all are left
  pub cleared-none : (bs : List Bool) (xs : List (Order T)) → cleared_orders false bs xs ≡ xs
  cleared-none [] xs = refl
  cleared-none (b ∷ bs) [] = refl
  cleared-none (true ∷ bs) (x ∷ xs) = ap (λ zs. x ∷ zs) (cleared-none bs xs)
  cleared-none (false ∷ bs) (x ∷ xs) = ap (λ zs. x ∷ zs) (cleared-none bs xs)

  -- each is found in its turn
  abbrev AreFound : List (Order T) → List (Order T) → Type 0
  AreFound xs [] = Unit {0}
  AreFound xs (y ∷ ys) = (order_of xs y.id.pointer ≡ Some y) × AreFound (without_named xs y.id.pointer) ys

  found-front : (x : Order T) (xs ys : List (Order T)) → AllByRecursion (λ y. is_named_by y.id.pointer x ≡ false) ys → AreFound xs ys → AreFound (x ∷ xs) ys
  found-front x xs [] apart found = tt
  found-front x xs (y ∷ ys) apart found =
      let one : x ∷ without_named xs y.id.pointer ≡ without_named (x ∷ xs) y.id.pointer = rw apart.0 refl in
      (rw apart.0 found.0, subst (λ zs. AreFound zs ys) one (found-front x (without_named xs y.id.pointer) ys apart.1 found.1))

  found-refused : (bs : List Bool) (xs : List (Order T)) → IsDistinct xs → AreFound xs (refused bs xs)
  found-refused [] xs distinct = tt
  found-refused (b ∷ bs) [] distinct = tt
  found-refused (true ∷ bs) (x ∷ xs) distinct = found-front x xs (refused bs xs) (apart-refused x xs bs distinct) (found-refused bs xs distinct.1)
  found-refused (false ∷ bs) (x ∷ xs) distinct =
      let own : xs ≡ without_named (x ∷ xs) x.id.pointer = rw (own-named x) refl in
      (rw (own-named x) refl, subst (λ zs. AreFound zs (refused bs xs)) own (found-refused bs xs distinct.1))

  -- the sides of a book one of which is replaced
  queue-own : (b : Book T) (side : Side) (q : Queue T) → queue (with_queue b side q) side ≡ q
  queue-own b Buy q = refl
  queue-own b Sell q = refl

  queue-other : (b : Book T) (side : Side) (q : Queue T) → queue (with_queue b side q) (opposite side) ≡ queue b (opposite side)
  queue-other b Buy q = refl
  queue-other b Sell q = refl

  -- a side without each of these
  abbrev pub left_all : Queue T → List (Order T) → Queue T
  left_all q [] = q
  left_all q (y ∷ ys) = left_all (with_left q y.id.pointer) ys

  pub left-orders : (q : Queue T) (ys : List (Order T)) → (left_all q ys).orders ≡ without_each q.orders ys
  left-orders q [] = refl
  left-orders q (y ∷ ys) = left-orders (with_left q y.id.pointer) ys

  pub left-side : (q : Queue T) (ys : List (Order T)) → (left_all q ys).side ≡ q.side
  left-side q [] = refl
  left-side q (y ∷ ys) = left-side (with_left q y.id.pointer) ys

  -- where the cancelled orders are of one side, that side is without them, and the other one stays
  module _ (side : Side) where
    abbrev pub AreOf : List (Order T) → Type 0
    AreOf ys = AllByRecursion (λ y. y.id.side ≡ side) ys

    without-own : (b : Book T) (id : Id) → id.side ≡ side → queue (without b id) side ≡ with_left (queue b side) id.pointer
    without-own b id of_side = subst (λ s. queue (without b id) s ≡ with_left (queue b s) id.pointer) of_side (queue-own b id.side (with_left (queue b id.side) id.pointer))

    without-other : (b : Book T) (id : Id) → id.side ≡ side → queue (without b id) (opposite side) ≡ queue b (opposite side)
    without-other b id of_side = subst (λ s. queue (without b id) (opposite s) ≡ queue b (opposite s)) of_side (queue-other b id.side (with_left (queue b id.side) id.pointer))

    pub queue-without_all : (b : Book T) (ys : List (Order T)) → AreOf ys → queue (without_all b ys) side ≡ left_all (queue b side) ys
    queue-without_all b [] of_side = refl
    queue-without_all b (y ∷ ys) of_side = queue-without_all (without b y.id) ys of_side.1 ∙ ap (λ q. left_all q ys) (without-own b y.id of_side.0)

    pub other-without_all : (b : Book T) (ys : List (Order T)) → AreOf ys → queue (without_all b ys) (opposite side) ≡ queue b (opposite side)
    other-without_all b [] of_side = refl
    other-without_all b (y ∷ ys) of_side = other-without_all (without b y.id) ys of_side.1 ∙ without-other b y.id of_side.0

    -- each is named in its turn
    named-each : (b : Book T) (ys : List (Order T)) → AreOf ys → AreFound (queue b side).orders ys → AreNamed b ys
    named-each b [] of_side found = tt
    named-each b (y ∷ ys) of_side found = (
      subst (λ s. order_of (queue b s).orders y.id.pointer ≡ Some y) (sym of_side.0) found.0,
      named-each (without b y.id) ys of_side.1 (subst (λ (q : Queue T). AreFound q.orders ys) (sym (without-own b y.id of_side.0)) found.1),
    )

    pub named-refused : (b : Book T) (bs : List Bool) → AreOf (queue b side).orders → IsDistinct (queue b side).orders → AreNamed b (refused bs (queue b side).orders)
    named-refused b bs of_side distinct =
        named-each b (refused bs (queue b side).orders) (all-picked (λ y. y.id.side ≡ side) (map not bs) (queue b side).orders of_side) (found-refused bs (queue b side).orders distinct)
