-- Levels are summed up along the queue, and sums fit into 128 bits.
use Rattle.std.proofs.Common.{◌≡◌, ℕ, suc, ◌+◌, ◌*◌, ◌≤◌, ◌==◌, Bool, List, [], ◌∷◌, length, true, false, refl, ap, ◌∙◌, inl, inr, arith, if◌then◌else◌}
use Rattle.std.proofs.lemmas.{Bool.Decides.eqb_tells, List.take_all}
use Rattle.std.specs.List.{AllByRecursion}
use Rattle.order_book.specs.Queue.{most_entries, most_quantity, AreSummable, IsNoWorse, IsInOrder, first_levels, joined, levels_of, total, within, meets}
use Rattle.order_book.specs.{declared.level.Level.Level, declared.order.Order.Order, declared.side.Side.Side}
use Rattle.order_book.proofs.Meeting.{unmet-worse}

-- the greatest sum of quantities
abbrev pub most_total : ℕ
most_total = 79228162477370849441829879810

module _ {T : Type 0} where
  -- bounded quantities have a bounded sum
  total-bounded : (xs : List (Order T)) → AllByRecursion (λ x. x.quantity ≤ most_quantity) xs → total xs ≤ length xs * most_quantity
  total-bounded [] all = omega arith
  total-bounded (x ∷ xs) all = omega (arith, all.0, total-bounded xs all.1)

  pub total-fits : (xs : List (Order T)) → AreSummable xs → total xs ≤ most_total
  total-fits xs summable = omega (arith, total-bounded xs summable.bounded, summable.few)

  pub within-most : (side : Side) (limit : ℕ) (xs : List (Order T)) → within side limit xs ≤ total xs
  within-most side limit [] = omega arith
  within-most side limit (x ∷ xs) = let rest = within-most side limit xs in
      elim (meets side x.price limit) as (λ b. (if b then x.quantity else 0) + within side limit xs ≤ x.quantity + total xs) [
        | true ↦ omega (arith, rest)
        | false ↦ omega (arith, rest)
      ]

  pub within-fits : (side : Side) (limit : ℕ) (xs : List (Order T)) → AreSummable xs → within side limit xs ≤ most_total
  within-fits side limit xs summable = omega (arith, within-most side limit xs, total-fits xs summable)

-- how much some levels that meet a limit offer in all
abbrev pub offers : Side → ℕ → List Level → ℕ
offers side limit [] = 0
offers side limit (l ∷ ls) = (if meets side l.price limit then l.quantity else 0) + offers side limit ls

module _ {T : Type 0} where
  -- which is what their orders offer
  pub offers-within : (side : Side) (limit : ℕ) (xs : List (Order T)) → offers side limit (levels_of xs) ≡ within side limit xs
  offers-within side limit [] = refl
  offers-within side limit (x ∷ xs) = offers-joined x (levels_of xs) ∙ ap (λ (n : ℕ). (if meets side x.price limit then x.quantity else 0) + n) (offers-within side limit xs)
    where
      sums : (b : Bool) (n m : ℕ) → (if b then n + m else 0) ≡ (if b then n else 0) + (if b then m else 0)
      sums true n m = refl
      sums false n m = refl

      offers-joined : (x : Order T) (ls : List Level) → offers side limit (joined x ls) ≡ (if meets side x.price limit then x.quantity else 0) + offers side limit ls
      offers-joined x [] = refl
      offers-joined x (l ∷ ls) = elim (eqb_tells l.price x.price) [
        | inl h ↦ rw (h.0, h.1) (omega (arith, sums (meets side x.price limit) x.quantity l.quantity))
        | inr h ↦ rw h.0 refl
      ]

-- levels in order: none stands behind one of a worse price, and none is empty
abbrev pub AreInOrder : Side → List Level → Type 0
AreInOrder side [] = Unit {0}
AreInOrder side (l ∷ ls) = AllByRecursion (λ (m : Level). IsNoWorse side l.price m.price) ls × AreInOrder side ls

module _ {T : Type 0} where
  joined-no_worse : (side : Side) (p : ℕ) (x : Order T) (ls : List Level) → IsNoWorse side p x.price → AllByRecursion (λ (m : Level). IsNoWorse side p m.price) ls
      → AllByRecursion (λ (m : Level). IsNoWorse side p m.price) (joined x ls)
  joined-no_worse side p x [] here all = (here, tt)
  joined-no_worse side p x (l ∷ ls) here all = elim (l.price == x.price) as (λ b. AllByRecursion (λ (m : Level). IsNoWorse side p m.price)
      (if b then record { price = x.price; quantity = x.quantity + l.quantity; count = suc l.count } ∷ ls else record { price = x.price; quantity = x.quantity; count = 1 } ∷ l ∷ ls)) [
        | true ↦ (here, all.1)
        | false ↦ (here, all)
      ]

  pub levels-no_worse : (side : Side) (p : ℕ) (xs : List (Order T)) → AllByRecursion (λ (x : Order T). IsNoWorse side p x.price) xs → AllByRecursion (λ (m : Level). IsNoWorse side p m.price) (levels_of xs)
  levels-no_worse side p [] all = tt
  levels-no_worse side p (x ∷ xs) all = joined-no_worse side p x (levels_of xs) all.0 (levels-no_worse side p xs all.1)

  pub levels-in_order : (side : Side) (xs : List (Order T)) → IsInOrder side xs → AreInOrder side (levels_of xs)
  levels-in_order side [] sorted = tt
  levels-in_order side (x ∷ xs) sorted = go (levels_of xs) (levels-no_worse side x.price xs sorted.0) (levels-in_order side xs sorted.1)
    where
      go : (ls : List Level) → AllByRecursion (λ (m : Level). IsNoWorse side x.price m.price) ls → AreInOrder side ls → AreInOrder side (joined x ls)
      go [] all rest = (tt, tt)
      go (l ∷ ls) all rest = elim (l.price == x.price) as (λ b. AreInOrder side
          (if b then record { price = x.price; quantity = x.quantity + l.quantity; count = suc l.count } ∷ ls else record { price = x.price; quantity = x.quantity; count = 1 } ∷ l ∷ ls)) [
            | true ↦ (all.1, rest.1)
            | false ↦ (all, rest)
          ]

-- where a level doesn't meet the limit, neither it nor those behind it offer anything
pub offers-missed : (side : Side) (limit : ℕ) (l : Level) (ls : List Level) → meets side l.price limit ≡ false → AreInOrder side (l ∷ ls) → offers side limit (l ∷ ls) ≡ 0
offers-missed side limit l ls misses sorted = rw misses (omega (arith, none ls sorted.0))
  where
    none : (ms : List Level) → AllByRecursion (λ (m : Level). IsNoWorse side l.price m.price) ms → offers side limit ms ≡ 0
    none [] all = refl
    none (m ∷ ms) all = rw (unmet-worse side l.price m.price limit all.0 misses) (omega (arith, none ms all.1))

module _ {T : Type 0} where
  -- there are no more levels than orders, so if as many levels are asked for, all are given
  levels-fewer : (xs : List (Order T)) → length (levels_of xs) ≤ length xs
  levels-fewer [] = omega arith
  levels-fewer (x ∷ xs) = omega (arith, joined-one x (levels_of xs), levels-fewer xs)
    where
      joined-one : (x : Order T) (ls : List Level) → length (joined x ls) ≤ suc (length ls)
      joined-one x [] = omega arith
      joined-one x (l ∷ ls) = elim (l.price == x.price) as (λ b. length
          (if b then record { price = x.price; quantity = x.quantity + l.quantity; count = suc l.count } ∷ ls else record { price = x.price; quantity = x.quantity; count = 1 } ∷ l ∷ ls) ≤ suc (suc (length ls))) [
            | true ↦ omega arith
            | false ↦ omega arith
          ]

  pub all-levels : (n : ℕ) (xs : List (Order T)) → length xs ≤ most_entries → most_entries ≤ n → first_levels n xs ≡ levels_of xs
  all-levels n xs few many = take_all n (levels_of xs) (omega (arith, few, many, levels-fewer xs))
