-- The levels of a ladder are the levels of its orders.
use Rattle.std.proofs.Common.{◌≡◌, ℕ, suc, ◌+◌, ◌<◌, ◌≤◌, ◌==◌, false, List, [], ◌∷◌, ◌++◌, map, length, refl, sym, ap, subst, ◌∙◌, arith, inl, inr}
use Rattle.std.proofs.lemmas.{Bool.Decides.eqb_tells, Bool.Decides.nat_tests}
use Rattle.std.specs.List.{AllByRecursion}
use Rattle.order_book.specs.{declared.side.Side.TheVariants.Buy, declared.side.Side.TheVariants.Sell, declared.side.Side.Side, declared.level.Level.Level, declared.order.Order.Order}
use Rattle.order_book.specs.QueueLayout.{most_price, ranked, order_in, level_in, AreLawful}
use Rattle.order_book.specs.Queue.{joined, levels_of}
use Rattle.order_book.specs.Ladder.{row_of, quantity_of, AreLaid, IsLevel, IsOf, Rise}
use Rattle.order_book.proofs.Rows.{LevelEntry, OrderEntry, Orders, Levels}

module _ {T : Type 0} where
  -- the ranks of the levels of lawful orders are lawful
  rank-of : (l : LevelEntry) (group rest : Orders T) → IsLevel l group → AreLawful (map row_of (group ++ rest)) → l.item.0 ≤ most_price
  rank-of l [] rest level lawful = absurd (let none = level.last in cc)
  rank-of l (e ∷ group) rest level lawful = subst (λ (r : ℕ). r ≤ most_price) level.members.0.rank lawful.0.price

  lawful-rest : (group rest : Orders T) → AreLawful (map row_of (group ++ rest)) → AreLawful (map row_of rest)
  lawful-rest [] rest lawful = lawful
  lawful-rest (e ∷ group) rest lawful = lawful-rest group rest lawful.1

  pub lawful-levels : (ls : Levels) (es : Orders T) → AreLaid ls es → AreLawful (map row_of es) → AllByRecursion (λ (l : LevelEntry). l.item.0 ≤ most_price) ls
  lawful-levels [] es laid lawful = tt
  lawful-levels (l ∷ ls) es laid lawful =
      let all : AreLawful (map row_of (laid.0 ++ laid.1)) = subst (λ (xs : Orders T). AreLawful (map row_of xs)) laid.2 lawful in
      (rank-of l laid.0 laid.1 laid.3 all, lawful-levels ls laid.1 laid.4 (lawful-rest laid.0 laid.1 all))

-- the first of some levels, if there is one, has another price
abbrev IsApart : ℕ → List Level → Type 0
IsApart price [] = Unit {0}
IsApart price (l ∷ ls) = (l.price == price) ≡ false

module _ {T : Type 0} where
  joined-apart : (x : Order T) (ls : List Level) → IsApart x.price ls → joined x ls ≡ record { price = x.price; quantity = x.quantity; count = 1 } ∷ ls
  joined-apart x [] apart = refl
  joined-apart x (l ∷ ls) apart = rw apart refl

  joined-here : (x : Order T) (l : Level) (ls : List Level) → l.price ≡ x.price → joined x (l ∷ ls) ≡ record { price = x.price; quantity = x.quantity + l.quantity; count = suc l.count } ∷ ls
  joined-here x l ls same = elim (eqb_tells l.price x.price) [
    | inl h ↦ rw h.0 refl
    | inr h ↦ absurd (h.1 same)
  ]

same-level : (p q n m i j : ℕ) (ls : List Level) → p ≡ q → n ≡ m → i ≡ j
    → ◌≡◌ {A = List Level} (record { price = p; quantity = n; count = i } ∷ ls) (record { price = q; quantity = m; count = j } ∷ ls)
same-level p q n m i j ls prices quantities counts = rw (prices, quantities, counts) refl

ranked-apart : (side : Side) (r t : ℕ) → r < t → t ≤ most_price → (ranked side t == ranked side r) ≡ false
ranked-apart Buy r t less lawful = grind (arith, nat_tests, less, lawful)
ranked-apart Sell r t less lawful = grind (arith, nat_tests, less)

next-apart : (side : Side) (l : LevelEntry) (ls : Levels) → AllByRecursion (λ (m : LevelEntry). l.item.0 < m.item.0) ls
    → AllByRecursion (λ (m : LevelEntry). m.item.0 ≤ most_price) ls → IsApart (ranked side l.item.0) (map (level_in side) ls)
next-apart side l [] above lawful = tt
next-apart side l (m ∷ ls) above lawful = ranked-apart side l.item.0 m.item.0 above.0 lawful.0

module _ {T : Type 0} where
  module _ (side : Side) where
    abbrev orders_in : Orders T → List (Order T)
    orders_in es = map (order_in side) (map row_of es)

    -- the orders of one rank in front of others are one level
    group-levels : (r : ℕ) (e : OrderEntry T) (es rest : Orders T) (ls : List Level) → levels_of (orders_in rest) ≡ ls → IsApart (ranked side r) ls
        → AllByRecursion (λ (x : OrderEntry T). x.item.rank ≡ r) (e ∷ es)
        → levels_of (orders_in ((e ∷ es) ++ rest)) ≡ record { price = ranked side r; quantity = quantity_of (e ∷ es); count = length (e ∷ es) } ∷ ls
    group-levels r e [] rest ls behind apart all =
        ap (joined (order_in side (row_of e))) behind
        ∙ joined-apart (order_in side (row_of e)) ls (subst (λ (k : ℕ). IsApart (ranked side k) ls) (sym all.0) apart)
        ∙ same-level _ _ _ _ _ _ ls (ap (ranked side) all.0) (omega arith) (omega arith)
    group-levels r e (f ∷ es) rest ls behind apart all =
        let more = group-levels r f es rest ls behind apart all.1 in
        ap (joined (order_in side (row_of e))) more
        ∙ joined-here (order_in side (row_of e)) (record { price = ranked side r; quantity = quantity_of (f ∷ es); count = length (f ∷ es) }) ls (ap (ranked side) (sym all.0))
        ∙ same-level _ _ _ _ _ _ ls (ap (ranked side) all.0) (omega arith) (omega arith)

    ranks-of : (l : LevelEntry) (group : Orders T) → AllByRecursion (IsOf l) group → AllByRecursion (λ (x : OrderEntry T). x.item.rank ≡ l.item.0) group
    ranks-of l [] all = tt
    ranks-of l (e ∷ group) all = (all.0.rank, ranks-of l group all.1)

    pub summed-levels : (ls : Levels) (es : Orders T) → AreLaid ls es → Rise ls → AllByRecursion (λ (l : LevelEntry). l.item.0 ≤ most_price) ls
        → levels_of (orders_in es) ≡ map (level_in side) ls
    summed-levels [] es laid rise lawful = ap (λ (xs : Orders T). levels_of (orders_in xs)) laid
    summed-levels (l ∷ ls) es laid rise lawful =
        ap (λ (xs : Orders T). levels_of (orders_in xs)) laid.2 ∙ go laid.0 laid.3 (summed-levels ls laid.1 laid.4 rise.1 lawful.1)
      where
        go : (group : Orders T) → IsLevel l group → levels_of (orders_in laid.1) ≡ map (level_in side) ls → levels_of (orders_in (group ++ laid.1)) ≡ map (level_in side) (l ∷ ls)
        go [] level behind = absurd (let none = level.last in cc)
        go (e ∷ group) level behind =
            group-levels l.item.0 e group laid.1 _ behind (next-apart side l ls rise.0 lawful.1) (ranks-of l (e ∷ group) level.members)
            ∙ same-level _ _ _ _ _ _ (map (level_in side) ls) refl (sym level.quantity) (sym level.count)

    -- of a ladder
    pub ladder-levels : (ls : Levels) (es : Orders T) → AreLaid ls es → Rise ls → AreLawful (map row_of es) → levels_of (orders_in es) ≡ map (level_in side) ls
    ladder-levels ls es laid rise lawful = summed-levels ls es laid rise (lawful-levels ls es laid lawful)
