-- The orders at a price, and from a price on: which entries they are, and how levels sum them up.
use Rattle.std.proofs.Common.{◌≡◌, ℕ, ◌+◌, ◌≤◌, ◌==◌, true, false, List, [], ◌∷◌, filter, length, map, leb, Option, Some, None, refl, sym, ap, ◌∙◌, arith, inl, inr, if◌then◌else◌}
use Rattle.std.proofs.{lemmas.Bool.Decides.eqb_tells, lemmas.Bool.Decides.nat_tests}
use Rattle.std.specs.{Prelude.Bool, Iterator.YieldsFirst}
use Rattle.std.proofs.lemmas.Grind.{common_steps}
use Rattle.std.specs.{List.AllByRecursion, Ordering.is_eq, Ordering.nat_cmp}
use Rattle.sorted_arena.specs.Chain.{IsDistinct, item_of, times}
use Rattle.sorted_arena.specs.Sorted.{first_where, pointer_of}
use Rattle.sorted_arena.proofs.CallerLemmas.{filter-none, found-here, distinct-rest}
use Rattle.sorted_arena.proofs.OrdLemmas.{recursion-map as all-weaker}
use Rattle.order_book.specs.Queue.{IsNoWorse, IsInOrder, meets, total, joined, levels_of, orders_from, orders_at, summed, level_at, top_of}
use Rattle.order_book.specs.QueueLayout.{most_price, ranked, order_in, level_in, summed_level, AreLawful}
use Rattle.order_book.specs.{declared.side.Side.TheVariants.Buy, declared.side.Side.TheVariants.Sell, declared.side.Side.Side, declared.level.Level.Level, declared.order.Order.Order}
use Rattle.order_book.proofs.{Ranks.Entries, Reading.is_from, Places.some-same}
use Rattle.order_book.specs.declared.ladder.Totals.{Totals}
use Rattle.order_book.proofs.Rows.{LevelEntry, Levels}

-- where q is worse than p, no price that is no better than q is p
apart-worse : (side : Side) (p q r : ℕ) → IsNoWorse side p q → IsNoWorse side q r → (q == p) ≡ false → (r == p) ≡ false
apart-worse Buy p q r worse further other = grind (arith, nat_tests, worse, further, other)
apart-worse Sell p q r worse further other = grind (arith, nat_tests, worse, further, other)

module _ {T : Type 0} where
  -- none of the orders behind one of a worse price is at the price
  at-behind : (side : Side) (price : ℕ) (x : Order T) (xs : List (Order T)) → IsInOrder side (x ∷ xs) → IsNoWorse side price x.price → (x.price == price) ≡ false → orders_at price (x ∷ xs) ≡ []
  at-behind side price x xs sorted worse other = filter-none (λ (y : Order T). y.price == price) (x ∷ xs)
      (other, all-weaker _ _ (λ y further. apart-worse side price x.price y.price worse further other) xs sorted.0)

  -- the level of these orders
  abbrev sum_of : ℕ → List (Order T) → Level
  sum_of price xs = record { price = price; quantity = total xs; count = length xs }

  own-price : (x : Order T) → (x.price == x.price) ≡ true
  own-price x = grind (arith, nat_tests)

same-sum : (price n m i j : ℕ) (ls : List Level) → n ≡ m → i ≡ j
    → ◌≡◌ {A = List Level} (record { price = price; quantity = n; count = i } ∷ ls) (record { price = price; quantity = m; count = j } ∷ ls)
same-sum price n m i j ls quantities counts = rw (quantities, counts) refl

module _ {T : Type 0} where
  -- an order in front of a level of the same price, and of another one, behind which none has its price
  joins-level : (x : Order T) (price : ℕ) (ys : List (Order T)) (ls : List Level) → price ≡ x.price
      → joined x (sum_of price (orders_at price ys) ∷ ls) ≡ sum_of x.price (orders_at x.price (x ∷ ys)) ∷ ls
  joins-level x price ys ls same = rw (same, own-price x) (same-sum x.price _ _ _ _ ls (omega arith) (omega arith))

  begins-level : (x : Order T) (l : Level) (ys : List (Order T)) (ls : List Level) → (l.price == x.price) ≡ false → orders_at x.price ys ≡ []
      → joined x (l ∷ ls) ≡ sum_of x.price (orders_at x.price (x ∷ ys)) ∷ l ∷ ls
  begins-level x l ys ls other none = rw (other, own-price x, none) (same-sum x.price _ _ _ _ (l ∷ ls) (omega arith) (omega arith))

  -- the first level of orders in order sums up all that are at the first one's price
  first-level : (side : Side) (x : Order T) (xs : List (Order T)) → IsInOrder side (x ∷ xs) → (ls : List Level) × (levels_of (x ∷ xs) ≡ sum_of x.price (orders_at x.price (x ∷ xs)) ∷ ls)
  first-level side x [] sorted = ([], rw (own-price x) (same-sum x.price _ _ _ _ [] (omega arith) (omega arith)))
  first-level side x (y ∷ ys) sorted =
      let more = first-level side y ys sorted.1 in
      let l : Level = sum_of y.price (orders_at y.price (y ∷ ys)) in
      elim (eqb_tells y.price x.price) [
        | inl h ↦ (more.0, ap (joined x) more.1 ∙ joins-level x y.price (y ∷ ys) more.0 h.1)
        | inr h ↦ (l ∷ more.0, ap (joined x) more.1 ∙ begins-level x l (y ∷ ys) more.0 h.0 (at-behind side x.price y ys sorted.1 sorted.0.0 h.0))
      ]

  -- which is their level at that price
  pub first-summed : (side : Side) (x : Order T) (xs : List (Order T)) (l : Level) (ls : List Level) → IsInOrder side (x ∷ xs) → levels_of (x ∷ xs) ≡ l ∷ ls → Some l ≡ level_at x.price (x ∷ xs)
  first-summed side x xs l ls sorted is =
      let first = first-level side x xs sorted in
      let both : l ∷ ls ≡ sum_of x.price (orders_at x.price (x ∷ xs)) ∷ first.0 = sym is ∙ first.1 in
      let same : l ≡ sum_of x.price (orders_at x.price (x ∷ xs)) = cc in
      let here : orders_at x.price (x ∷ xs) ≡ x ∷ orders_at x.price xs = rw (own-price x) refl in
      ap (λ (m : Level). Some m) same ∙ rw here refl

-- the level of a price among others
abbrev pub level_where : ℕ → List Level → Option Level
level_where price [] = None
level_where price (l ∷ ls) = if l.price == price then Some l else level_where price ls

met-ranked : (side : Side) (price rank : ℕ) → price ≤ most_price → rank ≤ most_price → leb (ranked side price) rank ≡ meets side price (ranked side rank)
met-ranked Buy price rank bounded lawful = grind (arith, nat_tests, lawful, bounded)
met-ranked Sell price rank bounded lawful = grind (arith, nat_tests, lawful, bounded)

module _ {T : Type 0} where
  -- an order of another price in front changes none of them
  skips-order : (price : ℕ) (x : Order T) (ls : List Level) → (x.price == price) ≡ false → level_where price (joined x ls) ≡ level_where price ls
  skips-order price x [] other = rw other refl
  skips-order price x (l ∷ ls) other = elim (eqb_tells l.price x.price) [
    | inl h ↦ let apart : (l.price == price) ≡ false = rw h.1 other in rw (h.0, other, apart) refl
    | inr h ↦ rw (h.0, other) refl
  ]

  -- in the levels of orders in order it sums up those at the price
  pub level-found : (side : Side) (price : ℕ) (xs : List (Order T)) → IsInOrder side xs → level_where price (levels_of xs) ≡ level_at price xs
  level-found side price [] sorted = refl
  level-found side price (x ∷ xs) sorted = elim (eqb_tells x.price price) [
    | inl h ↦
        let first = first-level side x xs sorted in
        let here : level_where x.price (sum_of x.price (orders_at x.price (x ∷ xs)) ∷ first.0) ≡ Some (sum_of x.price (orders_at x.price (x ∷ xs))) = rw (own-price x) refl in
        ap (λ (p : ℕ). level_where p (levels_of (x ∷ xs))) (sym h.1) ∙ ap (level_where x.price) first.1 ∙ here
        ∙ first-summed side x xs (sum_of x.price (orders_at x.price (x ∷ xs))) first.0 sorted first.1 ∙ ap (λ (p : ℕ). level_at p (x ∷ xs)) h.1
    | inr h ↦
        let same : level_at price (x ∷ xs) ≡ level_at price xs = rw h.0 refl in
        skips-order price x (levels_of xs) h.0 ∙ level-found side price xs sorted.1 ∙ sym same
  ]

  -- the first level that an iterator gives, if it gives one, is the best
  pub top-first : (side : Side) (xs : List (Order T)) → IsInOrder side xs → (o : Option Level) (left new : List Level) → left ≡ levels_of xs → YieldsFirst (λ left. left) left o new → o ≡ top_of xs
  top-first side [] sorted None left new is steps = refl
  top-first side [] sorted (Some l) left new is steps = absurd (let both : [] ≡ l ∷ new = sym is ∙ steps in cc)
  top-first side (x ∷ xs) sorted None left new is steps = absurd (let both = sym (first-level side x xs sorted).1 ∙ sym is ∙ steps.0 in cc)
  top-first side (x ∷ xs) sorted (Some l) left new is steps = first-summed side x xs l new sorted (sym is ∙ steps)

  -- the quantity of a level
  pub summed-some : (price : ℕ) (xs : List (Order T)) (l : Level) → Some l ≡ summed price xs → l.quantity ≡ total xs
  summed-some price [] l is = absurd (cc)
  summed-some price (x ∷ xs) l is = let same : l ≡ sum_of price (x ∷ xs) = cc in ap (λ (m : Level). m.quantity) same

  pub summed-none : (price : ℕ) (xs : List (Order T)) → None ≡ summed price xs → 0 ≡ total xs
  summed-none price [] is = refl
  summed-none price (x ∷ xs) is = absurd (cc)

  -- the rows from the rank of a price on are the orders from the price on
  module _ (side : Side) (price : ℕ) (bounded : price ≤ most_price) where
    pub from-ranked : (es : Entries T) → AreLawful es → map (order_in side) (filter (is_from (ranked side price)) es) ≡ orders_from side price (map (order_in side) es)
    from-ranked [] lawful = refl
    from-ranked (e ∷ es) lawful = go (meets side price (ranked side e.item.0)) refl (from-ranked es lawful.1)
      where
        go : (b : Bool) → meets side price (ranked side e.item.0) ≡ b → map (order_in side) (filter (is_from (ranked side price)) es) ≡ orders_from side price (map (order_in side) es)
            → map (order_in side) (filter (is_from (ranked side price)) (e ∷ es)) ≡ orders_from side price (map (order_in side) (e ∷ es))
        go true met rest = rw (met-ranked side price e.item.0 bounded lawful.0.price, met, rest) refl
        go false unmet rest = rw (met-ranked side price e.item.0 bounded lawful.0.price, unmet) rest

-- The level of a price among the levels of a ladder, by the rank of the price.
module _ (side : Side) (price : ℕ) (bounded : price ≤ most_price) where
  abbrev is_at : LevelEntry → Bool
  is_at l = is_eq (nat_cmp (ranked side price) l.item.0)

  at-ranked : (s : Side) (rank : ℕ) → rank ≤ most_price → (ranked s rank == price) ≡ is_eq (nat_cmp (ranked s price) rank)
  at-ranked Buy rank lawful = grind (arith, nat_tests, lawful, bounded)
  at-ranked Sell rank lawful = grind (arith, nat_tests, lawful, bounded)

  more-times : (e : LevelEntry) (es : Levels) (i : ℕ) → times i es ≤ times i (e ∷ es)
  more-times e es i = grind (arith, common_steps)

  own-times : (e : LevelEntry) (es : Levels) (i : ℕ) → e.index ≡ i → 1 ≤ times i (e ∷ es)
  own-times e es i is = rw (← is) (grind (arith, common_steps))

  where-there : (es : Levels) (p : ℕ × ℕ) → Some p ≡ first_where is_at es → 1 ≤ times p.0 es
  where-there [] p first = absurd (cc)
  where-there (e ∷ es) p first = go (is_at e) first (where-there es p)
    where
      go : (b : Bool) → Some p ≡ (if b then Some (pointer_of e) else first_where is_at es) → (Some p ≡ first_where is_at es → 1 ≤ times p.0 es) → 1 ≤ times p.0 (e ∷ es)
      go true is later = own-times e es p.0 (ap (λ (q : ℕ × ℕ). q.0) (sym (some-same is)))
      go false is later = omega (arith, later is, more-times e es p.0)

  pub none-at : (ls : Levels) → AllByRecursion (λ (l : LevelEntry). l.item.0 ≤ most_price) ls → None ≡ first_where is_at ls → level_where price (map (level_in side) ls) ≡ None
  none-at [] lawful none = refl
  none-at (l ∷ ls) lawful none = go (is_at l) refl (none-at ls lawful.1)
    where
      go : (b : Bool) → is_at l ≡ b → (None ≡ first_where is_at ls → level_where price (map (level_in side) ls) ≡ None) → level_where price (map (level_in side) (l ∷ ls)) ≡ None
      go true is later = absurd (let some : first_where is_at (l ∷ ls) ≡ Some (pointer_of l) = rw is refl in cc)
      go false is later =
          let rest : first_where is_at (l ∷ ls) ≡ first_where is_at ls = rw is refl in
          rw (at-ranked side l.item.0 lawful.0, is) (later (none ∙ rest))

  pub some-at : (ls : Levels) → AllByRecursion (λ (l : LevelEntry). l.item.0 ≤ most_price) ls → IsDistinct ls → (p : ℕ × ℕ) → Some p ≡ first_where is_at ls
      → (item : ℕ × Totals) → item_of ls p ≡ Some item → level_where price (map (level_in side) ls) ≡ Some (summed_level side item.0 item.1)
  some-at [] lawful distinct p first item found = absurd (cc)
  some-at (l ∷ ls) lawful distinct p first item found = go (is_at l) refl (λ later there. some-at ls lawful.1 (distinct-rest l ls distinct) p later item there)
    where
      go : (b : Bool) → is_at l ≡ b → (Some p ≡ first_where is_at ls → item_of ls p ≡ Some item → level_where price (map (level_in side) ls) ≡ Some (summed_level side item.0 item.1))
          → level_where price (map (level_in side) (l ∷ ls)) ≡ Some (summed_level side item.0 item.1)
      go true is behind =
          let here : first_where is_at (l ∷ ls) ≡ Some (pointer_of l) = rw is refl in
          let own : p ≡ pointer_of l = some-same (first ∙ here) in
          let same : Some item ≡ Some l.item = sym found ∙ ap (item_of (l ∷ ls)) own ∙ found-here (l ∷ ls) distinct [] l ls refl in
          rw (at-ranked side l.item.0 lawful.0, is) (ap (λ (x : ℕ × Totals). Some (summed_level side x.0 x.1)) (sym (some-same same)))
      go false is behind =
          let rest : first_where is_at (l ∷ ls) ≡ first_where is_at ls = rw is refl in
          let later : Some p ≡ first_where is_at ls = first ∙ rest in
          rw (at-ranked side l.item.0 lawful.0, is) (behind later (sym (apart later) ∙ found))
        where
          apart : Some p ≡ first_where is_at ls → item_of (l ∷ ls) p ≡ item_of ls p
          apart first = elim (eqb_tells l.index p.0) [
            | inl h ↦ absurd (let twice : times p.0 (l ∷ ls) ≡ 1 + times p.0 ls = rw h.0 refl in omega (arith, twice, where-there ls p first, distinct p.0))
            | inr h ↦ rw h.0 refl
          ]
