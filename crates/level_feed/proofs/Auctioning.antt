-- What changes in an auction: the levels of both sides from which it takes.
use Rattle.std.proofs.Common.{◌≡◌, ◌⊎◌, ℕ, suc, ◌+◌, ◌-◌, ◌≤◌, ◌<◌, ◌==◌, take, true, false, List, [], ◌∷◌, ◌++◌, length, length-append, append_assoc, refl, sym, ap, ◌∙◌, arith, inl, inr, if◌then◌else◌}
use Rattle.std.proofs.{lemmas.Bool.Decides.eqb_tells, lemmas.Bool.Decides.nat_tests, lemmas.List.append-nil, lemmas.List.take_all, Math.Seq.take-append_seam}
use Rattle.order_book.specs.Queue.{Queue, IsSound, first_levels, joined, levels_of, trades_of_first}
use Rattle.order_book.specs.Book.{Book}
use Rattle.order_book.specs.{declared.side.Side.Side, declared.level.Level.Level, declared.order.Order.Order}
use Rattle.level_feed.specs.declared.update.LevelUpdate.{LevelUpdate}
use Rattle.level_feed.specs.Feed.{update_of, updates_at, prices_behind, prices_of}

-- the prices of the levels from which the first n units come; and those behind a trade at a price
abbrev pub level_prices : ℕ → List Level → List ℕ
level_prices n [] = []
level_prices n (l ∷ ls) = if n == 0 then [] else l.price ∷ level_prices (n - l.quantity) ls

abbrev prices_past : ℕ → ℕ → List Level → List ℕ
prices_past p n [] = []
prices_past p n (l ∷ ls) = if l.price == p then level_prices (n - l.quantity) ls else level_prices n (l ∷ ls)

level_prices-zero : (ls : List Level) → level_prices 0 ls ≡ []
level_prices-zero [] = refl
level_prices-zero (l ∷ ls) = refl

level_prices-none : (n : ℕ) (ls : List Level) → n ≡ 0 → level_prices n ls ≡ []
level_prices-none n ls none = ap (λ m. level_prices m ls) none ∙ level_prices-zero ls

past-none : (p n : ℕ) (ls : List Level) → n ≡ 0 → prices_past p n ls ≡ []
past-none p n [] none = refl
past-none p n (l ∷ ls) none = elim (eqb_tells l.price p) [
  | inl h ↦ rw h.0 (level_prices-none (n - l.quantity) ls (omega (arith, none)))
  | inr h ↦ rw h.0 (level_prices-none n (l ∷ ls) none)
]

level_prices-some : (n : ℕ) (l : Level) (ls : List Level) → (n == 0) ≡ false → level_prices n (l ∷ ls) ≡ l.price ∷ level_prices (n - l.quantity) ls
level_prices-some n l ls some = rw some refl

module _ {T : Type 0} where
  -- An order in front of levels: the prices past one at its price are those past one at its price, once its quantity is taken.
  past-joined : (n : ℕ) (x : Order T) (ls : List Level) → prices_past x.price n (joined x ls) ≡ prices_past x.price (n - x.quantity) ls
  past-joined n x [] = let own : (x.price == x.price) ≡ true = grind (arith, nat_tests) in rw own refl
  past-joined n x (l ∷ ls) = elim (eqb_tells l.price x.price) [
    | inl h ↦
        let own : (x.price == x.price) ≡ true = grind (arith, nat_tests) in
        let same : n - (x.quantity + l.quantity) ≡ (n - x.quantity) - l.quantity = omega arith in
        rw (h.0, own) (ap (λ m. level_prices m ls) same)
    | inr h ↦
        let own : (x.price == x.price) ≡ true = grind (arith, nat_tests) in
        rw (h.0, own) refl
  ]

  past-other : (p n : ℕ) (x : Order T) (ls : List Level) → (x.price == p) ≡ false → prices_past p n (joined x ls) ≡ level_prices n (joined x ls)
  past-other p n x [] other = rw other refl
  past-other p n x (l ∷ ls) other = elim (eqb_tells l.price x.price) [
    | inl h ↦ rw (h.0, other) refl
    | inr h ↦ rw (h.0, other) refl
  ]

  joined-prices : (n : ℕ) (x : Order T) (ls : List Level) → (n == 0) ≡ false → level_prices n (joined x ls) ≡ x.price ∷ prices_past x.price (n - x.quantity) ls
  joined-prices n x [] some = rw some refl
  joined-prices n x (l ∷ ls) some = elim (eqb_tells l.price x.price) [
    | inl h ↦
        let same : n - (x.quantity + l.quantity) ≡ (n - x.quantity) - l.quantity = omega arith in
        rw (h.0, some) (ap (λ m. x.price ∷ level_prices m ls) same)
    | inr h ↦ rw (h.0, some) refl
  ]

  trades-past : (p n : ℕ) (xs : List (Order T)) → prices_behind p (trades_of_first n xs) ≡ prices_past p n (levels_of xs)
  trades-past p n [] = refl
  trades-past p n (x ∷ xs) = elim (eqb_tells n 0) [
    | inl none ↦ let nothing : trades_of_first n (x ∷ xs) ≡ [] = rw none.0 refl in ap (prices_behind p) nothing ∙ sym (past-none p n (levels_of (x ∷ xs)) none.1)
    | inr some ↦ some_past some.0 (elim (eqb_tells x.price p) [ inl h ↦ inl h | inr h ↦ inr h.0 ]) (trades-past p (n - x.quantity) xs) (trades-past x.price (n - x.quantity) xs)
  ]
    where
      some_past : (n == 0) ≡ false → (((x.price == p) ≡ true) × (x.price ≡ p)) ⊎ ((x.price == p) ≡ false)
          → prices_behind p (trades_of_first (n - x.quantity) xs) ≡ prices_past p (n - x.quantity) (levels_of xs)
          → prices_behind x.price (trades_of_first (n - x.quantity) xs) ≡ prices_past x.price (n - x.quantity) (levels_of xs)
          → prices_behind p (trades_of_first n (x ∷ xs)) ≡ prices_past p n (levels_of (x ∷ xs))
      some_past some (inl own) here there =
          let now : prices_behind p (trades_of_first n (x ∷ xs)) ≡ prices_behind p (trades_of_first (n - x.quantity) xs) = rw (some, own.0) refl in
          now ∙ here ∙ ap (λ (q : ℕ). prices_past q (n - x.quantity) (levels_of xs)) (sym own.1) ∙ sym (past-joined n x (levels_of xs))
          ∙ ap (λ (q : ℕ). prices_past q n (levels_of (x ∷ xs))) own.1
      some_past some (inr other) here there =
          let now : prices_behind p (trades_of_first n (x ∷ xs)) ≡ x.price ∷ prices_behind x.price (trades_of_first (n - x.quantity) xs) = rw (some, other) refl in
          now ∙ ap (λ ps. x.price ∷ ps) there ∙ sym (joined-prices n x (levels_of xs) some) ∙ sym (past-other p n x (levels_of xs) other)

  -- the prices of the trades of the first n units are those of the levels from which they come
  pub trades-prices : (n : ℕ) (xs : List (Order T)) → prices_of (trades_of_first n xs) ≡ level_prices n (levels_of xs)
  trades-prices n [] = refl
  trades-prices n (x ∷ xs) = elim (eqb_tells n 0) [
    | inl none ↦ let nothing : trades_of_first n (x ∷ xs) ≡ [] = rw none.0 refl in ap prices_of nothing ∙ sym (level_prices-none n (levels_of (x ∷ xs)) none.1)
    | inr some ↦
        let now : prices_of (trades_of_first n (x ∷ xs)) ≡ x.price ∷ prices_behind x.price (trades_of_first (n - x.quantity) xs) = rw some.0 refl in
        now ∙ ap (λ ps. x.price ∷ ps) (trades-past x.price (n - x.quantity) xs) ∙ sym (joined-prices n x (levels_of xs) some.0)
  ]

  -- there are no more levels than orders
  joined-few : (x : Order T) (ls : List Level) → length (joined x ls) ≤ suc (length ls)
  joined-few x [] = omega arith
  joined-few x (l ∷ ls) = elim (eqb_tells l.price x.price) [
    | inl h ↦ rw h.0 (omega arith)
    | inr h ↦ rw h.0 (omega arith)
  ]

  pub levels-few : (xs : List (Order T)) → length (levels_of xs) ≤ length xs
  levels-few [] = omega arith
  levels-few (x ∷ xs) = omega (arith, joined-few x (levels_of xs), levels-few xs)

  pub all-levels : (q : Queue T) → IsSound q → first_levels 18446744073709551615 q.orders ≡ levels_of q.orders
  all-levels q sound = take_all 18446744073709551615 (levels_of q.orders) (omega (arith, levels-few q.orders, sound.summable.few))

  -- Levels are gone through one by one, from the best one on: which updates are still to be appended.
  module _ (b : Book T) (side : Side) (prices : List ℕ) (before : List LevelUpdate) where
    -- How far it is: so many units are still to come, from these levels.
    pub record IsNoting (units : ℕ) (updates : List LevelUpdate) (left : List Level) : Type 0 where
      pub to_come : updates ++ updates_at b side (level_prices units left) ≡ before ++ updates_at b side prices
      pub added : List LevelUpdate
      pub all : updates ≡ before ++ added

    module _ (units : ℕ) (updates : List LevelUpdate) where
      -- it is done where no unit is to come, or no level
      pub noting-filled : (left : List Level) → IsNoting units updates left → units ≡ 0 → updates ≡ before ++ updates_at b side prices
      noting-filled left h none =
          let no_more : updates_at b side (level_prices units left) ≡ [] = ap (updates_at b side) (level_prices-none units left none) in
          sym (append-nil updates) ∙ ap (λ us. updates ++ us) (sym no_more) ∙ h.to_come

      pub noting-ended : (left : List Level) → IsNoting units updates left → left ≡ [] → updates ≡ before ++ updates_at b side prices
      noting-ended left h none =
          let no_more : updates_at b side (level_prices units left) ≡ [] = ap (λ ls. updates_at b side (level_prices units ls)) none in
          sym (append-nil updates) ∙ ap (λ us. updates ++ us) (sym no_more) ∙ h.to_come

      pub noting-kept : (left : List Level) → IsNoting units updates left → take (length before) updates ≡ before
      noting-kept left h = ap (take (length before)) h.all ∙ take-append_seam before h.added

      module _ (l : Level) (ls : List Level) (h : IsNoting units updates (l ∷ ls)) (some : (units == 0) ≡ false) where
        abbrev next : LevelUpdate
        next = update_of b side l.price

        owing : updates ++ next ∷ updates_at b side (level_prices (units - l.quantity) ls) ≡ before ++ updates_at b side prices
        owing = ap (λ ps. updates ++ updates_at b side ps) (sym (level_prices-some units l ls some)) ∙ h.to_come

        pub noting-next : IsNoting (units - l.quantity) (updates ++ update_of b side l.price ∷ []) ls
        noting-next = record {
          to_come = append_assoc updates (next ∷ []) (updates_at b side (level_prices (units - l.quantity) ls)) ∙ owing;
          added = h.added ++ next ∷ [];
          all = ap (λ us. us ++ next ∷ []) h.all ∙ append_assoc before h.added (next ∷ []);
        }

        pub noting-room : length updates < length before + length (updates_at b side prices)
        noting-room =
            let later : List LevelUpdate = updates_at b side (level_prices (units - l.quantity) ls) in
            omega (arith, ap length owing, length-append updates (next ∷ later), length-append before (updates_at b side prices))

  pub noting-start : (b : Book T) (side : Side) (before : List LevelUpdate) (n : ℕ) (orders : List (Order T)) (levels : List Level) → levels ≡ levels_of orders
      → IsNoting b side (prices_of (trades_of_first n orders)) before n before levels
  noting-start b side before n orders levels is = record {
    to_come = ap (λ ps. before ++ updates_at b side ps) (ap (level_prices n) is ∙ sym (trades-prices n orders));
    added = [];
    all = sym (append-nil before);
  }
