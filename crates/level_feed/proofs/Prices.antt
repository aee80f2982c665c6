-- The prices of trades with the first orders of a side: none twice, and no other price changes.
use Rattle.std.proofs.Common.{◌≡◌, ℕ, ◌-◌, ◌==◌, false, List, [], ◌∷◌, ◌++◌, refl, ◌∙◌, arith, inl, inr}
use Rattle.std.proofs.{lemmas.Bool.Decides.eqb_tells, lemmas.Bool.Decides.nat_tests}
use Rattle.std.specs.List.{AllByRecursion}
use Rattle.order_book.specs.Queue.{IsNoWorse, IsWorse, IsInOrder, trades_of_first}
use Rattle.order_book.specs.Book.{Book, opposite}
use Rattle.order_book.specs.{declared.side.Side.TheVariants.Buy, declared.side.Side.TheVariants.Sell, declared.side.Side.Side, declared.order.Order.Order, declared.order.Trade.Trade}
use Rattle.level_feed.specs.declared.update.LevelUpdate.{LevelUpdate}
use Rattle.level_feed.specs.Feed.{is_of, update_of, updates_at, prices_behind, prices_of, AreOfDistinctLevels}
use Rattle.level_feed.proofs.Following.{IsNone, own-side, other-side}

-- a weaker fact holds of all
pub all-weaker : {X : Type 0} (P Q : X → Type 0) → ((x : X) → P x → Q x) → (xs : List X) → AllByRecursion P xs → AllByRecursion Q xs
all-weaker P Q weaker [] all = tt
all-weaker P Q weaker (x ∷ xs) all = (weaker x all.0, all-weaker P Q weaker xs all.1)

pub all-append : {X : Type 0} (P : X → Type 0) (xs ys : List X) → AllByRecursion P xs → AllByRecursion P ys → AllByRecursion P (xs ++ ys)
all-append P [] ys first second = second
all-append P (x ∷ xs) ys first second = (first.0, all-append P xs ys first.1 second)

module _ {T : Type 0} where
  -- where none of their prices is this one, none of the trades has it
  abbrev pub NoneAt : ℕ → List (Trade T) → Type 0
  NoneAt price ts = AllByRecursion (λ (t : Trade T). (t.price == price) ≡ false) ts

  none-behind : (price p : ℕ) (ts : List (Trade T)) → (p == price) ≡ false → IsNone price (prices_behind p ts) → NoneAt price ts
  none-behind price p [] other none = tt
  none-behind price p (t ∷ ts) other none = elim (eqb_tells t.price p) [
    | inl h ↦
        let here : (t.price == price) ≡ false = rw h.1 other in
        let rest : IsNone price (prices_behind p ts) = rw h.0 at none in
        (here, none-behind price p ts other rest)
    | inr h ↦
        let rest : IsNone price (t.price ∷ prices_behind t.price ts) = rw h.0 at none in
        (rest.0, none-behind price t.price ts rest.0 rest.1)
  ]

  pub none-traded : (price : ℕ) (ts : List (Trade T)) → IsNone price (prices_of ts) → NoneAt price ts
  none-traded price [] none = tt
  none-traded price (t ∷ ts) none = (none.0, none-behind price t.price ts none.0 none.1)

  -- what is true of the prices of all trades
  module _ (P : ℕ → Type 0) where
    behind-all : (p : ℕ) (ts : List (Trade T)) → AllByRecursion (λ (t : Trade T). P t.price) ts → AllByRecursion P (prices_behind p ts)
    behind-all p [] all = tt
    behind-all p (t ∷ ts) all = elim (eqb_tells t.price p) [
      | inl h ↦ rw h.0 (behind-all p ts all.1)
      | inr h ↦ rw h.0 (all.0, behind-all t.price ts all.1)
    ]

    pub prices-all : (ts : List (Trade T)) → AllByRecursion (λ (t : Trade T). P t.price) ts → AllByRecursion P (prices_of ts)
    prices-all [] all = tt
    prices-all (t ∷ ts) all = (all.0, behind-all t.price ts all.1)

  -- what is true of the prices of orders is true of their trades
  trades-all : (P : ℕ → Type 0) (n : ℕ) (xs : List (Order T)) → AllByRecursion (λ (x : Order T). P x.price) xs → AllByRecursion (λ (t : Trade T). P t.price) (trades_of_first n xs)
  trades-all P n [] all = tt
  trades-all P n (x ∷ xs) all = elim (eqb_tells n 0) [
    | inl none ↦ rw none.0 tt
    | inr some ↦ rw some.0 (all.0, trades-all P (n - x.quantity) xs all.1)
  ]

  -- trades in the order of prices, as orders in order trade
  abbrev pub AreInOrder : Side → List (Trade T) → Type 0
  AreInOrder side [] = Unit {0}
  AreInOrder side (t ∷ ts) = AllByRecursion (λ (u : Trade T). IsNoWorse side t.price u.price) ts × AreInOrder side ts

  pub trades-ordered : (side : Side) (n : ℕ) (xs : List (Order T)) → IsInOrder side xs → AreInOrder side (trades_of_first n xs)
  trades-ordered side n [] sorted = tt
  trades-ordered side n (x ∷ xs) sorted = elim (eqb_tells n 0) [
    | inl none ↦ rw none.0 tt
    | inr some ↦ rw some.0 (trades-all (λ p. IsNoWorse side x.price p) (n - x.quantity) xs sorted.0, trades-ordered side (n - x.quantity) xs sorted.1)
  ]

worse-other : (side : Side) (p q : ℕ) → IsNoWorse side p q → (q == p) ≡ false → IsWorse side q p
worse-other Buy p q no_worse other = grind (arith, nat_tests, no_worse, other)
worse-other Sell p q no_worse other = grind (arith, nat_tests, no_worse, other)

worse-still : (side : Side) (p q r : ℕ) → IsWorse side q p → IsWorse side r q → IsWorse side r p
worse-still Buy p q r first second = omega (arith, first, second)
worse-still Sell p q r first second = omega (arith, first, second)

worse-apart : (side : Side) (p q : ℕ) → IsWorse side q p → (q == p) ≡ false
worse-apart Buy p q worse = grind (arith, nat_tests, worse)
worse-apart Sell p q worse = grind (arith, nat_tests, worse)

-- no price is there twice
abbrev pub AreApart : List ℕ → Type 0
AreApart [] = Unit {0}
AreApart (p ∷ ps) = IsNone p ps × AreApart ps

module _ {T : Type 0} where
  -- the prices behind a trade are worse than its price
  worse-behind : (side : Side) (p : ℕ) (ts : List (Trade T)) → AllByRecursion (λ (t : Trade T). IsNoWorse side p t.price) ts → AreInOrder side ts
      → AllByRecursion (λ q. IsWorse side q p) (prices_behind p ts)
  worse-behind side p [] no_worse sorted = tt
  worse-behind side p (t ∷ ts) no_worse sorted = elim (eqb_tells t.price p) [
    | inl h ↦ rw h.0 (worse-behind side p ts no_worse.1 sorted.1)
    | inr h ↦
        let worse : IsWorse side t.price p = worse-other side p t.price no_worse.0 h.0 in
        rw h.0 (worse, all-weaker _ _ (λ q more. worse-still side p t.price q worse more) (prices_behind t.price ts) (worse-behind side t.price ts sorted.0 sorted.1))
  ]

  apart-behind : (side : Side) (p : ℕ) (ts : List (Trade T)) → AreInOrder side ts → AreApart (prices_behind p ts)
  apart-behind side p [] sorted = tt
  apart-behind side p (t ∷ ts) sorted = elim (eqb_tells t.price p) [
    | inl h ↦ rw h.0 (apart-behind side p ts sorted.1)
    | inr h ↦ rw h.0 (all-weaker _ _ (λ q worse. worse-apart side t.price q worse) (prices_behind t.price ts) (worse-behind side t.price ts sorted.0 sorted.1), apart-behind side t.price ts sorted.1)
  ]

  pub prices-apart : (side : Side) (ts : List (Trade T)) → AreInOrder side ts → AreApart (prices_of ts)
  prices-apart side [] sorted = tt
  prices-apart side (t ∷ ts) sorted =
      (all-weaker _ _ (λ q worse. worse-apart side t.price q worse) (prices_behind t.price ts) (worse-behind side t.price ts sorted.0 sorted.1), apart-behind side t.price ts sorted.1)

  -- Updates of prices of a side are of distinct levels if no price is there twice; also with updates of the other side behind them.
  module _ (b : Book T) (side : Side) where
    own-apart : (p : ℕ) (ps : List ℕ) → IsNone p ps → AllByRecursion (λ (v : LevelUpdate). is_of side p v ≡ false) (updates_at b side ps)
    own-apart p [] none = tt
    own-apart p (q ∷ ps) none = (own-side b side p q ∙ none.0, own-apart p ps none.1)

    pub distinct-own : (ps : List ℕ) → AreApart ps → AreOfDistinctLevels (updates_at b side ps)
    distinct-own [] apart = tt
    distinct-own (p ∷ ps) apart = (own-apart p ps apart.0, distinct-own ps apart.1)

    other-apart : (p : ℕ) (ps : List ℕ) → AllByRecursion (λ (v : LevelUpdate). is_of (opposite side) p v ≡ false) (updates_at b side ps)
    other-apart p [] = tt
    other-apart p (q ∷ ps) = (other-side b side p q, other-apart p ps)

  pub distinct-both : (b : Book T) (side : Side) (ps own : List ℕ) → AreApart ps → AreApart own → AreOfDistinctLevels (updates_at b (opposite side) ps ++ updates_at b side own)
  distinct-both b side [] own apart others = distinct-own b side own others
  distinct-both b side (p ∷ ps) own apart others =
      (all-append (λ (v : LevelUpdate). is_of (opposite side) p v ≡ false) (updates_at b (opposite side) ps) (updates_at b side own) (own-apart b (opposite side) p ps apart.0) (other-apart b side p own), distinct-both b side ps own apart.1 others)

  -- each update says what rests there now
  abbrev pub AreCurrent : Book T → List LevelUpdate → Type 0
  AreCurrent b us = AllByRecursion (λ (u : LevelUpdate). u ≡ update_of b u.side u.price) us

  current-own : (b : Book T) (side : Side) (ps : List ℕ) → AreCurrent b (updates_at b side ps)
  current-own b side [] = tt
  current-own b side (p ∷ ps) = (refl, current-own b side ps)

  pub current-both : (b : Book T) (s t : Side) (ps qs : List ℕ) → AreCurrent b (updates_at b s ps ++ updates_at b t qs)
  current-both b s t ps qs = all-append (λ (u : LevelUpdate). u ≡ update_of b u.side u.price) (updates_at b s ps) (updates_at b t qs) (current-own b s ps) (current-own b t qs)
