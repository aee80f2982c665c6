-- The best price of an auction is sought along the levels of one side, the best first, while the worst levels of the other are passed by.
use Rattle.std.specs.Prelude.{◌⊎◌, reverse}
use Rattle.std.proofs.Common.{◌≡◌, ℕ, suc, ◌+◌, ◌-◌, ◌≤◌, ◌<◌, min, max, ◌==◌, ◌++◌, Bool, List, [], ◌∷◌, Option, Some, None, true, false, refl, sym, ap, subst, ◌∙◌, inl, inr, arith, if◌then◌else◌}
use Rattle.std.proofs.{lemmas.Bool.Decides.eqb_tells, lemmas.Bool.Decides.nat_tests, lemmas.List.reverse-append}
use Rattle.std.specs.{List.AllByRecursion, Iterator.YieldsFirst}
use Rattle.sorted_arena.proofs.CallerLemmas.{all-both}
use Rattle.sorted_arena.proofs.OrdLemmas.{recursion-map as all-weaker}
use Rattle.order_book.specs.Queue.{Queue, IsNoWorse, IsWorse, IsInOrder, IsSound, joined, levels_of, meets, within, total, orders_at}
use Rattle.order_book.specs.Book.{opposite}
use Rattle.order_book.specs.Auction.{auction_at, offered_at, IsNoBetter, NoneIsBetter}
use Rattle.order_book.specs.AuctionSteps.{left_of, left_within, quantity_of, IsOfOrder}
use Rattle.order_book.specs.{declared.side.Side.TheVariants.Buy, declared.side.Side.TheVariants.Sell, declared.side.Side.Side, declared.level.Level.Level, declared.order.Order.Order, declared.auction.Auction.Auction}
use Rattle.order_book.proofs.{Levels.AreInOrder, Levels.offers, Levels.offers-within, Levels.levels-in_order, Levels.levels-no_worse}
use Rattle.order_book.proofs.Meeting.{met-better, met-worse, unmet-better, met-own, unmet-narrower}
use Rattle.order_book.proofs.Preferring.{no_better-same, no_better-then, same-auction}

-- what holds of some is turned around with them
module _ (P : Level → Type 0) where
  all-last : (ls : List Level) (m : Level) → AllByRecursion P ls → P m → AllByRecursion P (ls ++ m ∷ [])
  all-last [] m all last = (last, tt)
  all-last (l ∷ ls) m all last = (all.0, all-last ls m all.1 last)

  all-turned : (ls : List Level) → AllByRecursion P ls → AllByRecursion P (reverse ls)
  all-turned [] all = tt
  all-turned (l ∷ ls) all = rw (reverse-append (l ∷ []) ls) (all-last (reverse ls) l (all-turned ls all.1) all.0)

-- levels with the worst first
abbrev pub AreWorstFirst : Side → List Level → Type 0
AreWorstFirst side [] = Unit {0}
AreWorstFirst side (l ∷ ls) = AllByRecursion (λ (m : Level). IsNoWorse side m.price l.price) ls × AreWorstFirst side ls

worst-last : (side : Side) (ls : List Level) (m : Level) → AreWorstFirst side ls → AllByRecursion (λ (l : Level). IsNoWorse side m.price l.price) ls → AreWorstFirst side (ls ++ m ∷ [])
worst-last side [] m sorted all = (tt, tt)
worst-last side (l ∷ ls) m sorted all = (all-last (λ k. IsNoWorse side k.price l.price) ls m sorted.0 all.0, worst-last side ls m sorted.1 all.1)

worst-turned : (side : Side) (ls : List Level) → AreInOrder side ls → AreWorstFirst side (reverse ls)
worst-turned side [] sorted = tt
worst-turned side (l ∷ ls) sorted = rw (reverse-append (l ∷ []) ls)
    (worst-last side (reverse ls) l (worst-turned side ls sorted.1) (all-turned (λ m. IsNoWorse side l.price m.price) ls sorted.0))

-- what levels hold, and offer, doesn't depend on their order
quantity-last : (ls : List Level) (m : Level) → quantity_of (ls ++ m ∷ []) ≡ quantity_of ls + m.quantity
quantity-last [] m = omega arith
quantity-last (l ∷ ls) m = omega (arith, quantity-last ls m)

quantity-turned : (ls : List Level) → quantity_of (reverse ls) ≡ quantity_of ls
quantity-turned [] = refl
quantity-turned (l ∷ ls) = rw (reverse-append (l ∷ []) ls) (omega (arith, quantity-last (reverse ls) l, quantity-turned ls))

offers-last : (side : Side) (limit : ℕ) (ls : List Level) (m : Level) → offers side limit (ls ++ m ∷ []) ≡ offers side limit ls + (if meets side m.price limit then m.quantity else 0)
offers-last side limit [] m = omega arith
offers-last side limit (l ∷ ls) m = omega (arith, offers-last side limit ls m)

offers-turned : (side : Side) (limit : ℕ) (ls : List Level) → offers side limit (reverse ls) ≡ offers side limit ls
offers-turned side limit [] = refl
offers-turned side limit (l ∷ ls) = rw (reverse-append (l ∷ []) ls) (omega (arith, offers-last side limit (reverse ls) l, offers-turned side limit ls))

module _ {T : Type 0} where
  -- the levels hold what the orders do
  quantity-joined : (x : Order T) (ls : List Level) → quantity_of (joined x ls) ≡ x.quantity + quantity_of ls
  quantity-joined x [] = refl
  quantity-joined x (l ∷ ls) = elim (l.price == x.price) as (λ b. quantity_of
      (if b then record { price = x.price; quantity = x.quantity + l.quantity; count = suc l.count } ∷ ls else record { price = x.price; quantity = x.quantity; count = 1 } ∷ l ∷ ls) ≡ x.quantity + (l.quantity + quantity_of ls)) [
        | true ↦ omega arith
        | false ↦ refl
      ]

  pub quantity-levels : (xs : List (Order T)) → quantity_of (levels_of xs) ≡ total xs
  quantity-levels [] = refl
  quantity-levels (x ∷ xs) = omega (arith, quantity-joined x (levels_of xs), quantity-levels xs)

-- a step of an iterator gives the worst level that is left
pub left-next : (old new : List Level) (r : Option Level) → YieldsFirst (λ left. left) old r new → left_of r new ≡ old
left-next old new None steps = sym steps.0
left-next old new (Some l) steps = sym steps

-- levels from the worst one on, of which those that don't meet a limit are passed by
module _ (side : Side) (limit : ℕ) where
  all-met : (p : ℕ) (ls : List Level) → meets side p limit ≡ true → AllByRecursion (λ (m : Level). IsNoWorse side m.price p) ls → offers side limit ls ≡ quantity_of ls
  all-met p [] met better = refl
  all-met p (m ∷ ms) met better = rw (met-better side p m.price limit better.0 met) (omega (arith, all-met p ms met better.1))

  pub left-stays : (l : Level) (ls : List Level) → meets side l.price limit ≡ true → left_within side limit (l ∷ ls) ≡ l ∷ ls
  left-stays l ls met = rw met refl

  pub left-passes : (l : Level) (ls : List Level) → meets side l.price limit ≡ false → left_within side limit (l ∷ ls) ≡ left_within side limit ls
  left-passes l ls unmet = rw unmet refl

  -- all that are left meet it
  left-met : (ls : List Level) → AreWorstFirst side ls → offers side limit (left_within side limit ls) ≡ quantity_of (left_within side limit ls)
  left-met [] sorted = refl
  left-met (l ∷ ls) sorted = go (left-met ls sorted.1) (meets side l.price limit) refl
    where
      go : offers side limit (left_within side limit ls) ≡ quantity_of (left_within side limit ls) → (b : Bool) → meets side l.price limit ≡ b
          → offers side limit (left_within side limit (l ∷ ls)) ≡ quantity_of (left_within side limit (l ∷ ls))
      go rest true met = rw (left-stays l ls met, met) (omega (arith, all-met l.price ls met sorted.0))
      go rest false unmet = rw (left-passes l ls unmet) rest

  left-sorted : (ls : List Level) → AreWorstFirst side ls → AreWorstFirst side (left_within side limit ls)
  left-sorted [] sorted = tt
  left-sorted (l ∷ ls) sorted = elim (meets side l.price limit) as (λ b. AreWorstFirst side (if b then l ∷ ls else left_within side limit ls)) [
    | true ↦ sorted
    | false ↦ left-sorted ls sorted.1
  ]

  -- and those that were passed by don't meet a narrower one
  left-narrower : (narrower : ℕ) → ((p : ℕ) → meets side p limit ≡ false → meets side p narrower ≡ false) → (ls : List Level)
      → offers side narrower (left_within side limit ls) ≡ offers side narrower ls
  left-narrower narrower less [] = refl
  left-narrower narrower less (l ∷ ls) = go (left-narrower narrower less ls) (meets side l.price limit) refl
    where
      go : offers side narrower (left_within side limit ls) ≡ offers side narrower ls → (b : Bool) → meets side l.price limit ≡ b
          → offers side narrower (left_within side limit (l ∷ ls)) ≡ offers side narrower (l ∷ ls)
      go rest true met = rw (left-stays l ls met) refl
      go rest false unmet = rw (left-passes l ls unmet, less l.price unmet) (omega (arith, rest))

-- levels of which each is worse than the one before
abbrev pub Worsen : Side → List Level → Type 0
Worsen side [] = Unit {0}
Worsen side (l ∷ ls) = AllByRecursion (λ (m : Level). IsWorse side m.price l.price) ls × Worsen side ls

worse-apart : (side : Side) (p q : ℕ) → IsNoWorse side p q → (q == p) ≡ false → IsWorse side q p
worse-apart Buy p q no_worse apart = grind (arith, nat_tests, no_worse, apart)
worse-apart Sell p q no_worse apart = grind (arith, nat_tests, no_worse, apart)

worse-than : (side : Side) (p q r : ℕ) → IsWorse side r q → IsWorse side q p → IsWorse side r p
worse-than Buy p q r more worse = omega (arith, more, worse)
worse-than Sell p q r more worse = omega (arith, more, worse)

module _ {T : Type 0} where
  levels-worsen : (side : Side) (xs : List (Order T)) → IsInOrder side xs → Worsen side (levels_of xs)
  levels-worsen side [] sorted = tt
  levels-worsen side (x ∷ xs) sorted = go (levels_of xs) (levels-no_worse side x.price xs sorted.0) (levels-worsen side xs sorted.1)
    where
      go : (ls : List Level) → AllByRecursion (λ (m : Level). IsNoWorse side x.price m.price) ls → Worsen side ls → Worsen side (joined x ls)
      go [] all rest = (tt, tt)
      go (l ∷ ls) all rest = elim (eqb_tells l.price x.price) [
        | inl h ↦ rw h.0 (subst (λ p. AllByRecursion (λ (m : Level). IsWorse side m.price p) ls) h.1 rest.0, rest.1)
        | inr h ↦
            let worse = worse-apart side x.price l.price all.0 h.0 in
            rw h.0 ((worse, all-weaker (λ (m : Level). IsWorse side m.price l.price) (λ (m : Level). IsWorse side m.price x.price) (λ m more. worse-than side x.price l.price m.price more worse) ls rest.0), rest)
      ]

  -- what holds of the prices of all levels holds of those of all orders
  by-joined : (P : ℕ → Type 0) (x : Order T) (ls : List Level) → AllByRecursion (λ (l : Level). P l.price) (joined x ls) → P x.price × AllByRecursion (λ (l : Level). P l.price) ls
  by-joined P x [] all = (all.0, tt)
  by-joined P x (l ∷ ls) all = elim (eqb_tells l.price x.price) [
    | inl h ↦ let here = rw h.0 at all in (here.0, (subst P (sym h.1) here.0, here.1))
    | inr h ↦ let here = rw h.0 at all in (here.0, here.1)
  ]

  by-levels : (P : ℕ → Type 0) (xs : List (Order T)) → AllByRecursion (λ (l : Level). P l.price) (levels_of xs) → AllByRecursion (λ (x : Order T). P x.price) xs
  by-levels P [] all = tt
  by-levels P (x ∷ xs) all = let both = by-joined P x (levels_of xs) all in (both.0, by-levels P xs both.1)

  -- at the price of each level there is an order
  in-joined : (P : ℕ → Type 0) (x : Order T) (ls : List Level) → P x.price → AllByRecursion (λ (l : Level). P l.price) ls → AllByRecursion (λ (l : Level). P l.price) (joined x ls)
  in-joined P x [] here all = (here, tt)
  in-joined P x (l ∷ ls) here all = elim (l.price == x.price) as (λ b. AllByRecursion (λ (m : Level). P m.price)
      (if b then record { price = x.price; quantity = x.quantity + l.quantity; count = suc l.count } ∷ ls else record { price = x.price; quantity = x.quantity; count = 1 } ∷ l ∷ ls)) [
        | true ↦ (here, all.1)
        | false ↦ (here, all)
      ]

  at-more : (p : ℕ) (x : Order T) (xs : List (Order T)) → total (orders_at p xs) ≤ total (orders_at p (x ∷ xs))
  at-more p x xs = elim (x.price == p) as (λ b. total (orders_at p xs) ≤ total (if b then x ∷ orders_at p xs else orders_at p xs)) [
    | true ↦ omega arith
    | false ↦ omega arith
  ]

  at-own : (x : Order T) (xs : List (Order T)) → 0 < x.quantity → 0 < total (orders_at x.price (x ∷ xs))
  at-own x xs some = let same : (x.price == x.price) ≡ true = grind (arith, nat_tests) in rw same (omega (arith, some))

  levels-there : (xs : List (Order T)) → AllByRecursion (λ (x : Order T). 0 < x.quantity) xs → AllByRecursion (λ (l : Level). 0 < total (orders_at l.price xs)) (levels_of xs)
  levels-there [] some = tt
  levels-there (x ∷ xs) some = in-joined (λ p. 0 < total (orders_at p (x ∷ xs))) x (levels_of xs) (at-own x xs some.0)
      (all-weaker (λ (l : Level). 0 < total (orders_at l.price xs)) (λ (l : Level). 0 < total (orders_at l.price (x ∷ xs))) (λ l there. omega (arith, there, at-more l.price x xs)) (levels_of xs) (levels-there xs some.1))

  module _ (own other : Queue T) where
    -- A level that is still to come: with what was offered before, and with what is left of the other side, it makes an auction.
    pub record IsComing (offered : ℕ) (ls left : List Level) (m : Level) : Type 0 where
      pub own_sum : offered + offers own.side m.price ls ≡ offered_at own m.price
      pub other_sum : offers other.side m.price left ≡ offered_at other m.price
      pub there : 0 < total (orders_at m.price own.orders)

    -- How far the search is: so much was offered at the levels before those to come, so much at those left of the other side; and no level
    -- before has a better auction than the best.
    pub record IsSeeking (known best : Auction) (offered against : ℕ) (left ls : List Level) : Type 0 where
      pub worsen : Worsen own.side ls
      pub coming : AllByRecursion (IsComing offered ls left) ls
      pub worst_first : AreWorstFirst other.side left
      pub against_left : against ≡ quantity_of left
      pub no_better : IsNoBetter known best
      pub found : (best ≡ known) ⊎ IsOfOrder own other best
      pub passed : (b : Auction) → IsNoBetter best b → AllByRecursion (λ (m : Level). IsNoBetter (auction_at own other m.price) b) ls → NoneIsBetter own other b own.orders

    module _ (own_sound : IsSound own) (other_sound : IsSound other) where
      abbrev pub all_left : List Level
      all_left = reverse (levels_of other.orders)

      pub seeking-start : (known : Auction) → IsSeeking known known 0 (total other.orders) all_left (levels_of own.orders)
      seeking-start known = record {
        worsen = levels-worsen own.side own.orders own_sound.in_order;
        coming = all-weaker (λ (m : Level). 0 < total (orders_at m.price own.orders)) (IsComing 0 (levels_of own.orders) all_left) (λ m there. record {
          own_sum = omega (arith, offers-within own.side m.price own.orders);
          other_sum = offers-turned other.side m.price (levels_of other.orders) ∙ offers-within other.side m.price other.orders;
          there = there;
        }) (levels_of own.orders) (levels-there own.orders own_sound.some_left);
        worst_first = worst-turned other.side (levels_of other.orders) (levels-in_order other.side other.orders other_sound.in_order);
        against_left = sym (quantity-turned (levels_of other.orders) ∙ quantity-levels other.orders);
        no_better = no_better-same known;
        found = inl refl;
        passed = λ b most all. by-levels (λ p. IsNoBetter (auction_at own other p) b) own.orders all;
      }

    module _ (apart : other.side ≡ opposite own.side) (known best : Auction) (offered against : ℕ) (left ls : List Level) (l : Level) (h : IsSeeking known best offered against left (l ∷ ls)) where
      abbrev pub next_left : List Level
      next_left = left_within other.side l.price left

      -- how much both sides offer at the price of the next level
      none-better : (ms : List Level) → AllByRecursion (λ (m : Level). IsWorse own.side m.price l.price) ms → offers own.side l.price ms ≡ 0
      none-better [] worse = refl
      none-better (m ∷ ms) worse = rw (unmet-better own.side l.price m.price worse.0) (omega (arith, none-better ms worse.1))

      pub next-offered : offered + l.quantity ≡ offered_at own l.price
      next-offered =
          let here : offers own.side l.price (l ∷ ls) ≡ l.quantity + offers own.side l.price ls = rw (met-own own.side l.price) refl in
          omega (arith, h.coming.0.own_sum, here, none-better ls h.worsen.0)

      pub next-against : quantity_of next_left ≡ offered_at other l.price
      next-against = sym (left-met other.side l.price left h.worst_first) ∙ left-narrower other.side l.price l.price (λ p unmet. unmet) left ∙ h.coming.0.other_sum

      pub next-auction : (against' : ℕ) → against' ≡ quantity_of next_left → (a : Auction)
          → a ≡ record { price = l.price; quantity = min (offered + l.quantity) against'; surplus = max (offered + l.quantity) against' - min (offered + l.quantity) against' }
          → a ≡ auction_at own other l.price
      next-auction against' is a made = made ∙ rw (next-offered, is, next-against) refl

      next-coming : AllByRecursion (IsComing (offered + l.quantity) ls next_left) ls
      next-coming = all-both (λ (m : Level). IsWorse own.side m.price l.price) (IsComing offered (l ∷ ls) left) (IsComing (offered + l.quantity) ls next_left) (λ m worse was. record {
        own_sum =
            let more : offers own.side m.price (l ∷ ls) ≡ l.quantity + offers own.side m.price ls = rw (met-worse own.side l.price m.price worse) refl in
            omega (arith, was.own_sum, more);
        other_sum = left-narrower other.side l.price m.price (λ p unmet. unmet-narrower own.side other.side l.price m.price p apart worse unmet) left ∙ was.other_sum;
        there = was.there;
      }) ls h.worsen.0 h.coming.1

      -- the search goes on with the better one of two auctions
      pub seeking-next : (against' : ℕ) → against' ≡ quantity_of next_left → (a best' : Auction) → a ≡ auction_at own other l.price
          → IsNoBetter best best' → IsNoBetter a best' → (best' ≡ best) ⊎ (best' ≡ a)
          → IsSeeking known best' (offered + l.quantity) against' next_left ls
      seeking-next against' is a best' made first second either = record {
        worsen = h.worsen.1;
        coming = next-coming;
        worst_first = left-sorted other.side l.price left h.worst_first;
        against_left = is;
        no_better = no_better-then known best best' h.no_better first;
        found = go either;
        passed = λ b most all. h.passed b (no_better-then best best' b first most)
            (no_better-then (auction_at own other l.price) best' b (subst (λ c. IsNoBetter c best') made second) most, all);
      }
        where
          here : IsOfOrder own other a
          here = record { is = made ∙ ap (auction_at own other) (sym (ap (λ (c : Auction). c.price) made)); of_order = subst (λ p. 0 < total (orders_at p own.orders)) (sym (ap (λ (c : Auction). c.price) made)) h.coming.0.there }

          go : (best' ≡ best) ⊎ (best' ≡ a) → (best' ≡ known) ⊎ IsOfOrder own other best'
          go (inl same) = subst (λ c. (c ≡ known) ⊎ IsOfOrder own other c) (sym same) h.found
          go (inr same) = inr (subst (λ c. IsOfOrder own other c) (sym same) here)

    -- at its end the best auction is known
    pub seeking-end : (known best : Auction) (offered against : ℕ) (left ls : List Level) → IsSeeking known best offered against left ls → ls ≡ [] → NoneIsBetter own other best own.orders
    seeking-end known best offered against left ls h none = h.passed best (no_better-same best) (rw none tt)
