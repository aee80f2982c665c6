-- What a subscriber has of a level after updates.
use Rattle.std.proofs.Common.{◌≡◌, ℕ, ◌==◌, true, false, List, [], ◌∷◌, ◌++◌, length, Option, refl, sym, ap, ◌∙◌, arith, ◌⊎◌, inl, inr, if◌then◌else◌}
use Rattle.std.proofs.{lemmas.Bool.Decides.eqb_tells}
use Rattle.std.specs.List.{AllByRecursion}
use Rattle.order_book.specs.Queue.{summed, orders_at, level_at, total}
use Rattle.order_book.specs.Book.{Book, queue, opposite}
use Rattle.order_book.specs.{declared.side.Side.TheVariants.Buy, declared.side.Side.TheVariants.Sell, declared.side.Side.Side, declared.level.Level.Level, declared.order.Order.Order}
use Rattle.level_feed.specs.declared.update.LevelUpdate.{LevelUpdate}
use Rattle.level_feed.specs.Feed.{is_of, reported, updated, update_of, updates_at, Follows}

-- one list of updates after another
updated-append : (side : Side) (price : ℕ) (us vs : List LevelUpdate) (level : Option Level) → updated side price (us ++ vs) level ≡ updated side price vs (updated side price us level)
updated-append side price [] vs level = refl
updated-append side price (u ∷ us) vs level = updated-append side price us vs (if is_of side price u then reported u else level)

-- an update of another level, and one of this level
skips : (side : Side) (price : ℕ) (u : LevelUpdate) (us : List LevelUpdate) (level : Option Level) → is_of side price u ≡ false → updated side price (u ∷ us) level ≡ updated side price us level
skips side price u us level other = let past : (if is_of side price u then reported u else level) ≡ level = rw other refl in ap (updated side price us) past

takes : (side : Side) (price : ℕ) (u : LevelUpdate) (us : List LevelUpdate) (level : Option Level) → is_of side price u ≡ true → updated side price (u ∷ us) level ≡ updated side price us (reported u)
takes side price u us level own = let now : (if is_of side price u then reported u else level) ≡ reported u = rw own refl in ap (updated side price us) now

-- what holds of a side and of the other one holds of each
by-side : (P : Side → Type 0) (side : Side) → P side → P (opposite side) → (s : Side) → P s
by-side P Buy own other Buy = own
by-side P Buy own other Sell = other
by-side P Sell own other Buy = other
by-side P Sell own other Sell = own

-- none of these prices is this one
abbrev pub IsNone : ℕ → List ℕ → Type 0
IsNone price prices = AllByRecursion (λ p. (p == price) ≡ false) prices

module _ {T : Type 0} where
  pub follows-nothing : (b : Book T) → Follows b b []
  follows-nothing b = record { levels = λ side price. refl }

  pub follows-append : (first second third : Book T) (us vs : List LevelUpdate) → Follows first second us → Follows second third vs → Follows first third (us ++ vs)
  follows-append first second third us vs before after = record {
    levels = λ side price. after.levels side price ∙ ap (updated side price vs) (before.levels side price)
        ∙ sym (updated-append side price us vs (level_at price (queue first side).orders));
  }

  -- the update of some orders reports their level
  reported-summed : (side : Side) (price : ℕ) (xs : List (Order T)) → reported (record { side = side; price = price; quantity = total xs; count = length xs }) ≡ summed price xs
  reported-summed side price [] = refl
  reported-summed side price (x ∷ xs) = elim (eqb_tells (length (x ∷ xs)) 0) [
    | inl h ↦ absurd (omega (arith, h.1))
    | inr h ↦ rw h.0 refl
  ]

  pub reported-now : (b : Book T) (side : Side) (price : ℕ) → reported (update_of b side price) ≡ level_at price (queue b side).orders
  reported-now b side price = reported-summed side price (orders_at price (queue b side).orders)

  -- an update is of no price of the other side, and of one price of its own
  pub other-side : (b : Book T) (side : Side) (price other : ℕ) → is_of (opposite side) price (update_of b side other) ≡ false
  other-side b Buy price other = refl
  other-side b Sell price other = refl

  side-other : (b : Book T) (side : Side) (price other : ℕ) → is_of side price (update_of b (opposite side) other) ≡ false
  side-other b Buy price other = refl
  side-other b Sell price other = refl

  pub own-side : (b : Book T) (side : Side) (price other : ℕ) → is_of side price (update_of b side other) ≡ (other == price)
  own-side b Buy price other = refl
  own-side b Sell price other = refl

  others-skipped : (b : Book T) (side : Side) (price : ℕ) (prices : List ℕ) (level : Option Level) → updated side price (updates_at b (opposite side) prices) level ≡ level
  others-skipped b side price [] level = refl
  others-skipped b side price (p ∷ ps) level =
      skips side price (update_of b (opposite side) p) (updates_at b (opposite side) ps) level (side-other b side price p) ∙ others-skipped b side price ps level

  -- A level after updates of prices of its side: as it is now, if one of them is its price; else as it was.
  updated-here : (b : Book T) (side : Side) (price : ℕ) (prices : List ℕ) (level : Option Level)
      → (updated side price (updates_at b side prices) level ≡ level_at price (queue b side).orders)
      ⊎ ((updated side price (updates_at b side prices) level ≡ level) × IsNone price prices)
  updated-here b side price [] level = inr (refl, tt)
  updated-here b side price (p ∷ ps) level = elim (eqb_tells p price) [
    | inl h ↦
        let now : updated side price (updates_at b side (p ∷ ps)) level ≡ updated side price (updates_at b side ps) (level_at price (queue b side).orders) =
        takes side price (update_of b side p) (updates_at b side ps) level (own-side b side price p ∙ h.0)
        ∙ ap (updated side price (updates_at b side ps)) (reported-now b side p ∙ ap (λ (q : ℕ). level_at q (queue b side).orders) h.1) in
        elim (updated-here b side price ps (level_at price (queue b side).orders)) [
          | inl k ↦ inl (now ∙ k)
          | inr k ↦ inl (now ∙ k.0)
        ]
    | inr h ↦
        let past : updated side price (updates_at b side (p ∷ ps)) level ≡ updated side price (updates_at b side ps) level =
        skips side price (update_of b side p) (updates_at b side ps) level (own-side b side price p ∙ h.0) in
        elim (updated-here b side price ps level) [
          | inl k ↦ inl (past ∙ k)
          | inr k ↦ inr (past ∙ k.0, (h.0, k.1))
        ]
  ]

  -- Updates of prices of one side, and then of some prices of the other one, lead from an old book to a new one where no other level changes.
  module _ (old new : Book T) (side : Side) (prices own : List ℕ)
      (other_kept : (price : ℕ) → IsNone price prices → level_at price (queue new (opposite side)).orders ≡ level_at price (queue old (opposite side)).orders)
      (own_kept : (price : ℕ) → IsNone price own → level_at price (queue new side).orders ≡ level_at price (queue old side).orders) where
    abbrev us : List LevelUpdate
    us = updates_at new (opposite side) prices

    abbrev vs : List LevelUpdate
    vs = updates_at new side own

    at-own : (price : ℕ) → level_at price (queue new side).orders ≡ updated side price (us ++ vs) (level_at price (queue old side).orders)
    at-own price =
        let was : Option Level = level_at price (queue old side).orders in
        let first : updated side price (us ++ vs) was ≡ updated side price vs was =
        updated-append side price us vs was ∙ ap (updated side price vs) (others-skipped new side price prices was) in
        elim (updated-here new side price own was) [
          | inl k ↦ sym (first ∙ k)
          | inr k ↦ own_kept price k.1 ∙ sym (first ∙ k.0)
        ]

    own-skipped : (price : ℕ) (ps : List ℕ) (level : Option Level) → updated (opposite side) price (updates_at new side ps) level ≡ level
    own-skipped price [] level = refl
    own-skipped price (p ∷ ps) level =
        skips (opposite side) price (update_of new side p) (updates_at new side ps) level (other-side new side price p) ∙ own-skipped price ps level

    at-other : (price : ℕ) → level_at price (queue new (opposite side)).orders ≡ updated (opposite side) price (us ++ vs) (level_at price (queue old (opposite side)).orders)
    at-other price =
        let was : Option Level = level_at price (queue old (opposite side)).orders in
        let last : updated (opposite side) price (us ++ vs) was ≡ updated (opposite side) price us was =
        updated-append (opposite side) price us vs was ∙ own-skipped price own (updated (opposite side) price us was) in
        elim (updated-here new (opposite side) price prices was) [
          | inl k ↦ sym (last ∙ k)
          | inr k ↦ other_kept price k.1 ∙ sym (last ∙ k.0)
        ]

    pub follows-both : Follows old new (us ++ vs)
    follows-both = record {
      levels = by-side (λ s. (price : ℕ) → level_at price (queue new s).orders ≡ updated s price (us ++ vs) (level_at price (queue old s).orders)) side at-own at-other;
    }
