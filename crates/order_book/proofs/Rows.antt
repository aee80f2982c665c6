-- The orders of a ladder by their ranks and lots: what pointers find there, and what a change of the list makes of them.
use Rattle.std.proofs.Common.{◌≡◌, ℕ, List, [], ◌∷◌, map, refl, arith}
use Rattle.std.proofs.lemmas.Grind.{common_steps}
use Rattle.std.specs.Option.{option_map}
use Rattle.chain_base.specs.Chain.{Entry, IsDistinct, times, entry_at, item_of, without, with_item_among, greatest_index}
use Rattle.order_book.specs.{declared.order.Lot.Lot, declared.ladder.Resting.Resting, declared.ladder.Totals.Totals}
use Rattle.order_book.specs.Ladder.{row_of}

-- the orders of a ladder, and its levels
abbrev pub OrderEntry : Type 0 → Type 0
OrderEntry T = Entry (Resting T)

abbrev pub LevelEntry : Type 0
LevelEntry = Entry (ℕ × Totals)

abbrev pub Orders : Type 0 → Type 0
Orders T = List (OrderEntry T)

abbrev pub Levels : Type 0
Levels = List LevelEntry

module _ {T : Type 0} where
  -- the rank and the lot of an order
  abbrev pub row_item : Resting T → ℕ × Lot T
  row_item r = (r.rank, r.lot)

  pub times-rows : (i : ℕ) (es : Orders T) → times i (map row_of es) ≡ times i es
  times-rows i [] = refl
  times-rows i (e ∷ es) = grind (arith, common_steps, times-rows i es)

  pub distinct-rows : (es : Orders T) → IsDistinct es → IsDistinct (map row_of es)
  distinct-rows es distinct i = rw (times-rows i es) (distinct i)

  pub rows-distinct : (es : Orders T) → IsDistinct (map row_of es) → IsDistinct es
  rows-distinct es distinct i = rw (← times-rows i es) (distinct i)

  entry-rows : (es : Orders T) (i : ℕ) → entry_at (map row_of es) i ≡ option_map (λ (e : ℕ × Resting T). (e.0, row_item e.1)) (entry_at es i)
  entry-rows [] i = refl
  entry-rows (e ∷ es) i = grind (arith, common_steps, entry-rows es i)

  -- a pointer finds the rank and the lot of the order that it names
  pub item-rows : (es : Orders T) (p : ℕ × ℕ) → item_of (map row_of es) p ≡ option_map row_item (item_of es p)
  item-rows es p = grind (arith, common_steps, entry-rows es p.0)

  pub without-rows : (i : ℕ) (es : Orders T) → without i (map row_of es) ≡ map row_of (without i es)
  without-rows i [] = refl
  without-rows i (e ∷ es) = grind (arith, common_steps, without-rows i es)

  pub with_item-rows : (es : Orders T) (i : ℕ) (r : Resting T) → map row_of (with_item_among es i r) ≡ with_item_among (map row_of es) i (row_item r)
  with_item-rows [] i r = refl
  with_item-rows (e ∷ es) i r = grind (arith, common_steps, with_item-rows es i r)

  pub greatest-rows : (es : Orders T) → greatest_index (map row_of es) ≡ greatest_index es
  greatest-rows [] = refl
  greatest-rows (e ∷ es) = grind (arith, common_steps, greatest-rows es)
