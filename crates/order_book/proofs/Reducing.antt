-- A quantity that is written at a pointer: its order has so much left.
use Rattle.std.proofs.Common.{◌≡◌, ℕ, suc, zero, ◌<◌, [], ◌∷◌, map, Some, None, refl, sym, ap, ◌∙◌, inl, inr, arith}
use Rattle.std.proofs.lemmas.Bool.Decides.{eqb_tells}
use Rattle.std.specs.{Option.option_map}
use Rattle.sorted_arena.specs.Chain.{times, IsDistinct as AreDistinct, item_of, with_item_among}
use Rattle.sorted_arena.specs.Sorted.{Sorted, get, with_value, Updates as UpdatesArena}
use Rattle.order_book.specs.{QueueLayout.order_in, QueueLayout.queue_of, Queue.order_of, Queue.with_quantity, Queue.with_rest, Queue.reduced, Queue.Updates}
use Rattle.order_book.specs.{declared.order.Lot.Lot, declared.side.Side.Side}
use Rattle.sorted_arena.proofs.CallerLemmas.{distinct-rest, get-with_value, get-with_value_other}
use Rattle.order_book.proofs.Naming.{order_under, order_of-found, updates-found}
use Rattle.order_book.proofs.Ranks.{Entries}

module _ {T : Type 0} where
  module _ (side : Side) (p : ℕ × ℕ) (lot : Lot T) where
    -- an entry's item with another lot
    abbrev pub with_lot : ℕ × Lot T → ℕ × Lot T
    with_lot item = (item.0, lot)

    -- the orders of the entries with that lot at the pointer's index have its quantity, if its tag is the order's
    written-found : (es : Entries T) → AreDistinct es → (item : ℕ × Lot T) → item_of es p ≡ Some item → lot.tag ≡ item.1.tag
        → map (order_in side) (with_item_among es p.0 (with_lot item)) ≡ with_quantity (map (order_in side) es) p lot.quantity
    written-found [] distinct item found tagged = absurd (cc)
    written-found (e ∷ es) distinct item found tagged = elim (eqb_tells e.index p.0) [
      | inl h ↦ elim (eqb_tells e.generation p.1) [
        | inl k ↦
            let here : item_of (e ∷ es) p ≡ Some e.item = rw (h.0, k.0) refl in
            let same : item ≡ e.item = cc in
            rw (h.0, k.0, same, (tagged ∙ ap (λ (i : ℕ × Lot T). i.1.tag) same)) refl
        | inr k ↦ absurd (let none : item_of (e ∷ es) p ≡ None = rw (h.0, k.0) refl in cc)
      ]
      | inr h ↦
          let rest : item_of (e ∷ es) p ≡ item_of es p = rw h.0 refl in
          rw (h.0, written-found es (distinct-rest e es distinct) item (sym rest ∙ found) tagged) refl
    ]

    abbrev pub written : Sorted ℕ (Lot T) → Sorted ℕ (Lot T)
    written a = with_value a p (get a p) lot

    module _ (a : Sorted ℕ (Lot T)) (item : ℕ × Lot T) (found : get a p ≡ Some item) where
      shown : written a ≡ record a { entries = with_item_among a.entries p.0 (with_lot item) }
      shown = ap (λ o. with_value a p o lot) found

      pub queue-reduced : AreDistinct a.entries → lot.tag ≡ item.1.tag → 0 < lot.quantity → queue_of side (written a) ≡ reduced (queue_of side a) p lot.quantity
      queue-reduced distinct tagged some = rw shown (go lot.quantity some (written-found a.entries distinct item found tagged))
        where
          go : (n : ℕ) → 0 < n → map (order_in side) (with_item_among a.entries p.0 (with_lot item)) ≡ with_quantity (map (order_in side) a.entries) p n
              → queue_of side (record a { entries = with_item_among a.entries p.0 (with_lot item) }) ≡ reduced (queue_of side a) p n
          go zero more is = absurd (omega (arith, more))
          go (suc n) more is = rw is refl

      times-written : (es : Entries T) (i : ℕ) → times i (with_item_among es p.0 (with_lot item)) ≡ times i es
      times-written [] i = refl
      times-written (e ∷ es) i = elim (eqb_tells e.index p.0) [
        | inl h ↦ rw h.0 refl
        | inr h ↦ rw (h.0, times-written es i) refl
      ]

      distinct-reduced : AreDistinct a.entries → AreDistinct (written a).entries
      distinct-reduced distinct i = rw (shown, times-written a.entries i) (distinct i)

      -- what pointers name then
      pub updates-reduced : AreDistinct a.entries → lot.tag ≡ item.1.tag
          → Updates (queue_of side a) (queue_of side (written a)) p (option_map (λ x. with_rest x lot.quantity) (order_of (queue_of side a).orders p))
      updates-reduced distinct tagged =
          let named : order_of (queue_of side a).orders p ≡ Some (order_under side p item) = order_of-found side a.entries distinct p ∙ ap (option_map (order_under side p)) found in
          let updates : UpdatesArena a (written a) p (Some (with_lot item)) = record {
            changed = get-with_value a p lot ∙ ap (option_map (λ (e : ℕ × Lot T). (e.0, lot))) found;
            others = get-with_value_other a p lot;
          } in
          let told = updates-found side a (written a) p (Some (with_lot item)) distinct (distinct-reduced distinct) updates in
          rw (named, ← tagged) told
