-- An order that leaves a ladder, and one that gets another lot: what becomes of its level.
use Rattle.std.proofs.Common.{◌≡◌, ◌≢◌, ℕ, ◌+◌, ◌<◌, ◌≤◌, ◌==◌, true, false, [], ◌∷◌, ◌++◌, map, length, length-append, Option, Some, None, is_some, refl, sym, ap, subst, ◌∙◌, append_assoc, arith, rules, inl, inr}
use Rattle.std.proofs.lemmas.{Grind.common_steps, List.append-nil, Bool.Decides.eqb_tells}
use Rattle.std.specs.{List.AllByRecursion, Option.option_map}
use Rattle.chain_base.specs.Chain.{Chain, IsDistinct, times, entry_at, last_or, link_at, item_of, without, removed, with_item, with_item_among}
use Rattle.chain_base.specs.Link.{Link}
use Rattle.chain_base.proofs.CallerLemmas.{last_or-append, times-append}
use Rattle.sorted_arena.specs.Sorted.{Sorted, count, get, with_value, without_entry, with_left}
use Rattle.sorted_arena.specs.PlainPointer.{greatest_generation}
use Rattle.sorted_arena.proofs.CallerLemmas.{all-append, all-front, all-back, without_entry-some, found-here, without-here, words}
use Rattle.sorted_arena.proofs.OrdLemmas.{with_item-here, entry_at-here, link-read}
use Rattle.order_book.specs.{declared.order.Lot.Lot, declared.ladder.Resting.Resting, declared.ladder.Totals.Totals}
use Rattle.order_book.specs.QueueLayout.{AreLawful, most_price}
use Rattle.order_book.specs.Queue.{most_entries}
use Rattle.order_book.specs.Ladder.{row_of, rows_of, AreLaid, IsLevel, IsOf, Rise, IsLadder, without_order, without_last, with_other}
use Rattle.order_book.proofs.Rows.{LevelEntry, OrderEntry, Orders, Levels, row_item, distinct-rows, rows-distinct, item-rows, without-rows, with_item-rows}
use Rattle.order_book.proofs.Laying.{all-at, Located, locate, laid-with, laid-append, rise-instead, rise-without}
use Rattle.order_book.proofs.Places.{NamedCut, named-cut, last_or-behind, last_or-of, last_or-more, last-apart, distinct-back, distinct-front}
use Rattle.order_book.proofs.Joining.{quantity_of-append, Fits, group-fits, members-same}

module _ {T : Type 0} where
  -- members of a level with one among them
  members-front : (l : LevelEntry) (before : Orders T) (x : OrderEntry T) (after : Orders T) → AllByRecursion (IsOf l) (before ++ x ∷ after) → AllByRecursion (IsOf l) (before ++ after)
  members-front l before x after all = all-append (IsOf l) before after (all-front (IsOf l) before (x ∷ after) all) (all-back (IsOf l) before (x ∷ after) all).1

  -- a stale pointer names no row, and nothing leaves
  pub stale-rows : (orders : Chain (Resting T)) (p : ℕ × ℕ) → None ≡ item_of orders.entries p → rows_of orders ≡ without_entry greatest_generation (rows_of orders) p
  stale-rows orders p stale = sym (same (ap (option_map row_item) stale ∙ sym (item-rows orders.entries p)))
    where
      same : None ≡ get (rows_of orders) p → without_entry greatest_generation (rows_of orders) p ≡ rows_of orders
      same none = search (rules, words)

  -- where one leaves, there is one less
  pub removed-count : (orders new : Chain (Resting T)) (p : ℕ × ℕ) (x : ℕ × Lot T) → Some x ≡ get (rows_of orders) p → rows_of new ≡ without_entry greatest_generation (rows_of orders) p
      → count (rows_of orders) ≡ count (rows_of new) + 1
  removed-count orders new p x there after = less ∙ ap (λ (a : Sorted ℕ (Lot T)). count a + 1) (sym after)
    where
      less : count (rows_of orders) ≡ count (without_entry greatest_generation (rows_of orders) p) + 1
      less = search (rules, words)

  -- A pointer that names an order of a ladder: where that stands, and its level.
  module _ (orders : Chain (Resting T)) (levels : Sorted ℕ Totals) (ladder : IsLadder orders levels) (apart : IsDistinct levels.entries) (p : ℕ × ℕ) (r : Resting T)
      (found : item_of orders.entries p ≡ Some r) where
    pub distinct_orders : IsDistinct orders.entries
    distinct_orders = rows-distinct orders.entries ladder.distinct

    abbrev pub at : NamedCut orders.entries p r
    at = named-cut orders.entries p r found

    abbrev pub here : Located levels.entries at.front at.entry at.back
    here = locate levels.entries orders.entries at.front at.entry at.back ladder.laid at.cut

    of_level : IsOf here.level at.entry
    of_level = all-at (IsOf here.level) here.before at.entry here.after here.is_level.members

    pub pointer_is : r.level ≡ (here.level.index, here.level.generation)
    pointer_is = sym (ap (λ (s : Resting T). s.level) at.item_is) ∙ of_level.level

    pub level-found : get levels r.level ≡ Some here.level.item
    level-found = ap (get levels) pointer_is ∙ found-here levels.entries apart here.low here.level here.high here.levels_cut

    whole_cut : orders.entries ≡ here.front ++ ((here.before ++ at.entry ∷ here.after) ++ here.back)
    whole_cut = at.cut ∙ ap (λ (xs : Orders T). xs ++ at.entry ∷ at.back) here.ahead ∙ ap (λ (xs : Orders T). (here.front ++ here.before) ++ at.entry ∷ xs) here.later
        ∙ append_assoc here.front here.before (at.entry ∷ (here.after ++ here.back))
        ∙ ap (λ (xs : Orders T). here.front ++ xs) (sym (append_assoc here.before (at.entry ∷ here.after) here.back))

    rise_here : Rise (here.low ++ here.level ∷ here.high)
    rise_here = subst Rise here.levels_cut ladder.rising

    pub level-fits : length orders.entries ≤ most_entries → Fits here.level.item.1
    level-fits few = group-fits here.front (here.before ++ at.entry ∷ here.after) here.back here.level here.is_level
        (subst (λ (es : Orders T). AreLawful (map row_of es)) whole_cut ladder.lawful) (subst (λ (es : Orders T). length es ≤ most_entries) whole_cut few)

    -- the order is a part of its level
    pub part : r.lot.quantity ≤ here.level.item.1.quantity
    part = omega (arith, here.is_level.quantity, quantity_of-append here.before (at.entry ∷ here.after), ap (λ (s : Resting T). s.lot.quantity) at.item_is)

    pub some : 0 < here.level.item.1.count
    some = omega (arith, here.is_level.count, length-append here.before (at.entry ∷ here.after))

    -- the lists without the order
    left : without p.0 orders.entries ≡ at.front ++ at.back
    left = ap (λ (q : ℕ × ℕ). without q.0 orders.entries) at.pointer ∙ without-found
      where
        without-found : without at.entry.index orders.entries ≡ at.front ++ at.back
        without-found = without-behind at.front at.entry at.back orders.entries at.cut (distinct_orders at.entry.index)
          where
            without-behind : (front : Orders T) (e : OrderEntry T) (back es : Orders T) → es ≡ front ++ e ∷ back → times e.index es ≤ 1 → without e.index es ≡ front ++ back
            without-behind front e back es cut once = rw cut (go front (subst (λ (xs : Orders T). times e.index xs ≤ 1) cut once))
              where
                go : (front : Orders T) → times e.index (front ++ e ∷ back) ≤ 1 → without e.index (front ++ e ∷ back) ≡ front ++ back
                go [] once = grind (arith, common_steps)
                go (f ∷ front) once = grind (arith, common_steps, go front, times-append e.index front (e ∷ back))

    left_cut : without p.0 orders.entries ≡ here.front ++ ((here.before ++ here.after) ++ here.back)
    left_cut = left ∙ ap (λ (xs : Orders T). xs ++ at.back) here.ahead ∙ ap (λ (xs : Orders T). (here.front ++ here.before) ++ xs) here.later ∙ simp append_assoc

    lawful-left : AreLawful (map row_of (without p.0 orders.entries))
    lawful-left = subst (λ (es : Orders T). AreLawful (map row_of es)) (sym left) (go at.front (subst (λ (es : Orders T). AreLawful (map row_of es)) at.cut ladder.lawful))
      where
        go : (front : Orders T) → AreLawful (map row_of (front ++ at.entry ∷ at.back)) → AreLawful (map row_of (front ++ at.back))
        go [] all = all.1
        go (f ∷ front) all = (all.0, go front all.1)

    pub entry-found : (g : ℕ) (s : Resting T) → entry_at orders.entries p.0 ≡ Some (g, s) → s ≡ r
    entry-found g s there =
        let found_at : entry_at orders.entries p.0 ≡ Some (at.entry.generation, at.entry.item) = ap (λ (q : ℕ × ℕ). entry_at orders.entries q.0) at.pointer ∙ entry_at-here orders.entries distinct_orders at.front at.entry at.back at.cut in
        let same : ◌≡◌ {A = ℕ × (Resting T)} (g, s) (at.entry.generation, at.entry.item) = cc in
        ap (λ (e : ℕ × Resting T). e.1) same ∙ at.item_is

    -- the order's link names the one before it
    pub linked-left : (g : ℕ) (l : Link (Resting T)) → link_at orders.entries p.0 ≡ Some (g, l) → l.prev ≡ last_or None at.front
    linked-left g l there =
        let linked = link-read orders.entries distinct_orders at.front at.entry at.back at.cut g l (ap (λ (q : ℕ × ℕ). link_at orders.entries q.0) (sym at.pointer) ∙ there) in
        sym linked.prev ∙ sym (last_or-of None at.front)

    distinct-left : IsDistinct (without p.0 orders.entries)
    distinct-left i = subst (λ (es : Orders T). times i es ≤ 1) (sym left)
        (omega (arith, subst (λ (es : Orders T). times i es ≤ 1) at.cut (distinct_orders i), times-append i at.front (at.entry ∷ at.back), times-append i at.front at.back))

    module _ (new : Chain (Resting T)) (is : new ≡ removed greatest_generation orders p.0) where
      new_entries : new.entries ≡ without p.0 orders.entries
      new_entries = ap (λ (c : Chain (Resting T)). c.entries) is

      pub removed-rows : rows_of new ≡ without_entry greatest_generation (rows_of orders) p
      removed-rows =
          let there : is_some (get (rows_of orders) p) ≡ true = ap is_some (item-rows orders.entries p ∙ ap (option_map row_item) found) in
          rw is (ap (λ (es : _). with_left greatest_generation (rows_of orders) es) (sym (without-rows p.0 orders.entries))) ∙ sym (without_entry-some greatest_generation (rows_of orders) p there)

      -- what holds of the ladder then, but for its levels
      left-ladder : (after : Sorted ℕ Totals) → after.capacity ≡ levels.capacity → AreLaid after.entries (without p.0 orders.entries) → Rise after.entries → IsLadder new after
      left-ladder after capacity laid rising = record {
        laid = subst (λ (es : Orders T). AreLaid after.entries es) (sym new_entries) laid;
        rising = rising;
        distinct = distinct-rows new.entries (subst IsDistinct (sym new_entries) distinct-left);
        lawful = subst (λ (es : Orders T). AreLawful (map row_of es)) (sym new_entries) lawful-left;
        unlimited = ap (λ (c : Chain (Resting T)). c.maximum) is ∙ ladder.unlimited;
        room = omega (arith, ap (λ (c : Chain (Resting T)). c.capacity) is, capacity, ladder.room);
      }

      -- the only order of its level: the level leaves too
      module _ (last_one : here.level.item.1.count ≡ 1) where
        none-beside : (here.before ≡ []) × (here.after ≡ [])
        none-beside = (nil here.before (omega (arith, counted)), nil here.after (omega (arith, counted)))
          where
            counted : length here.before + (1 + length here.after) ≡ 1
            counted = omega (arith, here.is_level.count, last_one, length-append here.before (at.entry ∷ here.after))

            nil : (xs : Orders T) → length xs ≤ 0 → xs ≡ []
            nil [] few = refl
            nil (x ∷ xs) few = absurd (omega (arith, few))

        pub level-left : (after : Sorted ℕ Totals) → after ≡ without_entry greatest_generation levels r.level → IsLadder new after
        level-left after was = left-ladder after (ap (λ (a : Sorted ℕ Totals). a.capacity) shown)
            (subst (λ (ls : Levels). AreLaid ls (without p.0 orders.entries)) (sym entries)
            (subst (λ (es : Orders T). AreLaid (here.low ++ here.high) es) (sym (left_cut ∙ gone)) (laid-append here.low here.high here.front here.back here.laid_low here.laid_high)))
            (subst Rise (sym entries) (rise-without here.low here.level here.high rise_here))
          where
            shown : after ≡ with_left greatest_generation levels (without r.level.0 levels.entries)
            shown = was ∙ without_entry-some greatest_generation levels r.level (ap is_some level-found)

            entries : after.entries ≡ here.low ++ here.high
            entries = ap (λ (a : Sorted ℕ Totals). a.entries) shown ∙ ap (λ (q : ℕ × ℕ). without q.0 levels.entries) pointer_is
                ∙ without-here levels.entries apart here.low here.level here.high here.levels_cut

            gone : here.front ++ ((here.before ++ here.after) ++ here.back) ≡ here.front ++ here.back
            gone = rw (none-beside.0, none-beside.1) refl

      -- one of several: its part is taken off the level
      module _ (more : here.level.item.1.count ≢ 1) (prev : Option ℕ) (linked : prev ≡ last_or None at.front) where
        abbrev less : Totals
        less = without_order here.level.item.1 r.lot.quantity p.0 prev

        index_is : p.0 ≡ at.entry.index
        index_is = ap (λ (q : ℕ × ℕ). q.0) at.pointer

        some-beside : 1 ≤ length here.before + length here.after
        some-beside = omega (arith, here.is_level.count, more, length-append here.before (at.entry ∷ here.after))

        distinct_group : IsDistinct (here.before ++ at.entry ∷ here.after)
        distinct_group = distinct-front (here.before ++ at.entry ∷ here.after) here.back
            (distinct-back here.front ((here.before ++ at.entry ∷ here.after) ++ here.back) (subst IsDistinct whole_cut distinct_orders))

        last-left : last_or None (here.before ++ here.after) ≡ Some (without_last here.level.item.1.last p.0 prev)
        last-left = go here.after refl
          where
            kept : (o : Option ℕ) → (here.level.item.1.last == p.0) ≡ false → without_last here.level.item.1.last p.0 o ≡ here.level.item.1.last
            kept None other = refl
            kept (Some i) other = rw other refl

            go : (after : Orders T) → here.after ≡ after → last_or None (here.before ++ after) ≡ Some (without_last here.level.item.1.last p.0 prev)
            go [] none =
                let was : Some at.entry.index ≡ Some here.level.item.1.last =
                sym (last_or-append None here.before (at.entry ∷ [])) ∙ ap (λ (xs : Orders T). last_or None (here.before ++ at.entry ∷ xs)) (sym none) ∙ here.is_level.last in
                let same : here.level.item.1.last ≡ p.0 = sym (let inner : at.entry.index ≡ here.level.item.1.last = cc in index_is ∙ inner) in
                before here.before refl same none
              where
                before : (before : Orders T) → here.before ≡ before → here.level.item.1.last ≡ p.0 → here.after ≡ [] → last_or None (here.before ++ []) ≡ Some (without_last here.level.item.1.last p.0 prev)
                before [] nil same none = absurd (omega (arith, some-beside, ap length nil, ap length none))
                before (b ∷ bs) cons same none =
                    let end = last_or-more b bs in
                    let has : last_or None here.before ≡ Some end.0 = ap (last_or None) cons ∙ end.1 in
                    let before_is : prev ≡ Some end.0 = linked ∙ ap (last_or None) here.ahead ∙ last_or-behind here.front here.before end.0 has in
                    ap (last_or None) (append-nil here.before) ∙ has ∙ taken same before_is
                  where
                    taken : {i : ℕ} → here.level.item.1.last ≡ p.0 → prev ≡ Some i → Some i ≡ Some (without_last here.level.item.1.last p.0 prev)
                    taken {i = i} same is = rw (is, same) (elim (eqb_tells p.0 p.0) [
                      | inl h ↦ rw h.0 refl
                      | inr h ↦ absurd (h.1 refl)
                    ])
            go (f ∷ fs) cons =
                let end = last_or-more f fs in
                let was : last_or None (here.before ++ at.entry ∷ f ∷ fs) ≡ Some end.0 =
                last_or-append None here.before (at.entry ∷ f ∷ fs) ∙ end.1 in
                let last_is : Some here.level.item.1.last ≡ Some end.0 = sym here.is_level.last ∙ ap (λ (xs : Orders T). last_or None (here.before ++ at.entry ∷ xs)) cons ∙ was in
                let same : here.level.item.1.last ≡ end.0 = cc in
                let others : IsDistinct (at.entry ∷ f ∷ fs) = distinct-back here.before (at.entry ∷ f ∷ fs) (subst (λ (xs : Orders T). IsDistinct (here.before ++ at.entry ∷ xs)) cons distinct_group) in
                let differs : at.entry.index ≢ end.0 = last-apart at.entry f fs end.0 others end.1 in
                let other : (here.level.item.1.last == p.0) ≡ false = elim (eqb_tells here.level.item.1.last p.0) [
                  | inl h ↦ absurd (differs (sym index_is ∙ sym h.1 ∙ same))
                  | inr h ↦ h.0
                ] in
                last_or-behind here.before (f ∷ fs) end.0 end.1 ∙ ap (λ (i : ℕ). Some i) (sym same ∙ sym (kept prev other))

        abbrev shrunk : LevelEntry
        shrunk = record here.level { item = (here.level.item.0, less) }

        is_shrunk : IsLevel shrunk (here.before ++ here.after)
        is_shrunk = record {
          members = members-same here.level shrunk (here.before ++ here.after) refl refl (members-front here.level here.before at.entry here.after here.is_level.members);
          quantity = omega (arith, here.is_level.quantity, quantity_of-append here.before (at.entry ∷ here.after), quantity_of-append here.before here.after, ap (λ (s : Resting T). s.lot.quantity) at.item_is);
          count = omega (arith, here.is_level.count, length-append here.before (at.entry ∷ here.after), length-append here.before here.after);
          last = last-left;
        }

        pub level-shrunk : (after : Sorted ℕ Totals) → after ≡ with_value levels r.level (get levels r.level) less → IsLadder new after
        level-shrunk after was = left-ladder after (ap (λ (a : Sorted ℕ Totals). a.capacity) shown)
            (subst (λ (ls : Levels). AreLaid ls (without p.0 orders.entries)) (sym entries)
            (subst (λ (es : Orders T). AreLaid (here.low ++ shrunk ∷ here.high) es) (sym left_cut)
            (laid-with here.low shrunk here.high here.front (here.before ++ here.after) here.back here.laid_low is_shrunk here.laid_high)))
            (subst Rise (sym entries) (rise-instead here.low here.level shrunk here.high refl rise_here))
          where
            shown : after ≡ record levels { entries = with_item_among levels.entries r.level.0 (here.level.item.0, less) }
            shown = was ∙ ap (λ (o : Option (ℕ × Totals)). with_value levels r.level o less) level-found

            entries : after.entries ≡ here.low ++ shrunk ∷ here.high
            entries = ap (λ (a : Sorted ℕ Totals). a.entries) shown ∙ ap (λ (q : ℕ × ℕ). with_item_among levels.entries q.0 (here.level.item.0, less)) pointer_is
                ∙ with_item-here levels.entries apart here.low here.level here.high here.levels_cut (here.level.item.0, less)

    -- another lot
    module _ (lot : Lot T) (few : lot.quantity ≤ most_price) (more : 0 < lot.quantity) where
      abbrev pub changed : Resting T
      changed = record r { lot = lot }

      abbrev pub other_totals : Totals
      other_totals = with_other here.level.item.1 r.lot.quantity lot.quantity

      abbrev x : OrderEntry T
      x = record at.entry { item = changed }

      abbrev other : LevelEntry
      other = record here.level { item = (here.level.item.0, other_totals) }

      module _ (new : Chain (Resting T)) (is : new ≡ with_item orders p.0 changed) where
        written_entries : new.entries ≡ at.front ++ x ∷ at.back
        written_entries = ap (λ (c : Chain (Resting T)). c.entries) is ∙ ap (λ (q : ℕ × ℕ). with_item_among orders.entries q.0 changed) at.pointer
            ∙ with_item-here orders.entries distinct_orders at.front at.entry at.back at.cut changed

        written_cut : new.entries ≡ here.front ++ ((here.before ++ x ∷ here.after) ++ here.back)
        written_cut = written_entries ∙ ap (λ (xs : Orders T). xs ++ x ∷ at.back) here.ahead ∙ ap (λ (xs : Orders T). (here.front ++ here.before) ++ x ∷ xs) here.later
            ∙ append_assoc here.front here.before (x ∷ (here.after ++ here.back))
            ∙ ap (λ (xs : Orders T). here.front ++ xs) (sym (append_assoc here.before (x ∷ here.after) here.back))

        pub written-rows : rows_of new ≡ with_value (rows_of orders) p (get (rows_of orders) p) lot
        written-rows = rw is (ap (λ (es : _). record (rows_of orders) { entries = es }) (with_item-rows orders.entries p.0 changed))
            ∙ sym (ap (λ (o : Option (ℕ × Lot T)). with_value (rows_of orders) p o lot) (item-rows orders.entries p ∙ ap (option_map row_item) found))

        members_written : AllByRecursion (IsOf other) (here.before ++ x ∷ here.after)
        members_written =
            let all = members-same here.level other (here.before ++ at.entry ∷ here.after) refl refl here.is_level.members in
            all-append (IsOf other) here.before (x ∷ here.after) (all-front (IsOf other) here.before (at.entry ∷ here.after) all) (
              record { rank = ap (λ (s : Resting T). s.rank) (sym at.item_is) ∙ of_level.rank; level = ap (λ (s : Resting T). s.level) (sym at.item_is) ∙ of_level.level },
              (all-back (IsOf other) here.before (at.entry ∷ here.after) all).1,
            )

        is_other : IsLevel other (here.before ++ x ∷ here.after)
        is_other = record {
          members = members_written;
          quantity = omega (arith, here.is_level.quantity, quantity_of-append here.before (at.entry ∷ here.after), quantity_of-append here.before (x ∷ here.after), ap (λ (s : Resting T). s.lot.quantity) at.item_is);
          count = here.is_level.count ∙ omega (arith, length-append here.before (at.entry ∷ here.after), length-append here.before (x ∷ here.after));
          last = last_or-append None here.before (x ∷ here.after) ∙ sym (last_or-append None here.before (at.entry ∷ here.after)) ∙ here.is_level.last;
        }

        lawful-written : AreLawful (map row_of new.entries)
        lawful-written = subst (λ (es : Orders T). AreLawful (map row_of es)) (sym written_entries) (go at.front (subst (λ (es : Orders T). AreLawful (map row_of es)) at.cut ladder.lawful))
          where
            go : (front : Orders T) → AreLawful (map row_of (front ++ at.entry ∷ at.back)) → AreLawful (map row_of (front ++ x ∷ at.back))
            go [] all = (record { price = subst (λ (s : Resting T). s.rank ≤ most_price) at.item_is all.0.price; quantity = few; some = more }, all.1)
            go (f ∷ front) all = (all.0, go front all.1)

        distinct-written : IsDistinct new.entries
        distinct-written i = subst (λ (es : Orders T). times i es ≤ 1) (sym written_entries) (omega (arith, subst (λ (es : Orders T). times i es ≤ 1) at.cut (distinct_orders i), times-append i at.front (at.entry ∷ at.back), times-append i at.front (x ∷ at.back)))

        pub written-ladder : (after : Sorted ℕ Totals) → after ≡ with_value levels r.level (get levels r.level) other_totals → IsLadder new after
        written-ladder after was = record {
          laid = subst (λ (ls : Levels). AreLaid ls new.entries) (sym entries) (subst (λ (es : Orders T). AreLaid (here.low ++ other ∷ here.high) es) (sym written_cut)
              (laid-with here.low other here.high here.front (here.before ++ x ∷ here.after) here.back here.laid_low is_other here.laid_high));
          rising = subst Rise (sym entries) (rise-instead here.low here.level other here.high refl rise_here);
          distinct = distinct-rows new.entries distinct-written;
          lawful = lawful-written;
          unlimited = ap (λ (c : Chain (Resting T)). c.maximum) is ∙ ladder.unlimited;
          room = omega (arith, ap (λ (c : Chain (Resting T)). c.capacity) is, ap (λ (a : Sorted ℕ Totals). a.capacity) shown, ladder.room);
        }
          where
            shown : after ≡ record levels { entries = with_item_among levels.entries r.level.0 (here.level.item.0, other_totals) }
            shown = was ∙ ap (λ (o : Option (ℕ × Totals)). with_value levels r.level o other_totals) level-found

            entries : after.entries ≡ here.low ++ other ∷ here.high
            entries = ap (λ (a : Sorted ℕ Totals). a.entries) shown ∙ ap (λ (q : ℕ × ℕ). with_item_among levels.entries q.0 (here.level.item.0, other_totals)) pointer_is
                ∙ with_item-here levels.entries apart here.low here.level here.high here.levels_cut (here.level.item.0, other_totals)
