-- An order that comes to rest in a ladder: behind the last one of its level, or as the only one of a new level.
use Rattle.std.proofs.Common.{◌≡◌, ℕ, ◌+◌, ◌*◌, ◌<◌, ◌≤◌, [], ◌∷◌, ◌++◌, map, length, length-append, Some, None, refl, sym, ap, subst, ◌∙◌, append_assoc, arith}
use Rattle.std.proofs.lemmas.{List.map-append}
use Rattle.std.specs.{List.AllByRecursion}
use Rattle.chain_base.specs.Chain.{Entry, Chain, IsDistinct, last_or}
use Rattle.chain_base.proofs.CallerLemmas.{last_or-append}
use Rattle.sorted_arena.specs.Sorted.{Sorted, get, pointer_of, with_value}
use Rattle.sorted_arena.proofs.CallerLemmas.{all-append, all-between}
use Rattle.sorted_arena.proofs.OrdLemmas.{with_item-here, recursion-map as all-weaker}
use Rattle.order_book.specs.{declared.order.Lot.Lot, declared.ladder.Resting.Resting, declared.ladder.Totals.Totals}
use Rattle.order_book.specs.QueueLayout.{IsLawful, AreLawful, most_price}
use Rattle.order_book.specs.Queue.{most_entries}
use Rattle.order_book.specs.Ladder.{row_of, rows_of, quantity_of, AreLaid, IsLevel, IsOf, Rise, IsLadder, IsPut, IsCutBehind}
use Rattle.order_book.proofs.Rows.{LevelEntry, OrderEntry, Orders, Levels, times-rows, distinct-rows, rows-distinct}
use Rattle.order_book.proofs.Laying.{all-of, laid-with, all-laid, at-level, AtLevel, rise-instead, rise-across, rise-behind}
use Rattle.order_book.proofs.Places.{Inserted, distinct-inserted, last_or-behind, NamedCut, named-cut}
use Rattle.order_book.proofs.Ranks.{recursion-map}

module _ {T : Type 0} where
  pub quantity_of-append : (xs ys : Orders T) → quantity_of (xs ++ ys) ≡ quantity_of xs + quantity_of ys
  quantity_of-append [] ys = omega arith
  quantity_of-append (x ∷ xs) ys = omega (arith, quantity_of-append xs ys)

  -- sums of lawful orders are bounded
  bounded-quantity : (es : Orders T) → AreLawful (map row_of es) → quantity_of es ≤ length es * most_price
  bounded-quantity [] all = omega arith
  bounded-quantity (e ∷ es) all = omega (arith, all.0.quantity, bounded-quantity es all.1)

-- a level's totals fit
pub record Fits (t : Totals) : Type 0 where
  pub quantity : t.quantity ≤ 79228162477370849441829879810
  pub count : t.count ≤ most_entries

module _ {T : Type 0} where
  pub group-fits : (front group back : Orders T) (l : LevelEntry) → IsLevel l group → AreLawful (map row_of (front ++ (group ++ back))) → length (front ++ (group ++ back)) ≤ most_entries → Fits l.item.1
  group-fits front group back l level lawful few =
      let sums = bounded-quantity (front ++ (group ++ back)) lawful in
      record {
        quantity = omega (arith, sums, few, level.quantity, quantity_of-append front (group ++ back), quantity_of-append group back);
        count = omega (arith, few, level.count, length-append front (group ++ back), length-append group back);
      }

  -- The orders of another ladder with one more: it stands behind those of lesser ranks, and before those of greater ones.
  module _ (old new : Chain (Resting T)) (p : ℕ × ℕ) (r : Resting T) (front back : Orders T) (inserts : Inserted old new p r front back) where
    abbrev pub entry : OrderEntry T
    entry = record { index = p.0; generation = p.1; item = r }

    pub is_put : AllByRecursion (λ (e : OrderEntry T). e.item.rank ≤ r.rank) front → AllByRecursion (λ (e : OrderEntry T). r.rank < e.item.rank) back
        → IsPut (rows_of old) p r.rank r.lot (rows_of new)
    is_put at_most greater = record {
      front = map row_of front;
      back = map row_of back;
      before = ap (map row_of) inserts.before ∙ map-append row_of front back;
      after = ap (map row_of) inserts.after ∙ map-append row_of front (entry ∷ back);
      at_most_before = recursion-map row_of (λ (e : OrderEntry T). e.item.rank ≤ r.rank) (λ (e : Entry (ℕ × Lot T)). e.item.0 ≤ r.rank) (λ e most. most) front at_most;
      greater_behind = recursion-map row_of (λ (e : OrderEntry T). r.rank < e.item.rank) (λ (e : Entry (ℕ × Lot T)). r.rank < e.item.0) (λ e more. more) back greater;
      free = record { of_generation = inserts.of_generation; unused = times-rows p.0 old.entries ∙ inserts.unused };
      generation = inserts.generation;
    }

    pub lawful-put : AreLawful (map row_of old.entries) → IsLawful (r.rank, r.lot) → AreLawful (map row_of new.entries)
    lawful-put lawful one =
        let apart : AreLawful (map row_of front ++ map row_of back) = subst AreLawful (ap (map row_of) inserts.before ∙ map-append row_of front back) lawful in
        subst AreLawful (sym (ap (map row_of) inserts.after ∙ map-append row_of front (entry ∷ back)))
        (all-between (λ (e : Entry (ℕ × Lot T)). IsLawful e.item) (map row_of front) (row_of entry) (map row_of back) apart one)

  -- an order of a level is one of any that has its rank and pointer; and an order at the end of a level
  pub members-same : (l m : LevelEntry) (group : Orders T) → m.item.0 ≡ l.item.0 → pointer_of m ≡ pointer_of l → AllByRecursion (IsOf l) group → AllByRecursion (IsOf m) group
  members-same l m [] rank pointer all = tt
  members-same l m (e ∷ group) rank pointer all = (record { rank = all.0.rank ∙ sym rank; level = all.0.level ∙ sym pointer }, members-same l m group rank pointer all.1)

  abbrev with_more : LevelEntry → OrderEntry T → LevelEntry
  with_more l e = record l { item = (l.item.0, record { quantity = l.item.1.quantity + e.item.lot.quantity; count = l.item.1.count + 1; last = e.index }) }

  level-more : (l : LevelEntry) (group : Orders T) (e : OrderEntry T) → IsLevel l group → IsOf l e → IsLevel (with_more l e) (group ++ e ∷ [])
  level-more l group e level of = record {
    members = all-append (IsOf (with_more l e)) group (e ∷ []) (members-same l (with_more l e) group refl refl level.members) (record { rank = of.rank; level = of.level }, tt);
    quantity = omega (arith, level.quantity, quantity_of-append group (e ∷ []));
    count = omega (arith, level.count, length-append group (e ∷ []));
    last = last_or-append None group (e ∷ []);
  }

  -- A level of a ladder, at the pointer that names it.
  module _ (orders : Chain (Resting T)) (levels : Sorted ℕ Totals) (ladder : IsLadder orders levels) (distinct : IsDistinct levels.entries) (p : ℕ × ℕ) (item : ℕ × Totals) (found : get levels p ≡ Some item) where
    abbrev pub there : NamedCut levels.entries p item
    there = named-cut levels.entries p item found

    abbrev pub around_there : AtLevel levels.entries there.front there.entry there.back orders.entries
    around_there = at-level levels.entries there.front there.entry there.back orders.entries there.cut ladder.laid

    pub rise_there : Rise (there.front ++ there.entry ∷ there.back)
    rise_there = subst Rise there.cut ladder.rising

    pub last_there : last_or None (around_there.front ++ around_there.group) ≡ Some item.1.last
    last_there = last_or-behind around_there.front around_there.group _ around_there.is_level.last ∙ ap (λ (x : ℕ × Totals). Some x.1.last) there.item_is

    pub cut_there : orders.entries ≡ (around_there.front ++ around_there.group) ++ around_there.back
    cut_there = around_there.cut ∙ sym (append_assoc around_there.front around_there.group around_there.back)

    -- the place behind its last order
    abbrev pub behind_there : IsCutBehind orders.entries (Some item.1.last)
    behind_there = record { front = around_there.front ++ around_there.group; back = around_there.back; cut = cut_there; last = last_there }

    pub fits_there : length orders.entries ≤ most_entries → Fits item.1
    fits_there few = subst (λ (x : ℕ × Totals). Fits x.1) there.item_is
        (group-fits around_there.front around_there.group around_there.back there.entry around_there.is_level
        (subst (λ (es : Orders T). AreLawful (map row_of es)) around_there.cut ladder.lawful) (subst (λ (es : Orders T). length es ≤ most_entries) around_there.cut few))

    -- with other totals
    pub entries_there : (t : Totals) → (with_value levels p (get levels p) t).entries ≡ there.front ++ record there.entry { item = (there.entry.item.0, t) } ∷ there.back
    entries_there t =
        ap (λ (o : _). (with_value levels p o t).entries) found
        ∙ ap (λ (q : ℕ × ℕ). (with_value levels q (Some item) t).entries) there.pointer
        ∙ ap (λ (x : ℕ × Totals). (with_value levels (there.entry.index, there.entry.generation) (Some x) t).entries) (sym there.item_is)
        ∙ with_item-here levels.entries distinct there.front there.entry there.back there.cut (there.entry.item.0, t)

    pub capacity_there : (t : Totals) → (with_value levels p (get levels p) t).capacity ≡ levels.capacity
    capacity_there t = ap (λ (o : _). (with_value levels p o t).capacity) found

    -- the order joins the level
    module _ (new : Chain (Resting T)) (q : ℕ × ℕ) (lot : Lot T) (rank : ℕ) (here : item.0 ≡ rank) (lawful : IsLawful (rank, lot))
        (inserts : Inserted orders new q (record { rank = rank; lot = lot; level = p }) (around_there.front ++ around_there.group) around_there.back) where
      abbrev joined_totals : Totals
      joined_totals = record { quantity = item.1.quantity + lot.quantity; count = item.1.count + 1; last = q.0 }

      abbrev order : Resting T
      order = record { rank = rank; lot = lot; level = p }

      is_of : IsOf there.entry (record { index = q.0; generation = q.1; item = order })
      is_of = record { rank = sym here ∙ sym (ap (λ (x : ℕ × Totals). x.0) there.item_is); level = there.pointer }

      grown : IsLevel (record there.entry { item = (there.entry.item.0, joined_totals) }) (around_there.group ++ record { index = q.0; generation = q.1; item = order } ∷ [])
      grown = subst (λ (t : Totals). IsLevel (record there.entry { item = (there.entry.item.0, record { quantity = t.quantity + lot.quantity; count = t.count + 1; last = q.0 }) })
          (around_there.group ++ record { index = q.0; generation = q.1; item = order } ∷ [])) (ap (λ (x : ℕ × Totals). x.1) there.item_is)
          (level-more there.entry around_there.group (record { index = q.0; generation = q.1; item = order }) around_there.is_level is_of)

      at_rank : there.entry.item.0 ≡ rank
      at_rank = ap (λ (x : ℕ × Totals). x.0) there.item_is ∙ here

      pub joined-ladder : IsLadder new (with_value levels p (get levels p) joined_totals)
      joined-ladder = record {
        laid = subst (λ (ls : Levels). AreLaid ls new.entries) (sym (entries_there joined_totals))
            (subst (λ (es : Orders T). AreLaid (there.front ++ record there.entry { item = (there.entry.item.0, joined_totals) } ∷ there.back) es)
            (simp append_assoc (sym (inserts.after ∙ simp append_assoc)))
            (laid-with there.front _ there.back around_there.front (around_there.group ++ record { index = q.0; generation = q.1; item = order } ∷ []) around_there.back
            around_there.laid_low grown around_there.laid_high));
        rising = subst Rise (sym (entries_there joined_totals)) (rise-instead there.front there.entry _ there.back refl rise_there);
        distinct = distinct-rows new.entries (distinct-inserted orders new q order _ _ inserts (rows-distinct orders.entries ladder.distinct));
        lawful = lawful-put orders new q order _ _ inserts ladder.lawful lawful;
        unlimited = inserts.maximum ∙ ladder.unlimited;
        room = omega (arith, inserts.capacity, capacity_there joined_totals, ladder.room);
      }

      pub joined-put : IsPut (rows_of orders) q rank lot (rows_of new)
      joined-put = is_put orders new q order _ _ inserts
          (all-append (λ (e : OrderEntry T). e.item.rank ≤ rank) around_there.front around_there.group
          (all-laid (λ (s : ℕ). s ≤ rank) there.front around_there.front
          (all-weaker (λ (m : LevelEntry). m.item.0 < there.entry.item.0) (λ (m : LevelEntry). m.item.0 ≤ rank) (λ m less. omega (arith, less, at_rank)) there.front (rise-across there.front there.entry there.back rise_there))
          around_there.laid_low)
          (all-of (λ (s : ℕ). s ≤ rank) there.entry around_there.group (omega (arith, at_rank)) around_there.is_level.members))
          (all-laid (λ (s : ℕ). rank < s) there.back around_there.back
          (all-weaker (λ (m : LevelEntry). there.entry.item.0 < m.item.0) (λ (m : LevelEntry). rank < m.item.0) (λ m more. omega (arith, more, at_rank)) there.back (rise-behind there.front there.entry there.back rise_there))
          around_there.laid_high)
