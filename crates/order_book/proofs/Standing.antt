-- What holds of a ladder holds of its rows: they are a sound listing, in the order of their ranks.
use Rattle.std.proofs.Common.{◌≡◌, ◌≢◌, ℕ, ◌<◌, ◌≤◌, [], ◌∷◌, ◌++◌, map, None, sym, subst, arith}
use Rattle.std.proofs.lemmas.{Bool.Decides.nat_tests, List.length-map, List.Elements.All-from_recursion}
use Rattle.std.specs.{List.AllByRecursion, Ordering.nat_cmp, declared.cmp.Ordering.TheVariants.Greater}
use Rattle.chain_base.specs.Chain.{Entry, Chain, chain_limit, IsSound as IsSoundChain}
use Rattle.sorted_arena.specs.Sorted.{Sorted, AreSorted, IsSound}
use Rattle.sorted_arena.specs.PlainPointer.{greatest_generation}
use Rattle.sorted_arena.proofs.CallerLemmas.{all-append}
use Rattle.sorted_arena.proofs.OrdLemmas.{recursion-map as all-weaker}
use Rattle.order_book.specs.{declared.order.Lot.Lot, declared.ladder.Resting.Resting, declared.ladder.Totals.Totals}
use Rattle.order_book.specs.Queue.{most_entries}
use Rattle.order_book.specs.Ladder.{row_of, rows_of, AreLaid, IsOf, Rise, IsLadder}
use Rattle.order_book.proofs.Rows.{LevelEntry, OrderEntry, Orders, Levels, times-rows}
use Rattle.order_book.proofs.Laying.{all-laid}
use Rattle.order_book.proofs.Ranks.{recursion-map}

module _ {T : Type 0} where
  -- ranks of which none is less than one before it
  abbrev AreRanked : Orders T → Type 0
  AreRanked [] = Unit {0}
  AreRanked (e ∷ es) = AllByRecursion (λ (f : OrderEntry T). e.item.rank ≤ f.item.rank) es × AreRanked es

  -- the orders of a level in front of those of greater ranks
  ranked-group : (l : LevelEntry) (group rest : Orders T) → AllByRecursion (IsOf l) group → AllByRecursion (λ (f : OrderEntry T). l.item.0 < f.item.rank) rest → AreRanked rest
      → AreRanked (group ++ rest)
  ranked-group l [] rest members above ranked = ranked
  ranked-group l (e ∷ group) rest members above ranked = (
    all-append (λ (f : OrderEntry T). e.item.rank ≤ f.item.rank) group rest
        (all-weaker (IsOf l) (λ (f : OrderEntry T). e.item.rank ≤ f.item.rank) (λ f of. omega (arith, of.rank, members.0.rank)) group members.1)
        (all-weaker (λ (f : OrderEntry T). l.item.0 < f.item.rank) (λ (f : OrderEntry T). e.item.rank ≤ f.item.rank) (λ f more. omega (arith, more, members.0.rank)) rest above),
    ranked-group l group rest members.1 above ranked,
  )

  ranked-laid : (ls : Levels) (es : Orders T) → AreLaid ls es → Rise ls → AreRanked es
  ranked-laid [] es laid rise = subst AreRanked (sym laid) tt
  ranked-laid (l ∷ ls) es laid rise = subst AreRanked (sym laid.2)
      (ranked-group l laid.0 laid.1 laid.3.members (all-laid (λ (r : ℕ). l.item.0 < r) ls laid.1 rise.0 laid.4) (ranked-laid ls laid.1 laid.4 rise.1))

not-greater : (r s : ℕ) → r ≤ s → nat_cmp r s ≢ Greater
not-greater r s most = grind (arith, nat_tests, most)

module _ {T : Type 0} where
  sorted-rows : (es : Orders T) → AreRanked es → AreSorted nat_cmp (map row_of es)
  sorted-rows [] ranked = tt
  sorted-rows (e ∷ es) ranked = (
    All-from_recursion _ (map row_of es) (recursion-map row_of (λ (f : OrderEntry T). e.item.rank ≤ f.item.rank) (λ (f : Entry (ℕ × Lot T)). nat_cmp e.item.rank f.item.0 ≢ Greater)
        (λ f most. not-greater e.item.rank f.item.rank most) es ranked.0),
    sorted-rows es ranked.1,
  )

  pub sound-rows : (orders : Chain (Resting T)) (levels : Sorted ℕ Totals) → IsLadder orders levels → IsSoundChain most_entries greatest_generation orders → IsSound nat_cmp most_entries (rows_of orders)
  sound-rows orders levels ladder sound = record {
    sorted = sorted-rows orders.entries (ranked-laid levels.entries orders.entries ladder.laid ladder.rising);
    distinct = ladder.distinct;
    indexed = λ i there. sound.within i (omega (arith, there, times-rows i orders.entries));
    within = omega (arith, length-map orders.entries row_of, sound.counted);
    limited = limit ladder.unlimited sound.within_limit;
  }
    where
      limit : orders.maximum ≡ None → orders.capacity ≤ chain_limit most_entries orders → orders.capacity ≤ most_entries
      limit none within = rw none at within
