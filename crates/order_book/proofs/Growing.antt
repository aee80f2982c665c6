-- A ladder whose lists have more room.
use Rattle.std.proofs.Common.{◌≡◌, ℕ, ◌+◌, nat_lt, if◌then◌else◌, inl, inr, ◌≤◌, ◌<◌, max, map, Option, Result, Ok, Err, OnOk, OnErr, refl, sym, ap, subst, ◌∙◌, arith}
use Rattle.std.proofs.{lemmas.Bool.lt-ltb, lemmas.Bool.le-ltb, lemmas.Bool.Decides.leb_tells}
use Rattle.chain_base.specs.Chain.{Chain, IsDistinct, greatest_index, with_capacity, new_chain}
use Rattle.chain_base.specs.Clone.{taken_over}
use Rattle.sorted_arena.specs.Sorted.{Sorted}
use Rattle.sorted_arena.specs.ReallocationError.{ReallocationError, TheVariants.BeyondMaxCapacity, TheVariants.AllocError}
use Rattle.sorted_arena.specs.PlainArena.{capacity_for, doubled_capacity}
use Rattle.order_book.specs.Queue.{most_entries}
use Rattle.order_book.specs.declared.ladder.{Resting.Resting, Totals.Totals}
use Rattle.order_book.specs.QueueLayout.{AreLawful}
use Rattle.order_book.specs.Ladder.{row_of, rows_of, AreLaid, Rise, IsCloneOf, IsLadder}
use Rattle.order_book.proofs.Rows.{Orders, Levels, greatest-rows}

module _ {T : Type 0} where
  module _ (orders : Chain (Resting T)) (levels : Sorted ℕ Totals) (ladder : IsLadder orders levels) where
    pub ladder-grown : (new : Chain (Resting T)) (after : Sorted ℕ Totals) → new.entries ≡ orders.entries → new.maximum ≡ orders.maximum → after.entries ≡ levels.entries → new.capacity ≤ after.capacity
        → IsLadder new after
    ladder-grown new after entries maximum same room = record {
      laid = subst (λ (ls : Levels). AreLaid ls new.entries) (sym same) (subst (λ (es : Orders T). AreLaid levels.entries es) (sym entries) ladder.laid);
      rising = subst Rise (sym same) ladder.rising;
      distinct = subst (λ (es : Orders T). IsDistinct (map row_of es)) (sym entries) ladder.distinct;
      lawful = subst (λ (es : Orders T). AreLawful (map row_of es)) (sym entries) ladder.lawful;
      unlimited = maximum ∙ ladder.unlimited;
      room = room;
    }

    -- the list grows to a capacity, if it is not refused
    module _ (capacity : ℕ) (more : orders.capacity ≤ capacity) (within : greatest_index orders.entries ≤ orders.capacity) {X E : Type 0} (r : Result X E) (new : Chain (Resting T))
        (ok : OnOk r (new ≡ with_capacity orders (max capacity (greatest_index orders.entries)))) (err : OnErr r (new ≡ orders)) where
      pub reallocated-ladder : (after : Sorted ℕ Totals) → after.entries ≡ levels.entries → capacity ≤ after.capacity → IsLadder new after
      reallocated-ladder after same room = go r ok err
        where
          go : (r : Result X E) → OnOk r (new ≡ with_capacity orders (max capacity (greatest_index orders.entries))) → OnErr r (new ≡ orders) → IsLadder new after
          go (Ok x) is none = ladder-grown new after (ap (λ (c : Chain (Resting T)). c.entries) is) (ap (λ (c : Chain (Resting T)). c.maximum) is) same
              (omega (arith, ap (λ (c : Chain (Resting T)). c.capacity) is, room, more, within))
          go (Err e) none is = ladder-grown new after (ap (λ (c : Chain (Resting T)). c.entries) is) (ap (λ (c : Chain (Resting T)). c.maximum) is) same
              (omega (arith, ap (λ (c : Chain (Resting T)). c.capacity) is, room, more))

      pub reallocated-capacity : OnOk r (new.capacity ≡ capacity)
      reallocated-capacity = go r ok
        where
          go : (r : Result X E) → OnOk r (new ≡ with_capacity orders (max capacity (greatest_index orders.entries))) → OnOk r (new.capacity ≡ capacity)
          go (Ok x) is = let at : new.capacity ≡ max capacity (greatest_index orders.entries) = ap (λ (c : Chain (Resting T)). c.capacity) is in omega (arith, at, more, within)
          go (Err e) none = tt

-- a refusal told of another call
pub refusal-retold : {X Y : Type 0} (e f : ReallocationError) → ◌≡◌ {A = Result X ReallocationError} (Err e) (Err f) → ◌≡◌ {A = Result Y ReallocationError} (Err e) (Err f)
refusal-retold e f is = ap (λ (r : ReallocationError). Err r) (let same : e ≡ f = cc in same)

pub ok-not_err : {X : Type 0} (x : X) (e : ReallocationError) → ◌≡◌ {A = Result X ReallocationError} (Ok x) (Err e) → ⊥
ok-not_err x e is = absurd (cc)

-- the capacity for one more order is what an insertion makes of it
pub capacity-one : (capacity count : ℕ) → count ≤ capacity → count < most_entries
    → capacity_for most_entries capacity (count + 1) ≡ (if nat_lt count capacity then capacity else doubled_capacity most_entries capacity)
capacity-one capacity count within limited = elim (leb_tells capacity count) [
  | inl full ↦
      let same : count ≡ capacity = omega (arith, full.1, within) in
      let doubled : max (count + 1) (doubled_capacity most_entries capacity) ≡ doubled_capacity most_entries capacity = omega (arith, limited, same) in
      rw (lt-ltb capacity (count + 1) (omega (arith, full.1)), le-ltb count capacity full.1) doubled
  | inr room ↦ rw (le-ltb capacity (count + 1) (omega (arith, room.1)), lt-ltb count capacity (omega (arith, room.1))) refl
]

module _ {T : Type 0} where
  -- a clone of a list, made by calls that return the item that they are shown
  pub list-cloned : (greatest : Option ℕ) (source old new : Chain (Resting T)) → old ≡ new_chain greatest → new ≡ taken_over source old source.entries → IsCloneOf source new
  list-cloned greatest source old new was is = record {
    entries = ap (λ (c : Chain (Resting T)). c.entries) is;
    generation = ap (λ (c : Chain (Resting T)). c.generation) is;
    capacity = ap (λ (c : Chain (Resting T)). c.capacity) is ∙ (let none : old.capacity ≡ 0 = ap (λ (c : Chain (Resting T)). c.capacity) was in let at : max old.capacity (greatest_index source.entries) ≡ greatest_index source.entries = omega (arith, none) in at);
    unlimited = ap (λ (c : Chain (Resting T)). c.maximum) is ∙ ap (λ (c : Chain (Resting T)). c.maximum) was;
  }

  pub cloned-rows : (source new : Chain (Resting T)) → IsCloneOf source new → rows_of new ≡ record (rows_of source) { capacity = greatest_index (map row_of source.entries) }
  cloned-rows source new clone = rw (clone.entries, clone.generation, clone.capacity) (ap (λ (n : ℕ). record (rows_of source) { capacity = n }) (sym (greatest-rows source.entries)))

-- a clone of no orders is not refused
pub clone-granted : {X : Type 0} (e : ReallocationError) (limit capacity needed : ℕ) → (◌≡◌ {A = Result X ReallocationError} (Err e) (Err BeyondMaxCapacity) → limit < needed)
    → (◌≡◌ {A = Result X ReallocationError} (Err e) (Err AllocError) → capacity < needed) → needed ≤ 0 → ⊥
clone-granted {X = X} BeyondMaxCapacity limit capacity needed full memory none = let more = full refl in omega (arith, more, none)
clone-granted {X = X} AllocError limit capacity needed full memory none = let more = memory refl in omega (arith, more, none)
