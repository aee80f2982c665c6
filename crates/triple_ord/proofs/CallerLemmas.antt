-- For callers: what pointers find after each change of an ordered arena.
use Rattle.std.specs.{declared.alloc.AllocError.AllocError, Option.IsSomeAnd}
use Rattle.ord_tree.specs.{ArenaClone.Grants, ArenaClone.IsShown, ReallocationError.ReallocationError, InvalidationOption.InvalidationOption}
use Rattle.ord_tree.specs.{ReallocationError.TheVariants.BeyondMaxCapacity, ReallocationError.TheVariants.AllocError as NoMemory, Chain.entry_at as entry_among}
use Rattle.ord_tree.specs.{Chain.item_of as item_among, Chain.without, ChainClone.taken_over, Clone.ShowsItem, Clone.IsClone, Clone.IsRefusedClone}
use Rattle.triple_ord.proofs.Words.{OrdInsertionError, ◌≡◌, ◌≢◌, ℕ, ◌+◌, ◌≤◌, List, [], ◌∷◌, ◌++◌, length, Option, Some, None, IsSome, is_some, slice_get, map, length-append, IfSome, IfNone, OnSome, Ok, refl, sym, ap, subst, ◌∙◌, arith, inl}
use Rattle.triple_ord.proofs.Words.{inr, beside, Place, into, over, IsPlace, aim_of, Growth, with_room_by, InsertsBy, with_kind, OrdEntryKind, New, Tree, IsGrown, with_item, Gap, with_between, Equal, pointer, FindsKey, FindsSimilar, Aim, at_key}
use Rattle.triple_ord.proofs.Words.{Replacing, OrdInsertKind, item_of, items, count, Updates, Renews, FindsBy, IsOfGeneration, IsNumbered, eq-eqb, cases_eq, option_map, Ordering, next_generation, item_if, Entry, Chain, times, FindsNothing}
use Rattle.triple_ord.proofs.Words.{◌<◌, Result, Err, ◌⊎◌, nil_from_length, Bor, IsSound, greatest_index, clone-same, Transferring, TransferStep, IsTransfer, FoldsTo, length-map, entry_at-absent, entry_at-without_other, IsDistinct, removed}
use Rattle.triple_ord.proofs.Words.{renewed, after-insertion, IsInsertion, moved, at_compressed_index, numbered, entry_at-numbered_before, generation-numbered, items-numbered, generation-moved, generation-relocated, length-with_generation}
use Rattle.triple_ord.proofs.Words.{entry_at-between_other, entry_at-between, length-between, entry_at-numbered, entry_at-without, length-without, entry_at-with_item_among_other, entry_at-with_item_among, length-with_item_among}
use Rattle.triple_ord.proofs.Words.{entry_at-with_generation_other, entry_at-with_generation, common_steps, refused-found, Shape, Within, Reallocating, next_index, true}
use Rattle.triple_ord.proofs.Inserting.{entry_at-after, similar-here, IsInsertion-same}
use Rattle.ord_tree.proofs.ChainLemmas.{with_new, roomy_capacity, capacity-vacant, capacity-with_room}
use Rattle.triple_ord.specs.{Arena.entry_at, Clone.cloned, Clone.refused_clone, Clone.FindsFallible, Entry.InsertsThere, Entry.Awaits, Entry.IsEntryFor}
use Rattle.triple_ord.specs.{EntryKind.pointer_of_kind, Rekey.Rekeys, Insertion.InsertsNew, Place.behind_key, declared.insert_kind.OrdInsertKind.TheVariants.Normal}
-- lists cut at an entry, and lists in the order of their keys
pub use Rattle.triple_ord.proofs.Inserting.{last_of-append, begins, ends, some_last, no_first, no_last, StandsAt, stands, IsLinked, link-read}
pub use Rattle.triple_ord.proofs.Inserting.{not_before, entry_at-after, entry_at-here, from_index-here, with_item-here}
pub use Rattle.triple_ord.proofs.OrderLaws.{IsInOrder-rest, IsInOrder-back, in_order-one, in_order-more, all_greater, all_less, recursion-map}
pub use Rattle.triple_ord.proofs.{KeptOrder.in_order-between, KeptOrder.listed-new, KeptOrder.kept_order, RekeyOrder.in_order-without, RekeyOrder.rekeyed_order}

times-without : {T : Type 0} (i : ℕ) (es : List (Entry T)) → times i es ≤ 1 → times i (without i es) ≡ 0
times-without i [] once = refl
times-without i (e ∷ es) once = grind (arith, common_steps, times-without i es)

-- what an entry shows to its own generation and to others
pub item_if-own : {T : Type 0} (g : ℕ) (o : Option T) → item_if g (option_map (λ x. (g, x)) o) ≡ o
item_if-own g o = grind (arith, common_steps)

item_if-other : {T : Type 0} (g h : ℕ) (o : Option (ℕ × T)) → IfSome o (λ e. e.0 ≡ g) → h ≢ g → item_if h o ≡ None
item_if-other g h o has apart = grind (arith, common_steps)

pub item_if-found : {T : Type 0} (g : ℕ) (o : Option (ℕ × T)) → IsSome (item_if g o) → (x : T) × (o ≡ Some (g, x))
item_if-found g None there = absurd (cc)
item_if-found g (Some e) there = (e.1, ap (λ k. Some (k, e.1)) (grind (arith, common_steps)))

module _ {T : Type 0} where
  -- if the entry at its index, if any, has the generation of p, another pointer finds nothing there
  item_of-other : (a : Tree T) (p q : ℕ × ℕ) → IfSome (entry_at a p.0) (λ e. e.0 ≡ p.1) → q.0 ≡ p.0 → q ≢ p → item_of a q ≡ None
  item_of-other a p q has same apart = rw same (item_if-other p.1 q.1 (entry_at a p.0) has (λ era. apart (ap (λ i. (i, q.1)) same ∙ ap (λ g. (p.0, g)) era)))

  -- a change at the index of the pointer that names the entry there, if any
  module _ (old new : Tree T) (p : ℕ × ℕ) (found : Option T) where
    pub updates-at : IfSome (entry_at old p.0) (λ e. e.0 ≡ p.1) → entry_at new p.0 ≡ option_map (λ x. (p.1, x)) found
        → ((i : ℕ) → i ≢ p.0 → entry_at new i ≡ entry_at old i) → Updates old new p found
    updates-at has here others = record {
      changed = rw here (item_if-own p.1 found);
      others = λ q apart. elim (cases_eq q.0 p.0) [
        | inl same ↦ item_of-other new p q (rw here (grind (arith, common_steps))) same apart ∙ sym (item_of-other old p q has same apart)
        | inr other ↦ ap (item_if q.1) (others q.0 other)
      ];
    }

  pub updates-removed : (greatest : Option ℕ) (old new : Tree T) (p : ℕ × ℕ) → IsDistinct old.list.entries → IsSome (item_of old p)
      → new.list ≡ removed greatest old.list p.0 → Updates old new p None
  updates-removed greatest old new p distinct there is =
      let found = item_if-found p.1 (entry_at old p.0) there in
      updates-at old new p None (rw found.1 refl) (rw (is, entry_at-without old.list.entries p.0 distinct) refl)
      (λ i other. rw is (entry_at-without_other old.list.entries p.0 i other))

  pub count-removed : (greatest : Option ℕ) (old new : Tree T) (p : ℕ × ℕ) → IsSome (item_of old p) → new.list ≡ removed greatest old.list p.0 → count old ≡ count new + 1
  count-removed greatest old new p there is =
      let found = item_if-found p.1 (entry_at old p.0) there in
      rw is (length-without old.list.entries p.0 (rw found.1 refl))

  -- an entry that moves to a gap of the others, with any item
  module _ {K : Type 0} (key : T → K) (cmp : K → K → Ordering) (old new : Tree T) (p : ℕ × ℕ) (item : T) (distinct : IsDistinct old.list.entries) (there : IsSome (item_of old p))
      (r : Rekeys key cmp old p item new) where
    abbrev moved_entry : Entry T
    moved_entry = record { index = p.0; generation = p.1; item = item }

    alone : times p.0 (r.gap.front ++ r.gap.back) ≡ 0
    alone = ap (times p.0) (sym r.gap.cut) ∙ times-without p.0 old.list.entries (distinct p.0)

    pub rekeys-updates : Updates old new p (Some item)
    rekeys-updates =
        updates-at old new p (Some item) (rw (item_if-found p.1 (entry_at old p.0) there).1 refl)
        (ap (λ es. entry_among es p.0) r.entries ∙ entry_at-between r.gap.front moved_entry r.gap.back alone)
        (λ j other. ap (λ es. entry_among es j) r.entries ∙ entry_at-between_other r.gap.front moved_entry r.gap.back j other
        ∙ ap (λ es. entry_among es j) (sym r.gap.cut) ∙ entry_at-without_other old.list.entries p.0 j other)

    pub rekeys-count : count new ≡ count old
    rekeys-count =
        let found = item_if-found p.1 (entry_at old p.0) there in
        omega (arith, ap length r.entries, length-between r.gap.front moved_entry r.gap.back, ap length r.gap.cut, length-without old.list.entries p.0 (rw found.1 refl))

  pub updates-written : (a : Tree T) (p : ℕ × ℕ) (item : T) → IsSome (item_of a p) → Updates a (with_item a p.0 item) p (Some item)
  updates-written a p item there =
      let found = item_if-found p.1 (entry_at a p.0) there in
      updates-at a (with_item a p.0 item) p (Some item) (rw found.1 refl) (rw (entry_at-with_item_among a.list.entries p.0 item, found.1) refl)
      (λ i other. entry_at-with_item_among_other a.list.entries p.0 i item other)

  pub count-written : (a : Tree T) (i : ℕ) (item : T) → count (with_item a i item) ≡ count a
  count-written a i item = length-with_item_among a.list.entries i item

  module _ (greatest : Option ℕ) (old : Tree T) (p : ℕ × ℕ) (there : IsSome (item_of old p)) where
    abbrev next : ℕ
    next = (renewed greatest old.list p.0).generation

    abbrev renewal : Tree T
    renewal = record old { list = renewed greatest old.list p.0 }

    pub updates-renewed : Renews old renewal p (p.0, next)
    updates-renewed =
        let found = item_if-found p.1 (entry_at old p.0) there in
        let here = entry_at-with_generation old.list.entries p.0 next ∙ ap (option_map (λ (d : ℕ × T). (next, d.1))) found.1 in
        record {
          found = ap (item_if next) here ∙ item_if-own next (Some found.0) ∙ sym (ap (item_if p.1) found.1 ∙ item_if-own p.1 (Some found.0));
          ended = λ apart. item_of-other renewal (p.0, next) p (rw here refl) refl (λ same. apart (sym same));
          others = λ r other third. elim (cases_eq r.0 p.0) [
            | inl same ↦ item_of-other renewal (p.0, next) r (rw here refl) same third
                ∙ sym (item_of-other old p r (rw found.1 refl) same other)
            | inr elsewhere ↦ ap (item_if r.1) (entry_at-with_generation_other old.list.entries p.0 r.0 next elsewhere)
          ];
        }

  -- an insertion of a new entry, whether or not the list was grown for it
  module _ (old new : Tree T) (room : Chain T) (roomy : room.entries ≡ old.list.entries) (gap : Gap old.list.entries) (item : T) (p : ℕ × ℕ)
      (inserted : IsInsertion room new.list (with_between gap) item p.0 p.1) where
    abbrev entry : Entry T
    entry = record { index = p.0; generation = p.1; item = item }

    listed : new.list.entries ≡ gap.front ++ entry ∷ gap.back
    listed = ap (λ (c : Chain T). c.entries) (after-insertion room new.list (with_between gap) item p.0 p.1 inserted).1

    unused : times p.0 (gap.front ++ gap.back) ≡ 0
    unused = ap (times p.0) (sym gap.cut) ∙ ap (times p.0) (sym roomy) ∙ inserted.vacant.free

    none_there : entry_at old p.0 ≡ None
    none_there = ap (λ es. entry_among es p.0) gap.cut ∙ entry_at-absent (gap.front ++ gap.back) p.0 unused

    -- the item is new at this pointer
    pub inserted-new : (item_of old p ≡ None) × Updates old new p (Some item) × (count new ≡ count old + 1)
    inserted-new = (
      rw none_there refl,
      updates-at old new p (Some item) (rw none_there tt) (rw listed (entry_at-between gap.front entry gap.back unused))
          (λ i other. rw (listed, gap.cut) (entry_at-between_other gap.front entry gap.back i other)),
      rw (listed, gap.cut) (length-between gap.front entry gap.back),
    )

-- what the calls return for these changes
module _ {T : Type 0} where
  module _ (greatest : Option ℕ) (old new : Tree T) (distinct : IsDistinct old.list.entries) where
    module _ {G : Type 0} (number : G → ℕ) (i : ℕ) where
      found_there : (e : G × T) → Some (number e.0, e.1) ≡ entry_at old i → IsSome (item_of old (i, number e.0))
      found_there e value = rw (← value, eq-eqb (number e.0) (number e.0) refl) refl

      abbrev IsTaken : Option (G × T) → Type 0
      IsTaken o = OnSome o (new.list ≡ removed greatest old.list i)

      pub updates-taken_at : (o : Option (G × T)) → option_map (λ e. (number e.0, e.1)) o ≡ entry_at old i → IsTaken o
          → IfSome o (λ e. Updates old new (i, number e.0) None)
      updates-taken_at None value after = tt
      updates-taken_at (Some e) value after = updates-removed greatest old new (i, number e.0) distinct (found_there e value) after

      pub count-taken_at : (o : Option (G × T)) → option_map (λ e. (number e.0, e.1)) o ≡ entry_at old i → IsTaken o → OnSome o (count old ≡ count new + 1)
      count-taken_at None value after = tt
      count-taken_at (Some e) value after = count-removed greatest old new (i, number e.0) (found_there e value) after

  module _ {P : Type 0} (numbers : P → ℕ × ℕ) (greatest : Option ℕ) (old new : Tree T) (p : ℕ × ℕ) where
    abbrev IsRenewed : Option P → Type 0
    IsRenewed o = OnSome o (new ≡ record old { list = renewed greatest old.list p.0 })

    -- the new pointer, if any, has the next generation and the same index
    abbrev IsNext : Option P → Type 0
    IsNext o = IfSome o (λ q. (numbers q).0 ≡ p.0) × IfSome o (λ q. (numbers q).1 ≡ next_generation greatest old.list.generation)

    pub renews-renewed : (o : Option P) → is_some o ≡ is_some (item_of old p) → IsNext o → IsRenewed o → IfSome o (λ q. Renews old new p (numbers q))
    renews-renewed None valid next after = tt
    renews-renewed (Some q) valid next after = rw (next.0, next.1, after) (updates-renewed greatest old p (sym valid))

    pub count-renewed : (o : Option P) → IsRenewed o → IfNone o (new ≡ old) → count new ≡ count old
    count-renewed None after same = ap count same
    count-renewed (Some q) after same = ap count after ∙ length-with_generation old.list.entries p.0 (next_generation greatest old.list.generation)

-- making room for one entry keeps the entries, the generation and the maximum; without a maximum the capacity grows if no slot is vacant
module _ {T : Type 0} where
  pub entries-with_room_by : (growth : Growth) (most : ℕ) (c : Chain T) → (with_room_by growth most c).entries ≡ c.entries
  entries-with_room_by growth most c = grind (arith, common_steps)

  pub numbers-with_room_by : (growth : Growth) (most : ℕ) (c : Chain T) → let d = with_room_by growth most c in (d.generation ≡ c.generation) × (d.maximum ≡ c.maximum)
  numbers-with_room_by growth most c = (grind (arith, common_steps), grind (arith, common_steps))

  module _ (most : ℕ) (c : Chain T) (counted : length c.entries + length c.vacant ≡ c.capacity) (unlimited : c.maximum ≡ None) where
    pub capacity-with_room_by : (growth : Growth) → let d = with_room_by growth most c in is_some (next_index d) ≡ true → d.capacity ≡ roomy_capacity most c
    capacity-with_room_by Within some = capacity-vacant most c counted some
    capacity-with_room_by Reallocating some = capacity-with_room most c counted unlimited

  -- a new entry keeps the generation and the maximum, and the capacity after making room for it
  module _ (growth : Growth) (most : ℕ) (old new : Chain T) (place : Entry T → List (Entry T)) (item : T) (i g : ℕ)
      (inserted : IsInsertion (with_room_by growth most old) new place item i g) where
    after : (rest : List ℕ) × (new ≡ with_new (with_room_by growth most old) place item i g rest)
    after = after-insertion (with_room_by growth most old) new place item i g inserted

    pub numbers-inserted : (new.generation ≡ old.generation) × (new.maximum ≡ old.maximum)
    numbers-inserted = let numbers = numbers-with_room_by growth most old in
        (ap (λ (c : Chain T). c.generation) after.1 ∙ numbers.0, ap (λ (c : Chain T). c.maximum) after.1 ∙ numbers.1)

    pub capacity-inserted : length old.entries + length old.vacant ≡ old.capacity → old.maximum ≡ None → new.capacity ≡ roomy_capacity most old
    capacity-inserted counted unlimited =
        ap (λ (c : Chain T). c.capacity) after.1 ∙ capacity-with_room_by most old counted unlimited growth (ap is_some inserted.next)

-- an insertion behind a key makes a new entry
module _ {P T K : Type 0} (key : T → K) (cmp : K → K → Ordering) (most : ℕ) (growth : Growth) (k : K) (numbers : P → ℕ × ℕ)
    (old : Tree T) (item : T) (new : Tree T) where
  abbrev IsNew : ℕ × ℕ → Type 0
  IsNew p = InsertsNew key cmp most growth (behind_key k) old item p new

  pub inserts-new : (answer : OrdEntryKind P × Option T) → InsertsBy key cmp most growth (behind_key k) numbers old item (Ok answer) new
      → IsNew (numbers (pointer_of_kind answer.0))
  inserts-new (New p, None) inserts = inserts
  inserts-new (Replacing p, Some before) inserts = absurd inserts.place
  inserts-new answer inserts = absurd inserts

-- an insertion through a requested entry is one step over its place
module _ {T K : Type 0} (key : T → K) (cmp : K → K → Ordering) where
  -- the entry whose item is replaced is found by its index
  over-here : (es : List (Entry T)) → IsDistinct es → (aim : Aim K) (e : Entry T) → IsPlace key cmp {entries = es} aim (over e) → entry_among es e.index ≡ Some (e.generation, e.item)
  over-here es distinct (at_key k) e at = entry_at-after es e distinct at.gap at.here
  over-here es distinct (beside i Equal) e at = ap (entry_among es) at.0 ∙ at.1
  over-here es distinct aim e at = absurd at

  over-found : (old : Tree T) → IsDistinct old.list.entries → (aim : Aim K) (e : Entry T) → IsPlace key cmp {entries = old.list.entries} aim (over e) → item_of old (pointer e) ≡ Some e.item
  over-found old distinct aim e at = rw (over-here old.list.entries distinct aim e at, eq-eqb e.generation e.generation refl) refl

  -- what an entry of an insertion inserts
  module _ {P I G : Type 0} (numbers : P → ℕ × ℕ) (number : I → ℕ) (growth : Growth) (most : ℕ) (kind : OrdInsertKind P K I G)
      (old arena new : Tree T) (distinct : IsDistinct old.list.entries) (shown : OrdEntryKind P) (put : Entry T → List (Entry T))
      (visits : ℕ) (item : T) (before : Option T)
      (asked : IsEntryFor numbers key cmp number growth most kind old shown put visits arena) where
    abbrev Inserted : OrdEntryKind P → Option T → Type 0
    Inserted shown before = InsertsBy key cmp most growth (aim_of number kind) numbers old item (Ok (shown, before)) new

    abbrev IsAwaited : Place old.list.entries → OrdEntryKind P → Type 0
    IsAwaited place shown = IsPlace key cmp (aim_of number kind) place × Awaits numbers growth most old arena place put shown

    pub entry-inserts : InsertsThere numbers shown put arena item before new → Inserted shown before
    entry-inserts there = go asked.place shown before (asked.chosen, asked.awaits) there
      where
        go : (place : Place old.list.entries) (shown : OrdEntryKind P) (before : Option T) → IsAwaited place shown
            → InsertsThere numbers shown put arena item before new → Inserted shown before
        go (into gap) (New p) None (at, awaits) there = record {
          gap = gap;
          place = at;
          inserted = subst (λ (c : Chain T). IsInsertion c new.list (with_between gap) item (numbers p).0 (numbers p).1)
              (ap (λ (t : Tree T). t.list) awaits.room) (IsInsertion-same _ _ _ _ item _ _ awaits.puts there.0);
          grown = subst (λ (t : Tree T). IsGrown t.shape new.shape) awaits.room there.1;
        }
        go (over e) (Replacing p) (Some before) (at, awaits) there =
            let had : item_of arena (numbers p) ≡ Some e.item = rw (awaits.1, awaits.0)
            (over-found old distinct (aim_of number kind) e at) in
            record { entry = e; place = at; named = awaits.0; taken = cc; after = rw (awaits.1, awaits.0) at there.1 }
        go (into gap) (New p) before awaited there = absurd there
        go (over e) (Replacing p) before awaited there = absurd there
        go place shown before awaited there = absurd awaited.1

    -- the same by what the kind goes by; behind a key it is a new entry
    pub entry-inserts-by : (aim : Aim K) → aim_of number kind ≡ aim → InsertsThere numbers shown put arena item before new
        → InsertsBy key cmp most growth aim numbers old item (Ok (shown, before)) new
    entry-inserts-by aim is there = subst (λ (a : Aim K). InsertsBy key cmp most growth a numbers old item (Ok (shown, before)) new) is (entry-inserts there)

    pub entry-inserts-new : (k : K) → aim_of number kind ≡ behind_key k → InsertsThere numbers shown put arena item before new
        → InsertsNew key cmp most growth (behind_key k) old item (numbers (pointer_of_kind shown)) new
    entry-inserts-new k is there = inserts-new key cmp most growth k numbers old item new (shown, before) (entry-inserts-by (behind_key k) is there)

  -- the same by the item's key, as the pointer and the replaced item
  module _ {P I G : Type 0} (numbers : P → ℕ × ℕ) (number : I → ℕ) (growth : Growth) (most : ℕ) (old arena new : Tree T)
      (distinct : IsDistinct old.list.entries) (k : K) (shown : OrdEntryKind P) (put : Entry T → List (Entry T)) (visits : ℕ) (item : T)
      (before : Option T) (p : P) (key_is : k ≡ key item) (pointer_is : p ≡ pointer_of_kind shown)
      (asked : IsEntryFor numbers {G = G} key cmp number growth most (Normal k) old shown put visits arena) where
    abbrev InsertsKey : K → Result (OrdEntryKind P × Option T) OrdInsertionError → Type 0
    InsertsKey k answer = InsertsBy key cmp most growth (at_key k) numbers old item answer new

    pub entry-with_kind : InsertsThere numbers shown put arena item before new → InsertsKey (key item) (with_kind (Ok (p, before)))
    entry-with_kind there = rw (← key_is) (go shown before pointer_is
        (entry-inserts numbers number growth most (Normal k) old arena new distinct shown put visits item before asked there))
      where
        go : (shown : OrdEntryKind P) (before : Option T) → p ≡ pointer_of_kind shown → InsertsKey k (Ok (shown, before))
            → InsertsKey k (with_kind (Ok (p, before)))
        go (New q) None is ins = rw is ins
        go (Replacing q) (Some before) is ins = rw is ins
        go shown before is ins = absurd ins

-- a write through a reference that was lent, by what pointers find
module _ {T : Type 0} (a : Tree T) (p : ℕ × ℕ) (item : T) where
  pub found-written : item_of (with_item a p.0 item) p ≡ option_map (λ old. item) (item_of a p)
  found-written = rw (entry_at-with_item_among a.list.entries p.0 item) (go (entry_at a p.0))
    where
      go : (o : Option (ℕ × T)) → item_if p.1 (option_map (λ e. (e.0, item)) o) ≡ option_map (λ old. item) (item_if p.1 o)
      go o = grind (arith, common_steps)

  pub others-written : IsSome (item_of a p) → (q : ℕ × ℕ) → q ≢ p → item_of (with_item a p.0 item) q ≡ item_of a q
  others-written there q apart = (updates-written a p item there).others q apart

-- what pointers find after a write, to be cited by a caller
pub ruleset written = (found-written, others-written, count-written)

-- what the searches by key find
module _ {T K : Type 0} (key : T → K) (cmp : K → K → Ordering) (t : Tree T) (k : K) (distinct : IsDistinct t.list.entries) where
  module _ {P : Type 0} (numbers : P → ℕ × ℕ) where
    finds_here : (e : Entry T) → entry_at t e.index ≡ Some (e.generation, e.item) → (p : P) → numbers p ≡ pointer e → (o : Ordering)
        → cmp k (key e.item) ≡ o → FindsBy key cmp t k (numbers p) o
    finds_here e there p named o lies = rw (named, there, eq-eqb e.generation e.generation refl) lies

    pub finds-similar : (o : Option (P × Ordering)) (c : ℕ)
        → FindsSimilar key cmp t.list.entries k (option_map (λ a. (numbers a.0, a.1)) o) c
        → IfSome o (λ a. FindsBy key cmp t k (numbers a.0) a.1)
    finds-similar None c found = tt
    finds-similar (Some a) c found =
        finds_here found.0 (similar-here key cmp t.list.entries k distinct (numbers a.0) a.1 c found) a.0 (ap (λ b. b.0) found.1) a.1 (sym (ap (λ b. b.1) found.1))

    pub finds-key : (o : Option P) (c : ℕ) → FindsKey key cmp t.list.entries k (option_map numbers o) c → IfSome o (λ p. FindsBy key cmp t k (numbers p) Equal)
    finds-key None c found = tt
    finds-key (Some p) c found = finds_here found.0 (entry_at-after t.list.entries found.0 distinct found.2.gap found.2.here) p found.1 Equal found.2.equal

-- what pointers find after all entries were moved
module _ {T : Type 0} (a : Tree T) (g : ℕ) where
  ended-of : ((i : ℕ) (e : ℕ × T) → entry_at a i ≡ Some e → e.0 ≡ g) → IsOfGeneration a g
  ended-of same p apart = go (entry_at a p.0) refl
    where
      go : (o : Option (ℕ × T)) → entry_at a p.0 ≡ o → item_of a p ≡ None
      go None is = rw is refl
      go (Some e) is = rw is (item_if-other g p.1 (Some e) (same p.0 e is) apart)

  pub ended-moved : (all es : List (Entry T)) (xs : List T) → a.list.entries ≡ map (moved all g xs) es → IsOfGeneration a g
  ended-moved all es xs is = ended-of (λ i e found. generation-moved all g xs es i e (ap (λ (es : List (Entry T)). entry_among es i) (sym is) ∙ found))

  pub ended-relocated : (all es : List (Entry T)) → a.list.entries ≡ map (at_compressed_index all g) es → IsOfGeneration a g
  ended-relocated all es is = ended-of (λ i e found. generation-relocated all g es i e (ap (λ (es : List (Entry T)). entry_among es i) (sym is) ∙ found))

  pub found-numbered : (xs : List T) → a.list.entries ≡ numbered g 1 xs → IsNumbered a g xs
  found-numbered xs is = record {
    inside = λ k. let later : k + 1 ≡ 1 + k = omega arith in rw (is, later, entry_at-numbered g 1 xs k) (item_if-own g (slice_get xs k));
    outside = λ k. rw (is, entry_at-numbered_before g 1 xs 0 (omega arith)) refl;
    ended = ended-of (λ i e found. generation-numbered g 1 xs i e (ap (λ (es : List (Entry T)). entry_among es i) (sym is) ∙ found));
  }

-- what pointers find after a transfer
module _ {P Q T U F : Type 0} (numbers_from : Q → ℕ × ℕ) (numbers_to : P → ℕ × ℕ) (greatest : Option ℕ)
    (step : F → Q → InvalidationOption U → P → T → F → Type 0) (g : ℕ) where
  items-counted : (es : List (Entry U)) (s t : Transferring F T) → FoldsTo (TransferStep numbers_from numbers_to greatest step g) s es t → length t.items ≡ length s.items + length es
  items-counted [] s t same = omega (arith, ap (λ (s : Transferring F T). length s.items) same)
  items-counted (e ∷ es) s t calls = omega (arith, items-counted es calls.0 t calls.2, ap length calls.1.behind, length-append s.items (calls.1.item ∷ []))

  module _ (f : F) (source left : Tree U) (old new : Tree T) (h : IsTransfer numbers_from numbers_to greatest step g f source.list left.list old.list new.list) where
    entries-transferred : new.list.entries ≡ numbered g 1 h.last.items
    entries-transferred = ap (λ (c : Chain T). c.entries) h.after

    pub found-transferred : IsNumbered new g (items new)
    found-transferred =
        let P : List T → Type 0 = λ xs. IsNumbered new g xs in
        subst P (sym (ap (λ (es : List (Entry T)). map (λ e. e.item) es) entries-transferred ∙ items-numbered g 1 h.last.items)) (found-numbered new g h.last.items entries-transferred)

    pub count-transferred : count new ≡ count source
    count-transferred =
        let items : length (map (λ (e : Entry T). e.item) new.list.entries) ≡ length h.last.items =
        ap length (ap (λ (es : List (Entry T)). map (λ e. e.item) es) entries-transferred ∙ items-numbered g 1 h.last.items) in
        omega (arith, items, length-map new.list.entries (λ e. e.item), items-counted source.list.entries (record { closure = f; items = []; generation = source.list.generation }) h.last h.calls)

    pub emptied-transferred : FindsNothing left
    emptied-transferred p = ap (λ (c : Chain U). item_if p.1 (entry_among c.entries p.0)) h.left

-- A clone of an ordered arena whose calls each return the item that they are shown.
module _ {P T F : Type 0} (numbers : P → ℕ × ℕ) (step : F → P → Bor T → Result T AllocError → F → Type 0)
    (answers : (f : F) (p : P) (u : Bor T) (x : T) (g : F) → step f p u (Ok x) g → x ≡ u.now) where
  pub clone-made : (most : ℕ) (greatest : Option ℕ) (f : F) (source : Tree T) → IsSound most greatest source.list → (old new : Tree T)
      → (last : F) × IsClone numbers (IsShown step) f source old new last → new ≡ cloned source old
  clone-made most greatest f source sound old new (last, h) = ap (λ (l : Chain T). record { list = l; shape = new.shape })
      (clone-same numbers (Grants numbers (ShowsItem step)) (λ f p u x g called. answers f p called.0 x g called.2 ∙ called.1) most greatest f
      source.list sound old.list new.list last h.list)
      ∙ ap (λ (s : Shape). record { list = taken_over source.list old.list source.list.entries; shape = s }) h.shape

-- if calls fail only for fallible items
module _ {P T F : Type 0} (numbers : P → ℕ × ℕ) (step : F → P → Bor T → Result T AllocError → F → Type 0) (infallible : T → Type 0)
    (refuses : (f : F) (p : P) (u : Bor T) (e : AllocError) (g : F) → step f p u (Err e) g → infallible u.now → ⊥) where
  pub clone-refused_clone : (f : F) (source old new : Tree T) → (last : F) × IsRefusedClone numbers (IsShown step) f source old new last
      → FindsFallible infallible source × (new ≡ refused_clone source old)
  clone-refused_clone f source old new (last, h) =
      let shown = h.list.stops.called in
      let found = refused-found numbers (ShowsItem step) f source.list old.list new.list last h.list in
      let item : infallible h.list.stops.refused.2.item → ⊥ = rw (← shown.1) (refuses h.list.stops.reached h.list.stops.pointer shown.0 h.list.stops.refusal last shown.2) in (
        ((h.list.stops.refused.0, h.list.stops.refused.1), rw found item),
        ap (λ (l : Chain _). record { list = l; shape = new.shape }) h.list.after
            ∙ ap (λ (s : Shape). record { list = taken_over source.list old.list []; shape = s }) h.shape,
      )

-- cloning an arena without entries never fails
module _ {T A B : Type 0} (r : Result (Unit {0}) ReallocationError) (source : Tree T) (limit capacity : ℕ) (infallible : T → Type 0)
    (beyond : r ≡ Err BeyondMaxCapacity → limit < greatest_index source.list.entries)
    (memory : r ≡ Err NoMemory → ((capacity < greatest_index source.list.entries) × A) ⊎ (FindsFallible infallible source × B))
    (none : count source ≡ 0) where
  empty : source.list.entries ≡ []
  empty = nil_from_length source.list.entries none

  least : greatest_index source.list.entries ≡ 0
  least = ap greatest_index empty

  nothing : FindsFallible infallible source → ⊥
  nothing found = subst (λ (es : List (Entry T)). IsSomeAnd (item_among es found.0) (λ item. infallible item → ⊥)) empty found.1

  pub empty-unrefused : (e : ReallocationError) → r ≡ Err e → ⊥
  empty-unrefused BeyondMaxCapacity is = let far = beyond is in omega (arith, least)
  empty-unrefused NoMemory is = elim (memory is) [
    | inl kept ↦ let far = kept.0 in omega (arith, least)
    | inr refused ↦ nothing refused.0
  ]
