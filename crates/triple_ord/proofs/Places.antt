-- The place of an insertion, from the answer of a search or from an index.
use Rattle.triple_ord.proofs.Words.{◌≡◌, ◌≢◌, ◌==◌, if◌then◌else◌, IfNone, is_some, ℕ, ◌+◌, ◌≤◌, false, true, length, List, [], ◌∷◌, ◌++◌, Option, Some, None, IsSome, Result, Ok, Err, IfErr, refl, sym, ap, ◌∙◌, arith, append_assoc, eq-eqb}
use Rattle.triple_ord.proofs.Words.{after, with_between, FindsSimilar, taken, Ties, Sought, Passed, Aim, alone, at_key, behind_key, beside, Place, into, over, nowhere, IsPlace, aim_of, Growth, Within, Reallocating, Side, Lesser, OnGreater, slice_get_cases}
use Rattle.triple_ord.proofs.Words.{insert_after, insert_before, with_room_by, Entry, Chain, entry_at, next_index, IsDistinct, IsSound, IsInsertion, Tree, IsGrown, put_on, put_at, insert_at, nat_tests, nil_from_length, IfSome_then, option_map, Ordering, Less, Equal, ◌⊎◌, inl, inr}
use Rattle.triple_ord.proofs.Words.{Greater, IsErrAnd, with_item, item_of, count, Updates, IsNearHint, IsWithinBounds, IsWithinHintedBounds, Gap, before, LacksSlot, IsRefused, InsertsBeside, OrdInsertKind, OrdInsertionError, after-insertion, ◌≢◌}
use Rattle.triple_ord.proofs.Inserting.{last_of-append, stands, HasPlace, place-alone, similar-placed, similar-occupied, similar-here, similar-first, similar-seen, IsInsertion-same, put_before, put_after}
use Rattle.triple_ord.proofs.{CallerLemmas.entries-with_room_by, CallerLemmas.updates-written, CallerLemmas.count-written, CallerLemmas.inserted-new, OrderLaws.taken-less, OrderLaws.taken-greater, OrderLaws.passed-unequal}
use Rattle.std.specs.Prelude.{ok_or}
use Rattle.triple_ord.proofs.Words.{NotWithinCapacity, common_steps}
use Rattle.triple_ord.specs.declared.prepared.InsertPlace.{InsertPlace, TheVariants.New, TheVariants.Replacing}
use Rattle.triple_ord.specs.Prepared.{Keeps, IsFoundPlace, IsPlaceBeside, IsPlaceFor, HasRoomAt, order_on, side_by, place_at, kind_by, kind_near}
use Rattle.ord_tree.specs.Tree.{CanInsertAt}
use Rattle.triple_ord.specs.Insertion.{PutsBeside, PutsAlone}
use Rattle.triple_ord.specs.{declared.error.OrdInsertionError.TheVariants.BeyondMaxCapacity, declared.error.OrdInsertionError.TheVariants.AllocError, EntryVisits.HasSeen}

pub item_here : {T : Type 0} (t : Tree T) (i : ℕ) (x : ℕ × T) → entry_at t.list.entries i ≡ Some x → IsSome (item_of t (i, x.0))
item_here t i x there = rw (there, eq-eqb x.0 x.0 refl) refl

-- an order that isn't `Equal` names a side
pub side-named : (o : Ordering) → (o ≡ Less) ⊎ (o ≡ Greater) → (side : Side) × (o ≡ order_on side)
side-named o (inl less) = (Lesser, less)
side-named o (inr greater) = (OnGreater, greater)

pub side-unequal : (o : Ordering) → o ≢ Equal → (side : Side) × (o ≡ order_on side)
side-unequal Less unequal = (Lesser, refl)
side-unequal Equal unequal = absurd (unequal refl)
side-unequal Greater unequal = (OnGreater, refl)

-- a place beside an entry by the order to it, and by the side
module _ {T I : Type 0} (number : I → ℕ) where
  pub insert_at-on : (i : I) (side : Side) (es : List (Entry T)) → insert_at number (Some (i, order_on side)) es ≡ put_on side (number i) es
  insert_at-on i Lesser es = refl
  insert_at-on i OnGreater es = refl

  pub CanInsertAt-on : (i : I) (side : Side) (c : Chain T) → IsSome (entry_at c.entries (number i)) → CanInsertAt number (Some (i, order_on side)) c
  CanInsertAt-on i Lesser c there = there
  CanInsertAt-on i OnGreater c there = there

-- a side of the entry with an index is a gap
module _ {T K : Type 0} (key : T → K) (cmp : K → K → Ordering) (es : List (Entry T)) (i : ℕ) (there : IsSome (entry_at es i)) where
  pub record OnSide (side : Side) : Type 0 where
    pub gap : Gap es
    pub at : IsPlace key cmp (beside i (order_on side)) (into gap)
    pub puts : (new : Entry T) → put_on side i es new ≡ with_between gap new

  pub on-side : (side : Side) → OnSide side
  on-side Lesser =
      let s = stands es i there in
      let gap : Gap es = record { front = s.front; back = s.entry ∷ s.back; cut = s.cut } in
      let put = λ (new : Entry T). rw s.here at (put_before new s.front s.entry s.back (rw s.here s.first)) in
      record { gap = gap; at = s.here; puts = λ new. ap (insert_before i new) s.cut ∙ put new }
  on-side OnGreater =
      let s = stands es i there in
      let gap : Gap es = record { front = s.front ++ s.entry ∷ []; back = s.back; cut = s.cut ∙ simp append_assoc } in
      let last = last_of-append None s.front s.entry [] in
      let put = λ (new : Entry T). rw s.here at (put_after new s.front s.entry s.back (rw s.here s.first)) in
      record { gap = gap; at = rw last s.here; puts = λ new. ap (insert_after i new) s.cut ∙ put new ∙ simp append_assoc }

module _ {P T K : Type 0} (numbers : P → ℕ × ℕ) (key : T → K) (cmp : K → K → Ordering) (t : Tree T) where
  module _ (k : K) (c : ℕ) where
    -- a gap where a search by a key stops is its place
    module _ (at : Option (P × Side)) (can : HasRoomAt numbers at t.list) where
      found-gap : HasPlace key cmp t.list.entries k c (put_at (λ p. (numbers p).0) at t.list.entries) → (t.list.entries ≢ [] → 1 ≤ c)
          → IsFoundPlace numbers key cmp t (at_key k) c (New at)
      found-gap place some =
          let seen : HasSeen (into place.gap) c = record { some = some; beside = place.stops.seen } in
          record { place = into place.gap; chosen = place.stops.fits; keeps = (can, place.puts); seen = seen }

    pub found-alone : t.list.entries ≡ [] → IsFoundPlace numbers key cmp t (at_key k) c (New None)
    found-alone empty = found-gap None (ap length empty) (place-alone key cmp t.list.entries k empty c) (λ some. absurd (some empty))

    module _ (distinct : IsDistinct t.list.entries) (p : P) (o : Ordering) (found : FindsSimilar key cmp t.list.entries k (Some (numbers p, o)) c) where
      found-beside : (side : Side) → o ≡ order_on side → IsFoundPlace numbers key cmp t (at_key k) c (New (Some (p, side)))
      found-beside side on =
          found-gap (Some (p, side)) (similar-occupied key cmp t.list.entries k distinct (numbers p) o c found)
          (similar-placed key cmp t.list.entries k distinct (numbers p) o c found side on)
          (λ some. similar-seen key cmp t.list.entries k distinct (numbers p) o c found)

      found-over : o ≡ Equal → IsFoundPlace numbers key cmp t (at_key k) c (Replacing p)
      found-over equal =
          let there = similar-here key cmp t.list.entries k distinct (numbers p) o c found in
          let here = item_here t found.0.index (found.0.generation, found.0.item) there in
          record {
            place = over found.0;
            chosen = similar-first key cmp t.list.entries k distinct (numbers p) o c found equal;
            keeps = (ap (λ a. a.0) found.1, rw (ap (λ a. a.0) found.1) here);
            seen = record { some = λ some. similar-seen key cmp t.list.entries k distinct (numbers p) o c found; beside = tt };
          }

    -- where a search by a key ended is its place
    pub found-at : IsDistinct t.list.entries → (p : P) (o : Ordering) → FindsSimilar key cmp t.list.entries k (Some (numbers p, o)) c
        → IsFoundPlace numbers key cmp t (at_key k) c (place_at (p, o))
    found-at distinct p Less found = found-beside distinct p Less found Lesser refl
    found-at distinct p Equal found = found-over distinct p Equal found refl
    found-at distinct p Greater found = found-beside distinct p Greater found OnGreater refl

  -- a place by the order with equal keys counting as smaller lies behind the key
  behind : (k : K) (place : Place t.list.entries) → IsPlace key (taken Passed cmp) (at_key k) place → IsPlace key cmp (behind_key k) place
  behind k (into gap) at = record {
    at_most_before = IfSome_then (before gap) at.lesser_before (λ e lesser. taken-greater cmp k (key e.item) Passed lesser);
    greater_after = IfSome_then (after gap) at.greater_after (λ e more. taken-less cmp k (key e.item) Passed more);
  }
  behind k (over e) at = absurd (passed-unequal cmp k (key e.item) at.equal)
  behind k nowhere at = absurd at

  -- the place by a key, by how the search treats equal keys
  abbrev IsFoundBy : K → ℕ → InsertPlace P → Ties → Type 0
  IsFoundBy k c kept ties = IsFoundPlace numbers key (taken ties cmp) t (at_key k) c kept

  module _ {I G : Type 0} (number : I → ℕ) (k : K) (c : ℕ) (kept : InsertPlace P) where
    pub placed-by : (ties : Ties) → IsFoundBy k c kept ties → IsWithinBounds (length t.list.entries) t.shape c
        → IsPlaceFor numbers key cmp t {G = G} number (kind_by ties k) kept c
    placed-by Sought f bounded = record { place = f.place; chosen = f.chosen; keeps = f.keeps; visits = record { seen = f.seen; bounded = bounded } }
    placed-by Passed f bounded =
        let at = behind k f.place f.chosen in
        record { place = f.place; chosen = at; keeps = f.keeps; visits = record { seen = f.seen; bounded = bounded } }

    module _ (i : I) (num : ℕ) (bounded : IsWithinHintedBounds (length t.list.entries) t.shape num c)
        (unhinted : IfNone (entry_at t.list.entries (number i)) (IsWithinBounds (length t.list.entries) t.shape c))
        (near : IsNearHint key cmp t.list.entries k (number i) num c) where
      pub placed-near : (ties : Ties) → IsFoundBy k c kept ties → IsPlaceFor numbers key cmp t {G = G} number (kind_near ties i num k) kept c
      placed-near Sought f =
          record { place = f.place; chosen = f.chosen; keeps = f.keeps; visits = record { seen = f.seen; bounded = bounded; unhinted = unhinted; near = near } }
      placed-near Passed f =
          let chosen = behind k f.place f.chosen in
          record { place = f.place; chosen = chosen; keeps = f.keeps; visits = record { seen = f.seen; bounded = bounded; unhinted = unhinted; near = near } }

  -- the entry with an index: beside it, or in place of its item
  module _ (p : P) (i g : ℕ) (item : T) (named : numbers p ≡ (i, g)) (there : entry_at t.list.entries i ≡ Some (g, item)) where
    beside-over : IsPlaceBeside numbers key cmp t (beside i Equal) (Some (Replacing p))
    beside-over = (over (record { index = i; generation = g; item = item }), (refl, there), (named, rw named (item_here t i (g, item) there)))

    beside-put : (side : Side) → IsPlaceBeside numbers key cmp t (beside i (order_on side)) (Some (New (Some (p, side))))
    beside-put side =
        let some : IsSome (entry_at t.list.entries i) = rw there refl in
        let on = on-side key cmp t.list.entries i some side in
        let index : (numbers p).0 ≡ i = ap (λ n. n.0) named in
        (into on.gap, on.at, (rw index some, rw index on.puts))

    pub beside-at : (o : Ordering) → IsPlaceBeside numbers key cmp t (beside i o) (Some (place_at (p, o)))
    beside-at Less = beside-put Lesser
    beside-at Equal = beside-over
    beside-at Greater = beside-put OnGreater

  -- as the only entry
  pub alone-here : (length t.list.entries == 0) ≡ true → IsPlaceBeside numbers key cmp t alone (Some (New None))
  alone-here test =
      let is = nil_from_length t.list.entries (grind (arith, nat_tests)) in
      (into (record { front = []; back = []; cut = is }), is, (ap length is, λ new. ap (λ xs. new ∷ xs) is))

  pub alone-refused : (length t.list.entries == 0) ≡ false → IsPlaceBeside numbers key cmp t alone None
  alone-refused test empty = absurd (let n : length t.list.entries ≡ 0 = ap length empty in grind (arith, nat_tests))

-- a place beside an entry, or for the only one, is a gap
module _ {P T : Type 0} (numbers : P → ℕ × ℕ) (t : Tree T) where
  pub put-gap : (at : Option (P × Side)) → HasRoomAt numbers at t.list
      → (gap : Gap t.list.entries) × ((new : Entry T) → put_at (λ p. (numbers p).0) at t.list.entries new ≡ with_between gap new)
  put-gap None none =
      let empty = nil_from_length t.list.entries none in
      (record { front = []; back = []; cut = empty }, λ new. ap (λ xs. new ∷ xs) empty)
  put-gap (Some (p, side)) can =
      let on = on-side (λ (item : T). tt {0}) (λ k l. Equal) t.list.entries (numbers p).0 can side in
      (on.gap, on.puts)

-- an insertion returns the pointer that was next
module _ {T : Type 0} (c d : Chain T) (put : Entry T → List (Entry T)) (item : T) (i g j h : ℕ) (next : next_index c ≡ Some j)
    (era : h ≡ c.generation) where
  pub insertion-named : IsInsertion c d put item i g → IsInsertion c d put item j h
  insertion-named ins =
      let index : i ≡ j = let was = ins.next in cc in
      rw (← index, era ∙ sym ins.generation) ins

-- an error that a `?` passes on
pub err-and : {X E : Type 0} {Q R : E → Type 0} (r : Result X E) → IsErrAnd r Q → ((e : E) → Q e → R e) → IfErr r R
err-and r has step = grind (arith, common_steps)

-- a new entry for a gap that is its place fails without a slot
module _ {T K : Type 0} (key : T → K) (cmp : K → K → Ordering) (most : ℕ) (aim : Aim K) (old : Tree T) (gap : Gap old.list.entries)
    (at : IsPlace key cmp aim (into gap)) where
  gap-refused : (growth : Growth) (e : OrdInsertionError) → LacksSlot growth most old.list e → IsRefused key cmp most growth aim old e
  gap-refused Within NotWithinCapacity lacks = (gap, at, lacks)
  gap-refused Reallocating BeyondMaxCapacity lacks = (gap, at, lacks)
  gap-refused Reallocating AllocError lacks = (gap, at, lacks)
  gap-refused growth e lacks = absurd lacks

module _ {P T K I G : Type 0} (numbers : P → ℕ × ℕ) (key : T → K) (cmp : K → K → Ordering) (number : I → ℕ) (growth : Growth) (most : ℕ)
    (old : Tree T) (kind : OrdInsertKind P K I G) (c : ℕ) (at : Option (P × Side))
    (found : IsPlaceFor numbers key cmp old number kind (New at) c)
    (e : OrdInsertionError) (lacks : LacksSlot growth most old.list e) where
  pub new-refused : IsRefused key cmp most growth (aim_of number kind) old e
  new-refused = go found.place found.chosen found.keeps
    where
      go : (place : Place old.list.entries) → IsPlace key cmp (aim_of number kind) place → Keeps numbers old (New at) place
          → IsRefused key cmp most growth (aim_of number kind) old e
      go (into gap) chosen keeps = gap-refused key cmp most (aim_of number kind) old gap chosen growth e lacks
      go place chosen keeps = absurd keeps

-- no slot is vacant if there is no next index
pub full : {T : Type 0} (most : ℕ) (greatest : Option ℕ) (c : Chain T) → IsSound most greatest c → next_index c ≡ None → length c.entries ≡ c.capacity
full most greatest c sound none = grind (arith, common_steps, slice_get_cases c.vacant 0, sound.counted)

-- a pointer that is wanted and isn't there shows that no slot is vacant
module _ {P T : Type 0} (most : ℕ) (c : Chain T) where
  pub lacks-within : (p : Option P) (r : Result P OrdInsertionError) → r ≡ ok_or p NotWithinCapacity → (p ≡ None → length c.entries ≡ c.capacity) → IfErr r (LacksSlot Within most c)
  lacks-within None r is none = rw is (none refl)
  lacks-within (Some p) r is none = rw is tt

-- an insertion beside the entry with an index
module _ {T : Type 0} (most : ℕ) (old new : Tree T) (item : T) (i : ℕ) where
  pub record IsBesideDone (o : Ordering) (before : Option T) : Type 0 where
    pub inserts : InsertsBeside most i o old item (Ok before) new
    pub updates : (q : ℕ × ℕ) × Updates old new q (Some item)
    pub counted : count new ≡ (if is_some before then count old else count old + 1)

  pub beside-replaced : (before : T) → option_map (λ e. e.1) (entry_at old.list.entries i) ≡ Some before → new ≡ with_item old i item
      → IsBesideDone Equal (Some before)
  beside-replaced before had after = go (entry_at old.list.entries i) refl had
    where
      go : (x : Option (ℕ × T)) → entry_at old.list.entries i ≡ x → option_map (λ e. e.1) x ≡ Some before → IsBesideDone Equal (Some before)
      go None there had = absurd (cc)
      go (Some x) there had = record {
        inserts = ((i, x.0), record { entry = record { index = i; generation = x.0; item = x.1 }; place = (refl, there); named = refl; taken = cc; after = after });
        updates = ((i, x.0), rw after (updates-written old (i, x.0) item (item_here old i x there)));
        counted = rw after (count-written old i item);
      }

  module _ (side : Side) (occupied : IsSome (entry_at old.list.entries i)) where
    on : OnSide (λ (item : T). tt {0}) (λ k l. Equal) old.list.entries i occupied side
    on = on-side (λ (item : T). tt {0}) (λ k l. Equal) old.list.entries i occupied side

    pub beside-inserted : (p : ℕ × ℕ) → IsInsertion (with_room_by Reallocating most old.list) new.list (put_on side i old.list.entries) item p.0 p.1
        → IsGrown old.shape new.shape → IsBesideDone (order_on side) None
    beside-inserted p inserted grown =
        let there = IsInsertion-same _ _ _ _ item _ _ on.puts inserted in
        let done = inserted-new old new (with_room_by Reallocating most old.list) (entries-with_room_by Reallocating most old.list) on.gap item p there in
        record { inserts = (p, record { gap = on.gap; place = on.at; inserted = there; grown = grown }); updates = (p, done.1); counted = done.2 }

    -- the same within the capacity
    pub record IsPutBeside (p : ℕ × ℕ) : Type 0 where
      pub inserts : PutsBeside most i (order_on side) old item p new
      pub updates : Updates old new p (Some item)
      pub counted : count new ≡ count old + 1
      pub capacity : new.list.capacity ≡ old.list.capacity

    pub beside-reserved : (p : ℕ × ℕ) → IsInsertion old.list new.list (put_on side i old.list.entries) item p.0 p.1
        → IsGrown old.shape new.shape → IsPutBeside p
    beside-reserved p inserted grown =
        let there = IsInsertion-same _ _ _ _ item _ _ on.puts inserted in
        let done = inserted-new old new old.list refl on.gap item p there in
        let after = after-insertion old.list new.list (put_on side i old.list.entries) item p.0 p.1 inserted in
        record {
          inserts = record { gap = on.gap; place = on.at; inserted = there; grown = grown };
          updates = done.1;
          counted = done.2;
          capacity = ap (λ (c : Chain T). c.capacity) after.1;
        }

    module _ (f : OrdInsertionError) (lacks : LacksSlot Reallocating most old.list f) (same : new ≡ old) where
      pub beside-refused : (r : Result (Option T) OrdInsertionError) → IsErrAnd r (λ e. e ≡ f) → InsertsBeside most i (order_on side) old item r new
      beside-refused (Ok x) none = absurd none
      beside-refused (Err e) is =
          record { refused = gap-refused (λ item. tt {0}) (λ k l. Equal) most (beside i (order_on side)) old on.gap on.at Reallocating e (rw is lacks); after = same }

-- an insertion as the only entry
module _ {T : Type 0} (most : ℕ) (old new : Tree T) (item : T) (empty : old.list.entries ≡ []) where
  pub record IsPutAlone (p : ℕ × ℕ) : Type 0 where
    pub inserts : PutsAlone most old item p new
    pub updates : Updates old new p (Some item)
    pub counted : count new ≡ 1
    pub capacity : new.list.capacity ≡ old.list.capacity

  abbrev only : Gap old.list.entries
  only = record { front = []; back = []; cut = empty }

  pub alone-reserved : (p : ℕ × ℕ) → IsInsertion old.list new.list (λ e. e ∷ old.list.entries) item p.0 p.1
      → IsGrown old.shape new.shape → IsPutAlone p
  alone-reserved p inserted grown =
      let there : IsInsertion old.list new.list (with_between only) item p.0 p.1 =
      IsInsertion-same old.list new.list _ (with_between only) item p.0 p.1 (λ e. ap (λ (es : List (Entry T)). e ∷ es) empty) inserted in
      let done = inserted-new old new old.list refl only item p there in
      let after = after-insertion old.list new.list (λ e. e ∷ old.list.entries) item p.0 p.1 inserted in
      record {
        inserts = record { gap = only; place = empty; inserted = there; grown = grown };
        updates = done.1;
        counted = omega (arith, done.2, ap length empty);
        capacity = ap (λ (c : Chain T). c.capacity) after.1;
      }
