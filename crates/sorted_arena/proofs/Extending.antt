-- Pairs that are inserted behind the last key.
use Rattle.std.proofs.Common.{◌≡◌, ◌≢◌, ◌<◌, ◌≤◌, ℕ, zero, suc, nat_lt, slice_index_or, slice_get, ◌++◌, List, [], ◌∷◌, map, take, reverse, length, length-append, arith, ◌+◌, ◌-◌, true, false, Option, Some, None, Vec, Ok, Err, IsSomeAnd, refl, sym, ap, subst, ◌∙◌, append_assoc, append-nil}
use Rattle.std.proofs.{lemmas.Grind.common_steps, lemmas.Bool.Decides.nat_tests, lemmas.List.map-append, lemmas.List.length-map, lemmas.List.reverse-append}
use Rattle.std.specs.{Option.option_map_or, List.AllByRecursion, List.AllAdjacentBelow, List.Sorted.IsSortedBy, Ordering.is_gt, Ordering.is_lt, Ordering.ordering_reverse, Cmp.IsTotalOrder}
use Rattle.std.specs.declared.cmp.Ordering.{Ordering, TheVariants.Less, TheVariants.Equal, TheVariants.Greater}
use Rattle.listing.specs.{Chain.Entry, Chain.item_of, Gap.last_of, Order.IsInOrder, PlainArena.capacity_for}
use Rattle.listing.specs.ReallocationError.{ReallocationError, TheVariants.BeyondMaxCapacity as NoRoom, TheVariants.AllocError as NoMemory}
use Rattle.sorted_arena.specs.{Change.ExtendsSorted, Change.ChangesCapacity, Change.sorted_error, Layout.item_key}
use Rattle.sorted_arena.specs.declared.error.SortedError.{SortedError, TheVariants.OutOfOrder, TheVariants.BeyondMaxCapacity, TheVariants.AllocError}
use Rattle.sorted_arena.specs.Sorted.{Sorted, count, key_of, pair_of, last_item, with_entry, Keeps, AreSorted, AreInOrder, IsFree, IsOutOfOrder}
use Rattle.listing.proofs.OrdLemmas.{IsInOrder-rest, in_order-one, in_order-more, all_less}
use Rattle.listing.specs.Steps.{IsStep}
use Rattle.sorted_arena.proofs.Merging.{inserts-item, with_item-last, keeps-all, keeps-more, steps-none, steps-more}
use Rattle.sorted_arena.proofs.Cutting.{gt_is, in_order-sorted, some-same, sorted-items}
use Rattle.listing.proofs.CallerLemmas.{generation-with_entry, sorted-in_order}

module _ {X : Type 0} where
  pub cut_more : (all xs ys zs : List X) (x : X) → all ≡ xs ++ ys → ys ≡ x ∷ zs → all ≡ (xs ++ x ∷ []) ++ zs
  cut_more all xs ys zs x cut step = cut ∙ ap (λ l. xs ++ l) step ∙ sym (append_assoc xs (x ∷ []) zs)

  pub taken-front : (all xs ys : List X) (n : ℕ) → all ≡ xs ++ ys → n ≡ length xs → xs ≡ take n all
  taken-front all xs ys n cut is = rw (cut, is) (go xs)
    where
      go : (zs : List X) → zs ≡ take (length zs) (zs ++ ys)
      go [] = grind (arith, common_steps)
      go (z ∷ zs) = ap (λ (l : List X). z ∷ l) (go zs)

  pub cut_all : (all xs ys : List X) → all ≡ xs ++ ys → length ys ≡ 0 → xs ≡ all
  cut_all all xs [] cut none = sym (cut ∙ append-nil xs)
  cut_all all xs (y ∷ ys) cut none = absurd (omega arith)

not_less : {K : Type 0} (cmp : K → K → Ordering) → IsTotalOrder cmp → (k l : K) → cmp l k ≢ Greater → is_lt (cmp k l) ≡ false
not_less cmp total k l most = go (cmp k l) refl
  where
    go : (o : Ordering) → cmp k l ≡ o → is_lt (cmp k l) ≡ false
    go Less is = absurd (most (total.antisymm l k ∙ ap ordering_reverse is))
    go Equal is = ap is_lt is
    go Greater is = ap is_lt is

module _ {K V : Type 0} where
  pub counted : (n before : ℕ) (es old : List (Entry (K × V))) (more : List (K × V)) → n ≡ length es → before ≡ length old → map pair_of es ≡ map pair_of old ++ more
      → n ≡ before + length more
  counted n before es old more len was held =
      omega (arith, len, was, ap length held, length-map es (pair_of {K = K} {V = V}), length-map old (pair_of {K = K} {V = V}), length-append (map pair_of old) more)

  pub last-item : (es : List (Entry (K × V))) → last_of None (map pair_of es) ≡ last_item es
  last-item [] = refl
  last-item (e ∷ []) = refl
  last-item (e ∷ f ∷ es) = last-item (f ∷ es)

  module _ (cmp : K → K → Ordering) (k : K) where
    -- the last key is greater
    pub last-greater : (es : List (Entry (K × V))) → option_map_or (λ x. is_gt (cmp x.0 k)) (last_item es) false ≡ true
        → IsSomeAnd (last_of None (map pair_of es)) (λ x. cmp x.0 k ≡ Greater)
    last-greater es greater = rw (last-item es) (go (last_item es) greater)
      where
        go : (o : Option (K × V)) → option_map_or (λ x. is_gt (cmp x.0 k)) o false ≡ true → IsSomeAnd o (λ x. cmp x.0 k ≡ Greater)
        go None greater = absurd (cc)
        go (Some x) greater = gt_is (cmp x.0 k) greater

    -- where it isn't, a new entry stands behind all others
    module _ (total : IsTotalOrder cmp) where
      all-not_less : (es : List (Entry (K × V))) → AreSorted cmp es → option_map_or (λ x. is_gt (cmp x.0 k)) (last_item es) false ≡ false → AllByRecursion (λ e. is_lt (cmp k (key_of e)) ≡ false) es
      all-not_less [] sorted last = tt
      all-not_less (e ∷ []) sorted last = (not_less cmp total k (key_of e) (λ more. let both : is_gt (cmp (key_of e) k) ≡ true = ap is_gt more in cc), tt)
      all-not_less (e ∷ f ∷ es) sorted last = let rest = all-not_less (f ∷ es) sorted.1 last in (go (cmp k (key_of e)) refl rest.0, rest)
        where
          go : (o : Ordering) → cmp k (key_of e) ≡ o → is_lt (cmp k (key_of f)) ≡ false → is_lt (cmp k (key_of e)) ≡ false
          go Less is next = absurd (let less : cmp k (key_of f) ≡ Less = (all_less item_key cmp total k (e ∷ f ∷ es) (sorted-in_order cmp (e ∷ f ∷ es) sorted) is).1.0 in
              let both : is_lt (cmp k (key_of f)) ≡ true = ap is_lt less in cc)
          go Equal is next = ap is_lt is
          go Greater is next = ap is_lt is

      pub appended : (most : ℕ) (old new : Sorted K V) (p : ℕ × ℕ) (v : V) → new ≡ with_entry cmp most old p (k, v) → AreSorted cmp old.entries
          → option_map_or (λ x. is_gt (cmp x.0 k)) (last_item old.entries) false ≡ false → map pair_of new.entries ≡ map pair_of old.entries ++ (k, v) ∷ []
      appended most old new p v is sorted last = inserts-item cmp most old new p k v is ∙ with_item-last cmp k v old.entries (all-not_less old.entries sorted last)

not_gt : (o : Ordering) → is_gt o ≡ false → o ≢ Greater
not_gt o is greater = absurd (let both : is_gt o ≡ true = ap is_gt greater in cc)

-- pairs that go on behind entries
module _ {K V : Type 0} (cmp : K → K → Ordering) where
  -- no key is greater than the next
  abbrev pub Ascends : List (K × V) → Type 0
  Ascends [] = Unit {0}
  Ascends (x ∷ []) = Unit {0}
  Ascends (x ∷ y ∷ xs) = (cmp x.0 y.0 ≢ Greater) × Ascends (y ∷ xs)

  abbrev Answers : List (K × V) → Type 0
  Answers xs = AllAdjacentBelow (λ x y. cmp x.0 y.0 ≢ Greater) xs (length xs)

  pub ascends-answered : (xs : List (K × V)) → Answers xs → Ascends xs
  ascends-answered [] answers = tt
  ascends-answered (x ∷ []) answers = tt
  ascends-answered (x ∷ y ∷ xs) answers = (answers 0 x (omega arith), ascends-answered (y ∷ xs) rest)
    where
      rest : Answers (y ∷ xs)
      rest k d within =
          let next : suc k + 1 ≡ suc (k + 1) = omega arith in
          subst (λ (n : ℕ). cmp (slice_index_or (y ∷ xs) k d).0 (slice_index_or (x ∷ y ∷ xs) n d).0 ≢ Greater) next (answers (suc k) d (omega arith))

  -- the first of the pairs, if any, has no smaller key than the last entry
  abbrev pub GoesOn : List (Entry (K × V)) → List (K × V) → Type 0
  GoesOn es [] = Unit {0}
  GoesOn es (x ∷ xs) = option_map_or (λ y. is_gt (cmp y.0 x.0)) (last_item es) false ≡ false

  pub goes-on : (es : List (Entry (K × V))) (xs : List (K × V)) (x : K × V) → slice_get xs 0 ≡ Some x → option_map_or (λ y. is_gt (cmp y.0 x.0)) (last_item es) false ≡ false → GoesOn es xs
  goes-on es [] x first on = tt
  goes-on es (y ∷ xs) x first on = let same : x ≡ y = cc in subst (λ (z : K × V). option_map_or (λ w. is_gt (cmp w.0 z.0)) (last_item es) false ≡ false) same on

  module _ (total : IsTotalOrder cmp) where
    abbrev made : List (K × V) → List (Entry (K × V))
    made xs = map (λ x. record { index = 0; generation = 0; item = x }) xs

    made-items : (xs : List (K × V)) → map pair_of (made xs) ≡ xs
    made-items [] = refl
    made-items (x ∷ xs) = ap (λ ys. x ∷ ys) (made-items xs)

    made-order : (xs : List (K × V)) → Ascends xs → IsInOrder item_key cmp (made xs)
    made-order [] up = sorted-in_order cmp [] tt
    made-order (x ∷ []) up = in_order-one item_key cmp _
    made-order (x ∷ y ∷ xs) up = in_order-more item_key cmp _ _ (made xs) up.0 (made-order (y ∷ xs) up.1)

    joined : (es : List (Entry (K × V))) (xs : List (K × V)) → IsInOrder item_key cmp es → GoesOn es xs → Ascends xs → IsInOrder item_key cmp (es ++ made xs)
    joined [] xs order on up = made-order xs up
    joined (e ∷ []) [] order on up = order
    joined (e ∷ []) (x ∷ xs) order on up = in_order-more item_key cmp e _ (made xs) (not_gt (cmp (key_of e) x.0) on) (made-order (x ∷ xs) up)
    joined (e ∷ f ∷ es) xs order on up =
        in_order-more item_key cmp e f (es ++ made xs) (order [] es e f refl) (joined (f ∷ es) xs (IsInOrder-rest item_key cmp e (f ∷ es) order) (later xs on) up)
      where
        later : (xs : List (K × V)) → GoesOn (e ∷ f ∷ es) xs → GoesOn (f ∷ es) xs
        later [] on = tt
        later (x ∷ xs) on = on

    pub continued : (es : List (Entry (K × V))) (xs : List (K × V)) → AreSorted cmp es → GoesOn es xs → Ascends xs → AreInOrder cmp (map pair_of es ++ xs)
    continued es xs sorted on up = (
      es ++ made xs,
      map-append pair_of es (made xs) ∙ ap (λ ys. map pair_of es ++ ys) (made-items xs),
      in_order-sorted cmp total (es ++ made xs) (joined es xs (sorted-in_order cmp es sorted) on up),
    )

    -- pairs that come behind no entries
    pub ordered-alone : (xs : List (K × V)) → Answers xs → (es : List (Entry (K × V))) → es ≡ [] → AreInOrder cmp (map pair_of es ++ xs)
    ordered-alone xs answers es none = subst (λ (fs : List (Entry (K × V))). AreInOrder cmp (map pair_of fs ++ xs)) (sym none) (continued [] xs tt (begins xs) (ascends-answered xs answers))
      where
        begins : (ys : List (K × V)) → GoesOn [] ys
        begins [] = tt
        begins (y ∷ ys) = refl

    -- pairs that were sorted are in order
    pub sorted-order : (xs : List (K × V)) → IsSortedBy (λ x y. is_lt (cmp x.0 y.0)) xs → (es : List (Entry (K × V))) → es ≡ [] → AreInOrder cmp (map pair_of es ++ xs)
    sorted-order xs sorted es none = ordered-alone xs answers es none
      where
        answers : Answers xs
        answers k d within more =
            let less : cmp (slice_index_or xs (k + 1) d).0 (slice_index_or xs k d).0 ≡ Less = total.antisymm (slice_index_or xs (k + 1) d).0 (slice_index_or xs k d).0 ∙ ap ordering_reverse more in
            let test : is_lt (cmp (slice_index_or xs (k + 1) d).0 (slice_index_or xs k d).0) ≡ true = ap is_lt less in
            let other = sorted k d (omega arith) within in
            absurd (cc)

    -- entries with items that are in order
    pub sorted-listed : (es : List (Entry (K × V))) (items : List (K × V)) → map pair_of es ≡ items → AreInOrder cmp items → AreSorted cmp es
    sorted-listed es items is order = sorted-items cmp es order.0 (is ∙ sym order.1) order.2

-- the next of pairs that stand in reverse
module _ {X : Type 0} where
  pub popped-reversed : (xs ys : List X) (x : X) → xs ≡ ys ++ x ∷ [] → reverse xs ≡ x ∷ reverse ys
  popped-reversed xs ys x cut = ap reverse cut ∙ reverse-append ys (x ∷ [])

  pub last-reversed : (xs : List X) (x : X) → Some x ≡ slice_get xs (length xs - 1) → (rest : List X) × (reverse xs ≡ x ∷ rest)
  last-reversed xs x is = let cut = go xs is in (reverse cut.0, popped-reversed xs cut.0 x cut.1)
    where
      go : (xs : List X) → Some x ≡ slice_get xs (length xs - 1) → (front : List X) × (xs ≡ front ++ x ∷ [])
      go [] is = absurd (cc)
      go (y ∷ []) is = ([], (let same : x ≡ y = cc in ap (λ z. z ∷ []) (sym same)))
      go (y ∷ z ∷ zs) is =
          let index : length (y ∷ z ∷ zs) - 1 ≡ suc (length (z ∷ zs) - 1) = omega arith in
          let rest = go (z ∷ zs) (is ∙ ap (slice_get (y ∷ z ∷ zs)) index) in
          (y ∷ rest.0, ap (λ l. y ∷ l) rest.1)

-- where a list is cut at an index
module _ {X : Type 0} where
  record IsCutIndex (xs : List X) (i : ℕ) : Type 0 where
    pub front : List X
    pub entry : X
    pub back : List X
    pub cut : xs ≡ front ++ entry ∷ back
    pub count : length front ≡ i

  cut-index : (xs : List X) (i : ℕ) → i < length xs → IsCutIndex xs i
  cut-index [] i within = absurd (omega arith)
  cut-index (x ∷ xs) zero within = record { front = []; entry = x; back = xs; cut = refl; count = refl }
  cut-index (x ∷ xs) (suc i) within =
      let rest = cut-index xs i (omega arith) in
      record { front = x ∷ rest.front; entry = rest.entry; back = rest.back; cut = ap (λ l. x ∷ l) rest.cut; count = omega (arith, rest.count) }

  index-front : (front back : List X) (k : ℕ) (d : X) → k < length front → slice_index_or (front ++ back) k d ≡ slice_index_or front k d
  index-front [] back k d less = absurd (omega arith)
  index-front (x ∷ front) back zero d less = refl
  index-front (x ∷ front) back (suc k) d less = index-front front back k d (omega arith)

  index-here : (front : List X) (x : X) (back : List X) (d : X) → slice_index_or (front ++ x ∷ back) (length front) d ≡ x
  index-here [] x back d = refl
  index-here (y ∷ front) x back d = index-here front x back d

  last-index : (front : List X) (d : X) → 0 < length front → last_of None front ≡ Some (slice_index_or front (length front - 1) d)
  last-index [] d some = absurd (omega arith)
  last-index (x ∷ []) d some = refl
  last-index (x ∷ y ∷ front) d some =
      let index : length (x ∷ y ∷ front) - 1 ≡ suc (length (y ∷ front) - 1) = omega arith in
      last-index (y ∷ front) d (omega arith) ∙ ap (λ n. Some (slice_index_or (x ∷ y ∷ front) n d)) (sym index)

-- the first pair whose key is smaller than that of the pair before it
pub first-out : {K V : Type 0} (cmp : K → K → Ordering) → IsTotalOrder cmp → (xs : List (K × V)) (i : ℕ) → AllAdjacentBelow (λ x y. cmp x.0 y.0 ≢ Greater) xs i → 1 ≤ i → i < length xs
    → (d e : K × V) → cmp (slice_index_or xs (i - 1) d).0 (slice_index_or xs i e).0 ≡ Greater → IsOutOfOrder cmp [] xs i
first-out {K = K} {V = V} cmp total xs i below least within d e greater =
    let c = cut-index xs i within in
    let same : (k : ℕ) (z : K × V) → k < length c.front → slice_index_or xs k z ≡ slice_index_or c.front k z = λ k z less. ap (λ (l : List (K × V)). slice_index_or l k z) c.cut ∙ index-front c.front (c.entry ∷ c.back) k z less in
    let here : slice_index_or xs i e ≡ c.entry = ap (λ n. slice_index_or xs n e) (sym c.count) ∙ ap (λ (l : List (K × V)). slice_index_or l (length c.front) e) c.cut ∙ index-here c.front c.entry c.back e in
    let before : slice_index_or xs (i - 1) d ≡ slice_index_or c.front (length c.front - 1) d = ap (λ n. slice_index_or xs (n - 1) d) (sym c.count) ∙ same (length c.front - 1) d (omega (arith, least, c.count)) in
    record {
      front = c.front;
      pair = c.entry;
      back = c.back;
      cut = c.cut;
      place = sym c.count;
      in_order = ordered-alone cmp total c.front (λ k z less.
          subst (λ (y : K × V). cmp (slice_index_or c.front k z).0 y.0 ≢ Greater) (same (k + 1) z less)
          (subst (λ (y : K × V). cmp y.0 (slice_index_or xs (k + 1) z).0 ≢ Greater) (same k z (omega (arith, less))) (below k z (omega (arith, less, c.count))))) [] refl;
      smaller = subst (λ (o : Option (K × V)). IsSomeAnd o (λ y. cmp y.0 c.entry.0 ≡ Greater)) (sym (last-index c.front d (omega (arith, least, c.count))))
          (ap (λ (y : K × V). cmp (slice_index_or c.front (length c.front - 1) d).0 y.0) (sym here) ∙ ap (λ (y : K × V). cmp y.0 (slice_index_or xs i e).0) (sym before) ∙ greater);
    }

-- so many pairs were inserted, and others are left
pub fewer-held : {K V : Type 0} (old now : Sorted K V) (pairs front back : List (K × V)) → pairs ≡ front ++ back → map pair_of now.entries ≡ map pair_of old.entries ++ front → 0 < length back
    → count now < count old + length pairs
fewer-held {K = K} {V = V} old now pairs front back cut held more =
    omega (
      arith,
      more,
      ap length cut,
      ap length held,
      length-append front back,
      length-append (map pair_of old.entries) front,
      length-map now.entries (pair_of {K = K} {V = V}),
      length-map old.entries (pair_of {K = K} {V = V}),
    )

-- Pairs that are inserted one after another, as long as they are in order and have room.
module _ {K V : Type 0} (cmp : K → K → Ordering) (most : ℕ) (old : Sorted K V) (pairs : List (K × V)) where
  -- those before these stand behind what was there, which stays
  pub record Inserting (now : Sorted K V) (rest : List (K × V)) : Type 0 where
    pub front : List (K × V)
    pub cut : pairs ≡ front ++ rest
    pub held : map pair_of now.entries ≡ map pair_of old.entries ++ front
    pub keeps : Keeps old now
    pub steps : IsStep old now
    pub generation : now.generation ≡ old.generation
    pub grown : old.capacity ≤ now.capacity
    pub room : count old + length pairs ≤ old.capacity → now.capacity ≡ old.capacity

  pub inserting-none : Inserting old pairs
  inserting-none = record {
    front = [];
    cut = refl;
    held = sym (append-nil (map pair_of old.entries));
    keeps = keeps-all old;
    steps = steps-none old;
    generation = refl;
    grown = omega arith;
    room = λ _. refl;
  }

  module _ (now : Sorted K V) (x : K × V) (rest : List (K × V)) (i : Inserting now (x ∷ rest)) where
    fewer : count now < count old + length pairs
    fewer = fewer-held old now pairs i.front (x ∷ rest) i.cut i.held (omega arith)

    -- room is made for it
    pub inserting-reserved : (reserved : Sorted K V) → ChangesCapacity now reserved → reserved.capacity ≡ capacity_for most now.capacity (count now + 1) → Inserting reserved (x ∷ rest)
    inserting-reserved reserved kept capacity = record {
      front = i.front;
      cut = i.cut;
      held = ap (map pair_of) kept.entries ∙ i.held;
      keeps = λ q there. ap (λ (es : List (Entry (K × V))). item_of es q) kept.entries ∙ i.keeps q there;
      steps = record { comes = λ q none there. rw (← kept.generation) at (i.steps.comes q none (rw kept.entries at there)) };
      generation = kept.generation ∙ i.generation;
      grown = let least : now.capacity ≤ reserved.capacity = rw capacity (grind (arith, nat_tests, common_steps)) in omega (arith, i.grown, least);
      room = λ fits.
          let same = i.room fits in
          let enough : count now + 1 ≤ now.capacity = omega (arith, fits, same, fewer) in
          capacity ∙ (let within : nat_lt now.capacity (count now + 1) ≡ false = grind (arith, nat_tests, common_steps) in rw within refl) ∙ same;
    }

    -- it is inserted
    pub inserting-more : IsTotalOrder cmp → (new : Sorted K V) (p : ℕ × ℕ) → AreSorted cmp now.entries → IsFree now p → new ≡ with_entry cmp most now p x → new.capacity ≡ now.capacity
        → option_map_or (λ y. is_gt (cmp y.0 x.0)) (last_item now.entries) false ≡ false → Inserting new rest
    inserting-more total new p sorted free put capacity last = record {
      front = i.front ++ x ∷ [];
      cut = i.cut ∙ sym (append_assoc i.front (x ∷ []) rest);
      held = appended cmp x.0 total most now new p x.1 put sorted last ∙ ap (λ xs. xs ++ x ∷ []) i.held ∙ append_assoc (map pair_of old.entries) i.front (x ∷ []);
      keeps = keeps-more cmp most old now new p x free put i.keeps;
      steps = steps-more cmp most old now new p x free put i.generation i.steps;
      generation = ap (λ (a : Sorted K V). a.generation) put ∙ generation-with_entry cmp most now p x ∙ i.generation;
      grown = omega (arith, i.grown, capacity);
      room = λ fits. capacity ∙ i.room fits;
    }

    -- the next one is refused: it and the rest come back
    module _ {B : Type 0} (back : Vec (K × V) B) (given : back.items ≡ x ∷ rest) where
      many : (n : ℕ) → n ≡ count now - count old → n ≡ length i.front
      many n is =
          omega (
            arith,
            is,
            ap length i.held,
            length-append (map pair_of old.entries) i.front,
            length-map now.entries (pair_of {K = K} {V = V}),
            length-map old.entries (pair_of {K = K} {V = V}),
          )

      stopped : (e : SortedError) → ((at : ℕ) → e ≡ OutOfOrder at → IsOutOfOrder cmp (map pair_of old.entries) pairs at)
          → ((at : ℕ) → e ≡ OutOfOrder at → map pair_of now.entries ≡ map pair_of old.entries ++ take at pairs) → (e ≡ BeyondMaxCapacity → count now ≡ most)
          → (e ≡ AllocError → count now ≡ now.capacity) → ExtendsSorted cmp most old pairs (Err (back, e)) now
      stopped e unsorted before full memory = record {
        ok = tt;
        back = (i.front, i.cut ∙ ap (λ xs. i.front ++ xs) (sym given), i.held);
        unsorted = λ at is. unsorted at (some-same is);
        before = λ at is. before at (some-same is);
        refused = fewer;
        kept = i.keeps;
        step = i.steps;
        generation = i.generation;
        grown = i.grown;
        room = i.room;
        full = λ is. let all : count now ≡ most = full (some-same is) in (all, omega (arith, all, fewer));
        memory = λ is. let all : count now ≡ now.capacity = memory (some-same is) in (all, omega (arith, all, fewer, i.grown));
      }

      -- since it is out of order
      pub stopped-order : AreSorted cmp now.entries → option_map_or (λ y. is_gt (cmp y.0 x.0)) (last_item now.entries) false ≡ true → (n : ℕ) → n ≡ count now - count old
          → ExtendsSorted cmp most old pairs (Err (back, OutOfOrder n)) now
      stopped-order sorted last n is = stopped (OutOfOrder n) (λ at same. unsorted at (let here : n ≡ at = cc in here)) (λ at same. before at (let here : n ≡ at = cc in here)) (λ same. absurd (cc)) (λ same. absurd (cc))
        where
          greater : IsSomeAnd (last_of None (map pair_of now.entries)) (λ y. cmp y.0 x.0 ≡ Greater)
          greater = last-greater cmp x.0 now.entries last

          unsorted : (at : ℕ) → n ≡ at → IsOutOfOrder cmp (map pair_of old.entries) pairs at
          unsorted at here = record {
            front = i.front;
            pair = x;
            back = rest;
            cut = i.cut;
            place = omega (arith, here, many n is);
            in_order = (now.entries, i.held, sorted);
            smaller = subst (λ (xs : List (K × V)). IsSomeAnd (last_of None xs) (λ y. cmp y.0 x.0 ≡ Greater)) i.held greater;
          }

          before : (at : ℕ) → n ≡ at → map pair_of now.entries ≡ map pair_of old.entries ++ take at pairs
          before at here =
              i.held ∙ ap (λ xs. map pair_of old.entries ++ xs) (taken-front pairs i.front (x ∷ rest) at i.cut (omega (arith, here, many n is)))

      -- since it has no room
      pub stopped-room : (refusal : ReallocationError) → (refusal ≡ NoRoom → count now ≡ most) → (refusal ≡ NoMemory → count now ≡ now.capacity)
          → ExtendsSorted cmp most old pairs (Err (back, sorted_error refusal)) now
      stopped-room NoRoom full memory = stopped BeyondMaxCapacity (λ at is. absurd (cc)) (λ at is. absurd (cc)) (λ is. full refl) (λ is. absurd (cc))
      stopped-room NoMemory full memory = stopped AllocError (λ at is. absurd (cc)) (λ at is. absurd (cc)) (λ is. absurd (cc)) (λ is. memory refl)

  -- all are inserted
  pub inserting-done : {B : Type 0} (now : Sorted K V) → Inserting now [] → ExtendsSorted {B = B} cmp most old pairs (Ok tt) now
  inserting-done now i = record {
    ok = i.held ∙ ap (λ xs. map pair_of old.entries ++ xs) (sym (i.cut ∙ append-nil i.front));
    back = tt;
    unsorted = λ at is. absurd (cc);
    before = λ at is. absurd (cc);
    refused = tt;
    kept = i.keeps;
    step = i.steps;
    generation = i.generation;
    grown = i.grown;
    room = i.room;
    full = λ is. absurd (cc);
    memory = λ is. absurd (cc);
  }
