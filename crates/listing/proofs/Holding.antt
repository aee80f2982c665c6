-- What a change of an ordered arena makes of the listing that it holds.
use Rattle.std.proofs.Common.{◌≡◌, ◌≢◌, ℕ, ◌+◌, ◌≤◌, List, [], ◌∷◌, ◌++◌, length, Option, Some, None, Result, Ok, Err, IfSome, IfOk, OnOk, OnErr, is_some, refl, sym, ap, subst, ◌∙◌, arith}
use Rattle.std.specs.{List.AllByRecursion, Cmp.IsTotalOrder, Option.option_map}
use Rattle.std.specs.declared.cmp.Ordering.{Ordering, TheVariants.Less, TheVariants.Greater}
use Rattle.std.proofs.lemmas.List.Elements.{recursion_from_All}
use Rattle.triple_ord.specs.{PlainArena.limit_of, Tree.Tree, Rekey.Rekeys, Order.IsInOrder, Search.order_to, Gap.Gap, Gap.last_of, Gap.with_between, Place.behind_key}
use Rattle.triple_ord.specs.Chain.{Entry, Chain, times, without, removed, chain_limit, IsSound as IsSoundChain}
use Rattle.triple_ord.specs.{Insertion.InsertsNew, Insertion.with_room_by, declared.growth.Growth.Growth}
use Rattle.triple_ord.specs.Arena.{item_of as item_of_arena}
use Rattle.triple_ord.proofs.ChainLemmas.{after-insertion}
use Rattle.triple_ord.proofs.CallerLemmas.{entries-with_room_by, numbers-with_room_by, numbers-inserted, capacity-inserted, inserted-new, all_less, IsInOrder-rest, IsInOrder-back, in_order-one, in_order-more}
use Rattle.listing.specs.Held.{item_key, listing_of, HoldsListing, Puts}
use Rattle.listing.specs.Listing.{Listing, entry_of, get, key_of, put_behind, with_entry, without_entry, with_key, with_left, AreSorted, IsSound, IsFree}
use Rattle.listing.proofs.Order.{put-between, sorted-put, sorted-without}

module _ {K V : Type 0} (cmp : K → K → Ordering) where
  pub sorted-in_order : (es : List (Entry (K × V))) → AreSorted cmp es → IsInOrder item_key cmp es
  sorted-in_order [] sorted = λ front back e f cut. absurd (let nil : length (front ++ e ∷ f ∷ back) ≡ 0 = sym (ap length cut) in omega (arith, nil, length_cut front (e ∷ f ∷ back)))
    where
      length_cut : {X : Type 0} (xs ys : List X) → length (xs ++ ys) ≡ length xs + length ys
      length_cut [] ys = omega arith
      length_cut (x ∷ xs) ys = omega (arith, length_cut xs ys)
  sorted-in_order (e ∷ []) sorted = in_order-one item_key cmp e
  sorted-in_order (e ∷ f ∷ es) sorted =
      in_order-more item_key cmp e f es (recursion_from_All (λ x. cmp (key_of e) (key_of x) ≢ Greater) (f ∷ es) sorted.0).0 (sorted-in_order (f ∷ es) sorted.1)

  -- what holds of every listing
  pub held-sound : (most : ℕ) (greatest : Option ℕ) (a : Tree (K × V)) → IsSoundChain most greatest a.list → HoldsListing cmp a → IsSound cmp most (listing_of a)
  held-sound most greatest a sound held = record {
    sorted = held.sorted;
    distinct = sound.distinct;
    indexed = sound.within;
    within = omega (arith, sound.counted);
    limited = omega (arith, sound.within_limit, ap (limit_of most) held.unlimited);
  }

  module _ (total : IsTotalOrder cmp) where
    -- where a key isn't less than that of the last of a front, it is less than none of it
    at_most : (k : K) (front back : List (Entry (K × V))) → IsInOrder item_key cmp (front ++ back) → IfSome (last_of None front) (λ e. order_to item_key cmp k e ≢ Less)
        → AllByRecursion (λ e. cmp k (key_of e) ≢ Less) front
    at_most k [] back order last = tt
    at_most k (e ∷ []) back order last = (last, tt)
    at_most k (e ∷ (f ∷ front)) back order last =
        let rest = at_most k (f ∷ front) back (IsInOrder-rest item_key cmp e (f ∷ front ++ back) order) last in
        (λ less. rest.0 ((all_less item_key cmp total k (e ∷ f ∷ (front ++ back)) order less).1.0), rest)

    -- the gap behind a key is where an entry with this key is put
    module _ (es : List (Entry (K × V))) (order : IsInOrder item_key cmp es) (gap : Gap es) (x : Entry (K × V)) where
      put-gap : IfSome (last_of None gap.front) (λ e. order_to item_key cmp (key_of x) e ≢ Less) → AllByRecursion (λ e. cmp (key_of x) (key_of e) ≡ Less) gap.back
          → put_behind cmp x es ≡ with_between gap x
      put-gap before behind =
          ap (put_behind cmp x) gap.cut ∙ put-between cmp x gap.front gap.back (at_most (key_of x) gap.front gap.back (rw (gap.cut) at order) before) behind

    -- a new entry
    module _ (most : ℕ) (greatest : Option ℕ) (growth : Growth) (old new : Tree (K × V)) (k : K) (v : V) (p : ℕ × ℕ)
        (inserts : InsertsNew item_key cmp most growth (behind_key k) old (k, v) p new) where
      abbrev room : Chain (K × V)
      room = with_room_by growth most old.list

      unused : times p.0 old.list.entries ≡ 0
      unused = ap (times p.0) (sym (entries-with_room_by growth most old.list)) ∙ inserts.inserted.vacant.free

      pub puts-inserted : IsSoundChain most greatest old.list → HoldsListing cmp old → Puts cmp most old p (k, v) new
      unfolding with_entry
      puts-inserted sound held =
          let order = sorted-in_order old.list.entries held.sorted in
          let gap = inserts.gap in
          let numbers = numbers-inserted growth most old.list new.list (with_between gap) (k, v) p.0 p.1 inserts.inserted in
          let capacity = capacity-inserted growth most old.list new.list (with_between gap) (k, v) p.0 p.1 inserts.inserted sound.counted held.unlimited in
          let ordered : IsInOrder item_key cmp (gap.front ++ gap.back) = rw (gap.cut) at order in
          let listed : new.list.entries ≡ put_behind cmp (entry_of p (k, v)) old.list.entries =
          ap (λ (c : Chain (K × V)). c.entries) (after-insertion room new.list (with_between gap) (k, v) p.0 p.1 inserts.inserted).1
          ∙ sym (put-gap old.list.entries order gap (entry_of p (k, v)) inserts.place.at_most_before
          (all_less item_key cmp total k gap.back (IsInOrder-back item_key cmp gap.front gap.back ordered) inserts.place.greater_after)) in
          record {
            equation = rw (listed, numbers.0, capacity) refl;
            free = record { of_generation = inserts.inserted.generation ∙ (numbers-with_room_by growth most old.list).0; unused = unused };
            held = record { sorted = rw listed (sorted-put cmp total (entry_of p (k, v)) old.list.entries held.sorted); unlimited = numbers.1 ∙ held.unlimited };
          }

    -- another key
    module _ (old new : Tree (K × V)) (p : ℕ × ℕ) (k : K) (held : HoldsListing cmp old) where
      moved : (pair : K × V) → item_of_arena old p ≡ Some pair → Rekeys item_key cmp old p (k, pair.1) new → (listing_of new ≡ with_key cmp (listing_of old) p k) × HoldsListing cmp new
      unfolding with_key
      moved pair is r =
          let rest = without p.0 old.list.entries in
          let order = sorted-in_order rest (sorted-without cmp p.0 old.list.entries held.sorted) in
          let ordered : IsInOrder item_key cmp (r.gap.front ++ r.gap.back) = rw (r.gap.cut) at order in
          let listed : new.list.entries ≡ put_behind cmp (entry_of p (k, pair.1)) rest =
          r.entries ∙ sym (put-gap rest order r.gap (entry_of p (k, pair.1)) r.place.at_most_before
          (all_less item_key cmp total k r.gap.back (IsInOrder-back item_key cmp r.gap.front r.gap.back ordered) r.place.greater_after)) in (
            rw is (rw (ap (λ (c : Chain (K × V)). c.generation) r.kept, ap (λ (c : Chain (K × V)). c.capacity) r.kept, listed) refl),
            record {
              sorted = rw listed (sorted-put cmp total (entry_of p (k, pair.1)) rest (sorted-without cmp p.0 old.list.entries held.sorted));
              unlimited = ap (λ (c : Chain (K × V)). c.maximum) r.kept ∙ held.unlimited;
            },
          )

      stale : item_of_arena old p ≡ None → new ≡ old → (listing_of new ≡ with_key cmp (listing_of old) p k) × HoldsListing cmp new
      unfolding with_key
      stale none same = (rw none (ap listing_of same), subst (λ (a : Tree (K × V)). HoldsListing cmp a) (sym same) held)

      -- by what the call on the ordered arena tells
      pub rekeyed : (r : Result K K) → OnOk r (IfSome (item_of_arena old p) (λ pair. Rekeys item_key cmp old p (k, pair.1) new))
          → IfOk r (λ before. option_map (λ pair. pair.0) (item_of_arena old p) ≡ Some before) → OnErr r (item_of_arena old p ≡ None) → OnErr r (new ≡ old)
          → (listing_of new ≡ with_key cmp (listing_of old) p k) × HoldsListing cmp new
      rekeyed (Ok was) rekeys before none same = go (item_of_arena old p) refl rekeys before
        where
          go : (o : Option (K × V)) → item_of_arena old p ≡ o → IfSome o (λ pair. Rekeys item_key cmp old p (k, pair.1) new) → option_map (λ pair. pair.0) o ≡ Some was
              → (listing_of new ≡ with_key cmp (listing_of old) p k) × HoldsListing cmp new
          go None is rekeys before = absurd (cc)
          go (Some pair) is rekeys before = moved pair is rekeys
      rekeyed (Err back) rekeys before none same = stale none same

  -- a removal
  module _ (greatest : Option ℕ) (old new : Tree (K × V)) (p : ℕ × ℕ) where
    pub removed-listing : (x : K × V) → item_of_arena old p ≡ Some x → new.list ≡ removed greatest old.list p.0 → listing_of new ≡ without_entry greatest (listing_of old) p
    unfolding without_entry
    removed-listing x is after = rw is (ap (λ (c : Chain (K × V)). record { entries = c.entries; generation = c.generation; capacity = c.capacity }) after)

    pub removed-held : new.list ≡ removed greatest old.list p.0 → HoldsListing cmp old → HoldsListing cmp new
    removed-held after held = record { sorted = rw after (sorted-without cmp p.0 old.list.entries held.sorted); unlimited = rw after held.unlimited }

  -- an arena that took a new entry wasn't full
  pub not_full : (most : ℕ) (greatest : Option ℕ) (growth : Growth) (old new : Tree (K × V)) (k : K) (item : K × V) (p : ℕ × ℕ) → InsertsNew item_key cmp most growth (behind_key k) old item p new
      → IsSoundChain most greatest new.list → length old.list.entries ≡ chain_limit most old.list → ⊥
  not_full most greatest growth old new k item p inserts sound full =
      let facts = inserted-new old new (with_room_by growth most old.list) (entries-with_room_by growth most old.list) inserts.gap item p inserts.inserted in
      let numbers = numbers-inserted growth most old.list new.list (with_between inserts.gap) item p.0 p.1 inserts.inserted in
      absurd (omega (arith, facts.2, sound.counted, sound.within_limit, ap (limit_of most) numbers.1, full))
