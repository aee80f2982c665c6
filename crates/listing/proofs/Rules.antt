-- For callers: what pointers find in a listing after each change of it, and how many entries it has.
use Rattle.std.proofs.Common.{◌≡◌, ◌≢◌, ℕ, ◌+◌, ◌≤◌, Bool, true, false, List, [], ◌∷◌, filter, length, Option, Some, None, IsSome, is_some, refl, sym, ap, subst, ◌∙◌, arith, if◌then◌else◌, cond, inl}
use Rattle.std.specs.{Option.option_map, Ordering.is_lt, Ordering.is_le, declared.cmp.Ordering.Ordering}
use Rattle.std.proofs.lemmas.Bool.Decides.{nat_tests}
use Rattle.triple_ord.specs.Generation.{next_generation}
use Rattle.triple_ord.specs.Chain.{Entry, times, IsDistinct, item_of, without, first_pointer, last_pointer}
use Rattle.triple_ord.proofs.ChainLemmas.{entry_at-absent, length-with_item_among}
use Rattle.listing.specs.Listing.{Listing, entry_of, get, count, with_left, first_where, without_entry, without_first, without_last, without_found, without_where, with_passing, if_passing, first_item, first_item_until, last_item, behind_first, before_last, Updates, IsFree, key_of, put_behind, with_entry, with_key_from, with_key, with_value}
use Rattle.listing.specs.Steps.{IsStep}
use Rattle.listing.proofs.Pointers.{length-put, length-without_named, entry-updates, without-updates, key-updates, value-updates, first-same, last-same, item_of-passing}

-- a new entry
module _ {K V : Type 0} (cmp : K → K → Ordering) (most : ℕ) (a : Listing (K × V)) (p : ℕ × ℕ) (x : K × V) where
  pub count-with_entry : count (with_entry cmp most a p x) ≡ count a + 1
  unfolding with_entry
  count-with_entry = length-put cmp (entry_of p x) a.entries

  pub entries-with_entry : (with_entry cmp most a p x).entries ≡ put_behind cmp (entry_of p x) a.entries
  unfolding with_entry
  entries-with_entry = refl

  pub generation-with_entry : (with_entry cmp most a p x).generation ≡ a.generation
  unfolding with_entry
  generation-with_entry = refl

  pub capacity-with_entry : count a + 1 ≤ a.capacity → (with_entry cmp most a p x).capacity ≡ a.capacity
  unfolding with_entry
  capacity-with_entry room = grind (arith, nat_tests)

  pub get-with_entry : IsFree a p → get (with_entry cmp most a p x) p ≡ Some x
  get-with_entry free = (entry-updates cmp most a p x free).changed

  pub get-with_entry_other : IsFree a p → (q : ℕ × ℕ) → q ≢ p → get (with_entry cmp most a p x) q ≡ get a q
  get-with_entry_other free = (entry-updates cmp most a p x free).others

  -- it is found by a test that it passes
  pub found-with_entry : (test : Entry (K × V) → Bool) → test (entry_of p x) ≡ true → is_some (first_where test (with_entry cmp most a p x).entries) ≡ true
  unfolding with_entry
  found-with_entry test passes = go a.entries
    where
      go : (es : List (Entry (K × V))) → is_some (first_where test (put_behind cmp (entry_of p x) es)) ≡ true
      go [] = rw passes refl
      go (e ∷ es) = by (is_lt (cmp x.0 (key_of e))) (test e) refl (go es)
        where
          by : (b c : Bool) → test e ≡ c → is_some (first_where test (put_behind cmp (entry_of p x) es)) ≡ true
              → is_some (first_where test (if b then entry_of p x ∷ e ∷ es else e ∷ put_behind cmp (entry_of p x) es)) ≡ true
          by true c is later = rw passes refl
          by false true is later = rw is refl
          by false false is later = rw is later

-- a pointer that an entry may get names nothing
module _ {T : Type 0} where
  pub get-free : (a : Listing T) (p : ℕ × ℕ) → IsFree a p → get a p ≡ None
  get-free a p free = rw (entry_at-absent a.entries p.0 free.unused) refl

-- another key
module _ {K V : Type 0} (cmp : K → K → Ordering) (a : Listing (K × V)) (p : ℕ × ℕ) (k : K) where
  pub count-with_key : count (with_key cmp a p k) ≡ count a
  unfolding with_key
  count-with_key = go (get a p) refl
    where
      go : (o : Option (K × V)) → get a p ≡ o → count (with_key_from cmp a p o k) ≡ count a
      go None is = refl
      go (Some x) is = length-put cmp (entry_of p (k, x.1)) (without p.0 a.entries) ∙ sym (length-without_named a.entries p x is)

  pub get-with_key : IsDistinct a.entries → get (with_key cmp a p k) p ≡ option_map (λ x. (k, x.1)) (get a p)
  get-with_key distinct = (key-updates cmp a p k distinct).changed

  pub get-with_key_other : IsDistinct a.entries → (q : ℕ × ℕ) → q ≢ p → get (with_key cmp a p k) q ≡ get a q
  get-with_key_other distinct = (key-updates cmp a p k distinct).others

  pub entries-with_key : (x : K × V) → get a p ≡ Some x → (with_key cmp a p k).entries ≡ put_behind cmp (entry_of p (k, x.1)) (without p.0 a.entries)
  unfolding with_key
  entries-with_key x is = rw is refl

  pub with_key-none : None ≡ get a p → with_key cmp a p k ≡ a
  unfolding with_key
  with_key-none none = rw (← none) refl

-- another value
module _ {K V : Type 0} (a : Listing (K × V)) (p : ℕ × ℕ) (v : V) where
  pub count-with_value : count (with_value a p (get a p) v) ≡ count a
  count-with_value = go (get a p)
    where
      go : (o : Option (K × V)) → count (with_value a p o v) ≡ count a
      go None = refl
      go (Some x) = length-with_item_among a.entries p.0 (x.0, v)

  pub get-with_value : get (with_value a p (get a p) v) p ≡ option_map (λ x. (x.0, v)) (get a p)
  get-with_value = (value-updates a p v).changed

  pub get-with_value_other : (q : ℕ × ℕ) → q ≢ p → get (with_value a p (get a p) v) q ≡ get a q
  get-with_value_other = (value-updates a p v).others

-- one entry fewer
module _ {T : Type 0} (greatest : Option ℕ) (a : Listing T) where
  pub count-without_entry : (p : ℕ × ℕ) (x : T) → Some x ≡ get a p → count a ≡ count (without_entry greatest a p) + 1
  unfolding without_entry
  count-without_entry p x there = rw (← there) (length-without_named a.entries p x (sym there))

  pub capacity-without_entry : (p : ℕ × ℕ) → (without_entry greatest a p).capacity ≡ a.capacity
  unfolding without_entry
  capacity-without_entry p = go (is_some (get a p))
    where
      go : (b : Bool) → (if b then with_left greatest a (without p.0 a.entries) else a).capacity ≡ a.capacity
      go true = refl
      go false = refl

  -- by the pointer of an entry it opens
  pub without_entry-some : (p : ℕ × ℕ) → is_some (get a p) ≡ true → without_entry greatest a p ≡ with_left greatest a (without p.0 a.entries)
  unfolding without_entry
  without_entry-some p there = rw there refl

  pub entries-without_entry : (p : ℕ × ℕ) → is_some (get a p) ≡ true → (without_entry greatest a p).entries ≡ without p.0 a.entries
  entries-without_entry p there = ap (λ (b : Listing T). b.entries) (without_entry-some p there)

  pub without_entry-none : (p : ℕ × ℕ) → None ≡ get a p → without_entry greatest a p ≡ a
  unfolding without_entry
  without_entry-none p none = rw (← none) refl

  pub get-without_entry : (p : ℕ × ℕ) → IsDistinct a.entries → get (without_entry greatest a p) p ≡ None
  get-without_entry p distinct = (without-updates greatest a p distinct).changed

  pub get-without_entry_other : (p : ℕ × ℕ) → IsDistinct a.entries → (q : ℕ × ℕ) → q ≢ p → get (without_entry greatest a p) q ≡ get a q
  get-without_entry_other p distinct = (without-updates greatest a p distinct).others

  -- by the pointer of the first entry, and of the first that passes a test
  pub get-without_first : (p : ℕ × ℕ) → Some p ≡ first_pointer a.entries → IsDistinct a.entries → get (without_first greatest a) p ≡ None
  get-without_first p first distinct = rw (first-same greatest a p first) (get-without_entry p distinct)

  pub get-without_first_other : (p : ℕ × ℕ) → Some p ≡ first_pointer a.entries → IsDistinct a.entries → (q : ℕ × ℕ) → q ≢ p → get (without_first greatest a) q ≡ get a q
  get-without_first_other p first distinct q apart = rw (first-same greatest a p first) (get-without_entry_other p distinct q apart)

  pub count-without_first : (x : T) → Some x ≡ first_item a.entries → count a ≡ count (without_first greatest a) + 1
  unfolding without_first
  count-without_first x there = rw (← there) (go a.entries there)
    where
      go : (es : List (Entry T)) → Some x ≡ first_item es → length es ≡ length (behind_first es) + 1
      go [] is = absurd (cc)
      go (e ∷ es) is = omega arith

  pub capacity-without_first : (without_first greatest a).capacity ≡ a.capacity
  unfolding without_first
  capacity-without_first = go (is_some (first_item a.entries))
    where
      go : (b : Bool) → (if b then with_left greatest a (behind_first a.entries) else a).capacity ≡ a.capacity
      go true = refl
      go false = refl

  pub generation-without_first : (x : T) → Some x ≡ first_item a.entries → (without_first greatest a).generation ≡ next_generation greatest a.generation
  unfolding without_first
  generation-without_first x there = rw (← there) refl

  pub entries-without_first : (without_first greatest a).entries ≡ behind_first a.entries
  unfolding without_first
  entries-without_first = go a.entries refl
    where
      go : (es : List (Entry T)) → a.entries ≡ es → (if is_some (first_item es) then with_left greatest a (behind_first es) else a).entries ≡ behind_first es
      go [] is = is
      go (e ∷ es) is = refl

  pub without_first-none : None ≡ first_item a.entries → without_first greatest a ≡ a
  unfolding without_first
  without_first-none none = rw (← none) refl

  -- the last entry
  pub count-without_last : (x : T) → Some x ≡ last_item a.entries → count a ≡ count (without_last greatest a) + 1
  unfolding without_last
  count-without_last x there = rw (← there) (go a.entries x there)
    where
      go : (es : List (Entry T)) (x : T) → Some x ≡ last_item es → length es ≡ length (before_last es) + 1
      go [] x is = absurd (cc)
      go (e ∷ []) x is = omega arith
      go (e ∷ f ∷ es) x is = omega (arith, go (f ∷ es) x is)

  pub capacity-without_last : (without_last greatest a).capacity ≡ a.capacity
  unfolding without_last
  capacity-without_last = go (is_some (last_item a.entries))
    where
      go : (b : Bool) → (if b then with_left greatest a (before_last a.entries) else a).capacity ≡ a.capacity
      go true = refl
      go false = refl

  pub entries-without_last : (without_last greatest a).entries ≡ before_last a.entries
  unfolding without_last
  entries-without_last = go a.entries refl
    where
      some : (e : Entry T) (es : List (Entry T)) → is_some (last_item (e ∷ es)) ≡ true
      some e [] = refl
      some e (f ∷ es) = some f es

      go : (es : List (Entry T)) → a.entries ≡ es → (if is_some (last_item es) then with_left greatest a (before_last es) else a).entries ≡ before_last es
      go [] is = is
      go (e ∷ es) is = rw (some e es) refl

  pub without_last-none : None ≡ last_item a.entries → without_last greatest a ≡ a
  unfolding without_last
  without_last-none none = rw (← none) refl

  pub get-without_last : (p : ℕ × ℕ) → Some p ≡ last_pointer a.entries → IsDistinct a.entries → get (without_last greatest a) p ≡ None
  get-without_last p last distinct = rw (last-same greatest a p last distinct) (get-without_entry p distinct)

  pub get-without_last_other : (p : ℕ × ℕ) → Some p ≡ last_pointer a.entries → IsDistinct a.entries → (q : ℕ × ℕ) → q ≢ p → get (without_last greatest a) q ≡ get a q
  get-without_last_other p last distinct q apart = rw (last-same greatest a p last distinct) (get-without_entry_other p distinct q apart)

  pub without_where-found : (test : Entry T → Bool) (p : ℕ × ℕ) → Some p ≡ first_where test a.entries → without_where greatest a test ≡ without_entry greatest a p
  unfolding without_where
  without_where-found test p found = rw (← found) refl

  pub get-without_where : (test : Entry T → Bool) (p : ℕ × ℕ) → Some p ≡ first_where test a.entries → IsDistinct a.entries → get (without_where greatest a test) p ≡ None
  get-without_where test p found distinct = rw (without_where-found test p found) (get-without_entry p distinct)

  pub get-without_where_other : (test : Entry T → Bool) (p : ℕ × ℕ) → Some p ≡ first_where test a.entries → IsDistinct a.entries
      → (q : ℕ × ℕ) → q ≢ p → get (without_where greatest a test) q ≡ get a q
  get-without_where_other test p found distinct q apart = rw (without_where-found test p found) (get-without_entry_other p distinct q apart)

  pub without_where-none : (test : Entry T → Bool) → None ≡ first_where test a.entries → without_where greatest a test ≡ a
  unfolding without_where
  without_where-none test none = rw (← none) refl

  -- many entries fewer
  pub get-with_passing : (test : Entry T → Bool) → IsDistinct a.entries → (q : ℕ × ℕ) → get (with_passing greatest a test) q ≡ if_passing test q (get a q)
  unfolding with_passing
  get-with_passing test distinct q = item_of-passing test a.entries distinct q

  pub count-with_passing : (test : Entry T → Bool) → count (with_passing greatest a test) ≤ count a
  unfolding with_passing
  count-with_passing test = go a.entries
    where
      go : (es : List (Entry T)) → length (filter test es) ≤ length es
      go [] = omega arith
      go (e ∷ es) = by (test e) (go es)
        where
          by : (b : Bool) → length (filter test es) ≤ length es → length (cond b (e ∷ filter test es) (filter test es)) ≤ length (e ∷ es)
          by true less = omega (arith, less)
          by false less = omega (arith, less)

  pub entries-with_passing : (test : Entry T → Bool) → (with_passing greatest a test).entries ≡ filter test a.entries
  unfolding with_passing
  entries-with_passing test = refl

-- the first entry, where its key is at most this one
pub count-without_first_until : {K V : Type 0} (greatest : Option ℕ) (a : Listing (K × V)) (cmp : K → K → Ordering) (until : K) (x : K × V) → Some x ≡ first_item_until cmp until a.entries
    → count a ≡ count (without_first greatest a) + 1
count-without_first_until {K} {V} greatest a cmp until x there = count-without_first greatest a x (go a.entries there)
  where
    go : (es : List (Entry (K × V))) → Some x ≡ first_item_until cmp until es → Some x ≡ first_item es
    go [] is = absurd (cc)
    go (e ∷ es) is = by (is_le (cmp (key_of e) until)) is
      where
        by : (b : Bool) → Some x ≡ (if b then Some e.item else None) → Some x ≡ Some e.item
        by true is = is
        by false is = absurd (cc)

pub ruleset words = (count-with_entry, generation-with_entry, capacity-with_entry, get-with_entry, get-with_entry_other, found-with_entry, get-free, count-with_key, get-with_key, get-with_key_other, with_key-none, count-with_value, get-with_value, get-with_value_other, count-without_entry, capacity-without_entry, without_entry-none, get-without_entry, get-without_entry_other, get-without_first, get-without_first_other, count-without_first, count-without_first_until, capacity-without_first, without_first-none, get-without_last, get-without_last_other, count-without_last, capacity-without_last, without_last-none, get-without_where, get-without_where_other, without_where-none, get-with_passing, count-with_passing, entries-with_passing)
