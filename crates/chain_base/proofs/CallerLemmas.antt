-- For callers: what an index finds in the list, and how many entries there are, after each change.
use Rattle.std.proofs.Common.{◌≡◌, ◌≢◌, ℕ, suc, ◌+◌, ◌<◌, ◌≤◌, List, [], ◌∷◌, ◌++◌, length, map, slice_get, slice_index_or, Option, Some, None, IsSome, is_some, true, append_assoc, refl, sym, ap, ◌∙◌, arith, inl, inr, option_map, length-append}
use Rattle.std.proofs.{lemmas.Option.slice_get_cases, lemmas.Option.slice_get_within, lemmas.Option.get_or_from_slice_get, lemmas.Bool.Decides.eqb_tells, lemmas.Grind.common_steps}
use Rattle.std.specs.Prelude.{IsNone, ◌↔◌}
use Rattle.chain_base.specs.Chain.{Entry, times, IsDistinct, last_pointer, entry_at, insert_after, insert_before, without, with_item_among, with_generation}
use Rattle.chain_base.specs.Compression.{lesser, compressed_index, moved, at_compressed_index, numbered}
use Rattle.chain_base.proofs.Lists.{Stands-occurs, with_item_among-changed_at, with_generation-changed_at, entry_at-changed_at_other, entry_at-changed_at, same-changed_at}
use Rattle.chain_base.proofs.{Renumbering.times-source, Renumbering.entry_at-renumbered, Ranking.place-found, Ranking.place-injective, Canonical.entry-absent}
-- the greatest index of the entries is within the capacity
pub use Rattle.chain_base.proofs.Room.{greatest-within}
-- the steps of a transfer in terms of other items
pub use Rattle.chain_base.proofs.Transferring.{steps-retold}
-- a list in two parts; an entry is its link without the neighbours; an index that no entry has finds none
pub use Rattle.chain_base.proofs.Lists.{option_or-none, times-append, last_or-append, link_between-append, link_between-absent, entry_at-link, entry_at-absent}
-- an index that finds an entry occurs in the list; entries moved to their compressed indexes keep their items; a compression whose calls
-- keep what is seen of an item
pub use Rattle.chain_base.proofs.Canonical.{occurs-entry, entry-occurs, relocated-items, compression-keeps}
-- compressed indexes
pub use Rattle.chain_base.proofs.Ranking.{lesser-zero, lesser-next, lesser-most, lesser-all, compressed-at, compressed-length, length-entries}
-- the greatest occupied index
pub use Rattle.chain_base.proofs.Vacancy.{below-greatest, greatest-or_none, times-greatest, below-greatest_index}
-- the chain after an insertion; room for one more entry changes the capacity only if there was none
pub use Rattle.chain_base.proofs.Room.{with_new, after-insertion, roomy_capacity, capacity-vacant, capacity-with_room}
-- what the calls of a clone keep of the items, and which item was refused; a clone in terms of other states
pub use Rattle.chain_base.proofs.CloneKept.{clone-kept, clone-same, refused-found, refused-some}
pub use Rattle.chain_base.proofs.Cloning.{clone-restated, refusal-restated, left-refused}

module _ {T : Type 0} where
  some-last : (e : Entry T) (es : List (Entry T)) → is_some (last_pointer (e ∷ es)) ≡ true
  some-last e [] = refl
  some-last e (f ∷ es) = some-last f es

  -- a list without a last pointer is empty
  pub last-empty : {P : Type 0} (numbers : P → ℕ × ℕ) (o : Option P) (es : List (Entry T)) → option_map numbers o ≡ last_pointer es → IsNone o ↔ (es ≡ [])
  last-empty numbers None [] is = (λ none. refl, λ none. refl)
  last-empty numbers None (e ∷ es) is = absurd (let some = some-last e es in cc)
  last-empty numbers (Some p) [] is = absurd cc
  last-empty numbers (Some p) (e ∷ es) is = (λ none. absurd (cc), λ none. absurd (cc))

  -- after the entry of an index is removed, every other index finds the same
  pub entry_at-without_other : (es : List (Entry T)) (i j : ℕ) → j ≢ i → entry_at (without i es) j ≡ entry_at es j
  entry_at-without_other [] i j other = refl
  entry_at-without_other (e ∷ es) i j other = grind (arith, common_steps, entry_at-without_other es i j other)

  -- and the index itself finds none, if the indexes are distinct
  pub entry_at-without : (es : List (Entry T)) (i : ℕ) → IsDistinct es → entry_at (without i es) i ≡ None
  entry_at-without [] i distinct = refl
  entry_at-without (e ∷ es) i distinct = grind (arith, common_steps, entry_at-without es i, i, entry_at-absent, distinct)

  -- there is one entry less, if the index had one
  pub length-without : (es : List (Entry T)) (i : ℕ) → IsSome (entry_at es i) → length es ≡ length (without i es) + 1
  length-without [] i there = absurd (cc)
  length-without (e ∷ es) i there = grind (arith, common_steps, length-without es i)

  -- with another item at an index, every other index finds the same
  pub entry_at-with_item_among_other : (es : List (Entry T)) (i j : ℕ) (item : T) → j ≢ i → entry_at (with_item_among es i item) j ≡ entry_at es j
  entry_at-with_item_among_other es i j item other = rw (with_item_among-changed_at es i item) (entry_at-changed_at_other (λ p. (p.0, item)) es i j other)

  -- and the index itself finds the new item, with the same generation
  pub entry_at-with_item_among : (es : List (Entry T)) (i : ℕ) (item : T) → entry_at (with_item_among es i item) i ≡ option_map (λ e. (e.0, item)) (entry_at es i)
  entry_at-with_item_among es i item = rw (with_item_among-changed_at es i item) (entry_at-changed_at (λ p. (p.0, item)) es i)

  pub length-with_item_among : (es : List (Entry T)) (i : ℕ) (item : T) → length (with_item_among es i item) ≡ length es
  length-with_item_among es i item = rw (with_item_among-changed_at es i item) (same-changed_at (λ p. (p.0, item)) es i).long

  -- with another generation at an index, every other index finds the same
  pub entry_at-with_generation_other : (es : List (Entry T)) (i j g : ℕ) → j ≢ i → entry_at (with_generation es i g) j ≡ entry_at es j
  entry_at-with_generation_other es i j g other = rw (with_generation-changed_at es i g) (entry_at-changed_at_other (λ p. (g, p.1)) es i j other)

  -- and the index itself finds its item, with the new generation
  pub entry_at-with_generation : (es : List (Entry T)) (i g : ℕ) → entry_at (with_generation es i g) i ≡ option_map (λ e. (g, e.1)) (entry_at es i)
  entry_at-with_generation es i g = rw (with_generation-changed_at es i g) (entry_at-changed_at (λ p. (g, p.1)) es i)

  pub length-with_generation : (es : List (Entry T)) (i g : ℕ) → length (with_generation es i g) ≡ length es
  length-with_generation es i g = rw (with_generation-changed_at es i g) (same-changed_at (λ p. (g, p.1)) es i).long

  -- with a new entry between two stretches, every other index finds the same
  pub entry_at-between_other : (front : List (Entry T)) (new : Entry T) (back : List (Entry T)) (j : ℕ) → j ≢ new.index → entry_at (front ++ new ∷ back) j ≡ entry_at (front ++ back) j
  entry_at-between_other [] new back j other = grind (arith, common_steps)
  entry_at-between_other (f ∷ front) new back j other = grind (arith, common_steps, entry_at-between_other front new back j other)

  -- and its own index finds it, if no other entry has that index
  pub entry_at-between : (front : List (Entry T)) (e : Entry T) (back : List (Entry T)) → times e.index (front ++ back) ≡ 0
      → entry_at (front ++ e ∷ back) e.index ≡ Some (e.generation, e.item)
  entry_at-between [] e back never = grind (arith, common_steps)
  entry_at-between (f ∷ front) e back never = grind (arith, common_steps, entry_at-between front e back)

  pub length-between : (front : List (Entry T)) (new : Entry T) (back : List (Entry T)) → length (front ++ new ∷ back) ≡ length (front ++ back) + 1
  length-between front new back = omega (arith, length-append front (new ∷ back), length-append front back)

  -- a list in two stretches, between which a new entry is put
  abbrev pub Parted : List (Entry T) → (Entry T → List (Entry T)) → Type 0
  Parted es put = (front : List (Entry T)) × (back : List (Entry T)) × (es ≡ front ++ back) × ((new : Entry T) → put new ≡ front ++ new ∷ back)

  -- a new entry directly after an existing one is put between two stretches
  pub insert_after-between : (es : List (Entry T)) (i : ℕ) → IsSome (entry_at es i) → Parted es (λ new. insert_after i new es)
  insert_after-between es i there =
      let s = Stands-occurs es i (entry-occurs es i there) in
      let behind = λ (xs : List (Entry T)). append_assoc s.front (s.entry ∷ []) xs in
      (s.front ++ s.entry ∷ [], s.back, s.split ∙ sym (behind s.back), λ new. s.after new ∙ sym (behind (new ∷ s.back)))

  -- and so is one directly before it
  pub insert_before-between : (es : List (Entry T)) (i : ℕ) → IsSome (entry_at es i) → Parted es (λ new. insert_before i new es)
  insert_before-between es i there = let s = Stands-occurs es i (entry-occurs es i there) in (s.front, s.entry ∷ s.back, s.split, s.before)

module _ {T : Type 0} where
  -- among entries numbered in a row, each number finds the item at its place
  pub entry_at-numbered : (g from : ℕ) (xs : List T) (k : ℕ) → entry_at (numbered g from xs) (from + k) ≡ option_map (λ x. (g, x)) (slice_get xs k)
  entry_at-numbered g from (x ∷ xs) (suc k) = grind (arith, common_steps, entry_at-numbered g (from + 1) xs k)
  entry_at-numbered g from xs k = grind (arith, common_steps)

  -- and a number before them finds none
  pub entry_at-numbered_before : (g from : ℕ) (xs : List T) (i : ℕ) → i < from → entry_at (numbered g from xs) i ≡ None
  entry_at-numbered_before g from [] i before = refl
  entry_at-numbered_before g from (x ∷ xs) i before = grind (arith, common_steps, entry_at-numbered_before g (from + 1) xs i)

  -- they have generation g
  pub generation-numbered : (g from : ℕ) (xs : List T) (i : ℕ) (e : ℕ × T) → entry_at (numbered g from xs) i ≡ Some e → e.0 ≡ g
  generation-numbered g from [] i e is = absurd cc
  generation-numbered g from (x ∷ xs) i e is = grind (arith, common_steps, generation-numbered g (from + 1) xs i e)

  -- and these items
  pub items-numbered : (g from : ℕ) (xs : List T) → map (λ (e : Entry T). e.item) (numbered g from xs) ≡ xs
  items-numbered g from [] = refl
  items-numbered g from (x ∷ xs) = ap (λ rest. x ∷ rest) (items-numbered g (from + 1) xs)

  -- entries that moved have generation g
  pub generation-moved : (all : List (Entry T)) (g : ℕ) (xs : List T) (es : List (Entry T)) (i : ℕ) (e : ℕ × T) → entry_at (map (moved all g xs) es) i ≡ Some e → e.0 ≡ g
  generation-moved all g xs [] i e is = absurd cc
  generation-moved all g xs (f ∷ es) i e is = grind (arith, common_steps, generation-moved all g xs es i e)

  -- and so have entries at their compressed indexes
  pub generation-relocated : (all : List (Entry T)) (g : ℕ) (es : List (Entry T)) (i : ℕ) (e : ℕ × T) → entry_at (map (at_compressed_index all g) es) i ≡ Some e → e.0 ≡ g
  generation-relocated all g [] i e is = absurd cc
  generation-relocated all g (f ∷ es) i e is = grind (arith, common_steps, generation-relocated all g es i e)

-- the entries of a compressed list, by their places
module _ {T : Type 0} where
  past-end : (items : List T) (k : ℕ) → slice_get items k ≡ None → length items ≤ k
  past-end items k none = grind (arith, common_steps, slice_get_cases, items)

-- A compression of a list: the entry at a place has the item at that place, and there are no others.
module _ {T : Type 0} (es : List (Entry T)) (distinct : IsDistinct es) (g : ℕ) (items : List T) (long : length items ≡ length es) where
  pub entry_at-compressed : (m : ℕ) → ((i : ℕ) → 1 ≤ times i es → i < m) → (k : ℕ)
      → entry_at (map (moved es g items) es) (k + 1) ≡ option_map (λ item. (g, item)) (slice_get items k)
  entry_at-compressed m below k = by (slice_get items k) refl
    where
      by : (o : Option T) → slice_get items k ≡ o → entry_at (map (moved es g items) es) (k + 1) ≡ option_map (λ item. (g, item)) o
      by None is = elim (eqb_tells (times (k + 1) (map (moved es g items) es)) 0) [
        | inl z ↦ entry_at-absent (map (moved es g items) es) (k + 1) z.1
        | inr z ↦
            let source = times-source (compressed_index es) (λ x p. (g, slice_index_or items (lesser es x) p.1)) es (k + 1) (omega (arith, z.1)) in
            absurd (omega (arith, source.1, past-end items k is, lesser-next es source.0, lesser-most es (source.0 + 1), source.2, long))
      ]
      by (Some item) is =
          let found = place-found es distinct m k (omega (arith, lesser-all es m below, long, slice_get_within items k item is)) in
          let here = entry_at-renumbered (compressed_index es) (λ x p. (g, slice_index_or items (lesser es x) p.1)) es found.0 (λ y there same. place-injective es y found.0 there found.3 same) in
          let place = found.2 in
          grind (arith, common_steps, entry-absent es found.0, found.3, get_or_from_slice_get items k item)
