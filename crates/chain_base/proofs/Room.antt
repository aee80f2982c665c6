-- Room for one more entry: when a chain has it, and what growing does.
use Rattle.std.proofs.Common.{◌≡◌, ℕ, zero, suc, ◌+◌, ◌*◌, ◌<◌, ◌≤◌, List, [], ◌∷◌, length, Option, None, IsSome, is_some, Bool, true, false, refl, sym, ap, ◌∙◌, slice_get, Some, Result, Ok, Err, IfOk, OnErr, min, max, nat_lt, if◌then◌else◌, arith}
use Rattle.std.proofs.lemmas.Grind.{common_steps}
use Rattle.arena_base.specs.Arena.{doubled_capacity}
use Rattle.chain_base.specs.Chain.{Entry, Chain, times, inserted_at, greatest_index, vacant_among, next_index, grown_capacity, with_capacity, with_room, IsSound}
use Rattle.chain_base.specs.Insert.{IsInsertion}
use Rattle.chain_base.proofs.Vacancy.{greatest-occurs}

module _ {T : Type 0} where
  -- a chain with a new entry of this index and generation at a place, and this free list
  abbrev pub with_new : Chain T → (Entry T → List (Entry T)) → T → ℕ → ℕ → List ℕ → Chain T
  with_new c place item i g vacant = record c { entries = place (record { index = i; generation = g; item = item }); vacant = vacant }

  -- an insertion has this result, and takes the first index of the free list
  pub after-insertion : (old new : Chain T) (place : Entry T → List (Entry T)) (item : T) (i g : ℕ) → IsInsertion old new place item i g
      → (rest : List ℕ) × (new ≡ with_new old place item i g rest)
  after-insertion old new place item i g inserted = go old.vacant inserted.next inserted.after
    where
      go : (vacant : List ℕ) → slice_get vacant 0 ≡ Some i → new ≡ inserted_at old place item vacant → (rest : List ℕ) × (new ≡ with_new old place item i g rest)
      go [] next after = absurd (cc)
      go (j ∷ rest) next after = let here : j ≡ i = cc in
          (rest, after ∙ ap (λ k. with_new old place item k old.generation rest) here ∙ ap (λ era. with_new old place item i era rest) (sym inserted.generation))

  module _ (most : ℕ) (c : Chain T) where
    -- without a maximum, the capacity grows exactly if no slot is vacant
    abbrev pub roomy_capacity : ℕ
    roomy_capacity = if nat_lt (length c.entries) c.capacity then c.capacity else doubled_capacity most c.capacity

    module _ (counted : length c.entries + length c.vacant ≡ c.capacity) where
      pub capacity-vacant : is_some (next_index c) ≡ true → c.capacity ≡ roomy_capacity
      capacity-vacant some = grind (arith, common_steps, c.vacant)

      pub capacity-with_room : c.maximum ≡ None → (with_room most c).capacity ≡ roomy_capacity
      capacity-with_room unlimited = go (is_some (next_index c)) refl
        where
          full : (vacant : List ℕ) → length c.entries + length vacant ≡ c.capacity → is_some (slice_get vacant 0) ≡ false → grown_capacity most c ≡ roomy_capacity
          full [] all none = grind (arith, common_steps, unlimited, all)
          full (j ∷ rest) all none = absurd (cc)

          go : (b : Bool) → is_some (next_index c) ≡ b → (if b then c else with_capacity c (grown_capacity most c)).capacity ≡ roomy_capacity
          go true some = capacity-vacant some
          go false none = full c.vacant counted none

  module _ {P E : Type 0} (old new : Chain T) (place : Entry T → List (Entry T)) (item : T) (numbers : P → ℕ × ℕ) where
    pub capacity-kept : (r : Result P E) → IfOk r (λ p. IsInsertion old new place item (numbers p).0 (numbers p).1) → OnErr r (new ≡ old) → new.capacity ≡ old.capacity
    capacity-kept (Ok p) inserted same = ap (λ (c : Chain T). c.capacity) (after-insertion old new place item (numbers p).0 (numbers p).1 inserted).1
    capacity-kept (Err e) inserted same = ap (λ (c : Chain T). c.capacity) same

  -- an index that no entry has is vacant, so there is a first vacant one
  vacant_among-some : (es : List (Entry T)) (from count k : ℕ) → from ≤ k → k < from + count → times k es ≡ 0 → IsSome (slice_get (vacant_among es from count) 0)
  vacant_among-some es from zero k above below free = absurd (omega arith)
  vacant_among-some es from (suc count) k above below free = grind (arith, common_steps, vacant_among-some es (from + 1) count k)

  module _ (most : ℕ) (greatest : Option ℕ) (c : Chain T) (sound : IsSound most greatest c) where
    -- the greatest index is within the capacity
    pub greatest-within : greatest_index c.entries ≤ c.capacity
    greatest-within = grind (arith, common_steps, greatest-occurs c.entries, sound.within (greatest_index c.entries))

    -- if no slot is vacant, a greater capacity has a vacant index
    module _ (full : c.capacity ≤ length c.entries) (n : ℕ) (more : c.capacity < n) where
      pub next-grown : IsSome (next_index (with_capacity c (max n (greatest_index c.entries))))
      next-grown = grind (arith, common_steps, sound.within n, vacant_among-some c.entries 1 (max n (greatest_index c.entries)) n)

      pub with_room-full : n ≡ grown_capacity most c → with_capacity c (max n (greatest_index c.entries)) ≡ with_room most c
      with_room-full is = grind (arith, common_steps, c.vacant, sound.counted, greatest-within)
