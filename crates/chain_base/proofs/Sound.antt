-- What holds of every arena, in terms of the chain in it.
use Rattle.std.proofs.Common.{◌≡◌, ℕ, ◌<◌, ◌≤◌, List, [], ◌∷◌, length, Option, None, IsSome, ap, ◌∙◌, arith, get_or, take, Result, OnOk, OnErr}
use Rattle.std.proofs.lemmas.Grind.{common_steps}
use Rattle.std.specs.Option.{option_map, ForSome}
use Rattle.arena_base.specs.Arena.{Arena, slot, arena_capacity, times as times_among, IsSound as IsSoundArena}
use Rattle.arena_base.specs.Generation.{IsLawfulGeneration}
use Rattle.chain_base.specs.{Chain.Chain, Chain.Entry, Chain.times, Chain.IsSound, Layout.chain_of, Link.Link}
use Rattle.chain_base.proofs.{Vacancy.HoldIndexes, Vacancy.held-within, Vacancy.vacant-held, Lists.entry_at-link, LaidOut.IsChainIn, Steps.held-laid}

module _ {T : Type 0} where
  -- an index of the list is within the capacity
  pub occupied-within : (a : Arena (Link T)) (es : List (Entry T)) (i : ℕ) → HoldIndexes a.slots es → 1 ≤ times i es → i ≤ arena_capacity a
  occupied-within a es i held occurs = omega (arith, held-within a.slots es i held occurs)

  -- slot 0 is vacant if the slots begin with a vacant one
  pub first-vacant : (slots : List (Option (ℕ × Link T))) → take 1 slots ≡ None ∷ [] → (get_or slots 0 None ≡ None) × (0 < length slots)
  first-vacant slots begins = grind (arith, common_steps)

  -- so no entry of a sound arena has index 0
  pub occupied-above : (most : ℕ) (greatest : Option ℕ) (a : Arena (Link T)) → IsSoundArena most greatest a → (k : ℕ) → IsSome (slot a k) → 0 < k
  occupied-above most greatest a sound k there = grind (arith, common_steps, first-vacant a.slots sound.begins)

  -- a lawful slot has a lawful entry
  module _ (greatest : Option ℕ) (o : Option (ℕ × Link T)) (lawful : ForSome o (λ e. IsLawfulGeneration greatest e.0)) where
    lawful-entry : ForSome {T = ℕ × T} (option_map (λ e. (e.0, e.1.item)) o) (λ e. IsLawfulGeneration greatest e.0)
    lawful-entry = grind (arith, common_steps)

  module _ (most : ℕ) (greatest : Option ℕ) (a : Arena (Link T)) (first last : Option ℕ)
      (laid : IsChainIn a first last) where
    pub IsSound-laid_out : IsSoundArena most greatest a → IsSound most greatest (chain_of a first)
    IsSound-laid_out sound =
        let es = (chain_of a first).entries in
        let held = held-laid a.slots first last es laid in
        record {
          distinct = laid.distinct;
          within = λ i occurs. (grind (arith, common_steps, first-vacant a.slots sound.begins, held i), occupied-within a es i held occurs);
          within_limit = sound.within_limit;
          generation_lawful = sound.generation_lawful;
          entries_lawful = λ i. rw (entry_at-link None None es i, ← laid.links i) (lawful-entry greatest _ (sound.entries_lawful i));
          vacant_listed = λ i. sound.vacant_listed i ∙ ap (times_among i) (vacant-held a.slots es held);
          counted = omega (arith, laid.counted, sound.counted);
        }

    -- the same of a chain that is seen as c
    pub IsSound-viewed : (c : Chain T) → chain_of a first ≡ c → IsSoundArena most greatest a → IsSound most greatest c
    IsSound-viewed c is sound = rw is at (IsSound-laid_out sound)

  -- a call that may set the maximum keeps the slots
  pub slots-kept : {X E : Type 0} (r : Result X E) (old new : Arena (Link T)) (maximum : Option ℕ) → OnOk r (new ≡ record old { maximum = maximum }) → OnErr r (new ≡ old) → new.slots ≡ old.slots
  slots-kept r old new maximum ok err = grind (arith, common_steps)
