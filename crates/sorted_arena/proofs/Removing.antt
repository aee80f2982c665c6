-- What many removals make of a sorted arena.
use Rattle.std.proofs.Common.{◌≡◌, ℕ, suc, ◌+◌, ◌-◌, ◌++◌, length, length-append, List, [], ◌∷◌, Option, Some, None, IfNone, OnSome, refl, ap, ◌∙◌, arith}
use Rattle.listing.specs.{Chain.Entry, Chain.first_pointer, Chain.last_pointer, Generation.next_generation}
use Rattle.listing.proofs.CallerLemmas.{without_entry-none, without_first-none}
use Rattle.sorted_arena.specs.Sorted.{Sorted, count, get, first_item, last_item, generation_after, with_left, with_rest, without_entry, without_first, without_last}

module _ {K V : Type 0} (greatest : Option ℕ) where
  -- from old to new, so many entries were removed
  pub record RemovesMany (old new : Sorted K V) (n : ℕ) : Type 0 where
    pub fewer : count new + n ≡ count old
    pub generation : new.generation ≡ generation_after greatest n old.generation
    pub capacity : new.capacity ≡ old.capacity

  pub removes-none : (a : Sorted K V) → RemovesMany a a 0
  removes-none a = record { fewer = omega arith; generation = refl; capacity = refl }

  pub removes-more : (old now new : Sorted K V) (n : ℕ) (front back : List (Entry (K × V))) (e : Entry (K × V)) → RemovesMany old now n
      → now.entries ≡ front ++ e ∷ back → new ≡ with_left greatest now (front ++ back) → RemovesMany old new (n + 1)
  removes-more old now new n front back e removes cut left = let more : suc n ≡ n + 1 = omega arith in record {
    fewer = omega (arith, removes.fewer, ap length cut, length-append front (e ∷ back), ap count left, length-append front back);
    generation = ap (λ (a : Sorted K V). a.generation) left ∙ ap (next_generation greatest) removes.generation ∙ ap (λ m. generation_after greatest m old.generation) more;
    capacity = ap (λ (a : Sorted K V). a.capacity) left ∙ removes.capacity;
  }

  -- the arena then, by the entries that are left
  pub removes-rest : (old new : Sorted K V) (n : ℕ) (entries : List (Entry (K × V))) → RemovesMany old new n → new.entries ≡ entries → new ≡ with_rest greatest old entries
  removes-rest old new n entries removes is =
      let many : n ≡ count old - length entries = omega (arith, removes.fewer, ap length is) in
      ap (λ (es : List (Entry (K × V))). record { entries = es; generation = new.generation; capacity = new.capacity }) is
      ∙ ap (λ (g : ℕ). record { entries = entries; generation = g; capacity = new.capacity }) (removes.generation ∙ ap (λ m. generation_after greatest m old.generation) many)
      ∙ ap (λ (c : ℕ). record { entries = entries; generation = generation_after greatest (count old - length entries) old.generation; capacity = c }) removes.capacity

-- the first and the last entry
module _ {K V : Type 0} (greatest : Option ℕ) (a : Sorted K V) where
  pub first-none : None ≡ first_pointer a.entries → without_first greatest a ≡ a
  first-none none = without_first-none greatest a (go a.entries none)
    where
      go : (es : List (Entry (K × V))) → None ≡ first_pointer es → None ≡ first_item es
      go [] is = refl
      go (e ∷ es) is = absurd (cc)

  pub last-none : None ≡ last_pointer a.entries → without_last greatest a ≡ a
  unfolding without_last
  last-none none = rw (← go a.entries none) refl
    where
      go : (es : List (Entry (K × V))) → None ≡ last_pointer es → None ≡ last_item es
      go [] is = refl
      go (e ∷ []) is = absurd (cc)
      go (e ∷ f ∷ es) is = go (f ∷ es) is

  -- what a call tells that removes an entry
  pub on_some : {X : Type 0} (o : Option X) (P : Type 0) → P → OnSome o P
  on_some None P holds = tt
  on_some (Some x) P holds = holds

  pub removed-none : (new : Sorted K V) (p : ℕ × ℕ) (o : Option (K × V)) → o ≡ get a p → new ≡ without_entry greatest a p → IfNone o (new ≡ a)
  removed-none new p None is after = after ∙ without_entry-none greatest a p is
  removed-none new p (Some x) is after = tt
