-- What many removals make of an agenda.
use Rattle.std.proofs.Common.{◌≡◌, ℕ, suc, ◌+◌, ◌-◌, ◌++◌, length, length-append, List, ◌∷◌, Option, refl, ap, ◌∙◌, arith}
use Rattle.listing.specs.{Listing.generation_after, Generation.next_generation}
use Rattle.agenda.specs.Agenda.{Agenda, Entry, count, with_left, with_rest}

module _ {J : Type 0} (greatest : Option ℕ) where
  -- from old to new, so many jobs were removed
  pub record RemovesMany (old new : Agenda J) (n : ℕ) : Type 0 where
    pub fewer : count new + n ≡ count old
    pub generation : new.generation ≡ generation_after greatest n old.generation
    pub capacity : new.capacity ≡ old.capacity

  pub removes-none : (a : Agenda J) → RemovesMany a a 0
  removes-none a = record { fewer = omega arith; generation = refl; capacity = refl }

  pub removes-more : (old now new : Agenda J) (n : ℕ) (front back : List (Entry (ℕ × J))) (e : Entry (ℕ × J)) → RemovesMany old now n
      → now.entries ≡ front ++ e ∷ back → new ≡ with_left greatest now (front ++ back) → RemovesMany old new (n + 1)
  removes-more old now new n front back e removes cut left = let more : suc n ≡ n + 1 = omega arith in record {
    fewer = omega (arith, removes.fewer, ap length cut, length-append front (e ∷ back), ap count left, length-append front back);
    generation = ap (λ (a : Agenda J). a.generation) left ∙ ap (next_generation greatest) removes.generation ∙ ap (λ m. generation_after greatest m old.generation) more;
    capacity = ap (λ (a : Agenda J). a.capacity) left ∙ removes.capacity;
  }

  -- the agenda then, by the jobs that are left
  pub removes-rest : (old new : Agenda J) (n : ℕ) (entries : List (Entry (ℕ × J))) → RemovesMany old new n → new.entries ≡ entries → new ≡ with_rest greatest old entries
  removes-rest old new n entries removes is =
      let many : n ≡ count old - length entries = omega (arith, removes.fewer, ap length is) in
      ap (λ (es : List (Entry (ℕ × J))). record { entries = es; generation = new.generation; capacity = new.capacity }) is
      ∙ ap (λ (g : ℕ). record { entries = entries; generation = g; capacity = new.capacity }) (removes.generation ∙ ap (λ m. generation_after greatest m old.generation) many)
      ∙ ap (λ (c : ℕ). record { entries = entries; generation = generation_after greatest (count old - length entries) old.generation; capacity = c }) removes.capacity
