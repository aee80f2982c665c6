-- How entries are taken out of a sorted arena, or written, one after another (layout).
use Rattle.std.specs.Prelude.{◌≡◌, ℕ, Bool, if◌then◌else◌, List, [], ◌∷◌, ◌++◌, Option, Some}
use Rattle.std.specs.{Option.option_map, Borrow.Bor, Borrow.MutBor}
use denote.Param.Members.{Mut}
use Rattle.listing.specs.{Chain.Entry, Gap.first_of}
use Rattle.sorted_arena.specs.Sorted.{Sorted, key_of, pointer_of, with_left}
use Rattle.sorted_arena.specs.{Given.given_entry, Write.Writes}

module _ {K V : Type 0} where
  -- a list is cut at the entry that a pointer names
  pub record IsCutAt (es : List (Entry (K × V))) (p : Option (ℕ × ℕ)) : Type 0 where
    pub front : List (Entry (K × V))
    pub entry : Entry (K × V)
    pub back : List (Entry (K × V))
    pub cut : es ≡ front ++ entry ∷ back
    pub named : p ≡ Some (pointer_of entry)

  -- The entry at a cut was taken out: this is its key and its value, and `next` is the pointer of its successor.
  pub record TakesOut (greatest : Option ℕ) (old : Sorted K V) (p : Option (ℕ × ℕ)) (at : IsCutAt old.entries p) (item : K × V) (new : Sorted K V) (next : Option (ℕ × ℕ)) : Type 0 where
    pub item_is : item ≡ at.entry.item
    pub left : new ≡ with_left greatest old (at.front ++ at.back)
    pub next_is : next ≡ option_map pointer_of (first_of at.back)

  -- The entry at a cut was asked for, by what such a test answers: it stays at `true` and goes at `false`, and `next` is the pointer of its
  -- successor.
  pub record AsksFor {F : Type 0} (R : F → Entry (K × V) → Bool → F → Type 0) (greatest : Option ℕ) (old : Sorted K V) (p : Option (ℕ × ℕ)) (at : IsCutAt old.entries p) (f g : F) (new : Sorted K V)
      (next : Option (ℕ × ℕ)) : Type 0 where
    pub answer : Bool
    pub told : R f at.entry answer g
    pub left : new ≡ (if answer then old else with_left greatest old (at.front ++ at.back))
    pub next_is : next ≡ option_map pointer_of (first_of at.back)

-- The entry at a cut was asked for: at `true` it goes to the end of a list, with the pointer that it had, and at `false` it stays. `next` is
-- the pointer of its successor.
pub record ExtractsAt {F P K V : Type 0} (numbers : P → ℕ × ℕ) (R : F → Entry (K × V) → Bool → F → Type 0) (greatest : Option ℕ) (old : Sorted K V) (p : Option (ℕ × ℕ)) (at : IsCutAt old.entries p)
    (f f' : F) (given filled : List (P × K × V)) (new : Sorted K V) (next : Option (ℕ × ℕ)) : Type 0 where
  pub answer : Bool
  pub told : R f at.entry answer f'
  pub shown : P × K × V
  pub shows : given_entry numbers shown ≡ at.entry
  pub filled_is : filled ≡ (if answer then given ++ shown ∷ [] else given)
  pub left : new ≡ (if answer then with_left greatest old (at.front ++ at.back) else old)
  pub next_is : next ≡ option_map pointer_of (first_of at.back)

module _ {F K V : Type 0} (g : Mut F (Bor K × (MutBor V × Unit {0})) (Unit {0} × (MutBor V × Unit {0}))) where
  -- The entry at a cut was written: the closure was called for it and left this value, and `next` is the pointer of its successor.
  pub record WritesAt (old : Sorted K V) (p : Option (ℕ × ℕ)) (at : IsCutAt old.entries p) (f f' : F) (new : Sorted K V)
      (next : Option (ℕ × ℕ)) : Type 0 where
    pub v : V
    pub told : Writes g f at.entry v f'
    pub written : new ≡ record old { entries = at.front ++ record at.entry { item = (key_of at.entry, v) } ∷ at.back }
    pub next_is : next ≡ option_map pointer_of (first_of at.back)
