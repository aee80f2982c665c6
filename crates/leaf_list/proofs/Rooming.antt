-- Stores with more or less room, and other rows for the same leaves.
use Rattle.std.proofs.Common.{◌≡◌, ℕ, zero, suc, ◌+◌, ◌-◌, ◌*◌, ◌^◌, ◌<◌, ◌≤◌, max, List, [], ◌∷◌, map, length, take, get_or, Option, None, arith, ap, sym, ◌∙◌, refl, inl, inr}
use Rattle.std.proofs.lemmas.Bool.{eq-eqb, Decides.eqb_tells}
use Rattle.std.proofs.lemmas.List.{length-take-le}
use Rattle.triple_ord.specs.Chain.{Entry, entry_at, times as times_at, greatest_index, IsSound}
use Rattle.triple_ord.specs.Tree.{Tree}
use Rattle.leaf_list.specs.Leaves.{Leaf, Leaves, greatest_number}
use Rattle.leaf_list.specs.Layout.{shown, leaf_by, leaves_in, leaves_of, AreStored}

-- rows cut off behind the last that isn't empty
pub taken-same : {X : Type 0} (xs : List (List X)) (n i : ℕ) → (n ≤ i → get_or xs i [] ≡ []) → get_or (take n xs) i [] ≡ get_or xs i []
taken-same [] zero i none = refl
taken-same [] (suc n) i none = refl
taken-same (x ∷ xs) zero i none = sym (none (omega arith))
taken-same (x ∷ xs) (suc n) zero none = refl
taken-same (x ∷ xs) (suc n) (suc i) none = taken-same xs n i (λ h. none (omega arith))

module _ {T : Type 0} where
  pub greatest-within : (es : List (Entry T)) (c : ℕ) → ((i : ℕ) → 1 ≤ times_at i es → (0 < i) × (i ≤ c)) → greatest_index es ≤ c
  greatest-within [] c within = omega arith
  greatest-within (e ∷ es) c within =
      let test = eq-eqb e.index e.index refl in
      let one : times_at e.index (e ∷ es) ≡ 1 + times_at e.index es = rw test refl in
      let own = within e.index (omega arith) in
      let rest = greatest-within es c (λ i there. within i (omega arith)) in omega (arith, own.1, rest)

  pub beyond-greatest : (es : List (Entry T)) (m : ℕ) → greatest_index es < m → entry_at es m ≡ None
  beyond-greatest [] m beyond = refl
  beyond-greatest (e ∷ es) m beyond = elim (eqb_tells e.index m) [
    | inl same ↦ absurd (omega (arith, same.1))
    | inr other ↦ rw other.0 (beyond-greatest es m (omega arith))
  ]

module _ {K I : Type 0} (number : I → ℕ) where
  abbrev pub AreSame : List (List (K × I)) → List (List (K × I)) → Type 0
  AreSame rows after = (i : ℕ) → get_or after i [] ≡ get_or rows i []

  same-leaves : (es : List (Entry (K × I))) (rows after : List (List (K × I))) → AreSame rows after → leaves_in number es after ≡ leaves_in number es rows
  same-leaves [] rows after same = refl
  same-leaves (e ∷ es) rows after same =
      ap (λ (row : List (K × I)). record { number = e.index; entries = map (shown number) (e.item ∷ row) } ∷ leaves_in number es after) (same (e.index - 1))
      ∙ ap (λ (ls : List (Leaf K)). leaf_by number rows e ∷ ls) (same-leaves es rows after same)

  greatest-stored : (es : List (Entry (K × I))) (rows : List (List (K × I))) → greatest_number (leaves_in number es rows) ≡ greatest_index es
  greatest-stored [] rows = refl
  greatest-stored (e ∷ es) rows = ap (max e.index) (greatest-stored es rows)

  module _ (index : Tree (K × I)) (rows : List (List (K × I))) (now : Leaves K) (view : leaves_of number index rows ≡ now)
      (stored : AreStored index rows) (most : ℕ) (greatest : Option ℕ) (sound : IsSound most greatest index.list) where
    pub number-is : greatest_number now.leaves ≡ greatest_index index.list.entries
    number-is = ap (λ (a : Leaves K). greatest_number a.leaves) (sym view) ∙ greatest-stored index.list.entries rows

    pub room-is : now.room ≡ 16 * index.list.capacity
    room-is = ap (λ (a : Leaves K). a.room) (sym view)

    pub numbers-within : 16 * greatest_number now.leaves ≤ now.room
    numbers-within = let same = number-is in let room = room-is in let most_of = greatest-within index.list.entries index.list.capacity sound.within in omega arith

    -- rows are added
    pub longer-view : (after : List (List (K × I))) → AreSame rows after → leaves_of number index after ≡ now
    longer-view after same =
        ap (λ (ls : List (Leaf K)). record { leaves = ls; room = 16 * index.list.capacity }) (same-leaves index.list.entries rows after same) ∙ view

    pub longer-stored : (after : List (List (K × I))) → AreSame rows after → length rows ≤ length after → AreStored index after
    longer-stored after same longer = record {
      emptied = λ m none. same m ∙ stored.emptied m none;
      enough = omega (arith, stored.enough);
      unlimited = stored.unlimited;
      fits = stored.fits;
    }

    pub empty-beyond : (after : List (List (K × I))) → AreSame rows after → (n : ℕ) → greatest_index index.list.entries ≤ n → (i : ℕ) → n ≤ i → get_or after i [] ≡ []
    empty-beyond after same n beyond i behind = same i ∙ stored.emptied i (beyond-greatest index.list.entries (i + 1) (omega arith))

    -- the index has another capacity, and the rows behind are gone
    module _ (new : Tree (K × I)) (entries : new.list.entries ≡ index.list.entries) (maximum : new.list.maximum ≡ None) (n : ℕ)
        (capacity : new.list.capacity ≡ max n (greatest_index index.list.entries)) (small : 16 * n < 2 ^ 64) (longer after : List (List (K × I))) (same : AreSame rows longer)
        (is : after ≡ take new.list.capacity longer) (enough : n ≤ length longer) (kept : length rows ≤ length longer) where
      resized-same : AreSame rows after
      resized-same i =
          ap (λ (xs : List (List (K × I))). get_or xs i []) is
          ∙ taken-same longer new.list.capacity i (λ h. empty-beyond longer same new.list.capacity (omega arith) i h) ∙ same i

      pub resized-stored : AreStored new after
      resized-stored =
          let most_of = greatest-within index.list.entries index.list.capacity sound.within in
          let size = ap length is ∙ length-take-le new.list.capacity longer (omega (arith, stored.enough)) in record {
            emptied = λ m none. resized-same m ∙ stored.emptied m (ap (λ (es : List (Entry (K × I))). entry_at es (m + 1)) (sym entries) ∙ none);
            enough = omega arith;
            unlimited = maximum;
            fits = omega (arith, stored.fits);
          }

      pub resized-view : leaves_of number new after ≡ record now { room = 16 * max n (greatest_number now.leaves) }
      resized-view =
          let leaves : leaves_in number new.list.entries after ≡ now.leaves =
          ap (λ (es : List (Entry (K × I))). leaves_in number es after) entries ∙ same-leaves index.list.entries rows after resized-same ∙ ap (λ (a : Leaves K). a.leaves) view in
          let room : 16 * new.list.capacity ≡ 16 * max n (greatest_number now.leaves) = ap (λ (c : ℕ). 16 * c) (capacity ∙ ap (max n) (sym number-is)) in
          ap (λ (ls : List (Leaf K)). record { leaves = ls; room = 16 * new.list.capacity }) leaves
          ∙ ap (λ (r : ℕ). record { leaves = now.leaves; room = r }) room

    -- the index has no entries, and all rows are empty
    module _ (new : Tree (K × I)) (after : List (List (K × I))) (none : (i : ℕ) → get_or after i [] ≡ []) (size : length after ≡ length rows) (entries : new.list.entries ≡ [])
        (capacity : new.list.capacity ≡ index.list.capacity) (maximum : new.list.maximum ≡ index.list.maximum) where
      pub cleared-stored : AreStored new after
      cleared-stored = record {
        emptied = λ m absent. none m;
        enough = omega (arith, stored.enough);
        unlimited = maximum ∙ stored.unlimited;
        fits = omega (arith, stored.fits);
      }

      pub cleared-view : leaves_of number new after ≡ record now { leaves = [] }
      cleared-view =
          ap (λ (es : List (Entry (K × I))). record { leaves = leaves_in number es after; room = 16 * new.list.capacity }) entries
          ∙ ap (λ (c : ℕ). record { leaves = []; room = 16 * c }) capacity ∙ ap (λ (a : Leaves K). record a { leaves = [] }) view
