-- One step of a walk by index.
use Rattle.arena_base.proofs.Words.{◌≡◌, ℕ, suc, ◌+◌, ◌<◌, Option, Some, None, List, [], ◌∷◌, ◌++◌, cond, length, get_or, take, refl, arith, drop, sym, ap, ◌∙◌, reverse, append-nil, take_more}
use Rattle.arena_base.proofs.Words.{reverse-append, get_or-drop, drop-set-lt, length-take-le, eq-eqb, same_Some, option_map, Arena, slot, item_if, item_of, removed, entries_from}
use Rattle.arena_base.proofs.{Words.entries_rising, Words.pointers_from, Slots.entry-from_generation, Slots.none-from_generation}

module _ {T : Type 0} where
  pointers_from-append : (from : ℕ) (xs ys : List (Option (ℕ × T)))
      → pointers_from from (xs ++ ys) ≡ pointers_from from xs ++ pointers_from (from + length xs) ys
  pointers_from-append from [] ys = ap (λ n. pointers_from n ys) (omega arith)
  pointers_from-append from (s ∷ xs) ys = grind (arith, pointers_from-append (from + 1) xs ys)

  pointers_from-next : (slots : List (Option (ℕ × T))) (i : ℕ) → i < length slots
      → pointers_from 0 (take (i + 1) slots) ≡ pointers_from 0 (take i slots) ++ pointers_from i (get_or slots i None ∷ [])
  pointers_from-next slots i within =
      let here : 0 + length (take i slots) ≡ i = omega (arith, length-take-le i slots (omega arith)) in
      rw (take_more slots i None within) (pointers_from-append 0 (take i slots) (get_or slots i None ∷ [])
      ∙ ap (λ n. pointers_from 0 (take i slots) ++ pointers_from n (get_or slots i None ∷ [])) here)

  -- a step down, over a vacant slot and over an entry
  module _ (slots : List (Option (ℕ × T))) (i k : ℕ) (next : i ≡ k + 1) (within : i < length slots) where
    pub falling-none : option_map (λ (e : ℕ × T). e.0) (get_or slots i None) ≡ None
        → reverse (pointers_from 0 (take (i + 1) slots)) ≡ reverse (pointers_from 0 (take (k + 1) slots))
    falling-none is = rw (← next, pointers_from-next slots i within, none-from_generation (get_or slots i None) is, append-nil) refl

    pub falling-some : (g : ℕ) → option_map (λ (e : ℕ × T). e.0) (get_or slots i None) ≡ Some g
        → reverse (pointers_from 0 (take (i + 1) slots)) ≡ (i, g) ∷ reverse (pointers_from 0 (take (k + 1) slots))
    falling-some g is =
        let found = entry-from_generation (get_or slots i None) g is in
        rw (← next, pointers_from-next slots i within, found.1, reverse-append)

  -- the first entry to come is at its index
  module _ (e : ℕ × ℕ × T) (rest : List (ℕ × ℕ × T)) where
    entries_from-first : (from : ℕ) (slots : List (Option (ℕ × T))) → entries_from from slots ≡ e ∷ rest
        → (k : ℕ) × (e.0 ≡ from + k) × (get_or slots k None ≡ Some (e.1, e.2))
    entries_from-first from (None ∷ slots) is =
        let later = entries_from-first (from + 1) slots is in (suc later.0, omega (arith, later.1), later.2)
    entries_from-first from slots is = (0, grind arith, grind arith)

    entries_rising-first : (a : Arena T) (i : ℕ) → entries_rising a i ≡ e ∷ rest → slot a e.0 ≡ Some (e.1, e.2)
    entries_rising-first a i is =
        let first = entries_from-first i (drop i a.slots) is in
        ap (λ n. get_or a.slots n None) first.1 ∙ (sym (get_or-drop i a.slots first.0 None) ∙ first.2)

  -- the first entry to come was removed
  module _ (greatest : Option ℕ) (a : Arena T) (i : ℕ) {b : Arena T} {n j g : ℕ} {item x : T}
      (is : entries_rising a i ≡ (j, g, x) ∷ entries_rising a (n + 1)) (next : n ≡ j) (there : item_of a (j, g) ≡ Some item)
      (gone : b ≡ removed greatest a j) where
    pub entries_rising-removed : entries_rising a i ≡ (j, g, item) ∷ entries_rising b (n + 1)
    entries_rising-removed =
        let named : item_of a (j, g) ≡ Some x =
        ap (item_if g) (entries_rising-first (j, g, x) _ a i is) ∙ ap (λ b. cond b (Some x) None) (eq-eqb g g refl) in
        let same : x ≡ item = same_Some x item (sym named ∙ there) in
        let behind : entries_rising (removed greatest a j) (j + 1) ≡ entries_rising a (j + 1) =
        ap (entries_from (j + 1)) (drop-set-lt (j + 1) a.slots j None (omega arith)) in
        rw (gone, next, behind, ← same) (rw next at is)
