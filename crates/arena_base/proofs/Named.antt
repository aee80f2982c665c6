-- The pointers that name something: there are as many as entries, and each occurs once among the pointers by rising index.
use Rattle.arena_base.proofs.Words.{◌≡◌, ℕ, zero, suc, ◌+◌, ◌<◌, Option, Some, None, List, [], ◌∷◌, cond, length, get_or, is_some, count_by, arith, refl, common_steps}
use Rattle.arena_base.proofs.Words.{Arena, item_if, item_of, pointers_from}
use Rattle.std.proofs.Common.{zero-add}
use Rattle.arena_base.specs.{Arena.arena_len, Walk.times_named, Walk.pointers}

module _ {T : Type 0} where
  length-pointers : (from : ℕ) (slots : List (Option (ℕ × T))) → length (pointers_from from slots) ≡ count_by is_some slots
  length-pointers from [] = refl
  length-pointers from (None ∷ slots) = grind (arith, common_steps, length-pointers (from + 1) slots)
  length-pointers from (Some e ∷ slots) = grind (arith, common_steps, length-pointers (from + 1) slots)

  pub pointers-counted : (a : Arena T) → length (pointers a) ≡ arena_len a
  pointers-counted a = length-pointers 0 a.slots

  none-before : (from i g : ℕ) (slots : List (Option (ℕ × T))) → i < from → times_named (i, g) (pointers_from from slots) ≡ 0
  none-before from i g [] less = refl
  none-before from i g (None ∷ slots) less = none-before (from + 1) i g slots (omega arith)
  none-before from i g (Some e ∷ slots) less = grind (arith, common_steps, none-before (from + 1) i g slots)

  named-from : (from k g : ℕ) (slots : List (Option (ℕ × T)))
      → times_named (from + k, g) (pointers_from from slots) ≡ cond (is_some (item_if g (get_or slots k None))) 1 0
  named-from from k g [] = refl
  named-from from zero g (None ∷ slots) = none-before (from + 1) (from + zero) g slots (omega arith)
  named-from from zero g (Some e ∷ slots) = grind (arith, common_steps, none-before (from + 1) (from + zero) g slots)
  named-from from (suc k) g (s ∷ slots) = grind (arith, common_steps, named-from (from + 1) k g slots)

  pub pointers-named : (a : Arena T) (p : ℕ × ℕ) → times_named p (pointers a) ≡ cond (is_some (item_of a p)) 1 0
  pointers-named a p = rw zero-add at (named-from 0 p.0 p.1 a.slots)
