-- The jobs that are due, among jobs in the order of their deadlines.
use Rattle.std.proofs.Common.{◌≡◌, ◌≢◌, ℕ, ◌≤◌, ◌<◌, Bool, true, false, List, [], ◌∷◌, ◌++◌, cond, length, Some, None, refl, ap, ◌∙◌, arith, if◌then◌else◌}
use Rattle.std.proofs.lemmas.{Grind.common_steps, List.append-nil, Bool.Decides.nat_tests, List.Elements.recursion_from_All}
use Rattle.std.specs.{List.AllByRecursion, Ordering.nat_cmp, Ordering.is_le, Ordering.is_gt}
use Rattle.std.specs.declared.cmp.Ordering.TheVariants.{Greater}
use Rattle.agenda.specs.Agenda.{Entry, key_of, AreSorted, entries_until, entries_above, first_due}

-- what is true of one more
module _ {X : Type 0} (P : X → Type 0) where
  pub all-more : (xs : List X) (x : X) → AllByRecursion P xs → P x → AllByRecursion P (xs ++ x ∷ [])
  all-more [] x all one = (one, tt)
  all-more (y ∷ xs) x all one = (all.0, all-more xs x all.1 one)

due : (a b : ℕ) → a ≤ b → is_le (nat_cmp a b) ≡ true
due a b at_most = grind (arith, common_steps, nat_tests)

late : (a b : ℕ) → b < a → is_le (nat_cmp a b) ≡ false
late a b above = grind (arith, common_steps, nat_tests)

not_above : (a b : ℕ) → a ≤ b → is_gt (nat_cmp a b) ≡ false
not_above a b at_most = grind (arith, common_steps, nat_tests)

is_above : (a b : ℕ) → b < a → is_gt (nat_cmp a b) ≡ true
is_above a b above = grind (arith, common_steps, nat_tests)

at_most : (a b : ℕ) → nat_cmp a b ≢ Greater → a ≤ b
at_most a b most = grind (arith, common_steps, nat_tests)

module _ {J : Type 0} (time : ℕ) where
  later-all : (e : Entry (ℕ × J)) (es : List (Entry (ℕ × J))) → time < key_of e → AllByRecursion (λ f. nat_cmp (key_of e) (key_of f) ≢ Greater) es → AllByRecursion (λ f. time < key_of f) es
  later-all e [] above all = tt
  later-all e (f ∷ es) above all = (omega (arith, above, at_most (key_of e) (key_of f) all.0), later-all e es above all.1)

  -- where the first job isn't due, none is
  none-due : (es : List (Entry (ℕ × J))) → AllByRecursion (λ f. time < key_of f) es → entries_until nat_cmp time es ≡ []
  none-due [] all = refl
  none-due (e ∷ es) all = rw (late (key_of e) time all.0) (none-due es all.1)

  all-above : (es : List (Entry (ℕ × J))) → AllByRecursion (λ f. time < key_of f) es → entries_above nat_cmp time es ≡ es
  all-above [] all = refl
  all-above (e ∷ es) all = rw (is_above (key_of e) time all.0) (ap (λ xs. e ∷ xs) (all-above es all.1))

  all-later : (e : Entry (ℕ × J)) (es : List (Entry (ℕ × J))) → AreSorted nat_cmp (e ∷ es) → time < key_of e → AllByRecursion (λ f. time < key_of f) (e ∷ es)
  all-later e es sorted above = (above, later-all e es above (recursion_from_All _ es sorted.0))

  pub first-late : (e : Entry (ℕ × J)) (es : List (Entry (ℕ × J))) → AreSorted nat_cmp (e ∷ es) → time < key_of e → entries_until nat_cmp time (e ∷ es) ≡ []
  first-late e es sorted above = none-due (e ∷ es) (all-later e es sorted above)

  pub rest-late : (e : Entry (ℕ × J)) (es : List (Entry (ℕ × J))) → AreSorted nat_cmp (e ∷ es) → time < key_of e → entries_until nat_cmp time es ≡ []
  rest-late e es sorted above = none-due es (later-all e es above (recursion_from_All _ es sorted.0))

  pub first-due : (e : Entry (ℕ × J)) (es : List (Entry (ℕ × J))) → key_of e ≤ time → entries_until nat_cmp time (e ∷ es) ≡ e ∷ entries_until nat_cmp time es
  first-due e es reached = rw (due (key_of e) time reached) refl

  -- where no job is due, all are later
  pub none-first : (es : List (Entry (ℕ × J))) → AreSorted nat_cmp es → first_due time es ≡ None → AllByRecursion (λ f. time < key_of f) es
  none-first [] sorted none = tt
  none-first (e ∷ es) sorted none = go (is_le (nat_cmp (key_of e) time)) refl none
    where
      go : (b : Bool) → is_le (nat_cmp (key_of e) time) ≡ b → (if b then Some e.item else None) ≡ None → AllByRecursion (λ f. time < key_of f) (e ∷ es)
      go true is none = absurd (cc)
      go false is none = all-later e es sorted (above (key_of e) time is)
        where
          above : (a b : ℕ) → is_le (nat_cmp a b) ≡ false → b < a
          above a b is = grind (arith, common_steps, nat_tests)

  -- a list is cut behind jobs that are due
  module _ (all taken left : List (Entry (ℕ × J))) (cut : all ≡ taken ++ left) (reached : AllByRecursion (λ e. key_of e ≤ time) taken) where
    pub until-cut : entries_until nat_cmp time all ≡ taken ++ entries_until nat_cmp time left
    until-cut = ap (entries_until nat_cmp time) cut ∙ go taken reached
      where
        go : (taken : List (Entry (ℕ × J))) → AllByRecursion (λ e. key_of e ≤ time) taken → entries_until nat_cmp time (taken ++ left) ≡ taken ++ entries_until nat_cmp time left
        go [] reached = refl
        go (e ∷ taken) reached = rw (due (key_of e) time reached.0) (ap (λ xs. e ∷ xs) (go taken reached.1))

    above-cut : entries_above nat_cmp time all ≡ entries_above nat_cmp time left
    above-cut = ap (entries_above nat_cmp time) cut ∙ go taken reached
      where
        go : (taken : List (Entry (ℕ × J))) → AllByRecursion (λ e. key_of e ≤ time) taken → entries_above nat_cmp time (taken ++ left) ≡ entries_above nat_cmp time left
        go [] reached = refl
        go (e ∷ taken) reached = rw (not_above (key_of e) time reached.0) (go taken reached.1)

    -- and what is left is later
    module _ (later : AllByRecursion (λ f. time < key_of f) left) where
      pub until-taken : entries_until nat_cmp time all ≡ taken
      until-taken = until-cut ∙ ap (λ xs. taken ++ xs) (none-due left later) ∙ append-nil taken

      pub above-left : entries_above nat_cmp time all ≡ left
      above-left = above-cut ∙ all-above left later

  pub fewer-due : (es : List (Entry (ℕ × J))) → length (entries_until nat_cmp time es) ≤ length es
  fewer-due [] = omega arith
  fewer-due (e ∷ es) = go (is_le (nat_cmp (key_of e) time)) (fewer-due es)
    where
      go : (b : Bool) → length (entries_until nat_cmp time es) ≤ length es → length (cond b (e ∷ entries_until nat_cmp time es) (entries_until nat_cmp time es)) ≤ length (e ∷ es)
      go true fewer = omega (arith, fewer)
      go false fewer = omega (arith, fewer)
