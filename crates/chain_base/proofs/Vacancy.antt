-- The vacant indexes and the greatest occupied one: the slots of an arena in terms of the chain's list.
use Rattle.std.proofs.Common.{◌≡◌, ℕ, suc, ◌+◌, ◌-◌, ◌<◌, ◌≤◌, true, List, [], ◌∷◌, length, drop, replicate, Option, Some, None, is_some, cond, max, refl, sym, ap, ◌∙◌, arith, inl, inr, ◌⊎◌, get_or, add-one, add-zero}
use Rattle.std.proofs.{lemmas.List.length-replicate, lemmas.List.length-drop, lemmas.List.get_or_past, lemmas.List.Folds.list_any_at}
use Rattle.std.proofs.lemmas.Grind.{common_steps, get_or_after_one}
use Rattle.std.specs.List.{list_any}
use Rattle.arena_base.specs.Arena.{vacant_from, vacant_indexes as slots_vacant, greatest_occupied, resized}
use Rattle.chain_base.specs.Chain.{Entry, times, IsDistinct, link_at, vacant_among, vacant_indexes, greatest_index}
use Rattle.chain_base.specs.Link.{Link}
use Rattle.chain_base.proofs.Lists.{times-here, times-unlinked, link_between-absent}

module _ {X : Type 0} where
  -- an occupied slot has an entry
  pub held-some : (o : Option X) → is_some o ≡ true → (x : X) × (o ≡ Some x)
  held-some o held = grind (arith, common_steps)

  -- slots that are all vacant
  pub get_or-vacant : (n i : ℕ) → let none : Option X = None in get_or (replicate n none) i none ≡ none
  get_or-vacant (suc n) (suc i) = get_or-vacant n i
  get_or-vacant n i = refl

  pub below-greatest : (xs : List (Option X)) (i : ℕ) (e : X) → get_or xs i None ≡ Some e → i ≤ greatest_occupied xs
  below-greatest (x ∷ xs) (suc i) e held = grind (arith, common_steps, list_any_at is_some xs i None, get_or_past xs i None, below-greatest xs i e)
  below-greatest xs i e held = grind (arith, common_steps)

  pub past-greatest : (xs : List (Option X)) (k : ℕ) → greatest_occupied xs < k → get_or xs k None ≡ None
  past-greatest xs k far = grind (arith, common_steps, below-greatest xs k)

  -- the greatest occupied index has an entry, or is 0
  greatest-held : (xs : List (Option X)) → list_any is_some xs ≡ true → is_some (get_or xs (greatest_occupied xs) None) ≡ true
  greatest-held [] some = absurd (cc)
  greatest-held (None ∷ xs) some = let any : list_any is_some xs ≡ true = some in rw (any, add-one) (greatest-held xs some)
  greatest-held (Some x ∷ xs) some = grind (arith, common_steps, greatest-held xs)

  pub greatest-or_none : (xs : List (Option X)) → (greatest_occupied xs ≡ 0) ⊎ (is_some (get_or xs (greatest_occupied xs) None) ≡ true)
  greatest-or_none xs = grind (arith, common_steps, greatest-held)

  resized-cons : (n : ℕ) (x : Option X) (xs : List (Option X)) → resized (suc n) (x ∷ xs) ≡ x ∷ resized n xs
  resized-cons n x xs = let same : suc n - suc (length xs) ≡ n - length xs = omega arith in rw same refl

  resized-none : (xs : List (Option X)) → resized 0 xs ≡ []
  resized-none xs = let same : 0 - length xs ≡ 0 = omega arith in rw same refl

  -- if all slots from n on are vacant, the first n slots hold the same
  pub get_or-resized : (n : ℕ) (xs : List (Option X)) (i : ℕ) → ((k : ℕ) → n ≤ k → get_or xs k None ≡ None) → get_or (resized n xs) i None ≡ get_or xs i None
  get_or-resized (suc n) (x ∷ xs) (suc i) rest = rw (resized-cons n x xs) (get_or-resized n xs i (λ k far. rest (suc k) (omega arith)))
  get_or-resized n xs i rest = grind (arith, common_steps, resized-none, get_or-vacant)

  pub length-resized : (n : ℕ) (xs : List (Option X)) → length (resized n xs) ≡ n
  length-resized (suc n) (x ∷ xs) = ap length (resized-cons n x xs) ∙ ap suc (length-resized n xs)
  length-resized n xs = grind (arith, common_steps, resized-none, length-replicate)

module _ {X T : Type 0} where
  -- an index occurs in the list exactly if its slot is occupied, and then once
  abbrev pub HoldIndexes : List (Option X) → List (Entry T) → Type 0
  HoldIndexes slots es = (i : ℕ) → times i es ≡ cond (is_some (get_or slots i None)) 1 0

  pub held-within : (slots : List (Option X)) (es : List (Entry T)) (i : ℕ) → HoldIndexes slots es → 1 ≤ times i es → i < length slots
  held-within slots es i held occurs = grind (arith, common_steps, get_or_past, held i)

  pub held-is : (slots : List (Option X)) (es : List (Entry T)) (i : ℕ) → HoldIndexes slots es → 1 ≤ times i es → is_some (get_or slots i None) ≡ true
  held-is slots es i held occurs = grind (arith, common_steps, held i)

  pub held-occurs : (slots : List (Option X)) (es : List (Entry T)) (i : ℕ) → HoldIndexes slots es → is_some (get_or slots i None) ≡ true → 1 ≤ times i es
  held-occurs slots es i held there = grind (arith, common_steps, held i)

  -- the vacant indexes
  module _ (es : List (Entry T)) where
    vacant_from-held : (xs : List (Option X)) (from : ℕ)
        → ((k : ℕ) → k < length xs → times (from + k) es ≡ cond (is_some (get_or xs k None)) 1 0) → vacant_from from xs ≡ vacant_among es from (length xs)
    vacant_from-held [] from held = refl
    vacant_from-held (x ∷ xs) from held =
        by x (let here : times (from + 0) es ≡ cond (is_some x) 1 0 = held 0 (omega arith) in rw add-zero at here)
        (vacant_from-held xs (from + 1) (λ k within. let same : from + suc k ≡ from + 1 + k = omega arith in rw same at (held (suc k) (omega arith))))
      where
        by : (o : Option X) → times from es ≡ cond (is_some o) 1 0 → vacant_from (from + 1) xs ≡ vacant_among es (from + 1) (length xs)
            → vacant_from from (o ∷ xs) ≡ vacant_among es from (suc (length xs))
        by None here more = rw here (ap (λ is. from ∷ is) more)
        by (Some e) here more = rw here more

  pub vacant-held : (slots : List (Option X)) (es : List (Entry T)) → HoldIndexes slots es → slots_vacant slots ≡ vacant_indexes es (length slots - 1)
  vacant-held slots es held = grind (arith, common_steps, vacant_from-held es (drop 1 slots) 1, get_or_after_one slots, length-drop 1 slots)

module _ {T : Type 0} where
  -- an index of a list has a link
  pub held-link : (es : List (Entry T)) (i : ℕ) → 1 ≤ times i es → (e : ℕ × Link T) × (link_at es i ≡ Some e)
  held-link es i occurs = held-some (link_at es i) (grind (arith, common_steps, times-unlinked None None es i))

  pub times-link : (es : List (Entry T)) → IsDistinct es → (i : ℕ) → times i es ≡ cond (is_some (link_at es i)) 1 0
  times-link es distinct i = grind (arith, common_steps, distinct i, times-unlinked None None es i, link_between-absent None None es i)

  pub held-links : (slots : List (Option (ℕ × Link T))) (es : List (Entry T)) → IsDistinct es → ((i : ℕ) → get_or slots i None ≡ link_at es i) → HoldIndexes slots es
  held-links slots es distinct links i = times-link es distinct i ∙ ap (λ o. cond (is_some o) 1 0) (sym (links i))

  -- the greatest index of a list occurs in it
  pub times-greatest : (e : Entry T) (es : List (Entry T)) → 1 ≤ times (greatest_index (e ∷ es)) (e ∷ es)
  times-greatest e [] = let same : e.index ≡ max e.index 0 = omega arith in omega (arith, times-here (max e.index 0) e [] same)
  times-greatest e (f ∷ es) = grind (arith, common_steps, times-greatest f es)

  -- no index of a list is beyond the greatest
  pub below-greatest_index : (es : List (Entry T)) (i : ℕ) → 1 ≤ times i es → i ≤ greatest_index es
  below-greatest_index [] i occurs = absurd (omega arith)
  below-greatest_index (e ∷ es) i occurs = grind (arith, common_steps, below-greatest_index es i)

  pub greatest-occurs : (es : List (Entry T)) → (greatest_index es ≡ 0) ⊎ (1 ≤ times (greatest_index es) es)
  greatest-occurs [] = inl refl
  greatest-occurs (e ∷ es) = inr (times-greatest e es)

  greatest-within : {X : Type 0} (slots : List (Option X)) (es : List (Entry T)) → HoldIndexes slots es → greatest_index es ≤ greatest_occupied slots
  greatest-within slots es held = grind (arith, common_steps, greatest-occurs es, held-is slots es (greatest_index es) held, below-greatest slots (greatest_index es))

  -- the greatest occupied index is that of the list
  pub greatest-links : {X : Type 0} (slots : List (Option X)) (es : List (Entry T)) → HoldIndexes slots es → greatest_occupied slots ≡ greatest_index es
  greatest-links slots es held = grind (arith, common_steps, greatest-within slots es held, greatest-or_none slots, held-occurs slots es (greatest_occupied slots) held, below-greatest_index es (greatest_occupied slots))
