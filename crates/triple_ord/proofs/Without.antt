-- A list without the entry at an index: its ends, its parts, and how often an index occurs in it.
use Rattle.triple_ord.proofs.Words.{◌≡◌, ◌≢◌, ℕ, ◌+◌, ◌≤◌, List, [], ◌∷◌, ◌++◌, Some, None, refl, sym, ap, ◌∙◌, arith, common_steps, eqb_tells, inl, inr, Entry}
use Rattle.triple_ord.proofs.{Words.times, Words.times-append, Words.with_item_among, Words.first_of, Words.last_of, Inserting.ends, Inserting.last_of-append}
use Rattle.ord_tree.specs.Chain.{without}

module _ {T : Type 0} (i : ℕ) where
  pub without-absent : (es : List (Entry T)) → times i es ≡ 0 → without i es ≡ es
  without-absent [] none = refl
  without-absent (e ∷ es) none = grind (arith, common_steps, without-absent es)

  pub without-append : (xs ys : List (Entry T)) → times i (xs ++ ys) ≤ 1 → without i (xs ++ ys) ≡ without i xs ++ without i ys
  without-append [] ys once = refl
  without-append (x ∷ xs) ys once = elim (eqb_tells x.index i) [
    | inl h ↦
        let whole : 1 + times i (xs ++ ys) ≤ 1 = rw h.0 at once in
        rw h.0 (ap (λ zs. xs ++ zs) (sym (without-absent ys (omega (arith, whole, times-append i xs ys)))))
    | inr h ↦ rw h.0 (ap (λ zs. x ∷ zs) (without-append xs ys (omega (arith, once))))
  ]

  pub without-kept : (front : List (Entry T)) (e : Entry T) → e.index ≢ i → without i (front ++ e ∷ []) ≡ without i front ++ e ∷ []
  without-kept [] e other = grind (arith, common_steps)
  without-kept (f ∷ front) e other = grind (arith, common_steps, without-kept front e)

  pub without-last : (front : List (Entry T)) (e : Entry T) → e.index ≡ i → times i front ≡ 0 → without i (front ++ e ∷ []) ≡ front
  without-last [] e same none = grind (arith, common_steps)
  without-last (f ∷ front) e same none = grind (arith, common_steps, without-last front e)

  pub without-first : (e : Entry T) (back : List (Entry T)) → e.index ≡ i → without i (e ∷ back) ≡ back
  without-first e back same = grind (arith, common_steps)

  pub first-kept : (es : List (Entry T)) (e : Entry T) → e.index ≢ i → first_of es ≡ Some e → first_of (without i es) ≡ Some e
  first-kept es e other is = grind (arith, common_steps)

  pub last-kept : (es : List (Entry T)) (e : Entry T) → e.index ≢ i → last_of None es ≡ Some e → last_of None (without i es) ≡ Some e
  last-kept es e other is =
      let front = ends es e is in
      ap (λ es. last_of None (without i es)) front.1 ∙ ap (λ es. last_of None es) (without-kept front.0 e other) ∙ last_of-append None (without i front.0) e []

  pub without-written : (es : List (Entry T)) (item : T) → without i (with_item_among es i item) ≡ without i es
  without-written [] item = refl
  without-written (e ∷ es) item = grind (arith, common_steps, without-written es item)

  pub times-without : (j : ℕ) (es : List (Entry T)) → times j (without i es) ≤ times j es
  times-without j [] = omega arith
  times-without j (e ∷ es) = grind (arith, common_steps, times-without j es)
