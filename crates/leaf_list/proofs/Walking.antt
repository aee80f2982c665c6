-- Iterators over entries.
use Rattle.std.proofs.Common.{◌≡◌, ◌≢◌, ℕ, zero, suc, ◌+◌, ◌-◌, ◌<◌, List, [], ◌∷◌, ◌++◌, length, take, drop, slice_get, Option, Some, None, IsSome, arith, ap, sym, subst, ◌∙◌, refl, inl, inr}
use Rattle.std.proofs.lemmas.Bool.{Decides.eqb_tells}
use Rattle.std.proofs.lemmas.List.{take_all}
use Rattle.leaf_list.specs.Leaves.{Leaf, entries_of}
use Rattle.leaf_list.specs.Place.{entry_at, position, entries_between, IsPlace, IsPlaceOf}
use Rattle.leaf_list.specs.Walk.{IsStretch}
use Rattle.leaf_list.proofs.Placing.{slice_get-within, entry-position}
use Rattle.leaf_list.proofs.Renaming.{held}

module _ {X : Type 0} where
  stretch-front : (es : List X) (a n : ℕ) (e : X) → slice_get es a ≡ Some e → take (n + 1) (drop a es) ≡ e ∷ take n (drop (a + 1) es)
  stretch-front [] zero n e is = absurd (cc)
  stretch-front [] (suc a) n e is = absurd (cc)
  stretch-front (x ∷ es) zero n e is =
      let own : x ≡ e = cc in let place : n + 1 ≡ suc n = omega arith in
      ap (λ (m : ℕ). take m (x ∷ es)) place ∙ ap (λ (y : X). y ∷ take n es) own
  stretch-front (x ∷ es) (suc a) n e is =
      let place : suc (a + 1) ≡ suc a + 1 = omega arith in
      stretch-front es a n e is ∙ ap (λ (m : ℕ). e ∷ take n (drop m (x ∷ es))) place

  stretch-back : (es : List X) (a n : ℕ) (e : X) → slice_get es (a + n) ≡ Some e → take (n + 1) (drop a es) ≡ take n (drop a es) ++ e ∷ []
  stretch-back [] a n e is = absurd (cc)
  stretch-back (x ∷ es) zero zero e is = let own : x ≡ e = cc in ap (λ (y : X). y ∷ []) own
  stretch-back (x ∷ es) zero (suc n) e is =
      let at : 0 + suc n ≡ suc (0 + n) = omega arith in
      let place : suc n + 1 ≡ suc (n + 1) = omega arith in
      ap (λ (m : ℕ). take m (x ∷ es)) place
      ∙ ap (λ (l : List X). x ∷ l) (stretch-back es zero n e (ap (λ (m : ℕ). slice_get (x ∷ es) m) (sym at) ∙ is))
  stretch-back (x ∷ es) (suc a) n e is =
      let at : suc a + n ≡ suc (a + n) = omega arith in
      stretch-back es a n e (ap (λ (m : ℕ). slice_get (x ∷ es) m) (sym at) ∙ is)

module _ {K : Type 0} where
  -- two places with as many entries before them are one
  place-apart : (ls : List (Leaf K)) (p q : ℕ × ℕ) → IsSome (entry_at ls p) → IsSome (entry_at ls q) → position ls (Some p) ≡ position ls (Some q) → p ≡ q
  place-apart [] p q some there same = absurd (cc)
  place-apart (l ∷ ls) p q some there same = elim (eqb_tells l.number p.0) [
    | inl own ↦ elim (eqb_tells l.number q.0) [
      | inl other ↦
          let at : p.1 ≡ q.1 = rw (own.0, other.0) at same in
          ap (λ (n : ℕ). (n, p.1)) (sym own.1 ∙ other.1) ∙ ap (λ (n : ℕ). (q.0, n)) at
      | inr other ↦ absurd (let within = slice_get-within l.entries p.1 (rw own.0 at some) in let count = rw (own.0, other.0) at same in omega arith)
    ]
    | inr own ↦ elim (eqb_tells l.number q.0) [
      | inl other ↦ absurd (let within = slice_get-within l.entries q.1 (rw other.0 at there) in let count = rw (own.0, other.0) at same in omega arith)
      | inr other ↦ let count = rw (own.0, other.0) at same in place-apart ls p q (rw own.0 at some) (rw other.0 at there) (omega arith)
    ]
  ]

  pub within-all : (ls : List (Leaf K)) (p : ℕ × ℕ) → IsSome (entry_at ls p) → position ls (Some p) < length (entries_of ls)
  within-all ls p some = let e = held (entry_at ls p) some in slice_get-within (entries_of ls) (position ls (Some p)) (rw (entry-position ls p e.0 e.1) refl)

  pub places-apart : (ls : List (Leaf K)) (p q : Option (ℕ × ℕ)) → IsPlace ls p → IsPlace ls q → position ls p ≡ position ls q → p ≡ q
  places-apart ls None None from until same = refl
  places-apart ls None (Some q) from until same = absurd (let within = within-all ls q until in omega arith)
  places-apart ls (Some p) None from until same = absurd (let within = within-all ls p from in omega arith)
  places-apart ls (Some p) (Some q) from until same = ap Some (place-apart ls p q from until same)

  module _ (ls : List (Leaf K)) (first end : Option (ℕ × ℕ)) (stretch : IsStretch ls first end) where
    -- nothing is left
    pub walk-done : first ≡ end → entries_between ls first end ≡ []
    walk-done same =
        let none : position ls end - position ls first ≡ 0 = omega (arith, ap (position ls) same) in
        ap (λ (n : ℕ). take n (drop (position ls first) (entries_of ls))) none

    -- something is left
    pub first-there : first ≢ end → first ≡ None → ⊥
    first-there other none = go end refl
      where
        go : (o : Option (ℕ × ℕ)) → end ≡ o → ⊥
        go None is = other (none ∙ sym is)
        go (Some q) is =
            let within = within-all ls q (subst (IsPlace ls) is stretch.until) in
            let order = stretch.order in
            let from = ap (position ls) none in
            let until = ap (position ls) is in omega arith

    pub last-there : first ≢ end → position ls end ≡ 0 → ⊥
    last-there other none = let order = stretch.order in other (places-apart ls first end stretch.from stretch.until (omega arith))

    -- the first entry is given
    pub record StepsFront (next : Option (ℕ × ℕ)) (e : K × ℕ) : Type 0 where
      pub stretch_left : IsStretch ls next end
      pub step : entries_between ls first end ≡ e ∷ entries_between ls next end

    pub walk-front : (p : ℕ × ℕ) (next : Option (ℕ × ℕ)) (e : K × ℕ) → first ≡ Some p → first ≢ end → entry_at ls p ≡ Some e → IsPlaceOf ls next (position ls (Some p) + 1)
        → StepsFront next e
    walk-front p next e is other here after =
        let at = ap (position ls) is in
        let apart : position ls first ≢ position ls end = λ same. other (places-apart ls first end stretch.from stretch.until same) in
        let order = stretch.order in
        let goes = after.position_is in
        let there = entry-position ls p e here in
        let more : position ls end - position ls first ≡ position ls end - position ls next + 1 = omega arith in
        let begin : position ls next ≡ position ls first + 1 = omega arith in record {
          stretch_left = record { from = after.place; until = stretch.until; order = omega arith };
          step = ap (λ (n : ℕ). take n (drop (position ls first) (entries_of ls))) more
              ∙ stretch-front (entries_of ls) (position ls first) (position ls end - position ls next) e (ap (slice_get (entries_of ls)) at ∙ there)
              ∙ ap (λ (n : ℕ). e ∷ take (position ls end - position ls next) (drop n (entries_of ls))) (sym begin);
        }

    -- the last entry is given
    pub record StepsBack (q : ℕ × ℕ) (e : K × ℕ) : Type 0 where
      pub stretch_left : IsStretch ls first (Some q)
      pub step : entries_between ls first end ≡ entries_between ls first (Some q) ++ e ∷ []

    pub walk-back : (q : ℕ × ℕ) (e : K × ℕ) → first ≢ end → entry_at ls q ≡ Some e → position ls (Some q) + 1 ≡ position ls end → StepsBack q e
    walk-back q e other here before =
        let apart : position ls first ≢ position ls end = λ same. other (places-apart ls first end stretch.from stretch.until same) in
        let order = stretch.order in
        let there = entry-position ls q e here in
        let more : position ls end - position ls first ≡ position ls (Some q) - position ls first + 1 = omega arith in
        let at : position ls first + (position ls (Some q) - position ls first) ≡ position ls (Some q) = omega arith in record {
          stretch_left = record { from = stretch.from; until = rw here refl; order = omega arith };
          step = ap (λ (n : ℕ). take n (drop (position ls first) (entries_of ls))) more
              ∙ stretch-back (entries_of ls) (position ls first) (position ls (Some q) - position ls first) e (ap (slice_get (entries_of ls)) at ∙ there);
        }

  -- all entries are between the first place and the end
  pub all-between : (ls : List (Leaf K)) (first : Option (ℕ × ℕ)) → IsPlaceOf ls first 0 → entries_between ls first None ≡ entries_of ls
  all-between ls first at =
      let size : length (entries_of ls) - 0 ≡ length (entries_of ls) = omega arith in
      ap (λ (n : ℕ). take (length (entries_of ls) - n) (drop n (entries_of ls))) at.position_is ∙ ap (λ (n : ℕ). take n (entries_of ls)) size
      ∙ take_all (length (entries_of ls)) (entries_of ls) (omega arith)
