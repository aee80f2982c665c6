-- Changes of several leaves in turn.
use Rattle.std.proofs.Common.{◌≡◌, ◌≢◌, ℕ, ◌==◌, true, false, List, [], ◌∷◌, arith, ap, sym, ◌∙◌, refl, inl, inr}
use Rattle.std.proofs.lemmas.Grind.{common_steps}
use Rattle.std.proofs.lemmas.Bool.{Decides.eqb_tells}
use Rattle.leaf_list.specs.Leaves.{Leaf}
use Rattle.leaf_list.specs.Parts.{entries_in, HasLeaf, with_entries, without_leaf}

module _ {K : Type 0} where
  -- what is read of a leaf after a change of it, or of another one
  pub own-changed : (ls : List (Leaf K)) (n : ℕ) (es : List (K × ℕ)) → HasLeaf ls n → entries_in (with_entries ls n es) n ≡ es
  own-changed [] n es has = absurd (omega arith)
  own-changed (l ∷ ls) n es has = elim (eqb_tells l.number n) [
    | inl same ↦ rw (same.0, same.0) refl
    | inr other ↦ rw (other.0, other.0) (own-changed ls n es (rw other.0 at has))
  ]

  pub other-changed : (ls : List (Leaf K)) (n m : ℕ) (es : List (K × ℕ)) → n ≢ m → entries_in (with_entries ls n es) m ≡ entries_in ls m
  other-changed [] n m es apart = refl
  other-changed (l ∷ ls) n m es apart = elim (eqb_tells l.number n) [
    | inl same ↦
        let other : (l.number == m) ≡ false = elim (eqb_tells l.number m) [ inl is ↦ absurd (apart (sym same.1 ∙ is.1)) | inr is ↦ is.0 ] in rw (same.0, other) refl
    | inr other ↦ let rest = other-changed ls n m es apart in rw (other.0, rest) refl
  ]

  pub other-gone : (ls : List (Leaf K)) (n m : ℕ) → n ≢ m → entries_in (without_leaf ls n) m ≡ entries_in ls m
  other-gone [] n m apart = refl
  other-gone (l ∷ ls) n m apart = elim (eqb_tells l.number n) [
    | inl same ↦
        let other : (l.number == m) ≡ false = elim (eqb_tells l.number m) [ inl is ↦ absurd (apart (sym same.1 ∙ is.1)) | inr is ↦ is.0 ] in rw (same.0, other) refl
    | inr other ↦ let rest = other-gone ls n m apart in rw (other.0, rest) refl
  ]

  -- two changes
  pub changed-twice : (ls : List (Leaf K)) (n : ℕ) (es fs : List (K × ℕ)) → with_entries (with_entries ls n es) n fs ≡ with_entries ls n fs
  changed-twice [] n es fs = refl
  changed-twice (l ∷ ls) n es fs = elim (eqb_tells l.number n) [
    | inl same ↦ rw (same.0, same.0) refl
    | inr other ↦ let rest = changed-twice ls n es fs in rw (other.0, other.0) (ap (λ (xs : List (Leaf K)). l ∷ xs) rest)
  ]

  pub changed-gone : (ls : List (Leaf K)) (n : ℕ) (es : List (K × ℕ)) → without_leaf (with_entries ls n es) n ≡ without_leaf ls n
  changed-gone [] n es = refl
  changed-gone (l ∷ ls) n es = elim (eqb_tells l.number n) [
    | inl same ↦ rw (same.0, same.0) refl
    | inr other ↦ let rest = changed-gone ls n es in rw (other.0, other.0) (ap (λ (xs : List (Leaf K)). l ∷ xs) rest)
  ]

  module _ (n m : ℕ) (apart : n ≢ m) where
    one-only : (l : Leaf K) → (l.number == n) ≡ true → (l.number == m) ≡ false
    one-only l same = elim (eqb_tells l.number m) [
      | inl is ↦ absurd (let own : l.number ≡ n = grind (arith, common_steps) in apart (sym own ∙ is.1))
      | inr is ↦ is.0
    ]

    pub changed-apart : (ls : List (Leaf K)) (es fs : List (K × ℕ)) → with_entries (with_entries ls n es) m fs ≡ with_entries (with_entries ls m fs) n es
    changed-apart [] es fs = refl
    changed-apart (l ∷ ls) es fs = elim (eqb_tells l.number n) [
      | inl same ↦ let other = one-only l same.0 in rw (same.0, other, same.0) refl
      | inr other ↦ elim (eqb_tells l.number m) [
        | inl same ↦ rw (other.0, same.0, other.0) refl
        | inr apart_too ↦ rw (other.0, apart_too.0, other.0) (ap (λ (xs : List (Leaf K)). l ∷ xs) (changed-apart ls es fs))
      ]
    ]

    pub gone-apart : (ls : List (Leaf K)) (es : List (K × ℕ)) → without_leaf (with_entries ls n es) m ≡ with_entries (without_leaf ls m) n es
    gone-apart [] es = refl
    gone-apart (l ∷ ls) es = elim (eqb_tells l.number n) [
      | inl same ↦ let other = one-only l same.0 in rw (same.0, other, same.0) refl
      | inr other ↦ elim (eqb_tells l.number m) [
        | inl same ↦ rw (other.0, same.0) refl
        | inr apart_too ↦ rw (other.0, apart_too.0, other.0) (ap (λ (xs : List (Leaf K)). l ∷ xs) (gone-apart ls es))
      ]
    ]

  -- nothing is changed
  pub unchanged : (ls : List (Leaf K)) (n : ℕ) → with_entries ls n (entries_in ls n) ≡ ls
  unchanged [] n = refl
  unchanged (l ∷ ls) n = elim (eqb_tells l.number n) [
    | inl same ↦ rw same.0 refl
    | inr other ↦ let rest = unchanged ls n in rw other.0 (ap (λ (xs : List (Leaf K)). l ∷ xs) rest)
  ]
