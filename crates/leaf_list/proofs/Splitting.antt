-- A leaf that is split in two.
use Rattle.std.proofs.Common.{◌≡◌, ℕ, zero, suc, ◌<◌, List, [], ◌∷◌, ◌++◌, length, take, drop, slice_get, Some, arith, ap, sym, ◌∙◌, refl, inl, inr}
use Rattle.std.specs.List.{remove}
use Rattle.std.proofs.lemmas.Bool.{eq-eqb, Decides.eqb_tells}
use Rattle.leaf_list.specs.Leaves.{Leaf, times_numbered}
use Rattle.leaf_list.specs.Parts.{entries_in, HasLeaf, with_entries, with_leaf}
use Rattle.leaf_list.proofs.Changing.{own-changed, changed-twice}

module _ {X : Type 0} where
  take-removed : (es : List X) (at : ℕ) → take at (remove es at) ≡ take at es
  take-removed es zero = refl
  take-removed [] (suc at) = refl
  take-removed (e ∷ es) (suc at) = ap (λ (l : List X). e ∷ l) (take-removed es at)

  drop-removed : (es : List X) (at : ℕ) (x : X) → slice_get es at ≡ Some x → x ∷ drop at (remove es at) ≡ drop at es
  drop-removed [] at x is = absurd (cc)
  drop-removed (e ∷ es) zero x is = let own : e ≡ x = cc in ap (λ (y : X). y ∷ es) (sym own)
  drop-removed (e ∷ es) (suc at) x is = drop-removed es at x is

module _ {K : Type 0} where
  -- leaves with a new one behind a leaf
  pub own-with : (ls : List (Leaf K)) (n : ℕ) (new : Leaf K) → entries_in (with_leaf ls n new) n ≡ entries_in ls n
  own-with [] n new = refl
  own-with (l ∷ ls) n new = elim (eqb_tells l.number n) [
    | inl same ↦ rw (same.0, same.0) refl
    | inr other ↦ rw (other.0, other.0) (own-with ls n new)
  ]

  pub new-with : (ls : List (Leaf K)) (n m : ℕ) (es : List (K × ℕ)) → HasLeaf ls n → times_numbered m ls ≡ 0 → entries_in (with_leaf ls n (record { number = m; entries = es })) m ≡ es
  new-with [] n m es has none = absurd (omega arith)
  new-with (l ∷ ls) n m es has none = elim (eqb_tells l.number m) [
    | inl same ↦ absurd (omega (arith, rw same.0 at none))
    | inr apart ↦ elim (eqb_tells l.number n) [
      | inl same ↦ let test = eq-eqb m m refl in rw (same.0, apart.0, test) refl
      | inr other ↦ rw (other.0, apart.0) (new-with ls n m es (rw other.0 at has) (omega (arith, rw apart.0 at none)))
    ]
  ]

  pub changed-with : (ls : List (Leaf K)) (n : ℕ) (new : Leaf K) (es : List (K × ℕ)) → with_entries (with_leaf ls n new) n es ≡ with_leaf (with_entries ls n es) n new
  changed-with [] n new es = refl
  changed-with (l ∷ ls) n new es = elim (eqb_tells l.number n) [
    | inl same ↦ rw (same.0, same.0) refl
    | inr other ↦ rw (other.0, other.0) (ap (λ (xs : List (Leaf K)). l ∷ xs) (changed-with ls n new es))
  ]

  pub new-changed : (ls : List (Leaf K)) (n m : ℕ) (es fs : List (K × ℕ)) → times_numbered m ls ≡ 0
      → with_entries (with_leaf ls n (record { number = m; entries = es })) m fs ≡ with_leaf ls n (record { number = m; entries = fs })
  new-changed [] n m es fs none = refl
  new-changed (l ∷ ls) n m es fs none = elim (eqb_tells l.number m) [
    | inl same ↦ absurd (omega (arith, rw same.0 at none))
    | inr apart ↦ elim (eqb_tells l.number n) [
      | inl same ↦ let test = eq-eqb m m refl in rw (same.0, apart.0, test) refl
      | inr other ↦ let rest = new-changed ls n m es fs (omega (arith, rw apart.0 at none)) in rw (other.0, apart.0) (ap (λ (xs : List (Leaf K)). l ∷ xs) rest)
    ]
  ]

  pub none-changed : (ls : List (Leaf K)) (n m : ℕ) (es : List (K × ℕ)) → times_numbered m (with_entries ls n es) ≡ times_numbered m ls
  none-changed [] n m es = refl
  none-changed (l ∷ ls) n m es = elim (eqb_tells l.number n) [
    | inl same ↦ rw same.0 refl
    | inr other ↦ let rest = none-changed ls n m es in rw other.0 (omega (arith, rest))
  ]

  pub length-changed : (ls : List (Leaf K)) (n : ℕ) (es : List (K × ℕ)) → length (with_entries ls n es) ≡ length ls
  length-changed [] n es = refl
  length-changed (l ∷ ls) n es = elim (eqb_tells l.number n) [
    | inl same ↦ rw same.0 refl
    | inr other ↦ let rest = length-changed ls n es in rw other.0 (omega (arith, rest))
  ]

  -- the steps of a split at an entry: it is taken out and put into a new leaf, and those behind it follow
  module _ (ls : List (Leaf K)) (n at : ℕ) (x : K × ℕ) (some : 0 < at) (within : at < length (entries_in ls n)) (taken : slice_get (entries_in ls n) at ≡ Some x)
      (m : ℕ) (fresh : times_numbered m (with_entries ls n (remove (entries_in ls n) at)) ≡ 0) where
    abbrev es : List (K × ℕ)
    es = entries_in ls n

    abbrev pub taken_out : List (Leaf K)
    taken_out = with_entries ls n (remove es at)

    abbrev pub with_new : List (Leaf K)
    with_new = with_leaf taken_out n (record { number = m; entries = x ∷ [] })

    pub out-own : entries_in taken_out n ≡ remove es at
    out-own = own-changed ls n (remove es at) (omega arith)

    pub new-own : entries_in with_new n ≡ remove es at
    new-own = own-with taken_out n (record { number = m; entries = x ∷ [] }) ∙ out-own

    pub new-there : HasLeaf taken_out n → entries_in with_new m ≡ x ∷ []
    new-there has = new-with taken_out n m (x ∷ []) has fresh

    pub split-is : HasLeaf taken_out n → with_entries (with_entries with_new n (take at (entries_in with_new n))) m (entries_in with_new m ++ drop at (entries_in with_new n))
        ≡ with_leaf (with_entries ls n (take at es)) n (record { number = m; entries = drop at es })
    split-is has =
        let front : take at (entries_in with_new n) ≡ take at es = ap (take at) new-own ∙ take-removed es at in
        let back : entries_in with_new m ++ drop at (entries_in with_new n) ≡ drop at es =
        ap (λ (l : List (K × ℕ)). l ++ drop at (entries_in with_new n)) (new-there has) ∙ ap (λ (l : List (K × ℕ)). x ∷ drop at l) new-own ∙ drop-removed es at x taken in
        let own : with_entries with_new n (take at es) ≡ with_leaf (with_entries ls n (take at es)) n (record { number = m; entries = x ∷ [] }) =
        changed-with taken_out n (record { number = m; entries = x ∷ [] }) (take at es)
        ∙ ap (λ (xs : List (Leaf K)). with_leaf xs n (record { number = m; entries = x ∷ [] })) (changed-twice ls n (remove es at) (take at es)) in
        let none : times_numbered m (with_entries ls n (take at es)) ≡ 0 = none-changed ls n m (take at es) ∙ sym (none-changed ls n m (remove es at)) ∙ fresh in
        ap (λ (l : List (K × ℕ)). with_entries (with_entries with_new n l) m (entries_in with_new m ++ drop at (entries_in with_new n))) front
        ∙ ap (with_entries (with_entries with_new n (take at es)) m) back ∙ ap (λ (xs : List (Leaf K)). with_entries xs m (drop at es)) own
        ∙ new-changed (with_entries ls n (take at es)) n m (x ∷ []) (drop at es) none
