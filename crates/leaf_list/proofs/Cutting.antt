-- Lists of leaves, cut at one of them.
use Rattle.std.proofs.Common.{◌≡◌, ℕ, ◌+◌, List, [], ◌∷◌, ◌++◌, Some, slice_get, arith, ap, sym, ◌∙◌, refl, append_assoc, inl, inr}
use Rattle.std.proofs.lemmas.Grind.{common_steps}
use Rattle.std.proofs.lemmas.Bool.{Decides.eqb_tells}
use Rattle.std.proofs.lemmas.List.Concat.{flat_map-append}
use Rattle.leaf_list.specs.Leaves.{Leaf, entries_of, times, leaf_at, times_numbered}
use Rattle.leaf_list.specs.Place.{entry_at}
use Rattle.leaf_list.specs.Parts.{entries_in, HasLeaf, with_entries, with_leaf, without_leaf}

module _ {K : Type 0} where
  pub times-append : (i : ℕ) (es fs : List (K × ℕ)) → times i (es ++ fs) ≡ times i es + times i fs
  times-append i [] fs = omega arith
  times-append i (e ∷ es) fs = let tail = times-append i es fs in omega arith

  pub entries-append : (ls ms : List (Leaf K)) → entries_of (ls ++ ms) ≡ entries_of ls ++ entries_of ms
  entries-append ls ms = flat_map-append (λ (l : Leaf K). l.entries) ls ms

  pub times_numbered-append : (n : ℕ) (ls ms : List (Leaf K)) → times_numbered n (ls ++ ms) ≡ times_numbered n ls + times_numbered n ms
  times_numbered-append n [] ms = omega arith
  times_numbered-append n (l ∷ ls) ms = let tail = times_numbered-append n ls ms in omega arith

  pub entries-cut : (front : List (Leaf K)) (l : Leaf K) (back : List (Leaf K)) → entries_of (front ++ l ∷ back) ≡ (entries_of front ++ l.entries) ++ entries_of back
  entries-cut front l back = entries-append front (l ∷ back) ∙ sym (append_assoc (entries_of front) l.entries (entries_of back))

  -- a leaf behind others of other numbers
  module _ (l : Leaf K) (back : List (Leaf K)) where
    pub leaf_at-cut : (front : List (Leaf K)) → times_numbered l.number front ≡ 0 → leaf_at (front ++ l ∷ back) l.number ≡ Some l.entries
    leaf_at-cut [] apart = grind (arith, common_steps)
    leaf_at-cut (m ∷ front) apart = let rest = leaf_at-cut front in grind (arith, common_steps)

    pub entries_in-cut : (front : List (Leaf K)) → times_numbered l.number front ≡ 0 → entries_in (front ++ l ∷ back) l.number ≡ l.entries
    entries_in-cut [] apart = grind (arith, common_steps)
    entries_in-cut (m ∷ front) apart = let rest = entries_in-cut front in grind (arith, common_steps)

    pub with_entries-cut : (front : List (Leaf K)) (es : List (K × ℕ)) → times_numbered l.number front ≡ 0
        → with_entries (front ++ l ∷ back) l.number es ≡ front ++ record l { entries = es } ∷ back
    with_entries-cut [] es apart = grind (arith, common_steps)
    with_entries-cut (m ∷ front) es apart = let rest = with_entries-cut front es in grind (arith, common_steps)

    pub without_leaf-cut : (front : List (Leaf K)) → times_numbered l.number front ≡ 0 → without_leaf (front ++ l ∷ back) l.number ≡ front ++ back
    without_leaf-cut [] apart = grind (arith, common_steps)
    without_leaf-cut (m ∷ front) apart = let rest = without_leaf-cut front in grind (arith, common_steps)

    pub with_leaf-cut : (front : List (Leaf K)) (new : Leaf K) → times_numbered l.number front ≡ 0 → with_leaf (front ++ l ∷ back) l.number new ≡ front ++ l ∷ new ∷ back
    with_leaf-cut [] new apart = grind (arith, common_steps)
    with_leaf-cut (m ∷ front) new apart = let rest = with_leaf-cut front new in grind (arith, common_steps)

  pub entry_at-entries : (ls : List (Leaf K)) (n at : ℕ) → entry_at ls (n, at) ≡ slice_get (entries_in ls n) at
  entry_at-entries [] n at = refl
  entry_at-entries (l ∷ ls) n at = elim (eqb_tells l.number n) [
    | inl same ↦ rw same.0 refl
    | inr other ↦ rw other.0 (entry_at-entries ls n at)
  ]

  -- leaves, cut at the one with a number
  pub record CutAt (ls : List (Leaf K)) (n : ℕ) : Type 0 where
    pub front : List (Leaf K)
    pub leaf : Leaf K
    pub back : List (Leaf K)
    pub cut : ls ≡ front ++ leaf ∷ back
    pub number : leaf.number ≡ n
    pub apart : times_numbered n front ≡ 0
    pub entries : entries_in ls n ≡ leaf.entries

  pub cut-at : (ls : List (Leaf K)) (n : ℕ) → HasLeaf ls n → CutAt ls n
  cut-at [] n has = absurd (omega arith)
  cut-at (l ∷ ls) n has = elim (eqb_tells l.number n) [
    | inl same ↦ record { front = []; leaf = l; back = ls; cut = refl; number = same.1; apart = refl; entries = rw same.0 refl }
    | inr other ↦
        let rest = cut-at ls n (rw other.0 at has) in
        let none = rest.apart in record {
          front = l ∷ rest.front;
          leaf = rest.leaf;
          back = rest.back;
          cut = ap (λ (xs : List (Leaf K)). l ∷ xs) rest.cut;
          number = rest.number;
          apart = rw other.0 (omega arith);
          entries = rw other.0 rest.entries;
        }
  ]
