-- Places of neighbouring entries.
use Rattle.std.proofs.Common.{◌≡◌, ◌≢◌, ℕ, zero, suc, ◌+◌, ◌-◌, ◌<◌, true, List, [], ◌∷◌, ◌++◌, length, Some, None, slice_get, arith, ap, sym, subst, ◌∙◌, refl, length-append, append_assoc, inl, inr}
use Rattle.std.specs.{List.All, List.AllByRecursion, Cmp.IsTotalOrder, Ordering.is_ge}
use Rattle.std.specs.declared.cmp.Ordering.{Ordering, TheVariants.Greater}
use Rattle.std.proofs.lemmas.Bool.{cases_lt}
use Rattle.std.proofs.lemmas.List.{Elements.All-from_recursion}
use Rattle.leaf_list.specs.Leaves.{Leaf, entries_of, times, leaf_of, times_numbered, AreApart, AreSorted, AreOrdered}
use Rattle.leaf_list.specs.Place.{position, IsPlaceOf}
use Rattle.leaf_list.specs.Parts.{entries_in, HasLeaf, first_number, last_number, number_after, number_before}
use Rattle.leaf_list.proofs.Cutting.{CutAt, cut-at, entries-cut}
use Rattle.leaf_list.proofs.Placing.{entry-there, times-in, leaf_of-in, last-of, none-last, position-at, cut-of, cut-of-apart, some-entries, size-at, after-at, before-at, count-at}
use Rattle.leaf_list.proofs.Entering.{last-has, last-position, most-of}
use Rattle.leaf_list.proofs.Passing.{passes-before}

module _ {K : Type 0} where
  -- a name in its leaf
  pub name-there : (cmp : K → K → Ordering) (ls : List (Leaf K)) → AreOrdered cmp ls → AreApart ls → (i n : ℕ) → leaf_of ls i ≡ Some n → (0 < i) × (times i (entries_in ls n) ≡ 1)
  name-there cmp ls ordered apart i n is =
      let some = leaf_of-in ls n i is (apart.distinct n) in
      let part = times-in ls i n in
      let once = ordered.distinct i in (
        elim (cases_lt 0 i) [
          | inl above ↦ above
          | inr none ↦ absurd (let zero_of : i ≡ 0 = omega arith in let gone : times i (entries_of ls) ≡ 0 = ap (λ (j : ℕ). times j (entries_of ls)) zero_of ∙ ordered.positive in omega arith)
        ],
        omega arith,
      )

  -- the first leaf
  pub first-none : (ls : List (Leaf K)) → None ≡ first_number ls → IsPlaceOf ls None 0
  first-none [] is = record { place = tt; position_is = refl }
  first-none (l ∷ ls) is = absurd (cc)

  pub first-place : (ls : List (Leaf K)) (n : ℕ) → AreApart ls → Some n ≡ first_number ls → IsPlaceOf ls (Some (n, 0)) 0
  first-place [] n apart is = absurd (cc)
  first-place (l ∷ ls) n apart is =
      let own : n ≡ l.number = cc in
      let some = some-entries (l ∷ ls) [] l ls apart refl in
      let c = cut-of (l ∷ ls) [] l ls n refl (sym own) refl in
      let size = size-at (l ∷ ls) n c in
      let place = position-at (l ∷ ls) n 0 c in record { place = entry-there (l ∷ ls) n 0 (omega arith); position_is = place }

  -- one entry further
  pub position-next : (ls : List (Leaf K)) (n at : ℕ) → HasLeaf ls n → position ls (Some (n, at + 1)) ≡ position ls (Some (n, at)) + 1
  position-next ls n at has = let c = cut-at ls n has in let one = position-at ls n at c in let two = position-at ls n (at + 1) c in omega arith

  -- the last entry
  pub last-next : (ls : List (Leaf K)) (n : ℕ) → AreApart ls → Some n ≡ last_number ls → position ls (Some (n, length (entries_in ls n) - 1)) + 1 ≡ length (entries_of ls)
  last-next ls n apart is =
      let has = last-has ls n apart (sym is) in
      let place : length (entries_in ls n) - 1 + 1 ≡ length (entries_in ls n) = omega arith in
      sym (position-next ls n (length (entries_in ls n) - 1) has) ∙ ap (λ (i : ℕ). position ls (Some (n, i))) place ∙ last-position ls n apart (sym is)

  -- the first entry of the next leaf
  pub place-end : (ls : List (Leaf K)) (n at : ℕ) → HasLeaf ls n → at ≡ length (entries_in ls n) → None ≡ number_after ls n → IsPlaceOf ls None (position ls (Some (n, at)))
  place-end ls n at has is none = go c.back refl
    where
      c : CutAt ls n
      c = cut-at ls n has

      go : (back : List (Leaf K)) → c.back ≡ back → IsPlaceOf ls None (position ls (Some (n, at)))
      go [] nil =
          let all = count-at ls n c in
          let rest : length (entries_of c.back) ≡ 0 = ap (λ (xs : List (Leaf K)). length (entries_of xs)) nil in
          let size = size-at ls n c in record { place = tt; position_is = omega (arith, all, rest, size, is, position-at ls n at c) }
      go (k ∷ back) cons = absurd (let lost : Some k.number ≡ None = ap first_number (sym cons) ∙ sym (after-at ls n c) ∙ sym none in cc)

  pub place-next : (ls : List (Leaf K)) (n at m : ℕ) → AreApart ls → HasLeaf ls n → at ≡ length (entries_in ls n) → Some m ≡ number_after ls n → IsPlaceOf ls (Some (m, 0)) (position ls (Some (n, at)))
  place-next ls n at m apart has is next = go c.back refl
    where
      c : CutAt ls n
      c = cut-at ls n has

      go : (back : List (Leaf K)) → c.back ≡ back → IsPlaceOf ls (Some (m, 0)) (position ls (Some (n, at)))
      go [] nil = absurd (let lost : None ≡ Some m = ap first_number (sym nil) ∙ sym (after-at ls n c) ∙ sym next in cc)
      go (k ∷ back) cons =
          let own : Some k.number ≡ Some m = ap first_number (sym cons) ∙ sym (after-at ls n c) ∙ sym next in
          let named : k.number ≡ m = cc in
          let whole : ls ≡ (c.front ++ c.leaf ∷ []) ++ k ∷ back = c.cut ∙ ap (λ (xs : List (Leaf K)). c.front ++ c.leaf ∷ xs) cons ∙ sym (append_assoc c.front (c.leaf ∷ []) (k ∷ back)) in
          let d = cut-of ls (c.front ++ c.leaf ∷ []) k back m whole named (ap (λ (i : ℕ). times_numbered i (c.front ++ c.leaf ∷ [])) (sym named) ∙ cut-of-apart ls (c.front ++ c.leaf ∷ []) k back apart whole) in
          let some = some-entries ls (c.front ++ c.leaf ∷ []) k back apart whole in
          let there = size-at ls m d in
          let size = size-at ls n c in
          let one = position-at ls n at c in
          let two = position-at ls m 0 d in
          let before = ap length (entries-cut c.front c.leaf []) in
          record {
            place = entry-there ls m 0 (omega arith);
            position_is = omega (arith, length-append (entries_of c.front ++ c.leaf.entries) [], length-append (entries_of c.front) c.leaf.entries);
          }

  -- the last entry of the leaf before
  pub record IsBefore (ls : List (Leaf K)) (n m : ℕ) : Type 0 where
    pub has : HasLeaf ls m
    pub before : position ls (Some (m, length (entries_in ls m) - 1)) + 1 ≡ position ls (Some (n, 0))

  pub place-before : (ls : List (Leaf K)) (n m : ℕ) → AreApart ls → HasLeaf ls n → Some m ≡ number_before None ls n → IsBefore ls n m
  place-before ls n m apart has is =
      let c = cut-at ls n has in
      let last = last-of c.front m (sym (before-at ls n c) ∙ sym is) in
      let whole : ls ≡ last.front ++ last.leaf ∷ (c.leaf ∷ c.back) = c.cut ∙ ap (λ (xs : List (Leaf K)). xs ++ c.leaf ∷ c.back) last.cut ∙ append_assoc last.front (last.leaf ∷ []) (c.leaf ∷ c.back) in
      let met = cut-of-apart ls last.front last.leaf (c.leaf ∷ c.back) apart whole in
      let d = cut-of ls last.front last.leaf (c.leaf ∷ c.back) m whole last.number (ap (λ (i : ℕ). times_numbered i last.front) (sym last.number) ∙ met) in
      let some = some-entries ls last.front last.leaf (c.leaf ∷ c.back) apart whole in
      let size = size-at ls m d in
      let one = position-at ls n 0 c in
      let two = position-at ls m (length (entries_in ls m) - 1) d in
      let front = ap length (ap entries_of last.cut ∙ entries-cut last.front last.leaf []) in
      record {
        has = omega arith;
        before = omega (arith, length-append (entries_of last.front ++ last.leaf.entries) [], length-append (entries_of last.front) last.leaf.entries);
      }

  pub none-before : (ls : List (Leaf K)) (n : ℕ) → HasLeaf ls n → None ≡ number_before None ls n → position ls (Some (n, 0)) ≡ 0
  none-before ls n has is =
      let c = cut-at ls n has in
      let none = none-last c.front (sym (before-at ls n c) ∙ sym is) in
      let empty = ap (λ (xs : List (Leaf K)). length (entries_of xs)) none in
      let place = position-at ls n 0 c in omega arith

-- no key is greater than that of the last entry
pub last-most : {K : Type 0} (cmp : K → K → Ordering) (total : IsTotalOrder cmp) (k : K) (es : List (K × ℕ)) (p : ℕ) (e : K × ℕ) → AreSorted cmp es → slice_get es p ≡ Some e → p + 1 ≡ length es
    → is_ge (cmp k e.0) ≡ true → All (λ f. cmp f.0 k ≢ Greater) es
last-most {K} cmp total k es p e sorted is last pass =
    let cut = cut-last es p e is last in
    subst (λ (xs : List (K × ℕ)). All (λ f. cmp f.0 k ≢ Greater) xs) (sym cut.1)
    (All-from_recursion (λ f. cmp f.0 k ≢ Greater) (cut.0 ++ e ∷ [])
    (both cut.0 (passes-before cmp total true k cut.0 e [] (subst (AreSorted cmp) cut.1 sorted) pass)))
  where
    cut-last : (xs : List (K × ℕ)) (i : ℕ) (x : K × ℕ) → slice_get xs i ≡ Some x → i + 1 ≡ length xs → (front : List (K × ℕ)) × (xs ≡ front ++ x ∷ [])
    cut-last [] i x is size = absurd (omega arith)
    cut-last (y ∷ []) zero x is size = let own : y ≡ x = cc in ([], ap (λ (z : K × ℕ). z ∷ []) own)
    cut-last (y ∷ z ∷ xs) zero x is size = absurd (omega arith)
    cut-last (y ∷ xs) (suc i) x is size = let rest = cut-last xs i x is (omega arith) in (y ∷ rest.0, ap (λ (l : List (K × ℕ)). y ∷ l) rest.1)

    both : (front : List (K × ℕ)) → AllByRecursion (λ f. is_ge (cmp k f.0) ≡ true) front → AllByRecursion (λ f. cmp f.0 k ≢ Greater) (front ++ e ∷ [])
    both [] all = (most-of cmp total k e.0 pass, tt)
    both (f ∷ front) all = (most-of cmp total k f.0 all.0, both front all.1)
