-- Lists of leaves with one entry more.
use Rattle.std.proofs.Common.{◌≡◌, ◌≢◌, ℕ, zero, suc, ◌+◌, ◌*◌, ◌==◌, ◌<◌, ◌≤◌, Bool, true, false, nat_lt, if◌then◌else◌, List, [], ◌∷◌, ◌++◌, length, Some, None, arith, ap, sym, subst, ◌∙◌, refl, length-append, append_assoc, inl, inr}
use Rattle.std.specs.{List.All, List.AllByRecursion, List.insert, List.Sorted.IsPartitionPoint, Ordering.is_lt, Ordering.is_ge, Ordering.ordering_reverse, Cmp.IsTotalOrder}
use Rattle.std.specs.declared.cmp.Ordering.{Ordering, TheVariants.Less, TheVariants.Equal, TheVariants.Greater}
use Rattle.std.proofs.lemmas.Grind.{common_steps}
use Rattle.std.proofs.lemmas.Bool.{eq-eqb, Decides.eqb_tells}
use Rattle.std.proofs.lemmas.List.{Elements.All-from_recursion, Elements.recursion_from_All}
use Rattle.leaf_row.specs.Before.{is_passed}
use Rattle.leaf_list.specs.Leaves.{Leaf, entries_of, times, leaf_of, times_numbered, put_behind, IsFree, AreFilled, AreSorted, AreOrdered, AreApart}
use Rattle.leaf_list.specs.{Place.position, House.Houses}
use Rattle.leaf_list.specs.Parts.{entries_in, HasLeaf, with_entries, with_leaf, last_number}
use Rattle.leaf_list.proofs.Behind.{put-last}
use Rattle.leaf_list.proofs.Cutting.{times-append, entries-append, entries-cut, entries_in-cut, with_leaf-cut}
use Rattle.leaf_list.proofs.Placing.{leaf_of-there, last-of, position-cut, cut-of, cut-of-apart, some-entries, size-at}
use Rattle.leaf_list.proofs.Changing.{own-changed}

module _ {X : Type 0} where
  pub insert-end : (xs : List X) (x : X) → insert xs (length xs) x ≡ xs ++ x ∷ []
  insert-end [] x = refl
  insert-end (y ∷ xs) x = ap (λ (l : List X). y ∷ l) (insert-end xs x)

  pub insert-left : (xs ys : List X) (at : ℕ) (x : X) → at ≤ length xs → insert (xs ++ ys) at x ≡ insert xs at x ++ ys
  insert-left xs ys zero x within = refl
  insert-left [] ys (suc at) x within = absurd (omega arith)
  insert-left (y ∷ xs) ys (suc at) x within = ap (λ (l : List X). y ∷ l) (insert-left xs ys at x (omega arith))

  pub insert-right : (xs ys : List X) (at : ℕ) (x : X) → insert (xs ++ ys) (length xs + at) x ≡ xs ++ insert ys at x
  insert-right [] ys at x = let place : length {A = X} [] + at ≡ at = omega arith in ap (λ (n : ℕ). insert ys n x) place
  insert-right (y ∷ xs) ys at x =
      let place : length (y ∷ xs) + at ≡ suc (length xs + at) = omega arith in
      ap (λ (n : ℕ). insert (y ∷ xs ++ ys) n x) place ∙ ap (λ (l : List X). y ∷ l) (insert-right xs ys at x)

  pub length-insert : (xs : List X) (at : ℕ) (x : X) → at ≤ length xs → length (insert xs at x) ≡ length xs + 1
  length-insert xs zero x within = omega arith
  length-insert [] (suc at) x within = absurd (omega arith)
  length-insert (y ∷ xs) (suc at) x within = let rest = length-insert xs at x (omega arith) in omega arith

module _ {K : Type 0} where
  pub times-insert : (i : ℕ) (es : List (K × ℕ)) (at : ℕ) (x : K × ℕ) → at ≤ length es → times i (insert es at x) ≡ (if x.1 == i then 1 else 0) + times i es
  times-insert i es zero x within = refl
  times-insert i [] (suc at) x within = absurd (omega arith)
  times-insert i (e ∷ es) (suc at) x within = let rest = times-insert i es at x (omega arith) in omega (arith, rest)

  pub other-name : (x : K × ℕ) (i : ℕ) → i ≢ x.1 → ◌≡◌ {A = ℕ} (if x.1 == i then 1 else 0) 0
  other-name x i other = elim (eqb_tells x.1 i) [ inl same ↦ absurd (other (sym same.1)) | inr apart ↦ rw apart.0 refl ]

  pub own-name : (x : K × ℕ) → ◌≡◌ {A = ℕ} (if x.1 == x.1 then 1 else 0) 1
  own-name x = let test = eq-eqb x.1 x.1 refl in rw test refl

  -- a leaf that changes at a place
  pub leaf_of-changed : (front : List (Leaf K)) (l m : Leaf K) (back : List (Leaf K)) (i : ℕ) → m.number ≡ l.number → times i m.entries ≡ times i l.entries
      → leaf_of (front ++ m ∷ back) i ≡ leaf_of (front ++ l ∷ back) i
  leaf_of-changed [] l m back i same e = rw (e, same) refl
  leaf_of-changed (x ∷ front) l m back i same e = rw (leaf_of-changed front l m back i same e) refl

  pub leaf_of-kept : (ls : List (Leaf K)) (n i : ℕ) (es : List (K × ℕ)) → times i es ≡ times i (entries_in ls n) → leaf_of (with_entries ls n es) i ≡ leaf_of ls i
  leaf_of-kept [] n i es same = refl
  leaf_of-kept (l ∷ ls) n i es same = elim (eqb_tells l.number n) [
    | inl is ↦ let count = rw is.0 at same in rw (is.0, count) refl
    | inr other ↦ rw (other.0, leaf_of-kept ls n i es (rw other.0 at same)) refl
  ]

  -- the flat list of leaves with an entry more in one
  pub put-flat : (ls : List (Leaf K)) (n at : ℕ) (x : K × ℕ) → HasLeaf ls n → at ≤ length (entries_in ls n)
      → entries_of (with_entries ls n (insert (entries_in ls n) at x)) ≡ insert (entries_of ls) (position ls (Some (n, at))) x
  put-flat [] n at x has within = absurd (omega arith)
  put-flat (l ∷ ls) n at x has within = elim (eqb_tells l.number n) [
    | inl same ↦ rw same.0 (sym (insert-left l.entries (entries_of ls) at x (rw same.0 at within)))
    | inr other ↦ rw other.0
        (ap (λ (es : List (K × ℕ)). l.entries ++ es) (put-flat ls n at x (rw other.0 at has) (rw other.0 at within)) ∙ sym (insert-right l.entries (entries_of ls) (position ls (Some (n, at))) x))
  ]

  pub position-within : (ls : List (Leaf K)) (n at : ℕ) → at ≤ length (entries_in ls n) → position ls (Some (n, at)) ≤ length (entries_of ls)
  position-within [] n at within = omega arith
  position-within (l ∷ ls) n at within =
      let sum = length-append l.entries (entries_of ls) in
      elim (eqb_tells l.number n) [
        | inl same ↦ let few = rw same.0 at within in rw same.0 (omega arith)
        | inr other ↦ let rest = position-within ls n at (rw other.0 at within) in rw other.0 (omega arith)
      ]

  pub filled-grown : (ls : List (Leaf K)) (n : ℕ) (es : List (K × ℕ)) → length (entries_in ls n) ≤ length es → AreFilled ls → AreFilled (with_entries ls n es)
  filled-grown [] n es size filled = tt
  filled-grown (l ∷ []) n es size filled = elim (eqb_tells l.number n) [ inl same ↦ rw same.0 tt | inr other ↦ rw other.0 tt ]
  filled-grown (l ∷ m ∷ ls) n es size filled = elim (eqb_tells l.number n) [
    | inl same ↦ let long = rw same.0 at size in let least = filled.0 in rw same.0 (omega arith, filled.1)
    | inr other ↦ let rest = filled-grown (m ∷ ls) n es (rw other.0 at size) filled.1 in rw other.0 (longer rest)
  ]
    where
      longer : AreFilled (with_entries (m ∷ ls) n es) → AreFilled (l ∷ with_entries (m ∷ ls) n es)
      longer rest = elim (eqb_tells m.number n) [
        | inl is ↦ rw is.0 (filled.0, rw is.0 at rest)
        | inr is ↦ rw is.0 (filled.0, rw is.0 at rest)
      ]

  -- where a leaf is full, some leaf's room is left
  pub filled-count : (ls : List (Leaf K)) → AreFilled ls → AllByRecursion (λ l. 0 < length l.entries) ls → 16 * length ls ≤ length (entries_of ls) + 15
  filled-count [] filled some = omega arith
  filled-count (l ∷ []) filled some = let sum = length-append l.entries [] in omega (arith, some.0)
  filled-count (l ∷ m ∷ ls) filled some =
      let rest = filled-count (m ∷ ls) filled.1 some.1 in let sum = length-append l.entries (entries_of (m ∷ ls)) in omega (arith, filled.0)

  full-count-by : (ls : List (Leaf K)) (n : ℕ) → AreFilled ls → AllByRecursion (λ l. 0 < length l.entries) ls → length (entries_in ls n) ≡ 32 → 16 * length ls < length (entries_of ls)
  full-count-by [] n filled some full = absurd (omega arith)
  full-count-by (l ∷ []) n filled some full =
      let sum = length-append l.entries [] in
      elim (eqb_tells l.number n) [ inl same ↦ let size = rw same.0 at full in omega arith | inr other ↦ let size = rw other.0 at full in absurd (omega arith) ]
  full-count-by (l ∷ m ∷ ls) n filled some full =
      let sum = length-append l.entries (entries_of (m ∷ ls)) in
      let least = filled.0 in
      elim (eqb_tells l.number n) [
        | inl same ↦ let size = rw same.0 at full in let rest = filled-count (m ∷ ls) filled.1 some.1 in omega arith
        | inr other ↦ let rest = full-count-by (m ∷ ls) n filled.1 some.1 (rw other.0 at full) in omega arith
      ]

  pub full-count : (ls : List (Leaf K)) (n : ℕ) → AreFilled ls → AreApart ls → length (entries_in ls n) ≡ 32 → 16 * length ls < length (entries_of ls)
  full-count ls n filled apart full = full-count-by ls n filled (recursion_from_All (λ (l : Leaf K). 0 < length l.entries) ls apart.some) full

  -- behind the last entry of the last leaf
  pub last-has : (ls : List (Leaf K)) (n : ℕ) → AreApart ls → last_number ls ≡ Some n → HasLeaf ls n
  last-has ls n apart last =
      let l = last-of ls n last in
      let met = cut-of-apart ls l.front l.leaf [] apart l.cut in
      let c = cut-of ls l.front l.leaf [] n l.cut l.number (ap (λ (m : ℕ). times_numbered m l.front) (sym l.number) ∙ met) in
      let some = some-entries ls c.front c.leaf c.back apart c.cut in let size = size-at ls n c in omega arith

  pub last-position : (ls : List (Leaf K)) (n : ℕ) → AreApart ls → last_number ls ≡ Some n → position ls (Some (n, length (entries_in ls n))) ≡ length (entries_of ls)
  last-position ls n apart last =
      let l = last-of ls n last in
      let met = cut-of-apart ls l.front l.leaf [] apart l.cut in
      let read : entries_in ls n ≡ l.leaf.entries =
      ap (λ (xs : List (Leaf K)). entries_in xs n) l.cut ∙ ap (entries_in (l.front ++ l.leaf ∷ [])) (sym l.number) ∙ entries_in-cut l.leaf [] l.front met in
      let place : position ls (Some (n, length (entries_in ls n))) ≡ length (entries_of l.front) + length (entries_in ls n) =
      ap (λ (xs : List (Leaf K)). position xs (Some (n, length (entries_in ls n)))) l.cut
      ∙ ap (λ (m : ℕ). position (l.front ++ l.leaf ∷ []) (Some (m, length (entries_in ls n)))) (sym l.number) ∙ position-cut l.leaf [] l.front (length (entries_in ls n)) met in
      let size = ap length read in
      let all = ap length (ap entries_of l.cut ∙ entries-cut l.front l.leaf []) in
      omega (arith, length-append (entries_of l.front ++ l.leaf.entries) [], length-append (entries_of l.front) l.leaf.entries)

  -- the only leaf
  pub alone-is : (ls : List (Leaf K)) (l : Leaf K) → ls ≡ [] → ls ++ l ∷ [] ≡ l ∷ []
  alone-is ls l none = ap (λ (xs : List (Leaf K)). xs ++ l ∷ []) none

module _ {K : Type 0} (cmp : K → K → Ordering) (total : IsTotalOrder cmp) where
  not-less : (o : Ordering) → is_ge o ≡ true → is_lt o ≡ false
  not-less Less is = absurd (cc)
  not-less Equal is = refl
  not-less Greater is = refl

  less : (o : Ordering) → is_ge o ≡ false → is_lt o ≡ true
  less Less is = refl
  less Equal is = absurd (cc)
  less Greater is = absurd (cc)

  -- no entry greater than x before it
  pub at-most-of : (x e : K) → cmp e x ≢ Greater → is_ge (cmp x e) ≡ true
  at-most-of x e most = go (cmp e x) refl
    where
      go : (o : Ordering) → cmp e x ≡ o → is_ge (cmp x e) ≡ true
      go Less is = ap (λ (p : Ordering). is_ge p) (total.antisymm x e ∙ ap ordering_reverse is)
      go Equal is = ap (λ (p : Ordering). is_ge p) (total.antisymm x e ∙ ap ordering_reverse is)
      go Greater is = absurd (most is)

  pub most-of : (x e : K) → is_ge (cmp x e) ≡ true → cmp e x ≢ Greater
  most-of x e ge is =
      let less_of : cmp x e ≡ Less = total.antisymm x e ∙ ap ordering_reverse is in
      let wrong : is_ge Less ≡ true = sym (ap (λ (p : Ordering). is_ge p) less_of) ∙ ge in cc

  -- an entry behind all
  pub goes-last : (es : List (K × ℕ)) (x : K × ℕ) → All (λ e. cmp e.0 x.0 ≢ Greater) es → put_behind cmp x es ≡ es ++ x ∷ []
  goes-last es x most = put-last cmp x es (λ k d h. not-less _ (at-most-of x.0 _ (most k d h)))

  pub last-point : (es : List (K × ℕ)) (x : K × ℕ) → All (λ e. cmp e.0 x.0 ≢ Greater) es
      → IsPartitionPoint (λ e. is_passed true (cmp x.0 e.0) ≡ true) (λ e. is_passed true (cmp x.0 e.0) ≡ false) es (length es)
  last-point es x most = (λ k d a b. at-most-of x.0 _ (most k d b), λ k d a b. absurd (omega arith))

  -- an entry at the place of its key
  pub put-point : (x : K × ℕ) (es : List (K × ℕ)) (q : ℕ) → q ≤ length es
      → IsPartitionPoint (λ e. is_passed true (cmp x.0 e.0) ≡ true) (λ e. is_passed true (cmp x.0 e.0) ≡ false) es q → put_behind cmp x es ≡ insert es q x
  put-point x [] zero within point = refl
  put-point x [] (suc q) within point = absurd (omega arith)
  put-point x (e ∷ es) zero within point = rw (less (cmp x.0 e.0) (point.1 0 e (omega arith) (omega arith))) refl
  put-point x (e ∷ es) (suc q) within point =
      rw (not-less (cmp x.0 e.0) (point.0 0 e (omega arith) (omega arith)))
      (ap (λ (l : List (K × ℕ)). e ∷ l) (put-point x es q (omega arith) (λ k d a b. point.0 (suc k) d (omega arith) (omega arith), λ k d a b. point.1 (suc k) d (omega arith) (omega arith))))

  -- the order of the keys
  below : (d e x : K) → cmp x d ≡ Less → cmp d e ≢ Greater → cmp x e ≢ Greater
  below d e x less_of most = go (cmp d e) refl
    where
      go : (o : Ordering) → cmp d e ≡ o → cmp x e ≢ Greater
      go Less is = let l = total.trans x d e less_of is in λ g. absurd (cc)
      go Equal is =
          let same : cmp d x ≡ cmp e x = total.congr d e x is in
          let l : cmp x e ≡ Less = total.antisymm x e ∙ ap ordering_reverse (sym same) ∙ sym (total.antisymm x d) ∙ less_of in λ g. absurd (cc)
      go Greater is = absurd (most is)

  lt-less : (o : Ordering) → is_lt o ≡ true → o ≡ Less
  lt-less Less is = refl
  lt-less Equal is = absurd (cc)
  lt-less Greater is = absurd (cc)

  not-greater : (x e : K) → is_lt (cmp x e) ≡ false → cmp e x ≢ Greater
  not-greater x e fails is =
      let less_of : cmp x e ≡ Less = total.antisymm x e ∙ ap ordering_reverse is in
      let yes : is_lt Less ≡ false = sym (ap (λ (p : Ordering). is_lt p) less_of) ∙ fails in cc

  all-put : (P : K × ℕ → Type 0) (x : K × ℕ) (es : List (K × ℕ)) → P x → AllByRecursion P es → AllByRecursion P (put_behind cmp x es)
  all-put P x [] own all = (own, tt)
  all-put P x (e ∷ es) own all = go (is_lt (cmp x.0 e.0)) refl (all-put P x es own all.1)
    where
      go : (b : Bool) → is_lt (cmp x.0 e.0) ≡ b → AllByRecursion P (put_behind cmp x es) → AllByRecursion P (put_behind cmp x (e ∷ es))
      go true is rest = rw is (own, all)
      go false is rest = rw is (all.0, rest)

  all-below : (x e : K × ℕ) (es : List (K × ℕ)) → cmp x.0 e.0 ≡ Less → AllByRecursion (λ f. cmp e.0 f.0 ≢ Greater) es → AllByRecursion (λ f. cmp x.0 f.0 ≢ Greater) es
  all-below x e [] is all = tt
  all-below x e (f ∷ es) is all = (below e.0 f.0 x.0 is all.0, all-below x e es is all.1)

  pub sorted-put : (x : K × ℕ) (es : List (K × ℕ)) → AreSorted cmp es → AreSorted cmp (put_behind cmp x es)
  sorted-put x [] sorted = (λ k d h. absurd (omega arith), tt)
  sorted-put x (e ∷ es) sorted = go (is_lt (cmp x.0 e.0)) refl (sorted-put x es sorted.1)
    where
      go : (b : Bool) → is_lt (cmp x.0 e.0) ≡ b → AreSorted cmp (put_behind cmp x es) → AreSorted cmp (put_behind cmp x (e ∷ es))
      go true is rest =
          let less_of = lt-less _ is in
          rw is (All-from_recursion (λ f. cmp x.0 f.0 ≢ Greater) (e ∷ es) (λ g. absurd (cc), all-below x e es less_of (recursion_from_All (λ f. cmp e.0 f.0 ≢ Greater) es sorted.0)), sorted)
      go false is rest =
          rw is (
            All-from_recursion (λ f. cmp e.0 f.0 ≢ Greater) (put_behind cmp x es)
                (all-put (λ f. cmp e.0 f.0 ≢ Greater) x es (not-greater x.0 e.0 is) (recursion_from_All (λ f. cmp e.0 f.0 ≢ Greater) es sorted.0)),
            rest,
          )

  pub times-put : (i : ℕ) (x : K × ℕ) (es : List (K × ℕ)) → times i (put_behind cmp x es) ≡ (if x.1 == i then 1 else 0) + times i es
  times-put i x [] = refl
  times-put i x (e ∷ es) = go (is_lt (cmp x.0 e.0)) refl (times-put i x es)
    where
      go : (b : Bool) → is_lt (cmp x.0 e.0) ≡ b → times i (put_behind cmp x es) ≡ (if x.1 == i then 1 else 0) + times i es → times i (put_behind cmp x (e ∷ es)) ≡ (if x.1 == i then 1 else 0) + times i (e ∷ es)
      go true is rest = rw is refl
      go false is rest = rw is (omega (arith, rest))

  -- leaves with an entry more at the place of its key
  pub grown-ordered : (ls ms : List (Leaf K)) (x : K × ℕ) (room : ℕ) → AreOrdered cmp ls → IsFree (record { leaves = ls; room = room }) x.1
      → entries_of ms ≡ put_behind cmp x (entries_of ls) → AreFilled ms → AreOrdered cmp ms
  grown-ordered ls ms x room ordered free flat filled = record {
    sorted = subst (AreSorted cmp) (sym flat) (sorted-put x (entries_of ls) ordered.sorted);
    distinct = λ i. let count = ap (times i) flat ∙ times-put i x (entries_of ls) in elim (eqb_tells x.1 i) [
      | inl same ↦
          let none : times i (entries_of ls) ≡ 0 = ap (λ (m : ℕ). times m (entries_of ls)) (sym same.1) ∙ free.unused in omega (arith, rw same.0 at count)
      | inr other ↦ let once = ordered.distinct i in omega (arith, rw other.0 at count)
    ];
    positive = let count = ap (times 0) flat ∙ times-put 0 x (entries_of ls) in
        let none = ordered.positive in let other = other-name x 0 (let some = free.positive in λ same. absurd (omega arith)) in omega arith;
    filled = filled;
  }

  module _ (ls : List (Leaf K)) (ordered : AreOrdered cmp ls) (n at : ℕ) (x : K × ℕ) (has : HasLeaf ls n) (within : at ≤ length (entries_in ls n)) (room : ℕ)
      (free : IsFree (record { leaves = ls; room = room }) x.1)
      (point : IsPartitionPoint (λ e. is_passed true (cmp x.0 e.0) ≡ true) (λ e. is_passed true (cmp x.0 e.0) ≡ false) (entries_of ls) (position ls (Some (n, at)))) where
    abbrev pub grown : List (Leaf K)
    grown = with_entries ls n (insert (entries_in ls n) at x)

    pub put-entries : entries_of grown ≡ put_behind cmp x (entries_of ls)
    put-entries = put-flat ls n at x has within ∙ sym (put-point x (entries_of ls) (position ls (Some (n, at))) (position-within ls n at within) point)

    pub put-ordered : AreOrdered cmp grown
    put-ordered =
        let size = length-insert (entries_in ls n) at x within in
        grown-ordered ls grown x room ordered free put-entries (filled-grown ls n (insert (entries_in ls n) at x) (omega arith) ordered.filled)

    pub put-own : leaf_of grown x.1 ≡ Some n
    put-own =
        let once = put-ordered.distinct x.1 in
        let own = ap (times x.1) (own-changed ls n (insert (entries_in ls n) at x) has) in
        let count = times-insert x.1 (entries_in ls n) at x within in
        let one = own-name x in leaf_of-there grown n x.1 once (omega arith)

    pub put-others : (i : ℕ) → i ≢ x.1 → leaf_of grown i ≡ leaf_of ls i
    put-others i other =
        let count = times-insert i (entries_in ls n) at x within in
        let none = other-name x i other in leaf_of-kept ls n i (insert (entries_in ls n) at x) (omega arith)

    pub put-houses : Houses (record { leaves = ls; room = room }) (record { leaves = grown; room = room }) x.1 (Some n) None
    put-houses = record { own = put-own; others = λ i other unmoved. put-others i other; stretch = tt; room = refl }

  pub push-point : (ls : List (Leaf K)) (n : ℕ) (x : K × ℕ) → AreApart ls → last_number ls ≡ Some n → All (λ e. cmp e.0 x.0 ≢ Greater) (entries_of ls)
      → IsPartitionPoint (λ e. is_passed true (cmp x.0 e.0) ≡ true) (λ e. is_passed true (cmp x.0 e.0) ≡ false) (entries_of ls) (position ls (Some (n, length (entries_in ls n))))
  push-point ls n x apart last most = rw (last-position ls n apart last) (last-point (entries_of ls) x most)

  -- a new last leaf
  filled-added : (front : List (Leaf K)) (l m : Leaf K) → 16 ≤ length l.entries → AreFilled (front ++ l ∷ []) → AreFilled (front ++ l ∷ m ∷ [])
  filled-added [] l m many filled = (many, tt)
  filled-added (f ∷ []) l m many filled = (filled.0, filled-added [] l m many filled.1)
  filled-added (f ∷ g ∷ front) l m many filled = (filled.0, filled-added (g ∷ front) l m many filled.1)

  leaf_of-added : (ls : List (Leaf K)) (m : Leaf K) (i : ℕ) → times i m.entries ≡ 0 → leaf_of (ls ++ m ∷ []) i ≡ leaf_of ls i
  leaf_of-added [] m i none = rw none refl
  leaf_of-added (l ∷ ls) m i none = rw (leaf_of-added ls m i none) refl

  module _ (ls : List (Leaf K)) (ordered : AreOrdered cmp ls) (x : K × ℕ) (room : ℕ) (free : IsFree (record { leaves = ls; room = room }) x.1)
      (most : All (λ e. cmp e.0 x.0 ≢ Greater) (entries_of ls)) (new : ℕ) where
    abbrev pub added : List (Leaf K)
    added = ls ++ record { number = new; entries = x ∷ [] } ∷ []

    pub added-entries : entries_of added ≡ entries_of ls ++ x ∷ []
    added-entries = entries-append ls (record { number = new; entries = x ∷ [] } ∷ [])

    pub added-ordered : AreFilled added → AreOrdered cmp added
    added-ordered filled = grown-ordered ls added x room ordered free (added-entries ∙ sym (goes-last (entries_of ls) x most)) filled

    pub added-houses : Houses (record { leaves = ls; room = room }) (record { leaves = added; room = room }) x.1 (Some new) None
    added-houses = record {
      own = own_of ls free.unused;
      others = λ i other unmoved. let none = other-name x i other in leaf_of-added ls (record { number = new; entries = x ∷ [] }) i (omega arith);
      stretch = tt;
      room = refl;
    }
      where
        own_of : (ks : List (Leaf K)) → times x.1 (entries_of ks) ≡ 0 → leaf_of (ks ++ record { number = new; entries = x ∷ [] } ∷ []) x.1 ≡ Some new
        own_of [] unused = let one = own-name x in let some : nat_lt 0 (times x.1 (x ∷ [])) ≡ true = grind (arith, common_steps) in rw some refl
        own_of (k ∷ ks) unused =
            let sum = times-append x.1 k.entries (entries_of ks) in
            let none : times x.1 k.entries ≡ 0 = omega arith in rw none (own_of ks (omega arith))

    pub added-filled : AreApart ls → (n : ℕ) → last_number ls ≡ Some n → 16 ≤ length (entries_in ls n) → AreFilled added
    added-filled apart n last many =
        let l = last-of ls n last in
        let met = cut-of-apart ls l.front l.leaf [] apart l.cut in
        let read : entries_in ls n ≡ l.leaf.entries =
        ap (λ (xs : List (Leaf K)). entries_in xs n) l.cut ∙ ap (entries_in (l.front ++ l.leaf ∷ [])) (sym l.number) ∙ entries_in-cut l.leaf [] l.front met in
        let size = ap length read in
        let is : added ≡ l.front ++ l.leaf ∷ record { number = new; entries = x ∷ [] } ∷ [] =
        ap (λ (xs : List (Leaf K)). xs ++ record { number = new; entries = x ∷ [] } ∷ []) l.cut ∙ append_assoc l.front (l.leaf ∷ []) (record { number = new; entries = x ∷ [] } ∷ []) in
        subst AreFilled (sym is) (filled-added l.front l.leaf (record { number = new; entries = x ∷ [] }) (omega arith) (subst AreFilled l.cut ordered.filled))

    pub added-is : AreApart ls → (n : ℕ) → last_number ls ≡ Some n → with_leaf ls n (record { number = new; entries = x ∷ [] }) ≡ added
    added-is apart n last =
        let l = last-of ls n last in
        let met = cut-of-apart ls l.front l.leaf [] apart l.cut in
        ap (λ (xs : List (Leaf K)). with_leaf xs n (record { number = new; entries = x ∷ [] })) l.cut
        ∙ ap (λ (m : ℕ). with_leaf (l.front ++ l.leaf ∷ []) m (record { number = new; entries = x ∷ [] })) (sym l.number)
        ∙ with_leaf-cut l.leaf [] l.front (record { number = new; entries = x ∷ [] }) met
        ∙ sym (append_assoc l.front (l.leaf ∷ []) (record { number = new; entries = x ∷ [] } ∷ []))
        ∙ ap (λ (xs : List (Leaf K)). xs ++ record { number = new; entries = x ∷ [] } ∷ []) (sym l.cut)
