-- Entries in the order of what a closure answers for their keys: where a search by such a closure ends.
use Rattle.std.proofs.Common.{◌≡◌, ◌≢◌, ◌≤◌, ◌<◌, ℕ, length, get_or, IsSome, zero, suc, not, true, false, Bool, List, [], ◌∷◌, ◌++◌, append_assoc, Option, Some, None, IfSome, MatchOption, refl, sym, ap, subst, ◌∙◌, arith, inl, inr, ◌⊎◌, if◌then◌else◌}
use Rattle.std.proofs.lemmas.{List.Elements.All-from_recursion, List.Elements.recursion_from_All, List.Elements.All-contains}
use Rattle.std.specs.{Borrow.Bor, List.AllByRecursion, List.FoldsTo, List.Sorted.IsNonDecreasingBy, Option.option_map, Cmp.IsTotalOrder, Prelude.Contains}
use Rattle.std.specs.Ordering.{is_lt, is_le, is_ge, is_gt, is_eq, ordering_index, ordering_reverse}
use Rattle.std.specs.declared.cmp.Ordering.{Ordering, TheVariants.Less, TheVariants.Equal, TheVariants.Greater}
use denote.Param.Members.{Shared}
use Rattle.listing.specs.ClosureSearch.{Shown, StopsAfter, FindsSimilarWith, similar_of}
use Rattle.listing.specs.{Chain.Entry, Chain.IsDistinct, Chain.item_of, Gap.Gap, Gap.before, Gap.after, Gap.first_of, Gap.last_of}
use Rattle.listing.proofs.OrdLemmas.{recursion-map, ends}
use Rattle.sorted_arena.specs.{Compare.ComparesBy, Met.from_met, Met.Rises, Met.AnswersBy}
use Rattle.sorted_arena.specs.Sorted.{pointer_of, key_of, first_where, next_of, AreSorted}
use Rattle.sorted_arena.proofs.Cutting.{first_where-skip, first_where-none, first_where-first, next-here, found-here}
use Rattle.sorted_arena.proofs.Neighbours.{next-stands}

-- what doesn't fall along a list, entry by entry
pub rises : {T : Type 0} (n : Entry T → ℕ) (es : List (Entry T)) → IsNonDecreasingBy n es → Rises n es
rises n [] up = tt
rises n (e ∷ es) up = (
  recursion_from_All (λ f. n e ≤ n f) es (λ k d less. up zero (suc k) d (omega arith) (omega (arith, less))),
  rises n es (λ i j d le less. up (suc i) (suc j) d (omega (arith, le)) (omega (arith, less))),
)

-- what is true of each element is true of the last
last-holds : {X : Type 0} (P : X → Type 0) (other : Option X) (xs : List X) → IfSome other P → AllByRecursion P xs → IfSome (last_of other xs) P
last-holds P other [] is all = is
last-holds P other (x ∷ xs) is all = last-holds P (Some x) xs all.0 all.1

-- a list is cut at an element that it has
contained-cut : {X : Type 0} (xs : List X) (x : X) → Contains xs x → (front : List X) × (back : List X) × (xs ≡ front ++ x ∷ back)
contained-cut [] x has = absurd (omega (arith, has.1))
contained-cut {X} (y ∷ xs) x has = go has.0 has.1 has.2 (λ has. contained-cut xs x has)
  where
    go : (i : ℕ) → i < length (y ∷ xs) → get_or (y ∷ xs) i x ≡ x → (Contains xs x → (front : List X) × (back : List X) × (xs ≡ front ++ x ∷ back))
        → (front : List X) × (back : List X) × (y ∷ xs ≡ front ++ x ∷ back)
    go zero lt is others = ([], xs, ap (λ z. z ∷ xs) is)
    go (suc i) lt is others = let rest = others (i, omega (arith, lt), is) in (y ∷ rest.0, rest.1, ap (λ zs. y ∷ zs) rest.2)

-- an order that doesn't fall doesn't fall either where it is compared with a third key
module _ {K : Type 0} (cmp : K → K → Ordering) (total : IsTotalOrder cmp) where
  same-as : (a b k : K) → cmp b k ≡ Equal → cmp a k ≡ cmp a b
  same-as a b k same = total.antisymm a k ∙ ap ordering_reverse (sym (total.congr b k a same)) ∙ sym (total.antisymm a b)

  not_falls : (a b k : K) (o p : Ordering) → cmp a b ≡ o → cmp b k ≡ p → o ≢ Greater → ordering_index (cmp a k) ≤ ordering_index p
  not_falls a b k o Greater ab bk most = go (cmp a k)
    where
      go : (q : Ordering) → ordering_index q ≤ 2
      go Less = omega arith
      go Equal = omega arith
      go Greater = omega arith
  not_falls a b k o Equal ab bk most = rw (same-as a b k bk ∙ ab) (go o most)
    where
      go : (q : Ordering) → q ≢ Greater → ordering_index q ≤ 1
      go Less most = omega arith
      go Equal most = omega arith
      go Greater most = absurd (most refl)
  not_falls a b k Less Less ab bk most = rw (total.trans a b k ab bk) (omega arith)
  not_falls a b k Equal Less ab bk most = rw (total.congr a b k ab ∙ bk) (omega arith)
  not_falls a b k Greater Less ab bk most = absurd (most refl)

  -- in a sorted list
  pub rises-sorted : {V : Type 0} (k : K) (es : List (Entry (K × V))) → AreSorted cmp es → Rises (λ e. ordering_index (cmp (key_of e) k)) es
  rises-sorted k [] sorted = tt
  rises-sorted {V} k (e ∷ es) sorted = (
    recursion-map (λ f. cmp (key_of e) (key_of f) ≢ Greater) (λ f. ordering_index (cmp (key_of e) k) ≤ ordering_index (cmp (key_of f) k))
        (λ f most. not_falls (key_of e) (key_of f) k (cmp (key_of e) (key_of f)) (cmp (key_of f) k) refl refl most) es (recursion_from_All _ es sorted.0),
    rises-sorted k es sorted.1,
  )

-- a test that passes before it fails
module _ {K V : Type 0} (n : Entry (K × V) → ℕ) (test : Entry (K × V) → Bool) (falls : (e f : Entry (K × V)) → n e ≤ n f → test f ≡ true → test e ≡ true) where
  passes-before : (front back : List (Entry (K × V))) → Rises n (front ++ back) → IfSome (last_of None front) (λ e. test e ≡ true) → AllByRecursion (λ e. test e ≡ true) front
  passes-before [] back up last = tt
  passes-before (e ∷ []) back up last = (last, tt)
  passes-before (e ∷ f ∷ front) back up last = let rest = passes-before (f ∷ front) back up.1 last in (falls e f up.0.0 rest.0, rest)

  negated : (o : Option (Entry (K × V))) → IfSome o (λ e. test e ≡ false) → IfSome o (λ e. not (test e) ≡ true)
  negated None is = tt
  negated (Some e) is = ap not is

  pub first-failing : (es front back : List (Entry (K × V))) → es ≡ front ++ back → Rises n es → IfSome (last_of None front) (λ e. test e ≡ true) → IfSome (first_of back) (λ e. test e ≡ false)
      → first_where (λ e. not (test e)) es ≡ option_map pointer_of (first_of back)
  first-failing es front back cut up last first =
      ap (first_where (λ e. not (test e))) cut
      ∙ first_where-skip (λ e. not (test e)) front back (recursion-map (λ e. test e ≡ true) (λ e. not (test e) ≡ false) (λ e is. ap not is) front (passes-before front back (subst (Rises n) cut up) last))
      ∙ first_where-first (λ e. not (test e)) back (negated (first_of back) first)

  -- a search by a closure that answers `Greater` where the test passes, and else `Less`, and stays the same
  module _ {F : Type 0} (asks : F → Shown (K × V) → F → Type 0) (f : F) (told : (s : Shown (K × V)) (g : F) → asks f s g → (s.1 ≡ (if test s.0 then Greater else Less)) × (g ≡ f)) where
    abbrev Told : Shown (K × V) → Type 0
    Told s = s.1 ≡ (if test s.0 then Greater else Less)

    all-told : (shown : List (Shown (K × V))) (g : F) → FoldsTo asks f shown g → AllByRecursion Told shown
    all-told [] g calls = tt
    all-told (s ∷ shown) g calls = let one = told s calls.0 calls.1 in (one.0, all-told shown g (subst (λ (h : F). FoldsTo asks h shown g) one.1 calls.2))

    told-greater : (b : Bool) → Greater ≡ (if b then Greater else Less) → b ≡ true
    told-greater true is = refl
    told-greater false is = absurd (cc)

    told-less : (b : Bool) → Less ≡ (if b then Greater else Less) → b ≡ false
    told-less true is = absurd (cc)
    told-less false is = refl

    told-equal : (b : Bool) → Equal ≡ (if b then Greater else Less) → ⊥
    told-equal true is = absurd (cc)
    told-equal false is = absurd (cc)

    module _ (es : List (Entry (K × V))) (distinct : IsDistinct es) (up : Rises n es) where
      before-passes : (shown : List (Shown (K × V))) (o : Option (Entry (K × V))) → AllByRecursion Told shown → IfSome o (λ e. Contains shown (e, Greater)) → IfSome o (λ e. test e ≡ true)
      before-passes shown None all has = tt
      before-passes shown (Some e) all has = told-greater (test e) (All-contains Told shown (e, Greater) (All-from_recursion _ shown all) has)

      after-fails : (shown : List (Shown (K × V))) (o : Option (Entry (K × V))) → AllByRecursion Told shown → IfSome o (λ e. Contains shown (e, Less)) → IfSome o (λ e. test e ≡ false)
      after-fails shown None all has = tt
      after-fails shown (Some e) all has = told-less (test e) (All-contains Told shown (e, Less) (All-from_recursion _ shown all) has)

      met-first : (g : F) (found : Option ((ℕ × ℕ) × Ordering)) (c : ℕ) → FindsSimilarWith asks es f g found c → from_met es found ≡ first_where (λ e. not (test e)) es
      met-first g found c finds = by finds.0 refl
        where
          shown : List (Shown (K × V))
          shown = finds.1.shown

          all : AllByRecursion Told shown
          all = all-told shown g finds.1.calls

          by : (last : Option (Shown (K × V))) → finds.0 ≡ last → from_met es found ≡ first_where (λ e. not (test e)) es
          by None is =
              let none : found ≡ None = finds.2 ∙ ap similar_of is in
              let empty : es ≡ [] = subst (λ (o : Option ((ℕ × ℕ) × Ordering)). MatchOption o (es ≡ []) (λ a. Unit {0})) none finds.3 in
              ap (from_met es) none ∙ ap (first_where (λ e. not (test e))) (sym empty)
          by (Some s) is = elim finds.1.search.ends [
            | inl equal ↦ absurd (told-equal (test equal.0) (subst (λ (o : Option (Shown (K × V))). IfSome o Told) equal.1 (last-holds Told None shown tt all)))
            | inr stops ↦ at stops.0 stops.1
          ]
            where
              last_is : last_of None shown ≡ Some s
              last_is = sym finds.1.last_is ∙ is

              met : found ≡ Some (pointer_of s.0, s.1)
              met = finds.2 ∙ ap similar_of is

              answered : s.1 ≡ (if test s.0 then Greater else Less)
              answered = subst (λ (o : Option (Shown (K × V))). IfSome o Told) last_is (last-holds Told None shown tt all)

              at : (gap : Gap es) → StopsAfter gap shown → from_met es found ≡ first_where (λ e. not (test e)) es
              at gap stops = elim (subst (λ (o : Option (Shown (K × V))). IfSome o (λ s. (before gap ≡ Some s.0) ⊎ (after gap ≡ Some s.0))) last_is stops.last_beside) [
                | inl low ↦
                    let passes : test s.0 ≡ true = subst (λ (o : Option (Entry (K × V))). IfSome o (λ e. test e ≡ true)) low (before-passes shown (before gap) all stops.greater_before) in
                    let cut = ends gap.front s.0 low in
                    let whole : es ≡ cut.0 ++ s.0 ∷ gap.back = gap.cut ∙ ap (λ (xs : List (Entry (K × V))). xs ++ gap.back) cut.1 ∙ append_assoc cut.0 (s.0 ∷ []) gap.back in
                    let greater : s.1 ≡ Greater = answered ∙ rw passes refl in
                    ap (from_met es) met ∙ rw greater (next-here es distinct cut.0 s.0 gap.back whole) ∙ sym found_there
                | inr high ↦
                    let fails : test s.0 ≡ false = subst (λ (o : Option (Entry (K × V))). IfSome o (λ e. test e ≡ false)) high (after-fails shown (after gap) all stops.less_after) in
                    let less : s.1 ≡ Less = answered ∙ rw fails refl in
                    ap (from_met es) met ∙ rw less refl ∙ sym (ap (option_map pointer_of) high) ∙ sym found_there
              ]
                where
                  found_there : first_where (λ e. not (test e)) es ≡ option_map pointer_of (after gap)
                  found_there = first-failing es gap.front gap.back gap.cut up (before-passes shown (before gap) all stops.greater_before) (after-fails shown (after gap) all stops.less_after)

-- what orders tell of keys that are compared with one
pub lt-falls : (o p : Ordering) → ordering_index o ≤ ordering_index p → is_lt p ≡ true → is_lt o ≡ true
lt-falls Less p le is = refl
lt-falls Equal Less le is = absurd (omega (arith, le))
lt-falls Equal Equal le is = is
lt-falls Equal Greater le is = is
lt-falls Greater Less le is = absurd (omega (arith, le))
lt-falls Greater Equal le is = is
lt-falls Greater Greater le is = is

pub le-falls : (o p : Ordering) → ordering_index o ≤ ordering_index p → is_le p ≡ true → is_le o ≡ true
le-falls Less p le is = refl
le-falls Equal p le is = refl
le-falls Greater Less le is = absurd (omega (arith, le))
le-falls Greater Equal le is = absurd (omega (arith, le))
le-falls Greater Greater le is = is

pub not_lt : (o : Ordering) → not (is_lt o) ≡ is_ge o
not_lt Less = refl
not_lt Equal = refl
not_lt Greater = refl

pub not_le : (o : Ordering) → not (is_le o) ≡ is_gt o
not_le Less = refl
not_le Equal = refl
not_le Greater = refl

reverse-ge : (o : Ordering) → is_ge o ≡ is_le (ordering_reverse o)
reverse-ge Less = refl
reverse-ge Equal = refl
reverse-ge Greater = refl

reverse-gt : (o : Ordering) → is_gt o ≡ is_lt (ordering_reverse o)
reverse-gt Less = refl
reverse-gt Equal = refl
reverse-gt Greater = refl

reverse-eq : (o : Ordering) → is_eq o ≡ is_eq (ordering_reverse o)
reverse-eq Less = refl
reverse-eq Equal = refl
reverse-eq Greater = refl

module _ {T : Type 0} where
  -- two tests that agree find the same entry
  pub first_where-agree : (s t : Entry T → Bool) → ((e : Entry T) → s e ≡ t e) → (es : List (Entry T)) → first_where s es ≡ first_where t es
  first_where-agree s t agree [] = refl
  first_where-agree s t agree (e ∷ es) = rw (agree e) (ap (λ (o : Option (ℕ × ℕ)). if t e then Some (pointer_of e) else o) (first_where-agree s t agree es))

  Rises-back : (n : Entry T → ℕ) (front back : List (Entry T)) → Rises n (front ++ back) → Rises n back
  Rises-back n [] back up = up
  Rises-back n (e ∷ front) back up = Rises-back n front back up.1

-- a key in place of a closure
module _ {K V : Type 0} (cmp : K → K → Ordering) (total : IsTotalOrder cmp) (k : K) (es : List (Entry (K × V))) where
  pub ge-key : first_where (λ e. is_ge (cmp (key_of e) k)) es ≡ first_where (λ e. is_le (cmp k (key_of e))) es
  ge-key = first_where-agree _ _ (λ e. reverse-ge (cmp (key_of e) k) ∙ ap is_le (sym (total.antisymm k (key_of e)))) es

  pub gt-key : first_where (λ e. is_gt (cmp (key_of e) k)) es ≡ first_where (λ e. is_lt (cmp k (key_of e))) es
  gt-key = first_where-agree _ _ (λ e. reverse-gt (cmp (key_of e) k) ∙ ap is_lt (sym (total.antisymm k (key_of e)))) es

  pub eq-key : first_where (λ e. is_eq (cmp (key_of e) k)) es ≡ first_where (λ e. is_eq (cmp k (key_of e))) es
  eq-key = first_where-agree _ _ (λ e. reverse-eq (cmp (key_of e) k) ∙ ap is_eq (sym (total.antisymm k (key_of e)))) es

unequal : (o : Ordering) → is_ge o ≡ false → is_eq o ≡ false
unequal Less is = refl
unequal Equal is = absurd (cc)
unequal Greater is = absurd (cc)

later : (o p : Ordering) → is_ge o ≡ true → is_eq o ≡ false → ordering_index o ≤ ordering_index p → is_eq p ≡ false
later Less p ge eq le = absurd (cc)
later Equal p ge eq le = absurd (cc)
later Greater Less ge eq le = refl
later Greater Equal ge eq le = absurd (omega (arith, le))
later Greater Greater ge eq le = refl

-- the first equal entry is the first that isn't less, or there is none
module _ {K V : Type 0} (order : K → Ordering) where
  abbrev at_least : Entry (K × V) → Bool
  at_least e = is_ge (order (key_of e))

  abbrev equal : Entry (K × V) → Bool
  equal e = is_eq (order (key_of e))

  pub none-equal : (es : List (Entry (K × V))) → first_where at_least es ≡ None → first_where equal es ≡ None
  none-equal [] none = refl
  none-equal (e ∷ es) none = go (at_least e) refl (λ rest. none-equal es rest)
    where
      go : (b : Bool) → at_least e ≡ b → (first_where at_least es ≡ None → first_where equal es ≡ None) → first_where equal (e ∷ es) ≡ None
      go true is others = absurd (let some : first_where at_least (e ∷ es) ≡ Some (pointer_of e) = rw is refl in cc)
      go false is others =
          let rest : first_where at_least es ≡ None = sym (let same : first_where at_least (e ∷ es) ≡ first_where at_least es = rw is refl in same) ∙ none in
          let not_equal = unequal (order (key_of e)) is in
          rw not_equal (others rest)

  -- the entry at the first place, given its key
  pub record IsAt (es : List (Entry (K × V))) (p : ℕ × ℕ) : Type 0 where
    pub front : List (Entry (K × V))
    pub entry : Entry (K × V)
    pub back : List (Entry (K × V))
    pub cut : es ≡ front ++ entry ∷ back
    pub named : p ≡ pointer_of entry
    pub there : is_eq (order (key_of entry)) ≡ true → first_where equal es ≡ Some p
    pub absent : is_eq (order (key_of entry)) ≡ false → first_where equal es ≡ None

  pub is-at : (es : List (Entry (K × V))) (p : ℕ × ℕ) → Rises (λ e. ordering_index (order (key_of e))) es → first_where at_least es ≡ Some p → IsAt es p
  is-at [] p up found = absurd (cc)
  is-at (e ∷ es) p up found = go (at_least e) refl (λ rest. is-at es p up.1 rest)
    where
      go : (b : Bool) → at_least e ≡ b → (first_where at_least es ≡ Some p → IsAt es p) → IsAt (e ∷ es) p
      go true is others =
          let here : Some (pointer_of e) ≡ Some p = sym (let same : first_where at_least (e ∷ es) ≡ Some (pointer_of e) = rw is refl in same) ∙ found in
          record {
            front = [];
            entry = e;
            back = es;
            cut = refl;
            named = cc;
            there = λ eq. rw eq here;
            absent = λ no. rw no (first_where-none equal es (recursion-map (λ f. ordering_index (order (key_of e)) ≤ ordering_index (order (key_of f))) (λ f. equal f ≡ false)
                (λ f le. later (order (key_of e)) (order (key_of f)) is no le) es up.0));
          }
      go false is others =
          let rest = others (sym (let same : first_where at_least (e ∷ es) ≡ first_where at_least es = rw is refl in same) ∙ found) in
          let not_equal = unequal (order (key_of e)) is in
          record {
            front = e ∷ rest.front;
            entry = rest.entry;
            back = rest.back;
            cut = ap (λ (xs : List (Entry (K × V))). e ∷ xs) {y = rest.front ++ rest.entry ∷ rest.back} rest.cut;
            named = rest.named;
            there = λ eq. rw not_equal (rest.there eq);
            absent = λ no. rw not_equal (rest.absent no);
          }

-- what searches by a closure that compares by an order find
module _ {K V F : Type 0} (order : K → Ordering) (asks : F → Shown (K × V) → F → Type 0) (f : F) (es : List (Entry (K × V))) (distinct : IsDistinct es)
    (up : Rises (λ e. ordering_index (order (key_of e))) es) (g : F) (found : Option ((ℕ × ℕ) × Ordering)) (c : ℕ) (finds : FindsSimilarWith asks es f g found c) where
  pub met-from : ((s : Shown (K × V)) (g : F) → asks f s g → (s.1 ≡ (if is_lt (order (key_of s.0)) then Greater else Less)) × (g ≡ f))
      → from_met es found ≡ first_where (λ e. is_ge (order (key_of e))) es
  met-from told =
      met-first (λ e. ordering_index (order (key_of e))) (λ e. is_lt (order (key_of e))) (λ e f. lt-falls (order (key_of e)) (order (key_of f))) asks f told es distinct up g found c finds
      ∙ first_where-agree _ _ (λ e. not_lt (order (key_of e))) es

  pub met-behind : ((s : Shown (K × V)) (g : F) → asks f s g → (s.1 ≡ (if is_le (order (key_of s.0)) then Greater else Less)) × (g ≡ f))
      → from_met es found ≡ first_where (λ e. is_gt (order (key_of e))) es
  met-behind told =
      met-first (λ e. ordering_index (order (key_of e))) (λ e. is_le (order (key_of e))) (λ e f. le-falls (order (key_of e)) (order (key_of f))) asks f told es distinct up g found c finds
      ∙ first_where-agree _ _ (λ e. not_le (order (key_of e))) es

-- the answer of such a search, where the closure that it asks compares by an order
pub answer-told : {F K : Type 0} (m : Shared F (Bor K × Unit {0}) Ordering) (f : F) (order : K → Ordering) → ComparesBy m f order → (passes : Ordering → Bool) (k : K) (answer : Ordering)
    → AnswersBy m f k passes answer → answer ≡ (if passes (order k) then Greater else Less)
answer-told m f order compares passes k answer told =
    let one : told.order ≡ order told.shown.now = compares told.shown told.order told.says in
    let same : told.order ≡ order k = one ∙ ap order told.shows in
    told.answer_is ∙ ap (λ (o : Ordering). if passes o then Greater else Less) same

-- what a search by a closure finds is an entry
pub met-named : {K V F : Type 0} (cmp : K → K → Ordering) (asks : F → Shown (K × V) → F → Type 0) (f g : F) (es : List (Entry (K × V))) (distinct : IsDistinct es) (sorted : AreSorted cmp es)
    (found : Option ((ℕ × ℕ) × Ordering)) (c : ℕ) → FindsSimilarWith asks es f g found c → (p : ℕ × ℕ) → Some p ≡ from_met es found → IsSome (item_of es p)
met-named {K} {V} cmp asks f g es distinct sorted found c finds p is = by finds.0 refl
  where
    by : (last : Option (Shown (K × V))) → finds.0 ≡ last → IsSome (item_of es p)
    by None none = absurd (let lost : Some p ≡ None = is ∙ ap (from_met es) (finds.2 ∙ ap similar_of none) in cc)
    by (Some s) some = at (is_lt s.1) refl
      where
        has : Contains es s.0
        has = subst (λ (o : Option (Shown (K × V))). IfSome o (λ t. Contains es t.0)) (sym finds.1.last_is ∙ some)
            (last-holds (λ t. Contains es t.0) None finds.1.shown tt (recursion_from_All (λ t. Contains es t.0) finds.1.shown finds.1.search.within))

        at : (b : Bool) → is_lt s.1 ≡ b → IsSome (item_of es p)
        at true less =
            let cut = contained-cut es s.0 has in
            let here : Some p ≡ Some (pointer_of s.0) = is ∙ ap (from_met es) (finds.2 ∙ ap similar_of some) ∙ rw less refl in
            let same : p ≡ pointer_of s.0 = cc in
            rw (same, found-here es distinct cut.0 s.0 cut.1 cut.2) refl
        at false more =
            let next : next_of es (pointer_of s.0) ≡ Some p = sym (is ∙ ap (from_met es) (finds.2 ∙ ap similar_of some) ∙ rw more refl) in
            (next-stands cmp es distinct sorted (pointer_of s.0) p next).named

-- what the searches by a closure promise where it compares as a key does
module _ {K V : Type 0} (cmp : K → K → Ordering) (total : IsTotalOrder cmp) (es : List (Entry (K × V))) (sorted : AreSorted cmp es) (k : K) where
  pub rises-key : Rises (λ e. ordering_index (cmp (key_of e) k)) es
  rises-key = rises-sorted cmp total k es sorted

-- what is true of what an option has, by the pointer that it is
pub if_some : {P : Type 0} (numbers : P → ℕ × ℕ) (Q : ℕ × ℕ → Type 0) (o : Option P) (found : Option (ℕ × ℕ)) → option_map numbers o ≡ found
    → ((p : ℕ × ℕ) → Some p ≡ found → Q p) → IfSome o (λ p. Q (numbers p))
if_some numbers Q None found is holds = tt
if_some numbers Q (Some p) found is holds = holds (numbers p) is

-- the first equal entry, by the key of the first that isn't less
pub found-by : {K V : Type 0} (order : K → Ordering) (es : List (Entry (K × V))) → IsDistinct es → Rises (λ e. ordering_index (order (key_of e))) es → (p : ℕ × ℕ)
    → Some p ≡ first_where (λ e. is_ge (order (key_of e))) es → (k : K) → Some k ≡ option_map (λ x. x.0) (item_of es p) → (b : Bool) → is_eq (order k) ≡ b
    → (if b then Some p else None) ≡ first_where (λ e. is_eq (order (key_of e))) es
found-by order es distinct up p found k key b is = go b is
  where
    at : IsAt order es p
    at = is-at order es p up (sym found)

    here : k ≡ key_of at.entry
    here = let both : Some k ≡ Some (key_of at.entry) = key ∙ ap (λ q. option_map (λ x. x.0) (item_of es q)) at.named ∙ ap (option_map (λ x. x.0)) (found-here es distinct at.front at.entry at.back at.cut) in cc

    go : (b : Bool) → is_eq (order k) ≡ b → (if b then Some p else None) ≡ first_where (λ e. is_eq (order (key_of e))) es
    go true is = sym (at.there (rw here at is))
    go false is = sym (at.absent (rw here at is))
