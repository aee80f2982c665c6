-- The order of keys, lists in that order, and lists in the order of a closure's answers: how searches and insertions by key treat them.
use Rattle.ord_tree.specs.Half.{IsHalf, half_rank}
use Rattle.triple_ord.proofs.Words.{◌≡◌, ◌≢◌, refl, Ordering, Less, Equal, Greater, taken, Ties, Sought, Passed, ◌↔◌, true, false, ◌<◌, ◌≤◌, List, [], ◌∷◌, ◌++◌, IfSome, None, length, sym, ap, subst, ◌∙◌, arith, inl, inr, length-append}
use Rattle.triple_ord.proofs.Words.{order_to, Fits, IsInOrder, ℕ, Some, ◌/◌, ◌-◌, cases_order, Contains, All-from_recursion, All-contains, AllByRecursion, IsTotalOrder, alike_right, ordering_reverse, is_gt, Entry, Gap, first_of, last_of}
use Rattle.triple_ord.proofs.Words.{recursion_from_All, All-append, All-weaker, IfSome_then, FoldsTo, option_map, common_steps, before, Contains-append_cases, Contains-append_right, IsTop, Shape, missing, node, size_of, IsFirstEqual}
use Rattle.triple_ord.proofs.Words.{IsAbsent, AbsentKeyLaw, IsPlaceOf, BesidePlaceLaw, ranks_of, SameRanksLaw, Option, append_assoc, after, pointer, Shown, where_equal, FindsWith, AreAnsweredInOrder, AnsweredInOrderLaw}
use Rattle.triple_ord.proofs.Inserting.{begins}

module _ {K : Type 0} (cmp : K → K → Ordering) (k other : K) where
  pub taken-less : (ties : Ties) → taken ties cmp k other ≡ Less → cmp k other ≡ Less
  taken-less ties less = grind (arith, common_steps)

  pub taken-greater : (ties : Ties) → taken ties cmp k other ≡ Greater → cmp k other ≢ Less
  taken-greater ties greater less = grind (arith, common_steps)

  pub passed-unequal : taken Passed cmp k other ≢ Equal
  passed-unequal equal = grind (arith, common_steps)

  pub taken-equal : (ties : Ties) → taken ties cmp k other ≡ Equal → cmp k other ≡ Equal
  taken-equal Sought equal = equal
  taken-equal Passed equal = absurd (passed-unequal equal)

-- the element at a position in the front or in the back of a list cut in two
module _ {X : Type 0} (P : X → Type 0) where
  in_front : (low high front back : List X) (x : X) → low ++ high ≡ front ++ x ∷ back → AllByRecursion P low → length front < length low
      → P x
  in_front [] high front back x cut all within = absurd (omega arith)
  in_front (y ∷ low) high [] back x cut all within = let same : y ≡ x = cc in subst P same all.0
  in_front (y ∷ low) high (z ∷ front) back x cut all within = in_front low high front back x (cc) all.1 (omega (arith, within))

  in_back : (low high front back : List X) (x : X) → low ++ high ≡ front ++ x ∷ back → AllByRecursion P high → length low ≤ length front
      → P x
  in_back [] (y ∷ high) [] back x cut all within = let same : y ≡ x = cc in subst P same all.0
  in_back [] (y ∷ high) (z ∷ front) back x cut all within = in_back [] high front back x (cc) all.1 (omega arith)
  in_back (y ∷ low) high (z ∷ front) back x cut all within = in_back low high front back x (cc) all (omega (arith, within))
  in_back [] [] (z ∷ front) back x cut all within = absurd (cc)
  in_back low high [] back x cut all within = absurd (grind (arith, common_steps))

-- in a total order, what isn't greater than something smaller is smaller, and what isn't less than something greater is greater
module _ {K : Type 0} (cmp : K → K → Ordering) (total : IsTotalOrder cmp) where
  lesser_than : (a b k : K) (o : Ordering) → cmp a b ≡ o → o ≢ Greater → cmp b k ≡ Less → cmp a k ≡ Less
  lesser_than a b k o is most less = grind (arith, common_steps, total.trans a b k, total.congr a b k)

  lesser_before : (k a b : K) → cmp a b ≢ Greater → cmp k b ≡ Greater → cmp k a ≡ Greater
  lesser_before k a b most more = total.antisymm k a ∙ ap ordering_reverse (lesser_than a b k _ refl most (total.antisymm b k ∙ ap ordering_reverse more))

  greater_after : (k a b : K) (o : Ordering) → cmp a b ≡ o → o ≢ Greater → cmp k a ≡ Less → cmp k b ≡ Less
  greater_after k a b o is not_greater less = grind (arith, common_steps, total.trans k a b, alike_right total a b k)

module _ {T K : Type 0} (key : T → K) (cmp : K → K → Ordering) where
  pub IsInOrder-rest : (e : Entry T) (es : List (Entry T)) → IsInOrder key cmp (e ∷ es) → IsInOrder key cmp es
  IsInOrder-rest e es order front back f g cut = order (e ∷ front) back f g (ap (λ xs. e ∷ xs) cut)

  -- a list of one entry is in order; a longer one is if its first two are and the list from the second on is
  pub in_order-one : (e : Entry T) → IsInOrder key cmp (e ∷ [])
  in_order-one e front back f g cut = absurd (omega (arith, ap length cut, length-append front (f ∷ g ∷ back)))

  pub in_order-more : (e f : Entry T) (es : List (Entry T)) → cmp (key e.item) (key f.item) ≢ Greater → IsInOrder key cmp (f ∷ es) → IsInOrder key cmp (e ∷ f ∷ es)
  in_order-more e f es two rest [] back x y cut = grind (arith, common_steps, two)
  in_order-more e f es two rest (z ∷ front) back x y cut = rest front back x y (cc)

  -- the key of the first is greater than that of the second, or isn't
  module _ (e f : Entry T) (es : List (Entry T)) (o : Ordering) (is : o ≡ cmp (key e.item) (key f.item)) where
    pub in_order-step : is_gt o ≡ false → IsInOrder key cmp (e ∷ f ∷ es) ↔ IsInOrder key cmp (f ∷ es)
    in_order-step less = (IsInOrder-rest e (f ∷ es), in_order-more e f es (λ greater. let both = rw (is ∙ greater) at less in cc))

    pub in_order-not : is_gt o ≡ true → IsInOrder key cmp (e ∷ f ∷ es) → ⊥
    in_order-not more order = order [] es e f refl (grind (arith, common_steps, is, more))

  pub IsInOrder-back : (front back : List (Entry T)) → IsInOrder key cmp (front ++ back) → IsInOrder key cmp back
  IsInOrder-back front back order low high f g cut = order (front ++ low) high f g (ap (λ xs. front ++ xs) cut ∙ simp append_assoc)

  module _ (total : IsTotalOrder cmp) (k : K) where
    abbrev IsAnswered : Ordering → Entry T → Type 0
    IsAnswered o e = order_to key cmp k e ≡ o

    pub all_greater : (front back : List (Entry T)) → IsInOrder key cmp (front ++ back) → IfSome (last_of None front) (λ e. IsAnswered Greater e)
        → AllByRecursion (λ e. IsAnswered Greater e) front
    all_greater [] back order last = tt
    all_greater (e ∷ []) back order last = (last, tt)
    all_greater (e ∷ (f ∷ front)) back order last =
        let rest = all_greater (f ∷ front) back (IsInOrder-rest e (f ∷ front ++ back) order) last in
        (lesser_before cmp total k (key e.item) (key f.item) (order [] (front ++ back) e f refl) rest.0, rest)

    pub all_less : (back : List (Entry T)) → IsInOrder key cmp back → IfSome (first_of back) (λ e. order_to key cmp k e ≡ Less) → AllByRecursion (λ e. order_to key cmp k e ≡ Less) back
    all_less [] order first = tt
    all_less (e ∷ []) order first = (first, tt)
    all_less (e ∷ (f ∷ back)) order first =
        let next = greater_after cmp total k (key e.item) (key f.item) _ refl (order [] back e f refl) first in
        (first, all_less (f ∷ back) (IsInOrder-rest e (f ∷ back) order) next)

  -- a gap that fits k is the place of k
  module _ (total : IsTotalOrder cmp) (k : K) (es : List (Entry T)) (sorted : IsInOrder key cmp es) (gap : Gap es)
      (fits : Fits key cmp gap k) where
    ordered : IsInOrder key cmp (gap.front ++ gap.back)
    ordered = rw gap.cut at sorted

    front_greater : AllByRecursion (λ e. order_to key cmp k e ≡ Greater) gap.front
    front_greater = all_greater total k gap.front gap.back ordered fits.lesser_before

    back_less : AllByRecursion (λ e. order_to key cmp k e ≡ Less) gap.back
    back_less = all_less total k gap.back (IsInOrder-back gap.front gap.back ordered) fits.greater_after

    place-fits : IsPlaceOf key cmp gap k
    place-fits = record { lesser = All-from_recursion _ gap.front front_greater; greater = All-from_recursion _ gap.back back_less }

    absent-fits : IsAbsent key cmp es k
    absent-fits e has equal = elim (Contains-append_cases gap.front gap.back e (subst (λ es. Contains es e) gap.cut has)) [
      | inl low ↦ let more = All-contains (λ e. order_to key cmp k e ≡ Greater) gap.front e place-fits.lesser low in cc
      | inr high ↦ let less = All-contains (λ e. order_to key cmp k e ≡ Less) gap.back e place-fits.greater high in cc
    ]

    -- an entry to which k isn't `Less` is before the gap, and one to which k isn't `Greater` is after it
    module _ (front back : List (Entry T)) (e : Entry T) (cut : es ≡ front ++ e ∷ back) where
      pub stands-before : order_to key cmp k e ≢ Less → length front < length gap.front
      stands-before more = grind (arith, more, in_back (λ x. order_to key cmp k x ≡ Less) gap.front gap.back front back e (sym gap.cut ∙ cut) back_less)

      pub stands-behind : order_to key cmp k e ≢ Greater → length gap.front ≤ length front
      stands-behind less = grind (arith, less, in_front (λ x. order_to key cmp k x ≡ Greater) gap.front gap.back front back e (sym gap.cut ∙ cut) front_greater)

  -- an entry found by a search exists
  not_absent : (k : K) (es : List (Entry T)) (e : Entry T) → IsFirstEqual key cmp es k e → IsAbsent key cmp es k → ⊥
  not_absent k es e met absent =
      let back = begins met.gap.back e met.here in
      let has = Contains-append_right met.gap.front (e ∷ back.0) e (0, omega arith, refl) in
      absent e (subst (λ es. Contains es e) (sym (met.gap.cut ∙ ap (λ ys. met.gap.front ++ ys) back.1)) has) met.equal

pub recursion-map : {X : Type 0} (P Q : X → Type 0) → ((x : X) → P x → Q x) → (xs : List X) → AllByRecursion P xs → AllByRecursion Q xs
recursion-map P Q follows [] all = tt
recursion-map P Q follows (x ∷ xs) all = (follows x all.0, recursion-map P Q follows xs all.1)

pub absent_key : {T K : Type 0} (key : T → K) (cmp : K → K → Ordering) → IsTotalOrder cmp → AbsentKeyLaw key cmp
absent_key key cmp total entries k None c sorted finds = (λ none. absent-fits key cmp total k entries sorted finds.0 finds.1.fits, λ absent. refl)
absent_key key cmp total entries k (Some p) c sorted finds = (λ none. absurd (cc), λ absent. absurd (not_absent key cmp k entries finds.0 finds.2 absent))

pub beside_place : {T K : Type 0} (key : T → K) (cmp : K → K → Ordering) → IsTotalOrder cmp → BesidePlaceLaw key cmp
beside_place key cmp total entries k p order c sorted absent finds = (
  finds.0,
  ap (λ a. a.0) finds.1,
  elim finds.2 [
    | inl met ↦ absurd (not_absent key cmp k entries finds.0 met.0 absent)
    | inr stops ↦ (stops.0, place-fits key cmp total k entries sorted stops.0 stops.1.fits, stops.2)
  ],
)

-- halves of equal size have the same ranks
same_half : (s t : Shape) (q : ℕ) → IsHalf q s → IsHalf q t → size_of s ≡ size_of t → ranks_of s ≡ ranks_of t
same_half missing missing q a b same = refl
same_half (node l i k r) (node l' i' k' r') q a b same =
    let lesser : size_of l ≡ size_of l' = a.0 ∙ ap (λ n. n / 2) same ∙ sym b.0 in
    let greater : size_of r ≡ size_of r' = omega (arith, same, lesser) in
    rw (same_half l l' (q - 1) a.2 b.2 lesser, same_half r r' (q - 1) a.3 b.3 greater, a.1 ∙ ap (λ n. half_rank n q) same ∙ sym b.1) refl
same_half s t q a b same = absurd (omega (arith, same))

-- the top rank is unique
same_top : (n m p q : ℕ) → n ≡ m → IsTop n p → IsTop m q → p ≡ q
same_top n m p q same a b = elim (cases_order a.0 b.0) [
  | inl one ↦ omega (arith, a.1, b.1, one)
  | inr other ↦ absurd (elim other [ inl less ↦ b.2.1 a.0 less (rw (← same) a.2.0) | inr more ↦ a.2.1 b.0 more (rw same b.2.0) ])
]

pub same_ranks : SameRanksLaw
same_ranks s t a b same = same_half s t b.0 (subst (λ q. IsHalf q s) (same_top (size_of s) (size_of t) a.0 b.0 same a.1 b.1) a.2) b.2 same

-- what holds for each element holds for the last
last_holds : {X : Type 0} (P : X → Type 0) (other : Option X) (xs : List X) → IfSome other P → AllByRecursion P xs → IfSome (last_of other xs) P
last_holds P other [] is all = is
last_holds P other (x ∷ xs) is all = last_holds P (Some x) xs all.0 all.1

-- a list whose first part satisfies P and whose second satisfies Q: all before an element with P satisfy P, all after one with Q satisfy
-- Q
module _ {X : Type 0} (P Q : X → Type 0) (apart : (x : X) → P x → Q x → ⊥) where
  all_before : (low high front back : List X) → low ++ high ≡ front ++ back → AllByRecursion P low → AllByRecursion Q high
      → IfSome (last_of None front) P → AllByRecursion P front
  all_before low high [] back cut lows highs last = tt
  all_before (y ∷ low) high (x ∷ []) back cut lows highs last = (last, tt)
  all_before (y ∷ low) high (x ∷ (z ∷ front)) back cut lows highs last =
      let same : y ≡ x = cc in (subst P same lows.0, all_before low high (z ∷ front) back (cc) lows.1 highs last)
  all_before [] (y ∷ high) (x ∷ []) back cut lows highs last = let same : y ≡ x = cc in absurd (apart x last (subst Q same highs.0))
  all_before [] (y ∷ (w ∷ high)) (x ∷ (z ∷ front)) back cut lows highs last =
      let same : w ≡ z = cc in
      absurd (apart z (all_before [] (w ∷ high) (z ∷ front) back (cc) lows highs.1 last).0 (subst Q same highs.1.0))
  all_before [] high front back cut lows highs last = absurd (cc)

  all_behind : (low high front back : List X) → low ++ high ≡ front ++ back → AllByRecursion Q low → AllByRecursion P high
      → IfSome (first_of back) P → AllByRecursion P back
  all_behind low high front [] cut lows highs first = tt
  all_behind [] high [] back cut lows highs first = subst (AllByRecursion P) cut highs
  all_behind [] [] (z ∷ front) back cut lows highs first = absurd (cc)
  all_behind [] (y ∷ high) (z ∷ front) back cut lows highs first = all_behind [] high front back (cc) lows highs.1 first
  all_behind (y ∷ low) high [] (x ∷ back) cut lows highs first = let same : y ≡ x = cc in absurd (apart x first (subst Q same lows.0))
  all_behind (y ∷ low) high (z ∷ front) back cut lows highs first = all_behind low high front back (cc) lows.1 highs first

-- a gap between an entry answered `Greater` and one answered `Less`
module _ {T : Type 0} (answer : Entry T → Ordering) (entries : List (Entry T)) (ordered : AreAnsweredInOrder answer entries) (gap : Gap entries)
    (low : IfSome (before gap) (λ e. answer e ≡ Greater)) (high : IfSome (after gap) (λ e. answer e ≡ Less)) where
  more : AllByRecursion (λ e. answer e ≡ Greater) gap.front
  more = all_before (λ e. answer e ≡ Greater) (λ e. answer e ≢ Greater) (λ e is other. other is) ordered.front (ordered.middle ++ ordered.back) gap.front gap.back
      (sym ordered.cut ∙ gap.cut) (recursion_from_All _ _ ordered.greater) (recursion_from_All _ _ (All-append (λ e. answer e ≢ Greater) ordered.middle ordered.back
      (All-weaker (λ e. answer e ≡ Equal) (λ e. answer e ≢ Greater) (λ e one other. absurd (cc)) ordered.middle ordered.equal)
      (All-weaker (λ e. answer e ≡ Less) (λ e. answer e ≢ Greater) (λ e one other. absurd (cc)) ordered.back ordered.less))) low

  less : AllByRecursion (λ e. answer e ≡ Less) gap.back
  less = all_behind (λ e. answer e ≡ Less) (λ e. answer e ≢ Less) (λ e is other. other is) (ordered.front ++ ordered.middle) ordered.back gap.front gap.back
      (append_assoc ordered.front ordered.middle ordered.back ∙ sym ordered.cut ∙ gap.cut) (recursion_from_All _ _ (All-append (λ e. answer e ≢ Less) ordered.front ordered.middle
      (All-weaker (λ e. answer e ≡ Greater) (λ e. answer e ≢ Less) (λ e one other. absurd (cc)) ordered.front ordered.greater)
      (All-weaker (λ e. answer e ≡ Equal) (λ e. answer e ≢ Less) (λ e one other. absurd (cc)) ordered.middle ordered.equal))) (recursion_from_All _ _ ordered.less) high

  none_equal : (e : Entry T) → Contains entries e → answer e ≢ Equal
  none_equal e has equal = elim (Contains-append_cases gap.front gap.back e (subst (λ es. Contains es e) gap.cut has)) [
    | inl there ↦ let is = All-contains (λ e. answer e ≡ Greater) gap.front e (All-from_recursion _ gap.front more) there in cc
    | inr there ↦ let is = All-contains (λ e. answer e ≡ Less) gap.back e (All-from_recursion _ gap.back less) there in cc
  ]

-- nothing was found if the last answer isn't `Equal`
not_found : {T : Type 0} (s : Shown T) → s.1 ≢ Equal → option_map pointer (where_equal (Some s)) ≡ None
not_found s other = grind (arith, common_steps)

module _ {T F : Type 0} (asks : F → Shown T → F → Type 0) (answer : Entry T → Ordering) (fixed : (before after : F) (s : Shown T) → asks before s after → s.1 ≡ answer s.0) where
  -- each answer is the answer of its entry
  told : (f g : F) (shown : List (Shown T)) → FoldsTo asks f shown g → AllByRecursion (λ s. s.1 ≡ answer s.0) shown
  told f g [] folds = tt
  told f g (s ∷ shown) folds = (fixed f folds.0 s folds.1, told folds.0 g shown folds.2)

  module _ (entries : List (Entry T)) (ordered : AreAnsweredInOrder answer entries) (f g : F) (found : Option (ℕ × ℕ)) (c : ℕ) (finds : FindsWith asks entries f g found c) where
    abbrev shown : List (Shown T)
    shown = finds.1.shown

    answers : AllByRecursion (λ s. s.1 ≡ answer s.0) shown
    answers = told f g shown finds.1.calls

    answered : (s : Shown T) → Contains shown s → answer s.0 ≡ s.1
    answered s has = sym (All-contains (λ s. s.1 ≡ answer s.0) shown s (All-from_recursion _ shown answers) has)

    found_by : (last : Option (Shown T)) → last_of None shown ≡ last → found ≡ option_map pointer (where_equal last)
    found_by last is = finds.2 ∙ ap (λ l. option_map pointer (where_equal l)) (finds.1.last_is ∙ is)

    nothing : found ≡ None → (e : Entry T) → Contains entries e → answer e ≢ Equal
    nothing none = elim finds.1.search.ends [
      | inl met ↦ let is = found_by (Some (met.0, Equal)) met.1 in absurd (cc)
      | inr stops ↦ none_equal answer entries ordered stops.0
          (IfSome_then (before stops.0) stops.1.greater_before (λ e has. answered (e, Greater) has))
          (IfSome_then (after stops.0) stops.1.less_after (λ e has. answered (e, Less) has))
    ]

    is_none : ((e : Entry T) → Contains entries e → answer e ≢ Equal) → found ≡ None
    is_none none = go (last_of None shown) refl
      where
        go : (last : Option (Shown T)) → last_of None shown ≡ last → found ≡ None
        go None is = found_by None is
        go (Some s) is =
            let said : s.1 ≡ answer s.0 = rw is at (last_holds (λ s. s.1 ≡ answer s.0) None shown tt answers) in
            let inside : Contains entries s.0 = rw is at (last_holds (λ s. Contains entries s.0) None shown tt (recursion_from_All _ _ finds.1.search.within)) in
            found_by (Some s) is ∙ not_found s (λ same. none s.0 inside (sym said ∙ same))

pub answered_in_order : {T F : Type 0} (asks : F → Shown T → F → Type 0) → AnsweredInOrderLaw asks
answered_in_order asks answer entries f g found c fixed ordered finds =
    (nothing asks answer fixed entries ordered f g found c finds, is_none asks answer fixed entries ordered f g found c finds)
