-- Entries with other names.
use Rattle.std.proofs.Common.{◌≡◌, ◌≢◌, ℕ, zero, suc, ◌+◌, ◌==◌, ◌<◌, ◌≤◌, if◌then◌else◌, List, [], ◌∷◌, ◌++◌, length, slice_get, Option, Some, None, IsSome, arith, ap, sym, subst, ◌∙◌, refl, inl, inr}
use Rattle.std.specs.{List.AllByRecursion}
use Rattle.std.specs.declared.cmp.Ordering.{Ordering, TheVariants.Greater}
use Rattle.std.proofs.lemmas.Bool.{eq-eqb, Decides.eqb_tells}
use Rattle.std.proofs.lemmas.List.{Elements.All-from_recursion, Elements.recursion_from_All}
use Rattle.leaf_list.specs.Leaves.{Leaf, entries_of, times, leaf_of, IsFree, AreFilled, AreSorted, AreOrdered}
use Rattle.leaf_list.specs.{Place.position, Place.entry_at, Place.renamed, Place.with_name, House.Renames, House.SwapsNames}
use Rattle.leaf_list.specs.Parts.{entries_in, HasLeaf, with_entries}
use Rattle.leaf_list.proofs.Cutting.{entry_at-entries}
use Rattle.leaf_list.proofs.Placing.{times-in, slice_get-within, entry-position, leaf_of-there}
use Rattle.leaf_list.proofs.Entering.{leaf_of-kept}
use Rattle.leaf_list.proofs.Changing.{own-changed, other-changed}
use Rattle.leaf_list.proofs.Leaving.{leaf_of-none, times-removed}

-- what an option holds
pub held : {X : Type 0} (o : Option X) → IsSome o → (x : X) × (o ≡ Some x)
held (Some x) some = (x, refl)
held None some = absurd (cc)

module _ {K : Type 0} where
  -- a list with another name for one entry
  pub length-renamed : (es : List (K × ℕ)) (at j : ℕ) → length (renamed es at j) ≡ length es
  length-renamed [] at j = refl
  length-renamed (e ∷ es) zero j = refl
  length-renamed (e ∷ es) (suc at) j = let rest = length-renamed es at j in omega arith

  pub times-renamed : (i : ℕ) (es : List (K × ℕ)) (at j : ℕ) (x : K × ℕ) → slice_get es at ≡ Some x
      → times i (renamed es at j) + (if x.1 == i then 1 else 0) ≡ times i es + (if j == i then 1 else 0)
  times-renamed i [] at j x is = absurd (cc)
  times-renamed i (e ∷ es) zero j x is =
      let own : e ≡ x = cc in
      subst (λ (y : K × ℕ). times i (renamed (e ∷ es) zero j) + (if y.1 == i then 1 else 0) ≡ times i (e ∷ es) + (if j == i then 1 else 0)) own (omega arith)
  times-renamed i (e ∷ es) (suc at) j x is = let rest = times-renamed i es at j x is in omega (arith, rest)

  pub get-renamed : (es : List (K × ℕ)) (at b j : ℕ) (e : K × ℕ) → slice_get es b ≡ Some e → e.1 ≡ j → (k : K) × (slice_get (renamed es at j) b ≡ Some (k, j))
  get-renamed [] at b j e is same = absurd (cc)
  get-renamed (d ∷ es) zero zero j e is same = (d.0, refl)
  get-renamed (d ∷ es) zero (suc b) j e is same = (e.0, is ∙ ap (λ (i : ℕ). Some (e.0, i)) same)
  get-renamed (d ∷ es) (suc at) zero j e is same = (e.0, is ∙ ap (λ (i : ℕ). Some (e.0, i)) same)
  get-renamed (d ∷ es) (suc at) (suc b) j e is same = get-renamed es at b j e is same

  renamed-left : (xs ys : List (K × ℕ)) (at j : ℕ) → at < length xs → renamed (xs ++ ys) at j ≡ renamed xs at j ++ ys
  renamed-left [] ys at j within = absurd (omega arith)
  renamed-left (x ∷ xs) ys zero j within = refl
  renamed-left (x ∷ xs) ys (suc at) j within = ap (λ (l : List (K × ℕ)). x ∷ l) (renamed-left xs ys at j (omega arith))

  renamed-right : (xs ys : List (K × ℕ)) (at j : ℕ) → renamed (xs ++ ys) (length xs + at) j ≡ xs ++ renamed ys at j
  renamed-right [] ys at j = let place : length {A = K × ℕ} [] + at ≡ at = omega arith in ap (λ (n : ℕ). renamed ys n j) place
  renamed-right (x ∷ xs) ys at j =
      let place : length (x ∷ xs) + at ≡ suc (length xs + at) = omega arith in
      ap (λ (n : ℕ). renamed (x ∷ xs ++ ys) n j) place ∙ ap (λ (l : List (K × ℕ)). x ∷ l) (renamed-right xs ys at j)

  -- an entry counts among those of its name
  pub named-times : (es : List (K × ℕ)) (at : ℕ) (x : K × ℕ) → slice_get es at ≡ Some x → 1 ≤ times x.1 es
  named-times es at x is = let count = times-removed x.1 es at x is in let test = eq-eqb x.1 x.1 refl in omega (arith, rw test at count)

  -- the entry at a place is in its leaf by its name
  pub entry-leaf : (cmp : K → K → Ordering) (ls : List (Leaf K)) → AreOrdered cmp ls → (n at : ℕ) (e : K × ℕ) → entry_at ls (n, at) ≡ Some e → leaf_of ls e.1 ≡ Some n
  entry-leaf cmp ls ordered n at e is =
      leaf_of-there ls n e.1 (ordered.distinct e.1) (named-times (entries_in ls n) at e (sym (entry_at-entries ls n at) ∙ is))

  -- leaves with another name for the entry at a place
  pub named-is : (ls : List (Leaf K)) (n at j : ℕ) → with_entries ls n (renamed (entries_in ls n) at j) ≡ with_name ls (n, at) j
  named-is [] n at j = refl
  named-is (l ∷ ls) n at j = elim (eqb_tells l.number n) [
    | inl same ↦ rw same.0 refl
    | inr other ↦ rw other.0 (ap (λ (xs : List (Leaf K)). l ∷ xs) (named-is ls n at j))
  ]

  pub named-flat : (ls : List (Leaf K)) (n at j : ℕ) → at < length (entries_in ls n) → entries_of (with_entries ls n (renamed (entries_in ls n) at j)) ≡ renamed (entries_of ls) (position ls (Some (n, at))) j
  named-flat [] n at j within = absurd (omega arith)
  named-flat (l ∷ ls) n at j within = elim (eqb_tells l.number n) [
    | inl same ↦ rw same.0 (sym (renamed-left l.entries (entries_of ls) at j (rw same.0 at within)))
    | inr other ↦ rw other.0 (ap (λ (es : List (K × ℕ)). l.entries ++ es) (named-flat ls n at j (rw other.0 at within)) ∙ sym (renamed-right l.entries (entries_of ls) (position ls (Some (n, at))) j))
  ]

  pub position-changed : (ls : List (Leaf K)) (n : ℕ) (es : List (K × ℕ)) (p : ℕ × ℕ) → length es ≡ length (entries_in ls n) → position (with_entries ls n es) (Some p) ≡ position ls (Some p)
  position-changed [] n es p size = refl
  position-changed (l ∷ ls) n es p size = elim (eqb_tells l.number n) [
    | inl same ↦ let long = rw same.0 at size in rw (same.0, long) refl
    | inr other ↦ rw (other.0, position-changed ls n es p (rw other.0 at size)) refl
  ]

  pub filled-changed : (ls : List (Leaf K)) (n : ℕ) (es : List (K × ℕ)) → length es ≡ length (entries_in ls n) → AreFilled ls → AreFilled (with_entries ls n es)
  filled-changed [] n es size filled = tt
  filled-changed (l ∷ []) n es size filled = elim (eqb_tells l.number n) [ inl same ↦ rw same.0 tt | inr other ↦ rw other.0 tt ]
  filled-changed (l ∷ m ∷ ls) n es size filled = elim (eqb_tells l.number n) [
    | inl same ↦ let long = rw same.0 at size in rw same.0 (omega (arith, long, filled.0), filled.1)
    | inr other ↦ let rest = filled-changed (m ∷ ls) n es (rw other.0 at size) filled.1 in rw other.0 (longer rest)
  ]
    where
      longer : AreFilled (with_entries (m ∷ ls) n es) → AreFilled (l ∷ with_entries (m ∷ ls) n es)
      longer rest = elim (eqb_tells m.number n) [
        | inl is ↦ rw is.0 (filled.0, rw is.0 at rest)
        | inr is ↦ rw is.0 (filled.0, rw is.0 at rest)
      ]

module _ {K : Type 0} (cmp : K → K → Ordering) where
  all-renamed : (k : K) (es : List (K × ℕ)) (at j : ℕ) → AllByRecursion (λ f. cmp k f.0 ≢ Greater) es → AllByRecursion (λ f. cmp k f.0 ≢ Greater) (renamed es at j)
  all-renamed k [] at j all = tt
  all-renamed k (e ∷ es) zero j all = all
  all-renamed k (e ∷ es) (suc at) j all = (all.0, all-renamed k es at j all.1)

  pub sorted-renamed : (es : List (K × ℕ)) (at j : ℕ) → AreSorted cmp es → AreSorted cmp (renamed es at j)
  sorted-renamed [] at j sorted = tt
  sorted-renamed (e ∷ es) zero j sorted = sorted
  sorted-renamed (e ∷ es) (suc at) j sorted = (
    All-from_recursion (λ f. cmp e.0 f.0 ≢ Greater) (renamed es at j) (all-renamed e.0 es at j (recursion_from_All (λ f. cmp e.0 f.0 ≢ Greater) es sorted.0)),
    sorted-renamed es at j sorted.1,
  )

-- the entry at a place
pub entry-here : {K : Type 0} (ls : List (Leaf K)) (n at : ℕ) → IsSome (entry_at ls (n, at)) → (x : K × ℕ) × (slice_get (entries_in ls n) at ≡ Some x)
entry-here {K} ls n at some =
    held (slice_get (entries_in ls n) at) (subst (λ (o : Option (K × ℕ)). IsSome o) (entry_at-entries ls n at) some)

-- a new name for one entry
module _ {K : Type 0} (cmp : K → K → Ordering) (ls : List (Leaf K)) (ordered : AreOrdered cmp ls) (n at : ℕ) (x : K × ℕ) (here : slice_get (entries_in ls n) at ≡ Some x) where
  abbrev pub once_named : ℕ → List (Leaf K)
  once_named j = with_entries ls n (renamed (entries_in ls n) at j)

  at-within : at < length (entries_in ls n)
  at-within = slice_get-within (entries_in ls n) at (rw here refl)

  flat-there : slice_get (entries_of ls) (position ls (Some (n, at))) ≡ Some x
  flat-there = entry-position ls (n, at) x (entry_at-entries ls n at ∙ here)

  count-named : (i j : ℕ) → times i (entries_of (once_named j)) + (if x.1 == i then 1 else 0) ≡ times i (entries_of ls) + (if j == i then 1 else 0)
  count-named i j =
      ap (λ (es : List (K × ℕ)). times i es + (if x.1 == i then 1 else 0)) (named-flat ls n at j at-within)
      ∙ times-renamed i (entries_of ls) (position ls (Some (n, at))) j x flat-there

  apart-name : (i j : ℕ) → i ≢ j → ◌≡◌ {A = ℕ} (if j == i then 1 else 0) 0
  apart-name i j other = elim (eqb_tells j i) [ inl same ↦ absurd (other (sym same.1)) | inr apart ↦ rw apart.0 refl ]

  same-name : (j : ℕ) → ◌≡◌ {A = ℕ} (if j == j then 1 else 0) 1
  same-name j = let test = eq-eqb j j refl in rw test refl

  leaf-kept : (i j : ℕ) → i ≢ x.1 → i ≢ j → leaf_of (once_named j) i ≡ leaf_of ls i
  leaf-kept i j other apart =
      let count = times-renamed i (entries_in ls n) at j x here in
      let one = apart-name i x.1 other in
      let two = apart-name i j apart in leaf_of-kept ls n i (renamed (entries_in ls n) at j) (omega arith)

  module _ (j room : ℕ) (free : IsFree (record { leaves = ls; room = room }) j) where
    x-apart : x.1 ≢ j
    x-apart same =
        let count = times-removed x.1 (entries_in ls n) at x here in
        let one = same-name x.1 in
        let part = times-in ls x.1 n in
        let none : times x.1 (entries_of ls) ≡ 0 = ap (λ (i : ℕ). times i (entries_of ls)) same ∙ free.unused in absurd (omega arith)

    pub renamed-ordered : AreOrdered cmp (once_named j)
    renamed-ordered = record {
      sorted = rw (named-flat ls n at j at-within) (sorted-renamed cmp (entries_of ls) (position ls (Some (n, at))) j ordered.sorted);
      distinct = λ i. let count = count-named i j in elim (eqb_tells j i) [
        | inl same ↦
            let none : times i (entries_of ls) ≡ 0 = ap (λ (m : ℕ). times m (entries_of ls)) (sym same.1) ∙ free.unused in omega (arith, rw same.0 at count)
        | inr other ↦ let once = ordered.distinct i in omega (arith, rw other.0 at count)
      ];
      positive = let count = count-named 0 j in
          let none = ordered.positive in let apart = apart-name 0 j (let some = free.positive in omega arith) in omega arith;
      filled = filled-changed ls n (renamed (entries_in ls n) at j) (length-renamed (entries_in ls n) at j) ordered.filled;
    }

    pub renames : Renames (record { leaves = ls; room = room }) (record { leaves = once_named j; room = room }) (n, at) x.1 j
    renames =
        let has : HasLeaf ls n = let within = at-within in omega arith in
        let own = own-changed ls n (renamed (entries_in ls n) at j) has in
        let count_own = times-renamed j (entries_in ls n) at j x here in
        let unit = same-name j in
        let no = apart-name j x.1 (λ same. x-apart (sym same)) in
        let here_now = ap (times j) own in
        let once = renamed-ordered.distinct j in
        let count_old = count-named x.1 j in
        let unit_old = same-name x.1 in
        let no_old = apart-name x.1 j x-apart in
        let once_old = ordered.distinct x.1 in record {
          own = leaf_of-there (once_named j) n j once (omega arith);
          gone = leaf_of-none (once_named j) x.1 (omega arith);
          others = λ i other apart. leaf-kept i j other apart;
        }

-- two entries exchange their names
module _ {K : Type 0} (cmp : K → K → Ordering) (ls : List (Leaf K)) (ordered : AreOrdered cmp ls) (n at m b : ℕ) (x y : K × ℕ)
    (first : slice_get (entries_in ls n) at ≡ Some x) (second : slice_get (entries_in ls m) b ≡ Some y) where
  abbrev pub half : List (Leaf K)
  half = once_named cmp ls ordered n at x first y.1

  abbrev pub swapped : List (Leaf K)
  swapped = with_entries half m (renamed (entries_in half m) b x.1)

  first-within : at < length (entries_in ls n)
  first-within = slice_get-within (entries_in ls n) at (rw first refl)

  half-size : (i : ℕ) → length (entries_in half i) ≡ length (entries_in ls i)
  half-size i = elim (eqb_tells n i) [
    | inl same ↦
        let within = first-within in
        let own : entries_in half n ≡ renamed (entries_in ls n) at y.1 = own-changed ls n (renamed (entries_in ls n) at y.1) (omega arith) in
        let size : length (entries_in half n) ≡ length (entries_in ls n) = ap length own ∙ length-renamed (entries_in ls n) at y.1 in
        subst (λ (j : ℕ). length (entries_in half j) ≡ length (entries_in ls j)) same.1 size
    | inr other ↦ ap length (other-changed ls n i (renamed (entries_in ls n) at y.1) other.1)
  ]

  -- the second entry has its name still
  half-second : (k : K) × (slice_get (entries_in half m) b ≡ Some (k, y.1))
  half-second = elim (eqb_tells n m) [
    | inl same ↦
        let within = first-within in
        let own : entries_in half n ≡ renamed (entries_in ls n) at y.1 = own-changed ls n (renamed (entries_in ls n) at y.1) (omega arith) in
        let there : slice_get (entries_in ls n) b ≡ Some y = ap (λ (j : ℕ). slice_get (entries_in ls j) b) same.1 ∙ second in
        let found = get-renamed (entries_in ls n) at b y.1 y there refl in
        subst (λ (j : ℕ). (k : K) × (slice_get (entries_in half j) b ≡ Some (k, y.1))) same.1 (found.0, ap (λ (es : List (K × ℕ)). slice_get es b) own ∙ found.1)
    | inr other ↦ (y.0, ap (λ (es : List (K × ℕ)). slice_get es b) (other-changed ls n m (renamed (entries_in ls n) at y.1) other.1) ∙ second)
  ]

  pub second-within : b < length (entries_in half m)
  second-within = slice_get-within (entries_in half m) b (rw half-second.1 refl)

  pub swapped-flat : entries_of swapped ≡ renamed (renamed (entries_of ls) (position ls (Some (n, at))) y.1) (position ls (Some (m, b))) x.1
  swapped-flat =
      named-flat half m b x.1 second-within ∙ ap (λ (es : List (K × ℕ)). renamed es (position half (Some (m, b))) x.1) (named-flat ls n at y.1 first-within)
      ∙ ap (λ (p : ℕ). renamed (renamed (entries_of ls) (position ls (Some (n, at))) y.1) p x.1)
      (position-changed ls n (renamed (entries_in ls n) at y.1) (m, b) (length-renamed (entries_in ls n) at y.1))

  swapped-count : (i : ℕ) → times i (entries_of swapped) ≡ times i (entries_of ls)
  swapped-count i =
      let e : K × ℕ = (half-second.0, y.1) in
      let flat = ap (times i) (named-flat half m b x.1 second-within) in
      let there = entry-position half (m, b) e (entry_at-entries half m b ∙ half-second.1) in
      let two = times-renamed i (entries_of half) (position half (Some (m, b))) x.1 e there in
      let one = count-named cmp ls ordered n at x first i y.1 in omega arith

  pub swapped-ordered : AreOrdered cmp swapped
  swapped-ordered = record {
    sorted = rw swapped-flat
        (sorted-renamed cmp (renamed (entries_of ls) (position ls (Some (n, at))) y.1) (position ls (Some (m, b))) x.1
        (sorted-renamed cmp (entries_of ls) (position ls (Some (n, at))) y.1 ordered.sorted));
    distinct = λ i. let count = swapped-count i in let once = ordered.distinct i in omega arith;
    positive = swapped-count 0 ∙ ordered.positive;
    filled = filled-changed half m (renamed (entries_in half m) b x.1) (length-renamed (entries_in half m) b x.1)
        (filled-changed ls n (renamed (entries_in ls n) at y.1) (length-renamed (entries_in ls n) at y.1) ordered.filled);
  }

  pub swaps : (room : ℕ) → SwapsNames (record { leaves = ls; room = room }) (record { leaves = swapped; room = room }) (n, at) (m, b) x.1 y.1
  swaps room =
      let e : K × ℕ = (half-second.0, y.1) in
      let within = second-within in
      let own_m : entries_in swapped m ≡ renamed (entries_in half m) b x.1 = own-changed half m (renamed (entries_in half m) b x.1) (omega arith) in
      let unit : (j : ℕ) → ◌≡◌ {A = ℕ} (if j == j then 1 else 0) 1 = same-name cmp ls ordered n at x first in
      record {
        first_leaf =
            let count = times-renamed x.1 (entries_in half m) b x.1 e half-second.1 in
            let there = ap (times x.1) own_m in
            let one = unit x.1 in
            let all = swapped-count x.1 in
            let once = ordered.distinct x.1 in
            leaf_of-there swapped m x.1 (omega arith) (elim (eqb_tells y.1 x.1) [
              | inl same ↦ let held = named-times (entries_in half m) b e half-second.1 in
                  let held_x : 1 ≤ times x.1 (entries_in half m) = subst (λ (i : ℕ). 1 ≤ times i (entries_in half m)) same.1 held in omega (arith, rw same.0 at count)
              | inr other ↦ omega (arith, rw other.0 at count)
            ]);
        second_leaf =
            let all = swapped-count y.1 in
            let once = ordered.distinct y.1 in
            leaf_of-there swapped n y.1 (omega arith) second-here;
        others = λ i other apart.
            let two = times-renamed i (entries_in half m) b x.1 e half-second.1 in
            let no = apart-name cmp ls ordered n at x first i x.1 other in
            let no_too = apart-name cmp ls ordered n at x first i y.1 apart in
            leaf_of-kept half m i (renamed (entries_in half m) b x.1) (omega arith) ∙ leaf-kept cmp ls ordered n at x first i y.1 other apart;
      }
    where
      second-here : 1 ≤ times y.1 (entries_in swapped n)
      second-here = elim (eqb_tells m n) [
        | inl same ↦
            let within = second-within in
            let in_half = first-within in
            let e : K × ℕ = (half-second.0, y.1) in
            let own_m : entries_in swapped m ≡ renamed (entries_in half m) b x.1 = own-changed half m (renamed (entries_in half m) b x.1) (omega arith) in
            let count = times-renamed y.1 (entries_in half m) b x.1 e half-second.1 in
            let own_n : entries_in half n ≡ renamed (entries_in ls n) at y.1 = own-changed ls n (renamed (entries_in ls n) at y.1) (omega arith) in
            let before = times-renamed y.1 (entries_in ls n) at y.1 x first in
            let there : slice_get (entries_in ls n) b ≡ Some y = ap (λ (j : ℕ). slice_get (entries_in ls j) b) (sym same.1) ∙ second in
            let held = named-times (entries_in ls n) b y there in
            let one = same-name cmp ls ordered n at x first y.1 in
            let half_count = ap (times y.1) own_n in
            let swapped_count = ap (times y.1) own_m in
            let half_same : times y.1 (entries_in half m) ≡ times y.1 (entries_in half n) = ap (λ (j : ℕ). times y.1 (entries_in half j)) same.1 in
            let done : 1 ≤ times y.1 (entries_in swapped m) = omega arith in
            subst (λ (j : ℕ). 1 ≤ times y.1 (entries_in swapped j)) same.1 done
        | inr other ↦
            let in_half = first-within in
            let same = ap (times y.1) (other-changed half m n (renamed (entries_in half m) b x.1) other.1) in
            let own_n : entries_in half n ≡ renamed (entries_in ls n) at y.1 = own-changed ls n (renamed (entries_in ls n) at y.1) (omega arith) in
            let half_count = ap (times y.1) own_n in
            let before = times-renamed y.1 (entries_in ls n) at y.1 x first in
            let one = same-name cmp ls ordered n at x first y.1 in
            elim (eqb_tells x.1 y.1) [
              | inl is ↦
                  let held = named-times (entries_in ls n) at x first in
                  let held_y : 1 ≤ times y.1 (entries_in ls n) = subst (λ (i : ℕ). 1 ≤ times i (entries_in ls n)) is.1 held in omega (arith, rw is.0 at before)
              | inr apart ↦ omega (arith, rw apart.0 at before)
            ]
      ]

  -- the leaves as contracts say it
  pub swapped-is : swapped ≡ with_name (with_name ls (n, at) y.1) (m, b) x.1
  swapped-is = named-is half m b x.1 ∙ ap (λ (xs : List (Leaf K)). with_name xs (m, b) x.1) (named-is ls n at y.1)
