-- Where a search stops in a list of leaves in the order of their keys, and how many keys it compares.
use Rattle.std.proofs.Common.{◌≡◌, ◌≢◌, ℕ, suc, ◌+◌, ◌-◌, ◌^◌, ◌<◌, ◌≤◌, Bool, true, false, List, [], ◌∷◌, ◌++◌, length, take, drop, Option, Some, None, IfSome, IfNone, IsSome, slice_get, arith, ap, sym, subst, ◌∙◌, refl, length-append, append_assoc, inl, inr}
use Rattle.std.specs.{List.AllByRecursion, List.All, List.Sorted.IsPartitionPoint, Cmp.IsTotalOrder}
use Rattle.std.specs.declared.cmp.Ordering.{Ordering, TheVariants.Greater}
use Rattle.std.proofs.lemmas.Nat.{mul-le}
use Rattle.std.proofs.lemmas.Bool.{cases_lt}
use Rattle.std.proofs.lemmas.List.{take-append-drop, length-take-le, Elements.All-from_recursion, Elements.recursion_from_All}
use Rattle.triple_ord.specs.Gap.{first_of, last_of}
use Rattle.leaf_row.specs.Before.{is_passed, IsWithinHalvings}
use Rattle.leaf_list.specs.Leaves.{Leaf, entries_of, times_numbered, AreSorted, AreOrdered, AreApart, AreFilled}
use Rattle.leaf_list.specs.Place.{position}
use Rattle.leaf_list.specs.Parts.{entries_in, HasLeaf, first_number, LeadsTo}
use Rattle.leaf_list.proofs.Cutting.{cut-at, entries-append, entries_in-cut}
use Rattle.leaf_list.proofs.Placing.{count-at, size-at, some-entries, cut-of-apart, position-cut, last-of}
use Rattle.leaf_list.proofs.Entering.{filled-count}
use Rattle.leaf_list.proofs.Passing.{partition-cut, passes-before, fails-behind, sorted-back}
use Rattle.leaf_list.proofs.Visiting.{one-leaf, leaves, square}

module _ {X : Type 0} (P : X → Type 0) where
  all-append : (xs ys : List X) → AllByRecursion P xs → AllByRecursion P ys → AllByRecursion P (xs ++ ys)
  all-append [] ys front back = back
  all-append (x ∷ xs) ys front back = (front.0, all-append xs ys front.1 back)

  all-right : (xs : List X) (x : X) (ys : List X) → AllByRecursion P (xs ++ x ∷ ys) → AllByRecursion P ys
  all-right [] x ys all = all.1
  all-right (z ∷ xs) x ys all = all-right xs x ys all.1

  all-left : (xs ys : List X) → AllByRecursion P (xs ++ ys) → AllByRecursion P xs
  all-left [] ys all = tt
  all-left (x ∷ xs) ys all = (all.0, all-left xs ys all.1)

module _ {K : Type 0} (cmp : K → K → Ordering) where
  sorted-front : (es fs : List (K × ℕ)) → AreSorted cmp (es ++ fs) → AreSorted cmp es
  sorted-front [] fs sorted = tt
  sorted-front (e ∷ es) fs sorted = (
    All-from_recursion (λ f. cmp e.0 f.0 ≢ Greater) es (all-left (λ f. cmp e.0 f.0 ≢ Greater) es fs (recursion_from_All (λ f. cmp e.0 f.0 ≢ Greater) (es ++ fs) sorted.0)),
    sorted-front es fs sorted.1,
  )

-- the leaf where a search leads, as a cut
pub record Lead {K : Type 0} (passes : K → Bool) (ls : List (Leaf K)) (n : ℕ) (is_behind : Bool) : Type 0 where
  pub front : List (Leaf K)
  pub leaf : Leaf K
  pub back : List (Leaf K)
  pub cut : ls ≡ front ++ leaf ∷ back
  pub number : leaf.number ≡ n
  pub first : is_behind ≡ true → (front ≡ []) × IfSome (slice_get leaf.entries 0) (λ e. passes e.0 ≡ false)
  pub inside : is_behind ≡ false → IfSome (slice_get leaf.entries 0) (λ e. passes e.0 ≡ true) × IfSome (first_of back) (λ l. IfSome (slice_get l.entries 0) (λ e. passes e.0 ≡ false))

module _ {K : Type 0} (passes : K → Bool) where
  last-there : (front : List (Leaf K)) (l : Leaf K) (o : Option (Leaf K)) → last_of o (front ++ l ∷ []) ≡ Some l
  last-there [] l o = refl
  last-there (f ∷ front) l o = last-there front l (Some f)

  pub lead-of : (ls : List (Leaf K)) (n : ℕ) (b : Bool) → LeadsTo passes ls n b → Lead passes ls n b
  lead-of ls n true lead = go lead.back refl
    where
      go : (back : List (Leaf K)) → lead.back ≡ back → Lead passes ls n true
      go [] is = absurd (let lost : None ≡ Some n = ap first_number (sym is) ∙ lead.here in cc)
      go (l ∷ back) is =
          let own : Some l.number ≡ Some n = ap first_number (sym is) ∙ lead.here in record {
            front = lead.front;
            leaf = l;
            back = back;
            cut = lead.stop.cut ∙ ap (λ (xs : List (Leaf K)). lead.front ++ xs) is;
            number = cc;
            first = λ _. (lead.none_before refl, subst (λ (xs : List (Leaf K)). IfSome (first_of xs) (λ l. IfSome (slice_get l.entries 0) (λ e. passes e.0 ≡ false))) is lead.stop.high);
            inside = λ other. absurd (cc);
          }
  lead-of ls n false lead =
      let last = last-of lead.front n lead.here in record {
        front = last.front;
        leaf = last.leaf;
        back = lead.back;
        cut = lead.stop.cut ∙ ap (λ (xs : List (Leaf K)). xs ++ lead.back) last.cut ∙ append_assoc last.front (last.leaf ∷ []) lead.back;
        number = last.number;
        first = λ other. absurd (cc);
        inside = λ _. (
          subst (λ (o : Option (Leaf K)). IfSome o (λ l. IfSome (slice_get l.entries 0) (λ e. passes e.0 ≡ true))) (ap (last_of None) last.cut ∙ last-there last.front last.leaf None) lead.stop.low,
          lead.stop.high,
        );
      }

  module _ (ls : List (Leaf K)) (n : ℕ) (b : Bool) (apart : AreApart ls) (lead : Lead passes ls n b) where
    met : times_numbered lead.leaf.number lead.front ≡ 0
    met = cut-of-apart ls lead.front lead.leaf lead.back apart lead.cut

    lead-entries : entries_in ls n ≡ lead.leaf.entries
    lead-entries =
        ap (λ (xs : List (Leaf K)). entries_in xs n) lead.cut ∙ ap (entries_in (lead.front ++ lead.leaf ∷ lead.back)) (sym lead.number) ∙ entries_in-cut lead.leaf lead.back lead.front met

    lead-position : (at : ℕ) → position ls (Some (n, at)) ≡ length (entries_of lead.front) + at
    lead-position at =
        ap (λ (xs : List (Leaf K)). position xs (Some (n, at))) lead.cut ∙ ap (λ (m : ℕ). position (lead.front ++ lead.leaf ∷ lead.back) (Some (m, at))) (sym lead.number)
        ∙ position-cut lead.leaf lead.back lead.front at met

    lead-some : 0 < length lead.leaf.entries
    lead-some = some-entries ls lead.front lead.leaf lead.back apart lead.cut

    lead-there : HasLeaf ls n
    lead-there = let some = lead-some in let size = ap length lead-entries in omega arith

  pub lead-has : (ls : List (Leaf K)) (n : ℕ) (b : Bool) → AreApart ls → LeadsTo passes ls n b → HasLeaf ls n
  lead-has ls n b apart lead = lead-there ls n b apart (lead-of ls n b lead)

module _ {K : Type 0} (cmp : K → K → Ordering) (total : IsTotalOrder cmp) (w : Bool) (k : K) where
  abbrev Passes : K × ℕ → Type 0
  Passes e = is_passed w (cmp k e.0) ≡ true

  abbrev Fails : K × ℕ → Type 0
  Fails e = is_passed w (cmp k e.0) ≡ false

  -- sorted entries have a place where a search stops
  record HasPoint (es : List (K × ℕ)) : Type 0 where
    q : ℕ
    within : q ≤ length es
    low : AllByRecursion Passes (take q es)
    high : AllByRecursion Fails (drop q es)

  some-point : (es : List (K × ℕ)) → AreSorted cmp es → HasPoint es
  some-point [] sorted = record { q = 0; within = omega arith; low = tt; high = tt }
  some-point (e ∷ es) sorted = go (is_passed w (cmp k e.0)) refl (some-point es sorted.1)
    where
      go : (b : Bool) → is_passed w (cmp k e.0) ≡ b → HasPoint es → HasPoint (e ∷ es)
      go true is rest = record { q = suc rest.q; within = let few = rest.within in omega arith; low = (is, rest.low); high = rest.high }
      go false is rest = record { q = 0; within = omega arith; low = tt; high = fails-behind cmp total w k e es sorted is }

  point-of : (es : List (K × ℕ)) (p : HasPoint es) → IsPartitionPoint Passes Fails es p.q
  point-of es p =
      let parts : take p.q es ++ drop p.q es ≡ es = take-append-drop p.q es in
      let size : length (take p.q es) ≡ p.q = length-take-le p.q es p.within in
      subst (λ (xs : List (K × ℕ)). IsPartitionPoint Passes Fails xs p.q) parts
      (subst (λ (m : ℕ). IsPartitionPoint Passes Fails (take p.q es ++ drop p.q es) m) size
      (partition-cut Passes Fails (take p.q es) (drop p.q es) (All-from_recursion Passes (take p.q es) p.low) (All-from_recursion Fails (drop p.q es) p.high)))

  whole-point : (flat front back : List (K × ℕ)) (q : ℕ) → flat ≡ front ++ back → q ≡ length front → AllByRecursion Passes front → AllByRecursion Fails back → IsPartitionPoint Passes Fails flat q
  whole-point flat front back q cut size low high =
      subst (λ (xs : List (K × ℕ)). IsPartitionPoint Passes Fails xs q) (sym cut)
      (subst (λ (m : ℕ). IsPartitionPoint Passes Fails (front ++ back) m) (sym size)
      (partition-cut Passes Fails front back (All-from_recursion Passes front low) (All-from_recursion Fails back high)))

  -- entries whose first one fails
  fails-from : (es : List (K × ℕ)) → AreSorted cmp es → IfSome (slice_get es 0) Fails → AllByRecursion Fails es
  fails-from [] sorted first = tt
  fails-from (e ∷ es) sorted first = fails-behind cmp total w k e es sorted first

  -- leaves whose first entry fails
  fails-leaves : (back : List (Leaf K)) → AreSorted cmp (entries_of back) → AllByRecursion (λ (l : Leaf K). 0 < length l.entries) back
      → IfSome (first_of back) (λ l. IfSome (slice_get l.entries 0) Fails) → AllByRecursion Fails (entries_of back)
  fails-leaves [] sorted some first = tt
  fails-leaves (l ∷ back) sorted some first = go l.entries refl (some.0) first
    where
      go : (es : List (K × ℕ)) → l.entries ≡ es → 0 < length l.entries → IfSome (slice_get l.entries 0) Fails → AllByRecursion Fails (entries_of (l ∷ back))
      go [] is have first = absurd (let size = ap length is in omega arith)
      go (e ∷ es) is have first =
          let fail : Fails e = subst (λ (xs : List (K × ℕ)). IfSome (slice_get xs 0) Fails) is first in
          subst (λ (xs : List (K × ℕ)). AllByRecursion Fails (xs ++ entries_of back)) (sym is)
          (fails-behind cmp total w k e (es ++ entries_of back) (subst (λ (xs : List (K × ℕ)). AreSorted cmp (xs ++ entries_of back)) is sorted) fail)

  module _ (ls : List (Leaf K)) (ordered : AreOrdered cmp ls) (apart : AreApart ls) (n : ℕ) where
    -- a search that stops before all entries
    pub gap-first : LeadsTo (λ key. is_passed w (cmp k key)) ls n true → IsPartitionPoint Passes Fails (entries_of ls) (position ls (Some (n, 0)))
    gap-first leads =
        let lead = lead-of (λ key. is_passed w (cmp k key)) ls n true leads in
        let first = lead.first refl in
        let whole : ls ≡ lead.leaf ∷ lead.back = lead.cut ∙ ap (λ (xs : List (Leaf K)). xs ++ lead.leaf ∷ lead.back) first.0 in
        let none : length (entries_of lead.front) ≡ 0 = ap (λ (xs : List (Leaf K)). length (entries_of xs)) first.0 in
        let all = recursion_from_All (λ (l : Leaf K). 0 < length l.entries) (lead.leaf ∷ lead.back) (subst (λ (xs : List (Leaf K)). All (λ (l : Leaf K). 0 < length l.entries) xs) whole apart.some) in
        let fails = fails-leaves (lead.leaf ∷ lead.back) (subst (λ (xs : List (Leaf K)). AreSorted cmp (entries_of xs)) whole ordered.sorted) all first.1 in
        let place = lead-position (λ key. is_passed w (cmp k key)) ls n true apart lead 0 in
        whole-point (entries_of ls) [] (entries_of (lead.leaf ∷ lead.back)) (position ls (Some (n, 0))) (ap entries_of whole) (omega arith) tt fails

    -- or in a leaf, where the search of its entries behind the first stops
    pub gap-in : LeadsTo (λ key. is_passed w (cmp k key)) ls n false → (q : ℕ)
        → ((m : ℕ) → m + 1 ≤ length (entries_in ls n) → IsPartitionPoint Passes Fails (drop 1 (entries_in ls n)) m → q ≡ m)
        → IsPartitionPoint Passes Fails (entries_of ls) (position ls (Some (n, q + 1)))
    gap-in leads q only = go lead.leaf.entries refl
      where
        lead : Lead (λ key. is_passed w (cmp k key)) ls n false
        lead = lead-of (λ key. is_passed w (cmp k key)) ls n false leads

        place : position ls (Some (n, q + 1)) ≡ length (entries_of lead.front) + (q + 1)
        place = lead-position (λ key. is_passed w (cmp k key)) ls n false apart lead (q + 1)

        entries : entries_in ls n ≡ lead.leaf.entries
        entries = lead-entries (λ key. is_passed w (cmp k key)) ls n false apart lead

        go : (es : List (K × ℕ)) → lead.leaf.entries ≡ es → IsPartitionPoint Passes Fails (entries_of ls) (position ls (Some (n, q + 1)))
        go [] is = absurd (let some = lead-some (λ key. is_passed w (cmp k key)) ls n false apart lead in let size = ap length is in omega arith)
        go (e ∷ es) is =
            let inside = lead.inside refl in
            let pass : Passes e = subst (λ (xs : List (K × ℕ)). IfSome (slice_get xs 0) Passes) is inside.0 in
            let flat : entries_of ls ≡ entries_of lead.front ++ e ∷ (es ++ entries_of lead.back) =
            ap entries_of lead.cut ∙ entries-append lead.front (lead.leaf ∷ lead.back) ∙ ap (λ (xs : List (K × ℕ)). entries_of lead.front ++ (xs ++ entries_of lead.back)) is in
            let sorted = subst (AreSorted cmp) flat ordered.sorted in
            let later : AreSorted cmp (es ++ entries_of lead.back) = (sorted-back cmp (entries_of lead.front) (e ∷ (es ++ entries_of lead.back)) sorted).1 in
            let low = passes-before cmp total w k (entries_of lead.front) e (es ++ entries_of lead.back) sorted pass in
            let some = recursion_from_All (λ (l : Leaf K). 0 < length l.entries) (lead.front ++ lead.leaf ∷ lead.back) (subst (λ (xs : List (Leaf K)). All (λ (l : Leaf K). 0 < length l.entries) xs) lead.cut apart.some) in
            let high = fails-leaves lead.back (sorted-back cmp es (entries_of lead.back) later) (all-right (λ (l : Leaf K). 0 < length l.entries) lead.front lead.leaf lead.back some) inside.1 in
            let point = some-point es (sorted-front cmp es (entries_of lead.back) later) in
            let tail : drop 1 (entries_in ls n) ≡ es = ap (drop 1) (entries ∙ is) in
            let size = ap length (entries ∙ is) in
            let within = point.within in
            let same : q ≡ point.q = only point.q (omega arith) (subst (λ (xs : List (K × ℕ)). IsPartitionPoint Passes Fails xs point.q) (sym tail) (point-of es point)) in
            let parts = take-append-drop point.q es in
            let part_size = length-take-le point.q es within in
            let cut : entries_of ls ≡ (entries_of lead.front ++ e ∷ take point.q es) ++ (drop point.q es ++ entries_of lead.back) =
            flat ∙ ap (λ (xs : List (K × ℕ)). entries_of lead.front ++ e ∷ (xs ++ entries_of lead.back)) (sym parts)
            ∙ ap (λ (xs : List (K × ℕ)). entries_of lead.front ++ e ∷ xs) (append_assoc (take point.q es) (drop point.q es) (entries_of lead.back))
            ∙ sym (append_assoc (entries_of lead.front) (e ∷ take point.q es) (drop point.q es ++ entries_of lead.back)) in
            whole-point (entries_of ls) (entries_of lead.front ++ e ∷ take point.q es) (drop point.q es ++ entries_of lead.back) (position ls (Some (n, q + 1))) cut
            (omega (arith, place, length-append (entries_of lead.front) (e ∷ take point.q es)))
            (all-append Passes (entries_of lead.front) (e ∷ take point.q es) low (pass, point.low)) (all-append Fails (drop point.q es) (entries_of lead.back) point.high high)

-- how many keys are compared
module _ {K : Type 0} (ls : List (Leaf K)) where
  leaves-count : AllByRecursion (λ (l : Leaf K). 0 < length l.entries) ls → length ls ≤ length (entries_of ls)
  leaves-count some = go ls some
    where
      go : (ms : List (Leaf K)) → AllByRecursion (λ (l : Leaf K). 0 < length l.entries) ms → length ms ≤ length (entries_of ms)
      go [] some = omega arith
      go (m ∷ ms) some = let rest = go ms some.1 in let sum = length-append m.entries (entries_of ms) in omega (arith, some.0)

  pub leaves-within : AreApart ls → length ls ≤ length (entries_of ls)
  leaves-within apart = leaves-count (recursion_from_All (λ (l : Leaf K). 0 < length l.entries) ls apart.some)

  pub some-leaf : 0 < length (entries_of ls) → 0 < length ls
  some-leaf some = go ls some
    where
      go : (ms : List (Leaf K)) → 0 < length (entries_of ms) → 0 < length ms
      go [] none = absurd (omega arith)
      go (m ∷ ms) some = omega arith

  -- in the index alone
  pub index-visits : (c : ℕ) → AreApart ls → (0 < length ls → 2 ^ (c + 1) ≤ (length ls + 1) ^ 2) → 0 < length (entries_of ls) → 2 ^ (c + 1) ≤ (length (entries_of ls) + 1) ^ 2
  index-visits c apart bound some =
      let few = leaves-within apart in
      let there = some-leaf some in
      let most = bound there in
      let wide = mul-le (length ls + 1) (length ls + 1) (length (entries_of ls) + 1) (length (entries_of ls) + 1) (omega arith) (omega arith) in
      omega (arith, most, wide, square (length ls + 1), square (length (entries_of ls) + 1))

  -- in the index and in a row
  pub row-visits : (n c v : ℕ) → AreApart ls → AreFilled ls → HasLeaf ls n → (0 < length ls → 2 ^ (c + 1) ≤ (length ls + 1) ^ 2) → IsWithinHalvings (length (entries_in ls n) - 1) v
      → length (entries_in ls n) ≤ 32 → 2 ^ (c + v + 1) ≤ (length (entries_of ls) + 1) ^ 2
  row-visits n c v apart filled has bound halvings few =
      let cut = cut-at ls n has in
      let all = count-at ls n cut in
      let size = size-at ls n cut in
      let there = some-leaf (omega arith) in
      let most = bound there in
      let many = filled-count ls filled (recursion_from_All (λ (l : Leaf K). 0 < length l.entries) ls apart.some) in
      let r : ℕ = length (entries_in ls n) - 1 in
      elim (cases_lt 1 (length ls)) [
        | inl more ↦
            let place : length ls - 2 + 3 ≡ length ls + 1 = omega arith in
            leaves c v r (length ls - 2) (length (entries_of ls)) (subst (λ (m : ℕ). 2 ^ (c + 1) ≤ m ^ 2) (sym place) most) (omega arith) halvings (omega arith)
        | inr one ↦
            let single : length ls ≡ 1 = omega arith in
            let top : 2 ^ (c + 1) ≤ 4 = omega (arith, subst (λ (m : ℕ). 2 ^ (c + 1) ≤ (m + 1) ^ 2) single most) in
            let enough = one-leaf c v r top halvings in
            let wide = mul-le (r + 2) (r + 2) (length (entries_of ls) + 1) (length (entries_of ls) + 1) (omega arith) (omega arith) in
            omega (arith, enough, wide, square (length (entries_of ls) + 1))
      ]

module _ {K : Type 0} where
  -- leaves that there are have entries
  pub none-visited : {c : ℕ} (ls : List (Leaf K)) → (n : ℕ) → HasLeaf ls n → length (entries_of ls) ≡ 0 → c ≡ 0
  none-visited ls n has none = absurd (let c = cut-at ls n has in let all = count-at ls n c in let size = size-at ls n c in omega arith)

  -- a search of leaves that have entries stops somewhere
  pub gap-there : {X : Type 0} (found : Option X) (ls : List (Leaf K)) → IfNone found (ls ≡ []) → 0 < length (entries_of ls) → IsSome found
  gap-there (Some x) ls none some = refl
  gap-there None ls none some = absurd (let empty = ap (λ (xs : List (Leaf K)). length (entries_of xs)) none in omega arith)

  -- the place in a list without leaves
  pub empty-point : (P Q : K × ℕ → Type 0) (ls : List (Leaf K)) → ls ≡ [] → IsPartitionPoint P Q (entries_of ls) (length (entries_of ls))
  empty-point P Q ls none = rw none (λ k d a b. absurd (omega arith), λ k d a b. absurd (omega arith))
