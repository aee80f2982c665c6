-- Lists of leaves with one entry more, where a full leaf is split.
use Rattle.std.proofs.Common.{slice_get, ◌≡◌, ◌≢◌, ℕ, ◌+◌, ◌-◌, ◌<◌, ◌≤◌, true, false, nat_lt, List, [], ◌∷◌, ◌++◌, length, take, drop, Option, Some, arith, ap, sym, subst, ◌∙◌, refl, append_assoc, inl, inr}
use Rattle.std.specs.{List.insert, List.Sorted.IsPartitionPoint, Cmp.IsTotalOrder, Option.IsSomeAnd}
use Rattle.std.specs.declared.cmp.Ordering.{Ordering}
use Rattle.std.proofs.lemmas.Grind.{common_steps}
use Rattle.std.proofs.lemmas.Bool.{eq-eqb, Decides.eqb_tells}
use Rattle.std.proofs.lemmas.List.{take-append-drop, take_all, length-drop, length-take-le}
use Rattle.leaf_row.specs.Before.{is_passed}
use Rattle.leaf_list.specs.Leaves.{Leaf, entries_of, times, leaf_at, leaf_of, times_numbered, put_behind, IsFree, AreFilled, AreSorted, AreOrdered}
use Rattle.leaf_list.specs.{Place.position, Place.entry_at, House.has_moved, House.is_within, House.Houses}
use Rattle.leaf_list.specs.Parts.{entries_in, HasLeaf, with_entries, with_leaf}
use Rattle.leaf_list.proofs.Cutting.{times-append}
use Rattle.leaf_list.proofs.Changing.{own-changed, other-changed}
use Rattle.leaf_list.proofs.Splitting.{own-with, new-with, none-changed}
use Rattle.leaf_list.proofs.Entering.{grown, put-entries, put-ordered, put-own, put-others, times-insert, length-insert}

module _ {K : Type 0} where
  -- the entries of leaves, where one is split
  pub split-flat : (ls : List (Leaf K)) (n m at : ℕ) → entries_of (with_leaf (with_entries ls n (take at (entries_in ls n))) n (record { number = m; entries = drop at (entries_in ls n) })) ≡ entries_of ls
  split-flat [] n m at = refl
  split-flat (l ∷ ls) n m at = elim (eqb_tells l.number n) [
    | inl same ↦ rw (same.0, same.0)
        (sym (append_assoc (take at l.entries) (drop at l.entries) (entries_of ls)) ∙ ap (λ (es : List (K × ℕ)). es ++ entries_of ls) (take-append-drop at l.entries))
    | inr other ↦ rw (other.0, other.0) (ap (λ (es : List (K × ℕ)). l.entries ++ es) (split-flat ls n m at))
  ]

  -- a place in the first part
  pub split-position : (ls : List (Leaf K)) (n m at q : ℕ) → position (with_leaf (with_entries ls n (take at (entries_in ls n))) n (record { number = m; entries = drop at (entries_in ls n) })) (Some (n, q))
      ≡ position ls (Some (n, q))
  split-position [] n m at q = refl
  split-position (l ∷ ls) n m at q = elim (eqb_tells l.number n) [
    | inl same ↦ rw (same.0, same.0, same.0) refl
    | inr other ↦ rw (other.0, other.0, other.0) (ap (λ (p : ℕ). length l.entries + p) (split-position ls n m at q))
  ]

  -- and in the second one
  pub new-position : (ls : List (Leaf K)) (n m at q : ℕ) → HasLeaf ls n → at ≤ length (entries_in ls n) → times_numbered m ls ≡ 0
      → position (with_leaf (with_entries ls n (take at (entries_in ls n))) n (record { number = m; entries = drop at (entries_in ls n) })) (Some (m, q))
      ≡ position ls (Some (n, at + q))
  new-position [] n m at q has within none = absurd (omega arith)
  new-position (l ∷ ls) n m at q has within none = elim (eqb_tells l.number m) [
    | inl same ↦ absurd (omega (arith, rw same.0 at none))
    | inr apart ↦ elim (eqb_tells l.number n) [
      | inl same ↦
          let test = eq-eqb m m refl in
          let size = length-take-le at l.entries (rw same.0 at within) in rw (same.0, same.0, apart.0, test) (omega arith)
      | inr other ↦ rw (other.0, other.0, apart.0)
          (ap (λ (p : ℕ). length l.entries + p) (new-position ls n m at q (rw other.0 at has) (rw other.0 at within) (omega (arith, rw apart.0 at none))))
    ]
  ]

  pub filled-split : (ls : List (Leaf K)) (n m : ℕ) (es fs : List (K × ℕ)) → 16 ≤ length es → 16 ≤ length fs → AreFilled ls
      → AreFilled (with_leaf (with_entries ls n es) n (record { number = m; entries = fs }))
  filled-split [] n m es fs many more filled = tt
  filled-split (l ∷ []) n m es fs many more filled = elim (eqb_tells l.number n) [ inl same ↦ rw (same.0, same.0) (many, tt) | inr other ↦ rw (other.0, other.0) tt ]
  filled-split (l ∷ k ∷ ls) n m es fs many more filled = elim (eqb_tells l.number n) [
    | inl same ↦ rw (same.0, same.0) (many, (more, filled.1))
    | inr other ↦ let rest = filled-split (k ∷ ls) n m es fs many more filled.1 in rw (other.0, other.0) (longer rest)
  ]
    where
      longer : AreFilled (with_leaf (with_entries (k ∷ ls) n es) n (record { number = m; entries = fs })) → AreFilled (l ∷ with_leaf (with_entries (k ∷ ls) n es) n (record { number = m; entries = fs }))
      longer rest = elim (eqb_tells k.number n) [
        | inl is ↦ rw (is.0, is.0) (filled.0, rw (is.0, is.0) at rest)
        | inr is ↦ rw (is.0, is.0) (filled.0, rw (is.0, is.0) at rest)
      ]

  -- a name that is not in the new leaf
  pub leaf_of-split : (ls : List (Leaf K)) (n m at i : ℕ) → times i (drop at (entries_in ls n)) ≡ 0
      → leaf_of (with_leaf (with_entries ls n (take at (entries_in ls n))) n (record { number = m; entries = drop at (entries_in ls n) })) i ≡ leaf_of ls i
  leaf_of-split [] n m at i none = refl
  leaf_of-split (l ∷ ls) n m at i none = elim (eqb_tells l.number n) [
    | inl same ↦
        let gone = rw same.0 at none in
        let sum : times i l.entries ≡ times i (take at l.entries) =
        ap (times i) (sym (take-append-drop at l.entries)) ∙ times-append i (take at l.entries) (drop at l.entries) ∙ ap (λ (c : ℕ). times i (take at l.entries) + c) gone
        ∙ (let end : times i (take at l.entries) + 0 ≡ times i (take at l.entries) = omega arith in end) in
        rw (same.0, same.0, gone, sum) refl
    | inr other ↦ rw (other.0, other.0, leaf_of-split ls n m at i (rw other.0 at none)) refl
  ]

  -- a leaf that is there is read at its number
  pub leaf_at-there : (ls : List (Leaf K)) (n : ℕ) → HasLeaf ls n → leaf_at ls n ≡ Some (entries_in ls n)
  leaf_at-there [] n has = absurd (omega arith)
  leaf_at-there (l ∷ ls) n has = elim (eqb_tells l.number n) [
    | inl same ↦ rw same.0 refl
    | inr other ↦ rw other.0 (leaf_at-there ls n (rw other.0 at has))
  ]

  -- and so are its entries
  pub leaf-entry : (ls : List (Leaf K)) (n at : ℕ) (es : List (K × ℕ)) → leaf_at ls n ≡ Some es → entry_at ls (n, at) ≡ slice_get es at
  leaf-entry [] n at es is = absurd (cc)
  leaf-entry (l ∷ ls) n at es is = elim (eqb_tells l.number n) [
    | inl same ↦
        let own : Some l.entries ≡ Some es = rw same.0 at is in
        let entries : l.entries ≡ es = cc in rw same.0 (ap (λ (xs : List (K × ℕ)). slice_get xs at) entries)
    | inr other ↦ rw other.0 (leaf-entry ls n at es (rw other.0 at is))
  ]

  -- no name of a leaf that has moved whole
  pub none-there : (ls : List (Leaf K)) (m i size : ℕ) → HasLeaf ls m → length (entries_in ls m) ≡ size → has_moved ls (Some (m, (0, size))) i ≡ false → times i (entries_in ls m) ≡ 0
  none-there ls m i size has is outside =
      let here = leaf_at-there ls m has in
      let all : take (size - 0) (drop 0 (entries_in ls m)) ≡ entries_in ls m = take_all (size - 0) (entries_in ls m) (omega arith) in
      let out : nat_lt 0 (times i (entries_in ls m)) ≡ false = sym (ap (λ (es : List (K × ℕ)). nat_lt 0 (times i es)) all)
      ∙ sym (ap (λ (es : Option (List (K × ℕ))). is_within es (0, size) i) here) ∙ outside in
      grind (arith, common_steps)

-- a full leaf is split in the middle, and an entry put at the place of its key
module _ {K : Type 0} (cmp : K → K → Ordering) (total : IsTotalOrder cmp) (ls : List (Leaf K)) (ordered : AreOrdered cmp ls) (n m at : ℕ) (x : K × ℕ) (full : length (entries_in ls n) ≡ 32)
    (within : at ≤ length (entries_in ls n)) (fresh : times_numbered m ls ≡ 0) (other : m ≢ n) (room : ℕ) (free : IsFree (record { leaves = ls; room = room }) x.1)
    (point : IsPartitionPoint (λ e. is_passed true (cmp x.0 e.0) ≡ true) (λ e. is_passed true (cmp x.0 e.0) ≡ false) (entries_of ls) (position ls (Some (n, at)))) where
  abbrev pub parts : List (Leaf K)
  parts = with_leaf (with_entries ls n (take 16 (entries_in ls n))) n (record { number = m; entries = drop 16 (entries_in ls n) })

  has : HasLeaf ls n
  has = omega arith

  pub first-part : entries_in parts n ≡ take 16 (entries_in ls n)
  first-part = own-with (with_entries ls n (take 16 (entries_in ls n))) n (record { number = m; entries = drop 16 (entries_in ls n) }) ∙ own-changed ls n (take 16 (entries_in ls n)) has

  pub first-size : length (entries_in parts n) ≡ 16
  first-size = ap length first-part ∙ length-take-le 16 (entries_in ls n) (omega arith)

  pub second-part : entries_in parts m ≡ drop 16 (entries_in ls n)
  second-part =
      let own = own-changed ls n (take 16 (entries_in ls n)) has in
      let size = ap length own in
      let part = length-take-le 16 (entries_in ls n) (omega arith) in
      new-with (with_entries ls n (take 16 (entries_in ls n))) n m (drop 16 (entries_in ls n)) (omega arith) (none-changed ls n m (take 16 (entries_in ls n)) ∙ fresh)

  pub second-size : length (entries_in parts m) ≡ 16
  second-size = let size = ap length second-part in omega (arith, length-drop 16 (entries_in ls n))

  flat : entries_of parts ≡ entries_of ls
  flat = split-flat ls n m 16

  pub parts-ordered : AreOrdered cmp parts
  parts-ordered = record {
    sorted = subst (AreSorted cmp) (sym flat) ordered.sorted;
    distinct = λ i. let once = ordered.distinct i in let same = ap (times i) flat in omega arith;
    positive = ap (times 0) flat ∙ ordered.positive;
    filled = filled-split ls n m (take 16 (entries_in ls n)) (drop 16 (entries_in ls n)) (let part = length-take-le 16 (entries_in ls n) (omega arith) in omega arith)
        (let part = length-drop 16 (entries_in ls n) in omega arith) ordered.filled;
  }

  pub parts-free : IsFree (record { leaves = parts; room = room }) x.1
  parts-free = record { positive = free.positive; unused = ap (times x.1) flat ∙ free.unused }

  -- in the first part
  module _ (low : at ≤ 16) where
    pub low-within : at ≤ length (entries_in parts n)
    low-within = let size = first-size in omega arith

    pub low-has : HasLeaf parts n
    low-has = let size = first-size in omega arith

    pub low-point : IsPartitionPoint (λ e. is_passed true (cmp x.0 e.0) ≡ true) (λ e. is_passed true (cmp x.0 e.0) ≡ false) (entries_of parts) (position parts (Some (n, at)))
    low-point = rw (flat, split-position ls n m 16 at) point

    abbrev pub low_grown : List (Leaf K)
    low_grown = grown cmp total parts parts-ordered n at x low-has low-within room parts-free low-point

    pub low-entries : entries_of low_grown ≡ put_behind cmp x (entries_of ls)
    low-entries = put-entries cmp total parts parts-ordered n at x low-has low-within room parts-free low-point ∙ ap (put_behind cmp x) flat

    pub low-ordered : AreOrdered cmp low_grown
    low-ordered = put-ordered cmp total parts parts-ordered n at x low-has low-within room parts-free low-point

    pub low-houses : Houses (record { leaves = ls; room = room }) (record { leaves = low_grown; room = room }) x.1 (Some n) (Some (m, (0, 16)))
    low-houses = record {
      own = put-own cmp total parts parts-ordered n at x low-has low-within room parts-free low-point;
      others = λ i apart unmoved.
          let kept = other-kept in
          let size = ap length kept in
          let part = second-size in
          let none = none-there low_grown m i 16 (omega arith) (omega arith) unmoved in
          let gone : times i (drop 16 (entries_in ls n)) ≡ 0 = ap (times i) (sym (kept ∙ second-part)) ∙ none in
          put-others cmp total parts parts-ordered n at x low-has low-within room parts-free low-point i apart ∙ leaf_of-split ls n m 16 i gone;
      stretch = there;
      room = refl;
    }
      where
        other-kept : entries_in low_grown m ≡ entries_in parts m
        other-kept = other-changed parts n m (insert (entries_in parts n) at x) (λ same. other (sym same))

        there : IsSomeAnd (leaf_at low_grown m) (λ es. 16 ≤ length es)
        there =
            let size = ap length other-kept in
            let part = second-size in
            let here = leaf_at-there low_grown m (omega arith) in rw here (omega arith)

  -- in the second part
  module _ (high : 16 < at) where
    pub high-within : at - 16 ≤ length (entries_in parts m)
    high-within = let size = second-size in omega arith

    pub high-has : HasLeaf parts m
    high-has = let size = second-size in omega arith

    pub high-point : IsPartitionPoint (λ e. is_passed true (cmp x.0 e.0) ≡ true) (λ e. is_passed true (cmp x.0 e.0) ≡ false) (entries_of parts) (position parts (Some (m, at - 16)))
    high-point =
        let place : 16 + (at - 16) ≡ at = omega arith in
        let same : position parts (Some (m, at - 16)) ≡ position ls (Some (n, at)) =
        new-position ls n m 16 (at - 16) has (omega arith) fresh ∙ ap (λ (q : ℕ). position ls (Some (n, q))) place in
        rw (flat, same) point

    abbrev pub high_grown : List (Leaf K)
    high_grown = grown cmp total parts parts-ordered m (at - 16) x high-has high-within room parts-free high-point

    pub high-entries : entries_of high_grown ≡ put_behind cmp x (entries_of ls)
    high-entries = put-entries cmp total parts parts-ordered m (at - 16) x high-has high-within room parts-free high-point ∙ ap (put_behind cmp x) flat

    pub high-ordered : AreOrdered cmp high_grown
    high-ordered = put-ordered cmp total parts parts-ordered m (at - 16) x high-has high-within room parts-free high-point

    high-own : entries_in high_grown m ≡ insert (entries_in parts m) (at - 16) x
    high-own = own-changed parts m (insert (entries_in parts m) (at - 16) x) high-has

    high-size : length (entries_in high_grown m) ≡ 17
    high-size =
        let size = ap length high-own in let one = length-insert (entries_in parts m) (at - 16) x high-within in let part = second-size in omega arith

    pub high-houses : Houses (record { leaves = ls; room = room }) (record { leaves = high_grown; room = room }) x.1 (Some m) (Some (m, (0, 17)))
    high-houses = record {
      own = put-own cmp total parts parts-ordered m (at - 16) x high-has high-within room parts-free high-point;
      others = λ i apart unmoved.
          let size = high-size in
          let none = none-there high_grown m i 17 (omega arith) size unmoved in
          let count = ap (times i) high-own in
          let more = times-insert i (entries_in parts m) (at - 16) x high-within in
          let same = ap (times i) second-part in
          put-others cmp total parts parts-ordered m (at - 16) x high-has high-within room parts-free high-point i apart ∙ leaf_of-split ls n m 16 i (omega arith);
      stretch = let size = high-size in let here = leaf_at-there high_grown m (omega arith) in rw here (omega arith);
      room = refl;
    }
