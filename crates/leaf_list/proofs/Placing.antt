-- Entries by their places, and leaves by their neighbours.
use Rattle.std.proofs.Common.{◌≡◌, ℕ, zero, suc, ◌+◌, ◌<◌, ◌≤◌, true, nat_lt, List, [], ◌∷◌, ◌++◌, length, Option, Some, None, IsSome, slice_get, arith, ap, sym, subst, ◌∙◌, refl, length-append, inl, inr}
use Rattle.std.specs.{List.All, List.AllByRecursion}
use Rattle.std.proofs.lemmas.Grind.{common_steps}
use Rattle.std.proofs.lemmas.Bool.{eq-eqb, cases_lt, Decides.eqb_tells}
use Rattle.std.proofs.lemmas.List.{Elements.recursion_from_All}
use Rattle.leaf_list.specs.Leaves.{Leaf, entries_of, times, leaf_of, times_numbered, AreApart}
use Rattle.leaf_list.specs.Place.{entry_at, position}
use Rattle.leaf_list.specs.Parts.{entries_in, with_entries, first_number, last_number, number_after, number_before}
use Rattle.leaf_list.proofs.Cutting.{CutAt, times-append, entries-cut, entry_at-entries, entries_in-cut, with_entries-cut, times_numbered-append}

module _ {X : Type 0} where
  pub slice_get-within : (xs : List X) (at : ℕ) → IsSome (slice_get xs at) → at < length xs
  slice_get-within [] at some = absurd (cc)
  slice_get-within (x ∷ xs) zero some = omega arith
  slice_get-within (x ∷ xs) (suc at) some = let rest = slice_get-within xs at some in omega arith

  pub slice_get-some : (xs : List X) (at : ℕ) → at < length xs → IsSome (slice_get xs at)
  slice_get-some [] at within = absurd (omega arith)
  slice_get-some (x ∷ xs) zero within = refl
  slice_get-some (x ∷ xs) (suc at) within = slice_get-some xs at (omega arith)

  get-left : (xs ys : List X) (at : ℕ) (x : X) → slice_get xs at ≡ Some x → slice_get (xs ++ ys) at ≡ Some x
  get-left [] ys at x is = absurd (cc)
  get-left (z ∷ xs) ys zero x is = is
  get-left (z ∷ xs) ys (suc at) x is = get-left xs ys at x is

  get-right : (xs ys : List X) (at : ℕ) → slice_get (xs ++ ys) (length xs + at) ≡ slice_get ys at
  get-right [] ys at = let place : length {A = X} [] + at ≡ at = omega arith in ap (slice_get ys) place
  get-right (x ∷ xs) ys at =
      let place : length (x ∷ xs) + at ≡ suc (length xs + at) = omega arith in
      ap (slice_get (x ∷ xs ++ ys)) place ∙ get-right xs ys at

  pub of-all : (P : X → Type 0) (xs : List X) (x : X) (ys : List X) → AllByRecursion P (xs ++ x ∷ ys) → P x
  of-all P [] x ys all = all.0
  of-all P (z ∷ xs) x ys all = of-all P xs x ys all.1

module _ {K : Type 0} where
  pub has-leaf : (ls : List (Leaf K)) (n at : ℕ) → IsSome (entry_at ls (n, at)) → at < length (entries_in ls n)
  has-leaf ls n at some = slice_get-within (entries_in ls n) at (subst (λ (o : Option (K × ℕ)). IsSome o) (entry_at-entries ls n at) some)

  pub entry-there : (ls : List (Leaf K)) (n at : ℕ) → at < length (entries_in ls n) → IsSome (entry_at ls (n, at))
  entry-there ls n at within = subst (λ (o : Option (K × ℕ)). IsSome o) (sym (entry_at-entries ls n at)) (slice_get-some (entries_in ls n) at within)

  pub entry-position : (ls : List (Leaf K)) (p : ℕ × ℕ) (e : K × ℕ) → entry_at ls p ≡ Some e → slice_get (entries_of ls) (position ls (Some p)) ≡ Some e
  entry-position [] p e is = absurd (cc)
  entry-position (l ∷ ls) p e is = elim (eqb_tells l.number p.0) [
    | inl same ↦ rw same.0 (get-left l.entries (entries_of ls) p.1 e (rw same.0 at is))
    | inr other ↦ rw other.0 (get-right l.entries (entries_of ls) (position ls (Some p)) ∙ entry-position ls p e (rw other.0 at is))
  ]

  pub times-in : (ls : List (Leaf K)) (i n : ℕ) → times i (entries_in ls n) ≤ times i (entries_of ls)
  times-in [] i n = omega arith
  times-in (l ∷ ls) i n =
      let sum = times-append i l.entries (entries_of ls) in
      elim (eqb_tells l.number n) [ inl same ↦ rw same.0 (omega arith) | inr other ↦ let rest = times-in ls i n in rw other.0 (omega arith) ]

  pub unmet : (ls : List (Leaf K)) (n : ℕ) (c : CutAt ls n) → times_numbered c.leaf.number c.front ≡ 0
  unmet ls n c = ap (λ (m : ℕ). times_numbered m c.front) c.number ∙ c.apart

  pub size-at : (ls : List (Leaf K)) (n : ℕ) (c : CutAt ls n) → length (entries_in ls n) ≡ length c.leaf.entries
  size-at ls n c = ap length c.entries

  pub count-at : (ls : List (Leaf K)) (n : ℕ) (c : CutAt ls n) → length (entries_of ls) ≡ length (entries_of c.front) + length c.leaf.entries + length (entries_of c.back)
  count-at ls n c =
      let all = ap length (ap entries_of c.cut ∙ entries-cut c.front c.leaf c.back) in
      omega (arith, all, length-append (entries_of c.front ++ c.leaf.entries) (entries_of c.back), length-append (entries_of c.front) c.leaf.entries)

  pub some-entries : (ls front : List (Leaf K)) (l : Leaf K) (back : List (Leaf K)) → AreApart ls → ls ≡ front ++ l ∷ back → 0 < length l.entries
  some-entries ls front l back apart cut =
      of-all (λ (m : Leaf K). 0 < length m.entries) front l back
      (recursion_from_All (λ (m : Leaf K). 0 < length m.entries) (front ++ l ∷ back) (subst (λ (xs : List (Leaf K)). All (λ (m : Leaf K). 0 < length m.entries) xs) cut apart.some))

  -- the neighbours of a leaf
  after-cut : (l : Leaf K) (back front : List (Leaf K)) → times_numbered l.number front ≡ 0 → number_after (front ++ l ∷ back) l.number ≡ first_number back
  after-cut l back [] apart = grind (arith, common_steps)
  after-cut l back (m ∷ front) apart = let rest = after-cut l back front in grind (arith, common_steps)

  pub after-at : (ls : List (Leaf K)) (n : ℕ) (c : CutAt ls n) → number_after ls n ≡ first_number c.back
  after-at ls n c =
      ap (λ (xs : List (Leaf K)). number_after xs n) c.cut ∙ ap (number_after (c.front ++ c.leaf ∷ c.back)) (sym c.number) ∙ after-cut c.leaf c.back c.front (unmet ls n c)

  abbrev last_from : Option ℕ → List (Leaf K) → Option ℕ
  last_from before [] = before
  last_from before (l ∷ ls) = last_from (Some l.number) ls

  last_from-is : (l : Leaf K) (ls : List (Leaf K)) → last_from (Some l.number) ls ≡ last_number (l ∷ ls)
  last_from-is l [] = refl
  last_from-is l (m ∷ ls) = last_from-is m ls

  last_from-none : (ls : List (Leaf K)) → last_from None ls ≡ last_number ls
  last_from-none [] = refl
  last_from-none (l ∷ ls) = last_from-is l ls

  before-cut : (l : Leaf K) (back : List (Leaf K)) (before : Option ℕ) (front : List (Leaf K)) → times_numbered l.number front ≡ 0
      → number_before before (front ++ l ∷ back) l.number ≡ last_from before front
  before-cut l back before [] apart = grind (arith, common_steps)
  before-cut l back before (m ∷ front) apart = let rest = before-cut l back (Some m.number) front in grind (arith, common_steps)

  pub before-at : (ls : List (Leaf K)) (n : ℕ) (c : CutAt ls n) → number_before None ls n ≡ last_number c.front
  before-at ls n c =
      ap (λ (xs : List (Leaf K)). number_before None xs n) c.cut ∙ ap (number_before None (c.front ++ c.leaf ∷ c.back)) (sym c.number)
      ∙ before-cut c.leaf c.back None c.front (unmet ls n c) ∙ last_from-none c.front

  -- the last leaf of a list
  pub record IsLast (ls : List (Leaf K)) (n : ℕ) : Type 0 where
    pub front : List (Leaf K)
    pub leaf : Leaf K
    pub cut : ls ≡ front ++ leaf ∷ []
    pub number : leaf.number ≡ n

  pub last-of : (ls : List (Leaf K)) (n : ℕ) → last_number ls ≡ Some n → IsLast ls n
  last-of [] n is = absurd (cc)
  last-of (l ∷ []) n is = record { front = []; leaf = l; cut = refl; number = cc }
  last-of (l ∷ m ∷ ls) n is =
      let rest = last-of (m ∷ ls) n is in record { front = l ∷ rest.front; leaf = rest.leaf; cut = ap (λ (xs : List (Leaf K)). l ∷ xs) rest.cut; number = rest.number }

  pub none-last : (front : List (Leaf K)) → last_number front ≡ None → front ≡ []
  none-last [] is = refl
  none-last (l ∷ []) is = absurd (cc)
  none-last (l ∷ m ∷ front) is = absurd (never l m front is)
    where
      never : (l m : Leaf K) (front : List (Leaf K)) → last_number (l ∷ m ∷ front) ≡ None → ⊥
      never l m [] is = cc
      never l m (k ∷ front) is = never m k front is

  -- a position behind the leaves before
  pub position-cut : (l : Leaf K) (back front : List (Leaf K)) (at : ℕ) → times_numbered l.number front ≡ 0
      → position (front ++ l ∷ back) (Some (l.number, at)) ≡ length (entries_of front) + at
  position-cut l back [] at apart = grind (arith, common_steps)
  position-cut l back (m ∷ front) at apart =
      let rest = position-cut l back front at in let size = length-append m.entries (entries_of front) in grind (arith, common_steps)

  pub position-at : (ls : List (Leaf K)) (n at : ℕ) (c : CutAt ls n) → position ls (Some (n, at)) ≡ length (entries_of c.front) + at
  position-at ls n at c =
      ap (λ (xs : List (Leaf K)). position xs (Some (n, at))) c.cut ∙ ap (λ (m : ℕ). position (c.front ++ c.leaf ∷ c.back) (Some (m, at))) (sym c.number)
      ∙ position-cut c.leaf c.back c.front at (unmet ls n c)

  -- a leaf of leaves that are apart, by a cut
  pub cut-of-apart : (ls front : List (Leaf K)) (l : Leaf K) (back : List (Leaf K)) → AreApart ls → ls ≡ front ++ l ∷ back → times_numbered l.number front ≡ 0
  cut-of-apart ls front l back apart cut =
      let once = apart.distinct l.number in
      let all = ap (times_numbered l.number) cut in
      let sum = times_numbered-append l.number front (l ∷ back) in
      let test = eq-eqb l.number l.number refl in
      let own : times_numbered l.number (l ∷ back) ≡ 1 + times_numbered l.number back = rw test refl in omega arith

  abbrev pub cut-of : (ls front : List (Leaf K)) (l : Leaf K) (back : List (Leaf K)) (n : ℕ) → ls ≡ front ++ l ∷ back → l.number ≡ n → times_numbered n front ≡ 0 → CutAt ls n
  cut-of ls front l back n cut number apart = record {
    front = front;
    leaf = l;
    back = back;
    cut = cut;
    number = number;
    apart = apart;
    entries = ap (λ (xs : List (Leaf K)). entries_in xs n) cut ∙ ap (entries_in (front ++ l ∷ back)) (sym number)
        ∙ entries_in-cut l back front (ap (λ (m : ℕ). times_numbered m front) number ∙ apart);
  }

  pub changed-cut : (ls : List (Leaf K)) (n : ℕ) (c : CutAt ls n) (es : List (K × ℕ)) → with_entries ls n es ≡ c.front ++ record c.leaf { entries = es } ∷ c.back
  changed-cut ls n c es =
      ap (λ (xs : List (Leaf K)). with_entries xs n es) c.cut ∙ ap (λ (m : ℕ). with_entries (c.front ++ c.leaf ∷ c.back) m es) (sym c.number)
      ∙ with_entries-cut c.leaf c.back c.front es (unmet ls n c)

  -- the leaf of a name that occurs once
  pub leaf_of-there : (ls : List (Leaf K)) (n i : ℕ) → times i (entries_of ls) ≤ 1 → 1 ≤ times i (entries_in ls n) → leaf_of ls i ≡ Some n
  leaf_of-there [] n i once there = absurd (omega arith)
  leaf_of-there (l ∷ ls) n i once there = elim (eqb_tells l.number n) [
    | inl same ↦
        let own = rw same.0 at there in
        let test : nat_lt 0 (times i l.entries) ≡ true = grind (arith, common_steps) in rw test (ap Some same.1)
    | inr other ↦
        let later = rw other.0 at there in
        let part = times-in ls i n in
        let sum = times-append i l.entries (entries_of ls) in
        let none : times i l.entries ≡ 0 = omega arith in
        rw none (leaf_of-there ls n i (omega arith) later)
  ]

  leaf_of-never : (ls : List (Leaf K)) (n i : ℕ) → times_numbered n ls ≡ 0 → leaf_of ls i ≡ Some n → ⊥
  leaf_of-never [] n i none is = cc
  leaf_of-never (l ∷ ls) n i none is = elim (cases_lt 0 (times i l.entries)) [
    | inl some ↦
        let test : nat_lt 0 (times i l.entries) ≡ true = grind (arith, common_steps) in
        let num : Some l.number ≡ Some n = rw test at is in
        let same : l.number ≡ n = cc in let own = eq-eqb l.number n same in omega (arith, rw own at none)
    | inr few ↦ let zero_of : times i l.entries ≡ 0 = omega arith in leaf_of-never ls n i (omega arith) (rw zero_of at is)
  ]

  -- a name is in its leaf
  pub leaf_of-in : (ls : List (Leaf K)) (n i : ℕ) → leaf_of ls i ≡ Some n → times_numbered n ls ≤ 1 → 1 ≤ times i (entries_in ls n)
  leaf_of-in [] n i is once = absurd (cc)
  leaf_of-in (l ∷ ls) n i is once = elim (cases_lt 0 (times i l.entries)) [
    | inl some ↦
        let test : nat_lt 0 (times i l.entries) ≡ true = grind (arith, common_steps) in
        let num : Some l.number ≡ Some n = rw test at is in
        let same : l.number ≡ n = cc in let own = eq-eqb l.number n same in rw own (omega arith)
    | inr few ↦
        let zero_of : times i l.entries ≡ 0 = omega arith in
        let later = rw zero_of at is in
        elim (eqb_tells l.number n) [
          | inl same ↦ absurd (leaf_of-never ls n i (omega (arith, rw same.0 at once)) later)
          | inr other ↦ rw other.0 (leaf_of-in ls n i later (omega (arith, rw other.0 at once)))
        ]
  ]
