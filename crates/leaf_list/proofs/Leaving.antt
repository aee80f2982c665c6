-- Lists of leaves with one entry less.
use Rattle.std.proofs.Common.{◌≡◌, ◌≢◌, ℕ, zero, suc, ◌+◌, ◌-◌, ◌==◌, ◌<◌, ◌≤◌, false, nat_lt, if◌then◌else◌, List, [], ◌∷◌, ◌++◌, length, take, drop, slice_get, Option, Some, None, arith, ap, sym, subst, ◌∙◌, refl, length-append, append_assoc, inl, inr}
use Rattle.std.specs.{List.AllByRecursion, List.remove}
use Rattle.std.specs.declared.cmp.Ordering.{Ordering, TheVariants.Greater}
use Rattle.std.proofs.lemmas.Grind.{common_steps}
use Rattle.std.proofs.lemmas.Bool.{eq-eqb, cases_lt, Decides.eqb_tells}
use Rattle.std.proofs.lemmas.List.{append-nil, nil_from_length, take-append-drop, take_all, length-drop, length-take-le, Elements.All-from_recursion, Elements.recursion_from_All}
use Rattle.leaf_list.specs.Leaves.{Leaf, Leaves, entries_of, times, without, leaf_at, leaf_of, times_numbered, AreFilled, AreSorted, AreOrdered, AreApart}
use Rattle.leaf_list.specs.{House.has_moved, House.is_within, House.Houses}
use Rattle.leaf_list.specs.Parts.{entries_in, HasLeaf, with_entries, without_leaf, first_number, number_after}
use Rattle.leaf_list.proofs.Cutting.{CutAt, cut-at, times-append, entries-append, entries-cut, entries_in-cut, with_entries-cut, without_leaf-cut, leaf_at-cut, times_numbered-append}
use Rattle.leaf_list.proofs.Changing.{own-changed, changed-twice}
use Rattle.leaf_list.proofs.Placing.{after-at, size-at, unmet, some-entries, changed-cut, cut-of}
use Rattle.leaf_list.proofs.Entering.{leaf_of-changed, own-name, other-name}

module _ {K : Type 0} where
  -- a list cut at one of its entries
  pub record IsRemoved (es : List (K × ℕ)) (at : ℕ) (x : K × ℕ) : Type 0 where
    pub front : List (K × ℕ)
    pub back : List (K × ℕ)
    pub cut : es ≡ front ++ x ∷ back
    pub rest : remove es at ≡ front ++ back

  pub removed-cut : (es : List (K × ℕ)) (at : ℕ) (x : K × ℕ) → slice_get es at ≡ Some x → IsRemoved es at x
  removed-cut [] at x is = absurd (cc)
  removed-cut (e ∷ es) zero x is = let own : e ≡ x = cc in record { front = []; back = es; cut = ap (λ (y : K × ℕ). y ∷ es) own; rest = refl }
  removed-cut (e ∷ es) (suc at) x is =
      let later = removed-cut es at x is in record {
        front = e ∷ later.front;
        back = later.back;
        cut = ap (λ (l : List (K × ℕ)). e ∷ l) later.cut;
        rest = ap (λ (l : List (K × ℕ)). e ∷ l) later.rest;
      }

  pub times-cut : (i : ℕ) (front : List (K × ℕ)) (x : K × ℕ) (back : List (K × ℕ))
      → times i (front ++ x ∷ back) ≡ (if x.1 == i then 1 else 0) + times i (front ++ back)
  times-cut i front x back = let whole = times-append i front (x ∷ back) in let rest = times-append i front back in omega arith

  pub times-removed : (i : ℕ) (es : List (K × ℕ)) (at : ℕ) (x : K × ℕ) → slice_get es at ≡ Some x → times i es ≡ (if x.1 == i then 1 else 0) + times i (remove es at)
  times-removed i es at x is =
      let c = removed-cut es at x is in
      ap (times i) c.cut ∙ times-cut i c.front x c.back ∙ ap (λ (l : List (K × ℕ)). (if x.1 == i then 1 else 0) + times i l) (sym c.rest)

  pub length-removed : (es : List (K × ℕ)) (at : ℕ) (x : K × ℕ) → slice_get es at ≡ Some x → length (remove es at) + 1 ≡ length es
  length-removed es at x is =
      let c = removed-cut es at x is in
      let all = ap length c.cut in
      let rest = ap length c.rest in omega (arith, length-append c.front (x ∷ c.back), length-append c.front c.back)

  pub without-cut : (front : List (K × ℕ)) (x : K × ℕ) (back : List (K × ℕ)) → times x.1 front ≡ 0 → without x.1 (front ++ x ∷ back) ≡ front ++ back
  without-cut [] x back none = let test = eq-eqb x.1 x.1 refl in rw test refl
  without-cut (e ∷ front) x back none = elim (eqb_tells e.1 x.1) [
    | inl same ↦ absurd (omega (arith, rw same.0 at none))
    | inr other ↦ rw other.0 (ap (λ (l : List (K × ℕ)). e ∷ l) (without-cut front x back (omega (arith, rw other.0 at none))))
  ]

  -- a name that occurs in no leaf
  pub leaf_of-none : (ls : List (Leaf K)) (i : ℕ) → times i (entries_of ls) ≡ 0 → leaf_of ls i ≡ None
  leaf_of-none [] i none = refl
  leaf_of-none (l ∷ ls) i none =
      let sum = times-append i l.entries (entries_of ls) in
      let own : times i l.entries ≡ 0 = omega arith in
      rw own (leaf_of-none ls i (omega arith))

  -- leaves that stay filled
  pub filled-shrunk : (front : List (Leaf K)) (l m : Leaf K) (back : List (Leaf K)) → 16 ≤ length m.entries → AreFilled (front ++ l ∷ back) → AreFilled (front ++ m ∷ back)
  filled-shrunk [] l m [] many filled = tt
  filled-shrunk [] l m (b ∷ back) many filled = (many, filled.1)
  filled-shrunk (f ∷ []) l m back many filled = (filled.0, filled-shrunk [] l m back many filled.1)
  filled-shrunk (f ∷ g ∷ front) l m back many filled = (filled.0, filled-shrunk (g ∷ front) l m back many filled.1)

  pub filled-last : (front : List (Leaf K)) (l m : Leaf K) → AreFilled (front ++ l ∷ []) → AreFilled (front ++ m ∷ [])
  filled-last [] l m filled = tt
  filled-last (f ∷ []) l m filled = (filled.0, tt)
  filled-last (f ∷ g ∷ front) l m filled = (filled.0, filled-last (g ∷ front) l m filled.1)

  pub filled-closed : (front : List (Leaf K)) (l : Leaf K) → AreFilled (front ++ l ∷ []) → AreFilled (front ++ [])
  filled-closed [] l filled = tt
  filled-closed (f ∷ []) l filled = tt
  filled-closed (f ∷ g ∷ front) l filled = (filled.0, filled-closed (g ∷ front) l filled.1)

  pub filled-joined : (front : List (Leaf K)) (l k m : Leaf K) (back : List (Leaf K)) → 16 ≤ length m.entries → AreFilled (front ++ l ∷ k ∷ back) → AreFilled (front ++ m ∷ back)
  filled-joined [] l k m [] many filled = tt
  filled-joined [] l k m (b ∷ back) many filled = (many, filled.1.1)
  filled-joined (f ∷ []) l k m back many filled = (filled.0, filled-joined [] l k m back many filled.1)
  filled-joined (f ∷ g ∷ front) l k m back many filled = (filled.0, filled-joined (g ∷ front) l k m back many filled.1)

  pub filled-shared : (front : List (Leaf K)) (l k m o : Leaf K) (back : List (Leaf K)) → 16 ≤ length m.entries → 16 ≤ length o.entries → AreFilled (front ++ l ∷ k ∷ back)
      → AreFilled (front ++ m ∷ o ∷ back)
  filled-shared [] l k m o [] many more filled = (many, tt)
  filled-shared [] l k m o (b ∷ back) many more filled = (many, (more, filled.1.1))
  filled-shared (f ∷ []) l k m o back many more filled = (filled.0, filled-shared [] l k m o back many more filled.1)
  filled-shared (f ∷ g ∷ front) l k m o back many more filled = (filled.0, filled-shared (g ∷ front) l k m o back many more filled.1)

  pub filled-here : (front : List (Leaf K)) (l : Leaf K) (back : List (Leaf K)) → AreFilled (front ++ l ∷ back) → length l.entries < 16 → back ≡ []
  filled-here [] l [] filled few = refl
  filled-here [] l (b ∷ back) filled few = absurd (omega (arith, filled.0))
  filled-here (f ∷ []) l back filled few = filled-here [] l back filled.1 few
  filled-here (f ∷ g ∷ front) l back filled few = filled-here (g ∷ front) l back filled.1 few

  -- a name that stays where it is
  pub leaf_of-closed : (front : List (Leaf K)) (l : Leaf K) (back : List (Leaf K)) (i : ℕ) → times i l.entries ≡ 0 → leaf_of (front ++ back) i ≡ leaf_of (front ++ l ∷ back) i
  leaf_of-closed [] l back i none = rw none refl
  leaf_of-closed (x ∷ front) l back i none = rw (leaf_of-closed front l back i none) refl

  pub leaf_of-joined : (front : List (Leaf K)) (l k m : Leaf K) (back : List (Leaf K)) (i : ℕ) → m.number ≡ l.number → times i m.entries ≡ times i l.entries → times i k.entries ≡ 0
      → leaf_of (front ++ m ∷ back) i ≡ leaf_of (front ++ l ∷ k ∷ back) i
  leaf_of-joined [] l k m back i same e none = rw (e, same, none) refl
  leaf_of-joined (x ∷ front) l k m back i same e none = rw (leaf_of-joined front l k m back i same e none) refl

  pub leaf_of-shared : (front : List (Leaf K)) (l k m o : Leaf K) (back : List (Leaf K)) (i : ℕ) → m.number ≡ l.number → times i m.entries ≡ times i l.entries
      → o.number ≡ k.number → times i o.entries ≡ times i k.entries → leaf_of (front ++ m ∷ o ∷ back) i ≡ leaf_of (front ++ l ∷ k ∷ back) i
  leaf_of-shared [] l k m o back i same e others f = rw (e, same, f, others) refl
  leaf_of-shared (x ∷ front) l k m o back i same e others f = rw (leaf_of-shared front l k m o back i same e others f) refl

-- the order of the keys
module _ {K : Type 0} (cmp : K → K → Ordering) where
  all-cut : (P : K × ℕ → Type 0) (front : List (K × ℕ)) (x : K × ℕ) (back : List (K × ℕ)) → AllByRecursion P (front ++ x ∷ back) → AllByRecursion P (front ++ back)
  all-cut P [] x back all = all.1
  all-cut P (e ∷ front) x back all = (all.0, all-cut P front x back all.1)

  pub sorted-cut : (front : List (K × ℕ)) (x : K × ℕ) (back : List (K × ℕ)) → AreSorted cmp (front ++ x ∷ back) → AreSorted cmp (front ++ back)
  sorted-cut [] x back sorted = sorted.1
  sorted-cut (e ∷ front) x back sorted = (
    All-from_recursion (λ f. cmp e.0 f.0 ≢ Greater) (front ++ back)
        (all-cut (λ f. cmp e.0 f.0 ≢ Greater) front x back (recursion_from_All (λ f. cmp e.0 f.0 ≢ Greater) (front ++ x ∷ back) sorted.0)),
    sorted-cut front x back sorted.1,
  )

  -- a removal from a list
  pub ordered-cut : (ls ms : List (Leaf K)) (front : List (K × ℕ)) (x : K × ℕ) (back : List (K × ℕ)) → AreOrdered cmp ls → entries_of ls ≡ front ++ x ∷ back
      → entries_of ms ≡ front ++ back → AreFilled ms → AreOrdered cmp ms
  ordered-cut ls ms front x back ordered cut flat filled = record {
    sorted = subst (AreSorted cmp) (sym flat) (sorted-cut front x back (subst (AreSorted cmp) cut ordered.sorted));
    distinct = λ i. let once = ordered.distinct i in let all = ap (times i) cut ∙ times-cut i front x back in let rest = ap (times i) flat in omega arith;
    positive = let none = ordered.positive in let all = ap (times 0) cut ∙ times-cut 0 front x back in let rest = ap (times 0) flat in omega arith;
    filled = filled;
  }

-- an entry is taken out of a leaf
module _ {K : Type 0} (cmp : K → K → Ordering) (ls : List (Leaf K)) (ordered : AreOrdered cmp ls) (apart : AreApart ls) (n at : ℕ) (x : K × ℕ)
    (taken : slice_get (entries_in ls n) at ≡ Some x) (room : ℕ) where
  -- what a removal makes of the leaves
  pub record IsLeft (ms : List (Leaf K)) (moved : Option (ℕ × (ℕ × ℕ))) : Type 0 where
    pub entries : entries_of ms ≡ without x.1 (entries_of ls)
    pub order : AreOrdered cmp ms
    pub houses : Houses (record { leaves = ls; room = room }) (record { leaves = ms; room = room }) x.1 None moved

  abbrev pub rest : List (K × ℕ)
  rest = remove (entries_in ls n) at

  pub some-there : 0 < length (entries_in ls n)
  some-there = let size = length-removed (entries_in ls n) at x taken in omega arith

  pub rest-size : length rest + 1 ≡ length (entries_in ls n)
  rest-size = length-removed (entries_in ls n) at x taken

  -- the leaves without the entry, as a cut
  module _ (c : CutAt ls n) where
    r : IsRemoved (entries_in ls n) at x
    r = removed-cut (entries_in ls n) at x taken

    whole : entries_of ls ≡ (entries_of c.front ++ r.front) ++ x ∷ (r.back ++ entries_of c.back)
    whole =
        ap entries_of c.cut ∙ entries-cut c.front c.leaf c.back ∙ ap (λ (es : List (K × ℕ)). (entries_of c.front ++ es) ++ entries_of c.back) (sym c.entries ∙ r.cut)
        ∙ ap (λ (es : List (K × ℕ)). es ++ entries_of c.back) (sym (append_assoc (entries_of c.front) r.front (x ∷ r.back)))
        ∙ append_assoc (entries_of c.front ++ r.front) (x ∷ r.back) (entries_of c.back)

    less : (entries_of c.front ++ rest) ++ entries_of c.back ≡ (entries_of c.front ++ r.front) ++ (r.back ++ entries_of c.back)
    less =
        ap (λ (es : List (K × ℕ)). (entries_of c.front ++ es) ++ entries_of c.back) r.rest
        ∙ ap (λ (es : List (K × ℕ)). es ++ entries_of c.back) (sym (append_assoc (entries_of c.front) r.front r.back))
        ∙ append_assoc (entries_of c.front ++ r.front) r.back (entries_of c.back)

    module _ (ms : List (Leaf K)) (flat : entries_of ms ≡ (entries_of c.front ++ rest) ++ entries_of c.back) where
      pub left-ordered : AreFilled ms → AreOrdered cmp ms
      left-ordered filled = ordered-cut cmp ls ms (entries_of c.front ++ r.front) x (r.back ++ entries_of c.back) ordered whole (flat ∙ less) filled

      none-before : times x.1 (entries_of c.front ++ r.front) ≡ 0
      none-before =
          let once = ordered.distinct x.1 in
          let all = ap (times x.1) whole in
          let sum = times-append x.1 (entries_of c.front ++ r.front) (x ∷ (r.back ++ entries_of c.back)) in
          let one = own-name x in omega arith

      pub left-entries : entries_of ms ≡ without x.1 (entries_of ls)
      left-entries = flat ∙ less ∙ sym (ap (without x.1) whole ∙ without-cut (entries_of c.front ++ r.front) x (r.back ++ entries_of c.back) none-before)

      pub left-own : leaf_of ms x.1 ≡ None
      left-own =
          let once = ordered.distinct x.1 in
          let all = ap (times x.1) whole in
          let sum = times-cut x.1 (entries_of c.front ++ r.front) x (r.back ++ entries_of c.back) in
          let one = own-name x in
          let same = ap (times x.1) (flat ∙ less) in
          leaf_of-none ms x.1 (omega arith)

    times-rest : (i : ℕ) → i ≢ x.1 → times i rest ≡ times i c.leaf.entries
    times-rest i other =
        let count = times-removed i (entries_in ls n) at x taken in let none = other-name x i other in let same = ap (times i) c.entries in omega arith

    -- the leaf has the other entries
    abbrev shorter : Leaf K
    shorter = record c.leaf { entries = rest }

    left-in : AreFilled (c.front ++ shorter ∷ c.back) → IsLeft (c.front ++ shorter ∷ c.back) None
    left-in filled =
        let flat = entries-cut c.front shorter c.back in record {
          entries = left-entries (c.front ++ shorter ∷ c.back) flat;
          order = left-ordered (c.front ++ shorter ∷ c.back) flat filled;
          houses = record {
            own = left-own (c.front ++ shorter ∷ c.back) flat;
            others = λ i other unmoved. leaf_of-changed c.front c.leaf shorter c.back i refl (times-rest i other) ∙ ap (λ (xs : List (Leaf K)). leaf_of xs i) (sym c.cut);
            stretch = tt;
            room = refl;
          };
        }

    -- it had no other entry
    left-out : length (entries_in ls n) ≡ 1 → IsLeft (c.front ++ c.back) None
    left-out one =
        let size = rest-size in
        let nil : rest ≡ [] = nil_from_length rest (omega arith) in
        let few = size-at ls n c in
        let last = filled-here c.front c.leaf c.back (subst AreFilled c.cut ordered.filled) (omega arith) in
        let flat : entries_of (c.front ++ c.back) ≡ (entries_of c.front ++ rest) ++ entries_of c.back =
        entries-append c.front c.back ∙ ap (λ (es : List (K × ℕ)). es ++ entries_of c.back) (sym (append-nil (entries_of c.front)) ∙ ap (λ (es : List (K × ℕ)). entries_of c.front ++ es) (sym nil)) in
        let filled : AreFilled (c.front ++ c.back) =
        subst (λ (xs : List (Leaf K)). AreFilled (c.front ++ xs)) (sym last)
        (filled-closed c.front c.leaf (subst (λ (xs : List (Leaf K)). AreFilled (c.front ++ c.leaf ∷ xs)) last (subst AreFilled c.cut ordered.filled))) in record {
          entries = left-entries (c.front ++ c.back) flat;
          order = left-ordered (c.front ++ c.back) flat filled;
          houses = record {
            own = left-own (c.front ++ c.back) flat;
            others = λ i other unmoved.
                let none = times-rest i other in
                let empty = ap (times i) nil in
                leaf_of-closed c.front c.leaf c.back i (omega arith) ∙ ap (λ (xs : List (Leaf K)). leaf_of xs i) (sym c.cut);
            stretch = tt;
            room = refl;
          };
        }

    -- entries of the next leaf come behind the others: all of them, or some
    module _ (k : Leaf K) (back : List (Leaf K)) (next : c.back ≡ k ∷ back) where
      cut-next : ls ≡ c.front ++ c.leaf ∷ k ∷ back
      cut-next = c.cut ∙ ap (λ (xs : List (Leaf K)). c.front ++ c.leaf ∷ xs) next

      abbrev longer : List (K × ℕ) → Leaf K
      longer fs = record c.leaf { entries = rest ++ fs }

      none-moved : (ms : List (Leaf K)) (fs : List (K × ℕ)) (i : ℕ) → leaf_at ms n ≡ Some (rest ++ fs)
          → has_moved ms (Some (n, (length rest, length rest + length fs))) i ≡ false → times i fs ≡ 0
      none-moved ms fs i at_home outside =
          let size : length rest + length fs - length rest ≡ length fs = omega arith in
          let part : take (length rest + length fs - length rest) (drop (length rest) (rest ++ fs)) ≡ fs =
          ap (λ (j : ℕ). take j (drop (length rest) (rest ++ fs))) size ∙ ap (take (length fs)) (drop-front rest fs) ∙ take_all (length fs) fs (omega arith) in
          let out : nat_lt 0 (times i fs) ≡ false = sym (ap (λ (l : List (K × ℕ)). nat_lt 0 (times i l)) part)
          ∙ sym (ap (λ (o : Option (List (K × ℕ))). is_within o (length rest, length rest + length fs) i) at_home) ∙ outside in
          grind (arith, common_steps)
        where
          drop-front : (xs ys : List (K × ℕ)) → drop (length xs) (xs ++ ys) ≡ ys
          drop-front [] ys = refl
          drop-front (y ∷ xs) ys = drop-front xs ys

      at-home : (fs : List (K × ℕ)) (others : List (Leaf K)) → leaf_at (c.front ++ longer fs ∷ others) n ≡ Some (rest ++ fs)
      at-home fs others = ap (leaf_at (c.front ++ longer fs ∷ others)) (sym c.number) ∙ leaf_at-cut (longer fs) others c.front (unmet ls n c)

      left-joined : 15 ≤ length rest → 0 < length k.entries → IsLeft (c.front ++ longer k.entries ∷ back) (Some (n, (length rest, length rest + length k.entries)))
      left-joined enough some =
          let sum = length-append rest k.entries in
          let flat : entries_of (c.front ++ longer k.entries ∷ back) ≡ (entries_of c.front ++ rest) ++ entries_of c.back =
          entries-cut c.front (longer k.entries) back ∙ ap (λ (es : List (K × ℕ)). es ++ entries_of back) (sym (append_assoc (entries_of c.front) rest k.entries))
          ∙ append_assoc (entries_of c.front ++ rest) k.entries (entries_of back) ∙ ap (λ (xs : List (Leaf K)). (entries_of c.front ++ rest) ++ entries_of xs) (sym next) in
          let filled = filled-joined c.front c.leaf k (longer k.entries) back (omega arith) (subst AreFilled cut-next ordered.filled) in
          let home = at-home k.entries back in record {
            entries = left-entries (c.front ++ longer k.entries ∷ back) flat;
            order = left-ordered (c.front ++ longer k.entries ∷ back) flat filled;
            houses = record {
              own = left-own (c.front ++ longer k.entries ∷ back) flat;
              others = λ i other unmoved.
                  let none = none-moved (c.front ++ longer k.entries ∷ back) k.entries i home unmoved in
                  let count = times-append i rest k.entries in
                  let same = times-rest i other in
                  leaf_of-joined c.front c.leaf k (longer k.entries) back i refl (omega arith) none ∙ ap (λ (xs : List (Leaf K)). leaf_of xs i) (sym cut-next);
              stretch = rw home (omega arith);
              room = refl;
            };
          }

      left-shared : (j : ℕ) → 16 ≤ length rest + j → 16 + j ≤ length k.entries
          → IsLeft (c.front ++ longer (take j k.entries) ∷ record k { entries = drop j k.entries } ∷ back) (Some (n, (length rest, length rest + j)))
      left-shared j enough left =
          let came : length (take j k.entries) ≡ j = length-take-le j k.entries (omega arith) in
          let kept = length-drop j k.entries in
          let sum = length-append rest (take j k.entries) in
          let own : Leaf K = longer (take j k.entries) in
          let other_leaf : Leaf K = record k { entries = drop j k.entries } in
          let flat : entries_of (c.front ++ own ∷ other_leaf ∷ back) ≡ (entries_of c.front ++ rest) ++ entries_of c.back =
          entries-cut c.front own (other_leaf ∷ back)
          ∙ ap (λ (es : List (K × ℕ)). es ++ (drop j k.entries ++ entries_of back)) (sym (append_assoc (entries_of c.front) rest (take j k.entries)))
          ∙ append_assoc (entries_of c.front ++ rest) (take j k.entries) (drop j k.entries ++ entries_of back)
          ∙ ap (λ (es : List (K × ℕ)). (entries_of c.front ++ rest) ++ es) (sym (append_assoc (take j k.entries) (drop j k.entries) (entries_of back)))
          ∙ ap (λ (es : List (K × ℕ)). (entries_of c.front ++ rest) ++ (es ++ entries_of back)) (take-append-drop j k.entries)
          ∙ ap (λ (xs : List (Leaf K)). (entries_of c.front ++ rest) ++ entries_of xs) (sym next) in
          let filled = filled-shared c.front c.leaf k own other_leaf back (omega arith) (omega arith) (subst AreFilled cut-next ordered.filled) in
          let home = at-home (take j k.entries) (other_leaf ∷ back) in
          let parts : (i : ℕ) → times i k.entries ≡ times i (take j k.entries) + times i (drop j k.entries) =
          λ i. ap (times i) (sym (take-append-drop j k.entries)) ∙ times-append i (take j k.entries) (drop j k.entries) in
          subst (λ (u : ℕ). IsLeft (c.front ++ own ∷ other_leaf ∷ back) (Some (n, (length rest, length rest + u)))) came (record {
            entries = left-entries (c.front ++ own ∷ other_leaf ∷ back) flat;
            order = left-ordered (c.front ++ own ∷ other_leaf ∷ back) flat filled;
            houses = record {
              own = left-own (c.front ++ own ∷ other_leaf ∷ back) flat;
              others = λ i other unmoved.
                  let none = none-moved (c.front ++ own ∷ other_leaf ∷ back) (take j k.entries) i home unmoved in
                  let count = times-append i rest (take j k.entries) in
                  let part = parts i in
                  let same = times-rest i other in
                  leaf_of-shared c.front c.leaf k own other_leaf back i refl (omega arith) refl (omega arith) ∙ ap (λ (xs : List (Leaf K)). leaf_of xs i) (sym cut-next);
              stretch = rw home (omega arith);
              room = refl;
            };
          })

  -- the same, as the calls of the store say it
  abbrev here : CutAt ls n
  here = cut-at ls n some-there

  abbrev pub short : List (Leaf K)
  short = with_entries ls n rest

  short-is : short ≡ here.front ++ shorter here ∷ here.back
  short-is = changed-cut ls n here rest

  pub short-own : entries_in short n ≡ rest
  short-own = own-changed ls n rest some-there

  short-cut : CutAt short n
  short-cut = cut-of short here.front (shorter here) here.back n short-is here.number here.apart

  pub left-shrunk : 16 ≤ length rest → IsLeft short None
  left-shrunk many =
      subst (λ (xs : List (Leaf K)). IsLeft xs None) (sym short-is)
      (left-in here (filled-shrunk here.front here.leaf (shorter here) here.back many (subst AreFilled here.cut ordered.filled)))

  pub left-last : number_after short n ≡ None → IsLeft short None
  unfolding short-cut
  left-last none = go here.back refl
    where
      go : (back : List (Leaf K)) → here.back ≡ back → IsLeft short None
      go [] nil =
          subst (λ (xs : List (Leaf K)). IsLeft xs None) (sym short-is)
          (left-in here (subst (λ (xs : List (Leaf K)). AreFilled (here.front ++ shorter here ∷ xs)) (sym nil)
          (filled-last here.front here.leaf (shorter here) (subst (λ (xs : List (Leaf K)). AreFilled (here.front ++ here.leaf ∷ xs)) nil (subst AreFilled here.cut ordered.filled)))))
      go (k ∷ back) cons = absurd (let lost : Some k.number ≡ None = ap first_number (sym cons) ∙ sym (after-at short n short-cut) ∙ none in cc)

  pub left-closed : length (entries_in ls n) ≡ 1 → IsLeft (without_leaf ls n) None
  left-closed one =
      let done : without_leaf ls n ≡ here.front ++ here.back =
      ap (λ (xs : List (Leaf K)). without_leaf xs n) here.cut ∙ ap (without_leaf (here.front ++ here.leaf ∷ here.back)) (sym here.number)
      ∙ without_leaf-cut here.leaf here.back here.front (unmet ls n here) in
      subst (λ (xs : List (Leaf K)). IsLeft xs None) (sym done) (left-out here one)

  -- the next leaf
  pub record IsNext (m : ℕ) : Type 0 where
    pub leaf : Leaf K
    pub back : List (Leaf K)
    pub next : here.back ≡ leaf ∷ back
    pub number : leaf.number ≡ m
    pub apart_from : n ≢ m
    pub there : HasLeaf short m
    pub entries : entries_in short m ≡ leaf.entries
    pub some : 0 < length leaf.entries
    pub unmet_before : (es : List (K × ℕ)) → times_numbered leaf.number (here.front ++ record here.leaf { entries = es } ∷ []) ≡ 0

  pub next-of : (m : ℕ) → number_after short n ≡ Some m → IsNext m
  unfolding short-cut
  next-of m is = go here.back refl
    where
      go : (back : List (Leaf K)) → here.back ≡ back → IsNext m
      go [] nil = absurd (let lost : None ≡ Some m = ap first_number (sym nil) ∙ sym (after-at short n short-cut) ∙ is in cc)
      go (k ∷ back) cons =
          let own : Some k.number ≡ Some m = ap first_number (sym cons) ∙ sym (after-at short n short-cut) ∙ is in
          let named : k.number ≡ m = cc in
          let once = apart.distinct k.number in
          let all = ap (times_numbered k.number) here.cut in
          let behind = ap (times_numbered k.number) cons in
          let sum = times_numbered-append k.number here.front (here.leaf ∷ here.back) in
          let test = eq-eqb k.number k.number refl in
          let one : times_numbered k.number (k ∷ back) ≡ 1 + times_numbered k.number back = rw test refl in
          let own_test : times_numbered k.number (here.leaf ∷ here.back) ≡ (if here.leaf.number == k.number then 1 else 0) + times_numbered k.number here.back = refl in
          let before : (es : List (K × ℕ)) → times_numbered k.number (here.front ++ record here.leaf { entries = es } ∷ []) ≡ 0 = λ es.
          let part = times_numbered-append k.number here.front (record here.leaf { entries = es } ∷ []) in
          let single : times_numbered k.number (record here.leaf { entries = es } ∷ []) ≡ (if here.leaf.number == k.number then 1 else 0) + 0 = refl in omega arith in
          let other : n ≢ m = λ same.
          let equal = eq-eqb here.leaf.number k.number (here.number ∙ same ∙ sym named) in
          let two : times_numbered k.number (here.leaf ∷ here.back) ≡ 1 + times_numbered k.number here.back = rw equal refl in absurd (omega arith) in
          let shown : short ≡ (here.front ++ shorter here ∷ []) ++ k ∷ back =
          short-is ∙ ap (λ (xs : List (Leaf K)). here.front ++ shorter here ∷ xs) cons ∙ sym (append_assoc here.front (shorter here ∷ []) (k ∷ back)) in
          let read : entries_in short m ≡ k.entries =
          ap (λ (xs : List (Leaf K)). entries_in xs m) shown ∙ ap (entries_in ((here.front ++ shorter here ∷ []) ++ k ∷ back)) (sym named)
          ∙ entries_in-cut k back (here.front ++ shorter here ∷ []) (before rest) in
          let whole : ls ≡ (here.front ++ here.leaf ∷ []) ++ k ∷ back =
          here.cut ∙ ap (λ (xs : List (Leaf K)). here.front ++ here.leaf ∷ xs) cons ∙ sym (append_assoc here.front (here.leaf ∷ []) (k ∷ back)) in
          let many = some-entries ls (here.front ++ here.leaf ∷ []) k back apart whole in
          let size = ap length read in record {
            leaf = k;
            back = back;
            next = cons;
            number = named;
            apart_from = other;
            there = omega arith;
            entries = read;
            some = many;
            unmet_before = before;
          }

  module _ (m : ℕ) (next : IsNext m) where
    -- the leaf has other entries, and so has the next one
    lengthened : (es : List (K × ℕ)) → with_entries short n es ≡ (here.front ++ record here.leaf { entries = es } ∷ []) ++ next.leaf ∷ next.back
    lengthened es =
        changed-twice ls n rest es ∙ changed-cut ls n here es ∙ ap (λ (xs : List (Leaf K)). here.front ++ record here.leaf { entries = es } ∷ xs) next.next
        ∙ sym (append_assoc here.front (record here.leaf { entries = es } ∷ []) (next.leaf ∷ next.back))

    own-with : (fs : List (K × ℕ)) → entries_in short n ++ fs ≡ rest ++ fs
    own-with fs = ap (λ (es : List (K × ℕ)). es ++ fs) short-own

    pub left-over : 15 ≤ length rest → IsLeft (without_leaf (with_entries short n (entries_in short n ++ entries_in short m)) m) (Some (n, (length rest, length rest + length (entries_in short m))))
    left-over enough =
        let es : List (K × ℕ) = rest ++ next.leaf.entries in
        let same : entries_in short n ++ entries_in short m ≡ es = own-with (entries_in short m) ∙ ap (λ (fs : List (K × ℕ)). rest ++ fs) next.entries in
        let done : without_leaf (with_entries short n (entries_in short n ++ entries_in short m)) m ≡ here.front ++ record here.leaf { entries = es } ∷ next.back =
        ap (λ (fs : List (K × ℕ)). without_leaf (with_entries short n fs) m) same ∙ ap (λ (xs : List (Leaf K)). without_leaf xs m) (lengthened es)
        ∙ ap (without_leaf ((here.front ++ record here.leaf { entries = es } ∷ []) ++ next.leaf ∷ next.back)) (sym next.number)
        ∙ without_leaf-cut next.leaf next.back (here.front ++ record here.leaf { entries = es } ∷ []) (next.unmet_before es)
        ∙ append_assoc here.front (record here.leaf { entries = es } ∷ []) next.back in
        subst (λ (fs : List (K × ℕ)). IsLeft (without_leaf (with_entries short n (entries_in short n ++ entries_in short m)) m) (Some (n, (length rest, length rest + length fs)))) (sym next.entries)
        (subst (λ (xs : List (Leaf K)). IsLeft xs (Some (n, (length rest, length rest + length next.leaf.entries)))) (sym done)
        (left-joined here next.leaf next.back next.next enough next.some))

    pub left-even : (j : ℕ) → 16 ≤ length rest + j → 16 + j ≤ length (entries_in short m)
        → IsLeft (with_entries (with_entries short n (entries_in short n ++ take j (entries_in short m))) m (drop j (entries_in short m))) (Some (n, (length rest, length rest + j)))
    left-even j enough left =
        let es : List (K × ℕ) = rest ++ take j next.leaf.entries in
        let fs : List (K × ℕ) = drop j next.leaf.entries in
        let same : entries_in short n ++ take j (entries_in short m) ≡ es = own-with (take j (entries_in short m)) ∙ ap (λ (gs : List (K × ℕ)). rest ++ take j gs) next.entries in
        let size = ap length next.entries in
        let done : with_entries (with_entries short n (entries_in short n ++ take j (entries_in short m))) m (drop j (entries_in short m))
        ≡ here.front ++ record here.leaf { entries = es } ∷ record next.leaf { entries = fs } ∷ next.back =
        ap (λ (gs : List (K × ℕ)). with_entries (with_entries short n gs) m (drop j (entries_in short m))) same
        ∙ ap (λ (gs : List (K × ℕ)). with_entries (with_entries short n es) m (drop j gs)) next.entries ∙ ap (λ (xs : List (Leaf K)). with_entries xs m fs) (lengthened es)
        ∙ ap (λ (i : ℕ). with_entries ((here.front ++ record here.leaf { entries = es } ∷ []) ++ next.leaf ∷ next.back) i fs) (sym next.number)
        ∙ with_entries-cut next.leaf next.back (here.front ++ record here.leaf { entries = es } ∷ []) fs (next.unmet_before es)
        ∙ append_assoc here.front (record here.leaf { entries = es } ∷ []) (record next.leaf { entries = fs } ∷ next.back) in
        subst (λ (xs : List (Leaf K)). IsLeft xs (Some (n, (length rest, length rest + j)))) (sym done)
        (left-shared here next.leaf next.back next.next j enough (omega arith))

    -- a leaf before another one has 16 at least
    pub next-filled : 16 ≤ length (entries_in ls n)
    next-filled = elim (cases_lt (length (entries_in ls n)) 16) [
      | inl few ↦ absurd (let size = size-at ls n here in
          let nil = filled-here here.front here.leaf here.back (subst AreFilled here.cut ordered.filled) (omega arith) in let lost : [] ≡ next.leaf ∷ next.back = sym nil ∙ next.next in cc)
      | inr many ↦ many
    ]

    -- what a refill makes of the leaves
    pub left-refilled : (new : Leaves K) (c : ℕ) → length rest ≡ 15
        → (c ≡ length (entries_in short m) → new ≡ record { leaves = without_leaf (with_entries short n (entries_in short n ++ entries_in short m)) m; room = room })
        → (c ≢ length (entries_in short m) → new ≡ record { leaves = with_entries (with_entries short n (entries_in short n ++ take c (entries_in short m))) m (drop c (entries_in short m)); room = room })
        → (c ≢ length (entries_in short m) → (1 ≤ c) × (16 + c ≤ length (entries_in short m)))
        → (new.room ≡ room) × IsLeft new.leaves (Some (n, (15, 15 + c)))
    left-refilled new c size joined shared least = elim (eqb_tells c (length (entries_in short m))) [
      | inl all ↦ (
        ap (λ (a : Leaves K). a.room) (joined all.1),
        subst (λ (xs : List (Leaf K)). IsLeft xs (Some (n, (15, 15 + c)))) (sym (ap (λ (a : Leaves K). a.leaves) (joined all.1)))
            (subst (λ (u : ℕ). IsLeft (without_leaf (with_entries short n (entries_in short n ++ entries_in short m)) m) (Some (n, (15, 15 + u)))) (sym all.1)
            (subst (λ (u : ℕ). IsLeft (without_leaf (with_entries short n (entries_in short n ++ entries_in short m)) m) (Some (n, (u, u + length (entries_in short m))))) size
            (left-over (omega arith)))),
      )
      | inr part ↦
          let few = least part.1 in (
            ap (λ (a : Leaves K). a.room) (shared part.1),
            subst (λ (xs : List (Leaf K)). IsLeft xs (Some (n, (15, 15 + c)))) (sym (ap (λ (a : Leaves K). a.leaves) (shared part.1)))
                (subst (λ (u : ℕ). IsLeft (with_entries (with_entries short n (entries_in short n ++ take c (entries_in short m))) m (drop c (entries_in short m))) (Some (n, (u, u + c)))) size
                (left-even c (omega arith) (omega arith))),
          )
    ]
