-- Runs of entries and of keys.
use Rattle.std.proofs.Common.{◌≡◌, ℕ, zero, suc, ◌+◌, ◌<◌, ◌≤◌, ◌==◌, ℤ, pos, subst, min, ◌++◌, List, [], ◌∷◌, map, length, reverse, take, drop, get_or, slice_set, is_some, Bool, Option, Some, None, false, true, refl, sym, ap, ◌∙◌, append_assoc, arith}
use native.Mathlib.Numerals.{unary_clauses}
use Rattle.std.proofs.lemmas.{Grind.common_steps, List.map-append, List.reverse-append, List.reverse-reverse}
use Rattle.std.specs.{Cmp.int_cmp_total, Option.option_map, Option.option_map_or, Ordering.is_gt, Ordering.is_le, Ordering.int_cmp, List.zip, List.AllByRecursion, declared.cmp.Ordering.TheVariants.Greater}
use Rattle.sorted_arena.specs.{Chain.Entry, Chain.IsDistinct, Chain.item_of, Chain.times, Chain.first_pointer, Chain.from_index, Gap.last_of}
use Rattle.sorted_arena.specs.Sorted.{with_entry, next_of, prev_of, pointer_of, first_item, first_item_until, behind_first, entries_until, last_item, AreSorted, pair_of as pair_in}
use Rattle.arena_c.specs.{declared.entry.Entry.Entry as Shown, Batch.first_fall}
use Rattle.arena_c.specs.Shown.{Arena, most_entries, entry_at, entry_found, shown_entry, numbers_of}
use Rattle.sorted_arena.proofs.CallerLemmas.{first-named, next-here, prev-here, found-here, appended, last-item, first-pointer}

-- a key that is not smaller than the one before it, and then the rest
pub fall-step : (before : Option ℤ) (k : ℤ) (ks : List ℤ) (i : ℕ) → first_fall before (k ∷ ks) i ≡ None
    → (option_map_or (λ b. is_gt (int_cmp b k)) before false ≡ false) × (first_fall (Some k) ks (i + 1) ≡ None)
fall-step before k ks i none = go (option_map_or (λ b. is_gt (int_cmp b k)) before false) refl
  where
    go : (b : Bool) → option_map_or (λ b. is_gt (int_cmp b k)) before false ≡ b
        → (option_map_or (λ b. is_gt (int_cmp b k)) before false ≡ false) × (first_fall (Some k) ks (i + 1) ≡ None)
    go true is = absurd (let found : first_fall before (k ∷ ks) i ≡ Some i = rw is refl in cc)
    go false is = (is, let rest : first_fall before (k ∷ ks) i ≡ first_fall (Some k) ks (i + 1) = rw is refl in sym rest ∙ none)

-- the pairs so far, and one more
pub zip-step : (ks : List ℤ) (vs : List ℕ) (i : ℕ) → i < length ks → i < length vs → zip (take (i + 1) ks) (take (i + 1) vs) ≡ zip (take i ks) (take i vs) ++ (get_or ks i (pos 0), get_or vs i 0) ∷ []
zip-step [] vs i in_ks in_vs = absurd (omega arith)
zip-step (x ∷ ks) [] i in_ks in_vs = absurd (omega arith)
zip-step (x ∷ ks) (y ∷ vs) zero in_ks in_vs = grind (arith, common_steps)
zip-step (x ∷ ks) (y ∷ vs) (suc i) in_ks in_vs = simp unary_clauses (ap (λ ps. (x, y) ∷ ps) (simp unary_clauses at (zip-step ks vs i (omega arith) (omega arith))))

module _ {X : Type 0} where
  last-append : (o : Option X) (xs : List X) (x : X) → last_of o (xs ++ x ∷ []) ≡ Some x
  last-append o [] x = refl
  last-append o (y ∷ ys) x = last-append (Some y) ys x

  -- a list that is cut off at its first item
  pub drop-step : (xs ys : List X) (x : X) (n : ℕ) → drop n xs ≡ x ∷ ys → drop (n + 1) xs ≡ ys
  drop-step [] ys x n is = absurd (grind (arith, common_steps))
  drop-step (z ∷ xs) ys x zero is = grind (arith, common_steps)
  drop-step (z ∷ xs) ys x (suc n) is = simp unary_clauses (simp unary_clauses at (drop-step xs ys x n is))

  pub take-step : (xs ys : List X) (x : X) (n : ℕ) → drop n xs ≡ x ∷ ys → take (n + 1) xs ≡ take n xs ++ x ∷ []
  take-step [] ys x n is = absurd (grind (arith, common_steps))
  take-step (z ∷ xs) ys x zero is = grind (arith, common_steps)
  take-step (z ∷ xs) ys x (suc n) is = simp unary_clauses (ap (λ zs. z ∷ zs) (simp unary_clauses at (take-step xs ys x n is)))

  -- what is taken is taken again
  pub taken-twice : (xs : List X) (n : ℕ) → take n (take n xs) ≡ take n xs
  taken-twice [] n = grind (arith, common_steps)
  taken-twice (z ∷ xs) zero = grind (arith, common_steps)
  taken-twice (z ∷ xs) (suc n) = ap (λ zs. z ∷ zs) (taken-twice xs n)

  pub drop-get : (xs : List X) (n : ℕ) (d : X) → n < length xs → drop n xs ≡ get_or xs n d ∷ drop (n + 1) xs
  drop-get [] n d fits = absurd (omega arith)
  drop-get (z ∷ xs) zero d fits = grind (arith, common_steps)
  drop-get (z ∷ xs) (suc n) d fits = simp unary_clauses (simp unary_clauses at (drop-get xs n d (omega arith)))

  pub drop-none : (xs : List X) (n : ℕ) → drop n xs ≡ [] → length xs ≤ n
  drop-none [] n is = omega arith
  drop-none (z ∷ xs) zero is = absurd (cc)
  drop-none (z ∷ xs) (suc n) is = let rest = drop-none xs n is in omega arith

  pub drop-some : (xs ys : List X) (x : X) (n : ℕ) → drop n xs ≡ x ∷ ys → n < length xs
  drop-some [] ys x n is = absurd (grind (arith, common_steps))
  drop-some (z ∷ xs) ys x zero is = omega arith
  drop-some (z ∷ xs) ys x (suc n) is = let rest = drop-some xs ys x n is in omega arith

  -- one more item is written behind those at the front
  pub write-step : (front before : List X) (n : ℕ) (x : X) → length front ≡ n → n < length before
      → slice_set (front ++ drop n before) n x ≡ (front ++ x ∷ []) ++ drop (n + 1) before
  write-step [] [] n x is fits = absurd (omega arith)
  write-step [] (b ∷ before) zero x is fits = grind (arith, common_steps)
  write-step [] (b ∷ before) (suc n) x is fits = absurd (omega arith)
  write-step (f ∷ front) before zero x is fits = absurd (omega arith)
  write-step (f ∷ front) [] (suc n) x is fits = absurd (omega arith)
  write-step (f ∷ front) (b ∷ before) (suc n) x is fits = simp unary_clauses (ap (λ zs. f ∷ zs) (simp unary_clauses at (write-step front before n x (omega arith) (omega arith))))

  pub take-drop : (xs : List X) (n : ℕ) → xs ≡ take n xs ++ drop n xs
  take-drop [] n = grind (arith, common_steps)
  take-drop (x ∷ xs) zero = refl
  take-drop (x ∷ xs) (suc n) = ap (λ zs. x ∷ zs) (take-drop xs n)

module _ {K V : Type 0} where
  -- the last entry of a list that ends so
  pub last-end : (es : List (Entry (K × V))) (xs : List (K × V)) (x : K × V) → map pair_in es ≡ xs ++ x ∷ [] → last_item es ≡ Some x
  last-end es xs x is = sym (last-item es) ∙ ap (last_of None) is ∙ last-append None xs x

  -- the entries from an index on are the back of the list
  from-cut : (es : List (Entry (K × V))) (i : ℕ) → (front : List (Entry (K × V))) × (es ≡ front ++ from_index es i)
  from-cut [] i = ([], refl)
  from-cut (e ∷ es) i = go (e.index == i) refl (from-cut es i)
    where
      go : (b : Bool) → (e.index == i) ≡ b → (front : List (Entry (K × V))) × (es ≡ front ++ from_index es i) → (front : List (Entry (K × V))) × (e ∷ es ≡ front ++ from_index (e ∷ es) i)
      go true is rest = ([], rw is refl)
      go false is rest = (e ∷ rest.0, rw is (ap (λ zs. e ∷ zs) rest.1))

  run-cut : (es : List (Entry (K × V))) (i n : ℕ) → (front : List (Entry (K × V))) × (es ≡ front ++ drop n (from_index es i))
  run-cut es i n =
      let cut = from-cut es i in
      (cut.0 ++ take n (from_index es i), cut.1 ∙ ap (λ zs. cut.0 ++ zs) (take-drop (from_index es i) n) ∙ sym (append_assoc cut.0 (take n (from_index es i)) (drop n (from_index es i))))

-- A run of entries from an index on, in which n entries were passed.
module _ (a : Arena) (distinct : IsDistinct a.entries) (i n : ℕ) where
  abbrev run : List (Entry (ℤ × ℕ))
  run = from_index a.entries i

  -- the next entry is the one that is found, and the pointer behind it is that of the rest
  pub record Steps (e : Shown) : Type 0 where
    pub entry : Entry (ℤ × ℕ)
    pub cut : drop n run ≡ entry ∷ drop (n + 1) run
    pub shown : e ≡ shown_entry entry
    pub next : next_of a.entries (numbers_of e.pointer) ≡ first_pointer (drop (n + 1) run)

  pub run-step : (e : Shown) → entry_found a (first_pointer (drop n run)) ≡ Some e → Steps e
  run-step e found = go (drop n run) refl
    where
      go : (rest : List (Entry (ℤ × ℕ))) → drop n run ≡ rest → Steps e
      go [] is = absurd (let none : entry_found a (first_pointer (drop n run)) ≡ None = rw is refl in cc)
      go (x ∷ back) is =
          let whole = run-cut a.entries i n in let cut : a.entries ≡ whole.0 ++ x ∷ back = whole.1 ∙ ap (λ zs. whole.0 ++ zs) is in
          let there : entry_found a (first_pointer (drop n run)) ≡ Some (shown_entry x) = rw is (rw (found-here a.entries distinct whole.0 x back cut) refl) in
          let same : e ≡ shown_entry x = cc in let behind = drop-step run back x n is in
          record {
            entry = x;
            cut = is ∙ ap (λ zs. x ∷ zs) (sym behind);
            shown = same;
            next = ap (λ (s : Shown). next_of a.entries (numbers_of s.pointer)) same ∙ next-here a.entries distinct whole.0 x back cut ∙ sym (first-pointer back) ∙ ap first_pointer (sym behind);
          }

  pub run-done : entry_found a (first_pointer (drop n run)) ≡ None → drop n run ≡ []
  run-done missing = go (drop n run) refl
    where
      go : (rest : List (Entry (ℤ × ℕ))) → drop n run ≡ rest → drop n run ≡ []
      go [] is = is
      go (x ∷ back) is =
          let whole = run-cut a.entries i n in let cut : a.entries ≡ whole.0 ++ x ∷ back = whole.1 ∙ ap (λ zs. whole.0 ++ zs) is in
          absurd (let there : entry_found a (first_pointer (drop n run)) ≡ Some (shown_entry x) = rw is (rw (found-here a.entries distinct whole.0 x back cut) refl) in cc)

-- the last of some entries is the first of them backwards
last-backwards : (back : List (Entry (ℤ × ℕ))) → option_map pointer_of (last_of None (reverse back)) ≡ first_pointer back
last-backwards [] = refl
last-backwards (x ∷ back) = ap (λ zs. option_map pointer_of (last_of None zs)) (reverse-append (x ∷ []) back) ∙ ap (option_map pointer_of) (last-append None (reverse back) x)

-- A run of entries backwards, from an index on, in which n entries were passed.
module _ (a : Arena) (distinct : IsDistinct a.entries) (i n : ℕ) where
  abbrev back-run : List (Entry (ℤ × ℕ))
  back-run = from_index (reverse a.entries) i

  -- the list is cut at an entry that comes next
  back-cut : (x : Entry (ℤ × ℕ)) (rest : List (Entry (ℤ × ℕ))) → drop n back-run ≡ x ∷ rest → (front : List (Entry (ℤ × ℕ))) × (a.entries ≡ reverse rest ++ x ∷ front)
  back-cut x rest is =
      let whole = run-cut (reverse a.entries) i n in
      let cut : reverse a.entries ≡ whole.0 ++ x ∷ rest = whole.1 ∙ ap (λ zs. whole.0 ++ zs) is in
      (reverse whole.0, sym (reverse-reverse a.entries) ∙ ap reverse cut ∙ reverse-append whole.0 (x ∷ rest) ∙ ap (λ zs. zs ++ reverse whole.0) (reverse-append (x ∷ []) rest) ∙ append_assoc (reverse rest) (x ∷ []) (reverse whole.0))

  -- the next entry is the one that is found, and the pointer before it is that of the rest
  pub record BackSteps (e : Shown) : Type 0 where
    pub entry : Entry (ℤ × ℕ)
    pub cut : drop n back-run ≡ entry ∷ drop (n + 1) back-run
    pub shown : e ≡ shown_entry entry
    pub next : prev_of a.entries (numbers_of e.pointer) ≡ first_pointer (drop (n + 1) back-run)

  pub back-step : (e : Shown) → entry_found a (first_pointer (drop n back-run)) ≡ Some e → BackSteps e
  back-step e found = go (drop n back-run) refl
    where
      go : (rest : List (Entry (ℤ × ℕ))) → drop n back-run ≡ rest → BackSteps e
      go [] is = absurd (let none : entry_found a (first_pointer (drop n back-run)) ≡ None = rw is refl in cc)
      go (x ∷ rest) is =
          let whole = back-cut x rest is in
          let there : entry_found a (first_pointer (drop n back-run)) ≡ Some (shown_entry x) = rw is (rw (found-here a.entries distinct (reverse rest) x whole.0 whole.1) refl) in
          let same : e ≡ shown_entry x = cc in let behind = drop-step back-run rest x n is in
          record {
            entry = x;
            cut = is ∙ ap (λ zs. x ∷ zs) (sym behind);
            shown = same;
            next = ap (λ (s : Shown). prev_of a.entries (numbers_of s.pointer)) same ∙ prev-here a.entries distinct (reverse rest) x whole.0 whole.1 ∙ last-backwards rest ∙ ap first_pointer (sym behind);
          }

  pub back-done : entry_found a (first_pointer (drop n back-run)) ≡ None → drop n back-run ≡ []
  back-done missing = go (drop n back-run) refl
    where
      go : (rest : List (Entry (ℤ × ℕ))) → drop n back-run ≡ rest → drop n back-run ≡ []
      go [] is = is
      go (x ∷ rest) is =
          let whole = back-cut x rest is in
          absurd (let there : entry_found a (first_pointer (drop n back-run)) ≡ Some (shown_entry x) = rw is (rw (found-here a.entries distinct (reverse rest) x whole.0 whole.1) refl) in cc)

-- The first entry of an arena, if its key is at most k.
module _ (a : Arena) (k : ℤ) where
  pub record Pops (e : Shown) : Type 0 where
    pub entry : Entry (ℤ × ℕ)
    pub cut : a.entries ≡ entry ∷ behind_first a.entries
    pub shown : e ≡ shown_entry entry
    pub due : entries_until int_cmp k a.entries ≡ entry ∷ entries_until int_cmp k (behind_first a.entries)

  due-first : (item : ℤ × ℕ) (x : Entry (ℤ × ℕ)) (back : List (Entry (ℤ × ℕ))) → first_item_until int_cmp k (x ∷ back) ≡ Some item → entries_until int_cmp k (x ∷ back) ≡ x ∷ entries_until int_cmp k back
  due-first item x back due = grind (arith, common_steps)

  pub pop-step : (e : Shown) (item : ℤ × ℕ) → entry_found a (first_pointer a.entries) ≡ Some e → first_item_until int_cmp k a.entries ≡ Some item → Pops e
  pop-step e item found due = go a.entries refl
    where
      go : (es : List (Entry (ℤ × ℕ))) → a.entries ≡ es → Pops e
      go [] is = absurd (let none : entry_found a (first_pointer a.entries) ≡ None = rw is refl in cc)
      go (x ∷ back) is =
          let here : item_of a.entries (pointer_of x) ≡ Some x.item = first-named a.entries (pointer_of x) (ap first_pointer (sym is)) ∙ ap first_item is in
          let named : entry_at a (pointer_of x) ≡ Some (shown_entry x) = rw here refl in
          let there : entry_found a (first_pointer a.entries) ≡ Some (shown_entry x) = ap (λ (zs : List (Entry (ℤ × ℕ))). entry_found a (first_pointer zs)) is ∙ named in
          record {
            entry = x;
            cut = is ∙ ap (λ zs. x ∷ behind_first zs) (sym is);
            shown = cc;
            due = ap (entries_until int_cmp k) is ∙ due-first item x back (ap (first_item_until int_cmp k) (sym is) ∙ due) ∙ ap (λ zs. x ∷ entries_until int_cmp k (behind_first zs)) (sym is);
          }

-- where all keys are greater, none is due
pub none-due : (k : ℤ) (es : List (Entry (ℤ × ℕ))) → AllByRecursion (λ (e : Entry (ℤ × ℕ)). int_cmp e.item.0 k ≡ Greater) es → entries_until int_cmp k es ≡ []
none-due k [] late = refl
none-due k (e ∷ es) late = rw (ap is_le late.0) (none-due k es late.1)

-- one more entry is shown in an array
pub written-step : {A B : Type 0} (shown : A → B) (xs rest : List A) (before now : List B) (n : ℕ) (x : A) (e : B) → drop n xs ≡ x ∷ rest → e ≡ shown x
    → now ≡ map shown (take n xs) ++ drop n before → n < length before → slice_set now n e ≡ map shown (take (n + 1) xs) ++ drop (n + 1) before
written-step {A = A} shown xs rest before now n x e cut is held fits =
    ap (λ zs. slice_set zs n e) held ∙ write-step (map shown (take n xs)) before n e (shown-length xs n (drop-some xs rest x n cut)) fits
    ∙ ap (λ zs. zs ++ drop (n + 1) before) (ap (λ y. map shown (take n xs) ++ y ∷ []) is ∙ sym (map-append shown (take n xs) (x ∷ [])) ∙ ap (map shown) (sym (take-step xs rest x n cut)))
  where
    shown-length : (ys : List A) (m : ℕ) → m < length ys → length (map shown (take m ys)) ≡ m
    shown-length [] m fits = absurd (omega arith)
    shown-length (y ∷ ys) zero fits = refl
    shown-length (y ∷ ys) (suc m) fits = let rest = shown-length ys m (omega arith) in omega arith

-- an entry that a pointer names is the first from its index on
pub run-first : {K V : Type 0} (es : List (Entry (K × V))) (p : ℕ × ℕ) → is_some (item_of es p) ≡ true → Some p ≡ first_pointer (from_index es p.0)
run-first [] p there = absurd (cc)
run-first {K = K} {V = V} (e ∷ es) p there = go (e.index == p.0) refl (run-first es p)
  where
    go : (b : Bool) → (e.index == p.0) ≡ b → (is_some (item_of es p) ≡ true → Some p ≡ first_pointer (from_index es p.0)) → Some p ≡ first_pointer (from_index (e ∷ es) p.0)
    go true is rest = grind (arith, common_steps)
    go false is rest = let later : is_some (item_of es p) ≡ true = grind (arith, common_steps) in rw is (rest later)

-- Backwards, each index stands as often.
times-append : (i : ℕ) (xs ys : List (Entry (ℤ × ℕ))) → times i (xs ++ ys) ≡ times i xs + times i ys
times-append i [] ys = omega arith
times-append i (x ∷ xs) ys = let rest = times-append i xs ys in go (x.index == i) refl rest
  where
    go : (b : Bool) → (x.index == i) ≡ b → times i (xs ++ ys) ≡ times i xs + times i ys → times i (x ∷ (xs ++ ys)) ≡ times i (x ∷ xs) + times i ys
    go true is rest = rw is (omega (arith, rest))
    go false is rest = rw is (omega (arith, rest))

times-reverse : (i : ℕ) (xs : List (Entry (ℤ × ℕ))) → times i (reverse xs) ≡ times i xs
times-reverse i [] = refl
times-reverse i (x ∷ xs) =
    let rest = times-reverse i xs in
    let cut : times i (reverse (x ∷ xs)) ≡ times i (reverse xs) + times i (x ∷ []) = ap (times i) (reverse-append (x ∷ []) xs) ∙ times-append i (reverse xs) (x ∷ []) in
    let whole : times i (x ∷ xs) ≡ times i (x ∷ []) + times i xs = times-append i (x ∷ []) xs in
    omega (arith, rest, cut, whole)

-- An entry that a pointer names is the first from its index on backwards too.
pub back-first : (es : List (Entry (ℤ × ℕ))) (p : ℕ × ℕ) → IsDistinct es → is_some (item_of es p) ≡ true → Some p ≡ first_pointer (from_index (reverse es) p.0)
back-first es p distinct there = go (from_index es p.0) refl (run-first es p there)
  where
    apart : IsDistinct (reverse es)
    apart i = let same = times-reverse i es in let once = distinct i in omega (arith, same, once)

    go : (rest : List (Entry (ℤ × ℕ))) → from_index es p.0 ≡ rest → Some p ≡ first_pointer (from_index es p.0) → Some p ≡ first_pointer (from_index (reverse es) p.0)
    go [] is first = absurd (let none : Some p ≡ None = first ∙ ap first_pointer is in cc)
    go (x ∷ back) is first =
        let cut = from-cut es p.0 in
        let whole : es ≡ cut.0 ++ x ∷ back = cut.1 ∙ ap (λ zs. cut.0 ++ zs) is in
        let turned : reverse es ≡ reverse back ++ x ∷ reverse cut.0 = ap reverse whole ∙ reverse-append cut.0 (x ∷ back) ∙ ap (λ zs. zs ++ reverse cut.0) (reverse-append (x ∷ []) back) ∙ append_assoc (reverse back) (x ∷ []) (reverse cut.0) in
        let named : Some p ≡ Some (pointer_of x) = first ∙ ap first_pointer is in
        let same : p ≡ pointer_of x = cc in
        run-first (reverse es) p (ap (λ (q : ℕ × ℕ). is_some (item_of (reverse es) q)) same ∙ ap (λ o. is_some o) (found-here (reverse es) apart (reverse back) x (reverse cut.0) turned))

-- one more pair stands behind the others, and the next key is not smaller than its key
pub append-step : (old new : Arena) (p : ℕ × ℕ) (before : List (ℤ × ℕ)) (ks : List ℤ) (vs : List ℕ) (i : ℕ) → i < length ks → i < length vs
    → new ≡ with_entry int_cmp most_entries old p (get_or ks i (pos 0), get_or vs i 0) → AreSorted int_cmp old.entries → first_fall (option_map (λ pair. pair.0) (last_item old.entries)) (drop i ks) i ≡ None
    → map pair_in old.entries ≡ before ++ zip (take i ks) (take i vs)
    → (map pair_in new.entries ≡ before ++ zip (take (i + 1) ks) (take (i + 1) vs)) × (first_fall (option_map (λ pair. pair.0) (last_item new.entries)) (drop (i + 1) ks) (i + 1) ≡ None)
append-step old new p before ks vs i in_ks in_vs put sorted order held =
    let k : ℤ = get_or ks i (pos 0) in let v : ℕ = get_or vs i 0 in
    let step = fall-step (option_map (λ (pair : ℤ × ℕ). pair.0) (last_item old.entries)) k (drop (i + 1) ks) i
    (subst (λ (zs : List ℤ). first_fall (option_map (λ (pair : ℤ × ℕ). pair.0) (last_item old.entries)) zs i ≡ None) (drop-get ks i (pos 0) in_ks) order) in
    let added : map pair_in new.entries ≡ map pair_in old.entries ++ (k, v) ∷ [] = appended int_cmp k int_cmp_total most_entries old new p v put sorted (sym (over (last_item old.entries) k) ∙ step.0) in (
      added ∙ ap (λ (zs : List (ℤ × ℕ)). zs ++ (k, v) ∷ []) held ∙ append_assoc before (zip (take i ks) (take i vs)) ((k, v) ∷ []) ∙ ap (λ (zs : List (ℤ × ℕ)). before ++ zs) (sym (zip-step ks vs i in_ks in_vs)),
      ap (λ (o : Option (ℤ × ℕ)). first_fall (option_map (λ (pair : ℤ × ℕ). pair.0) o) (drop (i + 1) ks) (i + 1)) (last-end new.entries (map pair_in old.entries) (k, v) added) ∙ step.1,
    )
  where
    over : (o : Option (ℤ × ℕ)) (k : ℤ) → option_map_or (λ b. is_gt (int_cmp b k)) (option_map (λ pair. pair.0) o) false ≡ option_map_or (λ x. is_gt (int_cmp x.0 k)) o false
    over None k = refl
    over (Some x) k = refl

-- two arrays make as many pairs as the shorter one has items
pub zip-shorter : (ks : List ℤ) (vs : List ℕ) → zip (take (min (length ks) (length vs)) ks) (take (min (length ks) (length vs)) vs) ≡ zip ks vs
zip-shorter [] vs = grind (arith, common_steps)
zip-shorter (k ∷ ks) [] = grind (arith, common_steps)
zip-shorter (k ∷ ks) (v ∷ vs) = simp unary_clauses (ap (λ ps. (k, v) ∷ ps) (zip-shorter ks vs))
