-- Leaves in an index and rows, after a write to one of them.
use Rattle.std.proofs.Common.{◌≡◌, ◌≢◌, ℕ, zero, suc, ◌+◌, ◌-◌, ◌*◌, ◌<◌, ◌≤◌, List, [], ◌∷◌, ◌++◌, map, length, take, drop, get_or, set, Some, None, slice_get, arith, ap, sym, ◌∙◌, refl, inl, inr}
use Rattle.std.specs.List.{insert, remove}
use Rattle.std.proofs.lemmas.Bool.{Decides.eqb_tells}
use Rattle.std.proofs.lemmas.List.{length-set}
use Rattle.triple_ord.specs.Chain.{Entry, entry_at, times as times_at, with_item_among}
use Rattle.triple_ord.specs.{Tree.Tree}
use Rattle.leaf_list.specs.Leaves.{Leaf, Leaves}
use Rattle.leaf_list.specs.Parts.{with_entries}
use Rattle.leaf_list.specs.Place.{renamed}
use Rattle.leaf_list.specs.Layout.{shown, leaf_by, leaves_in, leaves_of, AreStored}
use Rattle.leaf_list.proofs.Storing.{some-second}

module _ {X : Type 0} where
  -- a row that is written
  pub set-own : (xs : List (List X)) (i : ℕ) (x : List X) → i < length xs → get_or (set xs i x) i [] ≡ x
  set-own [] i x within = absurd (omega arith)
  set-own (y ∷ xs) zero x within = refl
  set-own (y ∷ xs) (suc i) x within = set-own xs i x (omega arith)

  pub set-other : (xs : List (List X)) (i j : ℕ) (x : List X) → j ≢ i → get_or (set xs i x) j [] ≡ get_or xs j []
  set-other [] i j x apart = refl
  set-other (y ∷ xs) zero zero x apart = absurd (apart refl)
  set-other (y ∷ xs) zero (suc j) x apart = refl
  set-other (y ∷ xs) (suc i) zero x apart = refl
  set-other (y ∷ xs) (suc i) (suc j) x apart = set-other xs i j x (λ same. apart (ap suc same))

  -- a row is read where its number says
  pub read-row : (xs : List (List X)) (i : ℕ) (x d : List X) → i < length xs → x ≡ get_or xs i d → x ≡ get_or xs i []
  read-row [] i x d within is = absurd (omega arith)
  read-row (y ∷ xs) zero x d within is = is
  read-row (y ∷ xs) (suc i) x d within is = read-row xs i x d (omega arith) is

  pub row-read : (xs : List (List X)) (i n : ℕ) (x d : List X) → i + 1 ≡ n → i < length xs → x ≡ get_or xs i d → x ≡ get_or xs (n - 1) []
  row-read xs i n x d place within is = let at : i ≡ n - 1 = omega arith in read-row xs i x d within is ∙ ap (λ (j : ℕ). get_or xs j []) at

above_of : (i m : ℕ) → i ≢ 0 → 0 < m → i - 1 ≡ m - 1 → i ≡ m
above_of zero m some above same = absurd (some refl)
above_of (suc i) m some above same = omega arith

-- rows that differ in one at most
abbrev pub AreElse : {X : Type 0} → List (List X) → List (List X) → ℕ → Type 0
AreElse {X} rows after i = (j : ℕ) → j ≢ i → get_or {A = List X} after j [] ≡ get_or rows j []

module _ {K I : Type 0} (number : I → ℕ) where
  -- a part of the index without a number, and without 0
  kept-else : (es : List (Entry (K × I))) (rows after : List (List (K × I))) (n : ℕ) → 0 < n → times_at 0 es ≡ 0 → times_at n es ≡ 0 → AreElse rows after (n - 1)
      → leaves_in number es after ≡ leaves_in number es rows
  kept-else [] rows after n above zeros none others = refl
  kept-else (e ∷ es) rows after n above zeros none others = elim (eqb_tells e.index n) [
    | inl same ↦ absurd (omega (arith, rw same.0 at none))
    | inr other ↦ elim (eqb_tells e.index 0) [
      | inl zero_of ↦ absurd (omega (arith, rw zero_of.0 at zeros))
      | inr positive ↦
          let apart : e.index - 1 ≢ n - 1 = λ same. other.1 (above_of e.index n positive.1 above same) in
          let row = others (e.index - 1) apart in
          ap (λ (r : List (K × I)). record { number = e.index; entries = map (shown number) (e.item ∷ r) } ∷ leaves_in number es after) row
          ∙ ap (λ (ls : List (Leaf K)). leaf_by number rows e ∷ ls)
          (kept-else es rows after n above (omega (arith, rw positive.0 at zeros)) (omega (arith, rw other.0 at none)) others)
    ]
  ]

  -- an item and its row are written
  pub written : (es : List (Entry (K × I))) (rows after : List (List (K × I))) (n g : ℕ) (before item : K × I) → 0 < n → times_at 0 es ≡ 0 → times_at n es ≤ 1
      → entry_at es n ≡ Some (g, before) → AreElse rows after (n - 1)
      → leaves_in number (with_item_among es n item) after ≡ with_entries (leaves_in number es rows) n (shown number item ∷ map (shown number) (get_or after (n - 1) []))
  written [] rows after n g before item above zeros once there others = absurd (cc)
  written (e ∷ es) rows after n g before item above zeros once there others = elim (eqb_tells e.index n) [
    | inl same ↦
        let tail = kept-else es rows after n above (omega arith) (omega (arith, rw same.0 at once)) others in
        rw same.0 (ap (λ (m : ℕ). record { number = e.index; entries = map (shown number) (item ∷ get_or after (m - 1) []) } ∷ leaves_in number es after) same.1
        ∙ ap (λ (ls : List (Leaf K)). record { number = e.index; entries = shown number item ∷ map (shown number) (get_or after (n - 1) []) } ∷ ls) tail)
    | inr other ↦ elim (eqb_tells e.index 0) [
      | inl zero_of ↦ absurd (omega (arith, rw zero_of.0 at zeros))
      | inr positive ↦
          let apart : e.index - 1 ≢ n - 1 = λ same. other.1 (above_of e.index n positive.1 above same) in
          let row = others (e.index - 1) apart in
          let rest = written es rows after n g before item above (omega (arith, rw positive.0 at zeros)) (omega (arith, rw other.0 at once)) (rw other.0 at there) others in
          rw other.0 (ap (λ (r : List (K × I)). record { number = e.index; entries = map (shown number) (e.item ∷ r) } ∷ leaves_in number (with_item_among es n item) after) row
          ∙ ap (λ (ls : List (Leaf K)). leaf_by number rows e ∷ ls) rest)
    ]
  ]

  -- the same item is written
  same-item : (es : List (Entry (K × I))) (n g : ℕ) (item : K × I) → entry_at es n ≡ Some (g, item) → with_item_among es n item ≡ es
  same-item [] n g item there = refl
  same-item (e ∷ es) n g item there = elim (eqb_tells e.index n) [
    | inl same ↦
        let own : e.item ≡ item = some-second e.generation g e.item item (rw same.0 at there) in
        rw same.0 (ap (λ (x : K × I). record e { item = x } ∷ es) (sym own))
    | inr other ↦ rw other.0 (ap (λ (xs : List (Entry (K × I))). e ∷ xs) (same-item es n g item (rw other.0 at there)))
  ]

  none-written : (es : List (Entry (K × I))) (n m : ℕ) (item : K × I) → entry_at (with_item_among es n item) m ≡ None → entry_at es m ≡ None
  none-written [] n m item none = refl
  none-written (e ∷ es) n m item none = elim (eqb_tells e.index n) [
    | inl same ↦ elim (eqb_tells e.index m) [
      | inl here ↦ absurd (let lost = rw (same.0, here.0) at none in cc)
      | inr apart ↦ rw apart.0 (rw (same.0, apart.0) at none)
    ]
    | inr other ↦ elim (eqb_tells e.index m) [
      | inl here ↦ absurd (let lost = rw (other.0, here.0) at none in cc)
      | inr apart ↦ rw apart.0 (none-written es n m item (rw (other.0, apart.0) at none))
    ]
  ]

  -- a store where one row, and maybe an item, is written
  module _ (index : Tree (K × I)) (rows : List (List (K × I))) (now : Leaves K) (view : leaves_of number index rows ≡ now) (are_stored : AreStored index rows)
      (n g : ℕ) (before : K × I) (above : 0 < n) (zeros : times_at 0 index.list.entries ≡ 0) (once : times_at n index.list.entries ≤ 1)
      (there : entry_at index.list.entries n ≡ Some (g, before)) (after : List (List (K × I))) (others : AreElse rows after (n - 1)) (long : length rows ≤ length after) where
    pub row-view : leaves_of number index after ≡ record now { leaves = with_entries now.leaves n (shown number before ∷ map (shown number) (get_or after (n - 1) [])) }
    row-view =
        let leaves = ap (λ (es : List (Entry (K × I))). leaves_in number es after) (sym (same-item index.list.entries n g before there))
        ∙ written index.list.entries rows after n g before before above zeros once there others in
        ap (λ (ls : List (Leaf K)). record { leaves = ls; room = 16 * index.list.capacity }) leaves
        ∙ ap (λ (a : Leaves K). record a { leaves = with_entries a.leaves n (shown number before ∷ map (shown number) (get_or after (n - 1) [])) }) view

    pub row-stored : AreStored index after
    row-stored = record {
      emptied = λ m none. elim (eqb_tells m (n - 1)) [
        | inl same ↦ absurd (let place : m + 1 ≡ n = omega arith in
            let lost : None ≡ Some (g, before) = sym none ∙ ap (entry_at index.list.entries) place ∙ there in cc)
        | inr other ↦ others m other.1 ∙ are_stored.emptied m none
      ];
      enough = omega (arith, are_stored.enough);
      unlimited = are_stored.unlimited;
      fits = are_stored.fits;
    }

    module _ (new : Tree (K × I)) (item : K × I) (entries : new.list.entries ≡ with_item_among index.list.entries n item) (capacity : new.list.capacity ≡ index.list.capacity)
        (maximum : new.list.maximum ≡ index.list.maximum) where
      pub both-view : leaves_of number new after ≡ record now { leaves = with_entries now.leaves n (shown number item ∷ map (shown number) (get_or after (n - 1) [])) }
      both-view =
          let leaves = ap (λ (es : List (Entry (K × I))). leaves_in number es after) entries ∙ written index.list.entries rows after n g before item above zeros once there others in
          ap (λ (ls : List (Leaf K)). record { leaves = ls; room = 16 * new.list.capacity }) leaves
          ∙ ap (λ (c : ℕ). record { leaves = with_entries (leaves_in number index.list.entries rows) n (shown number item ∷ map (shown number) (get_or after (n - 1) [])); room = 16 * c }) capacity
          ∙ ap (λ (a : Leaves K). record a { leaves = with_entries a.leaves n (shown number item ∷ map (shown number) (get_or after (n - 1) [])) }) view

      pub both-stored : AreStored new after
      both-stored = record {
        emptied = λ m none. row-stored.emptied m (none-written index.list.entries n (m + 1) item (ap (λ (es : List (Entry (K × I))). entry_at es (m + 1)) (sym entries) ∙ none));
        enough = omega (arith, are_stored.enough);
        unlimited = maximum ∙ are_stored.unlimited;
        fits = omega (arith, are_stored.fits);
      }

-- two rows are written
module _ {K I : Type 0} (number : I → ℕ) (index : Tree (K × I)) (rows : List (List (K × I))) (now : Leaves K) (view : leaves_of number index rows ≡ now) (are_stored : AreStored index rows)
    (zeros : times_at 0 index.list.entries ≡ 0) (distinct : (i : ℕ) → times_at i index.list.entries ≤ 1) (n g : ℕ) (first : K × I) (above : 0 < n)
    (there : entry_at index.list.entries n ≡ Some (g, first)) (m h : ℕ) (second : K × I) (above_too : 0 < m) (there_too : entry_at index.list.entries m ≡ Some (h, second)) (apart : n ≢ m)
    (within : n - 1 < length rows) (after : List (List (K × I))) (long : length after ≡ length rows)
    (others : (k : ℕ) → k ≢ n - 1 → k ≢ m - 1 → get_or after k [] ≡ get_or rows k []) where
  abbrev between : List (List (K × I))
  between = set rows (n - 1) (get_or after (n - 1) [])

  between-others : AreElse rows between (n - 1)
  between-others k other = set-other rows (n - 1) k (get_or after (n - 1) []) other

  after-others : AreElse between after (m - 1)
  after-others k other = elim (eqb_tells k (n - 1)) [
    | inl same ↦ ap (λ (i : ℕ). get_or after i []) same.1 ∙ sym (set-own rows (n - 1) (get_or after (n - 1) []) within) ∙ ap (λ (i : ℕ). get_or between i []) (sym same.1)
    | inr differs ↦ others k differs.1 other ∙ sym (between-others k differs.1)
  ]

  between-view : leaves_of number index between ≡ record now { leaves = with_entries now.leaves n (shown number first ∷ map (shown number) (get_or after (n - 1) [])) }
  between-view =
      row-view number index rows now view are_stored n g first above zeros (distinct n) there between between-others (let size = length-set rows (n - 1) (get_or after (n - 1) []) in omega arith)
      ∙ ap (λ (row : List (K × I)). record now { leaves = with_entries now.leaves n (shown number first ∷ map (shown number) row) }) (set-own rows (n - 1) (get_or after (n - 1) []) within)

  between-stored : AreStored index between
  between-stored = row-stored number index rows now view are_stored n g first above zeros (distinct n) there between between-others (let size = length-set rows (n - 1) (get_or after (n - 1) []) in omega arith)

  pub two-view : leaves_of number index after ≡ record now {
    leaves = with_entries
        (with_entries now.leaves n (shown number first ∷ map (shown number) (get_or after (n - 1) []))) m (shown number second ∷ map (shown number) (get_or after (m - 1) []));
  }
  two-view =
      row-view number index between (record now { leaves = with_entries now.leaves n (shown number first ∷ map (shown number) (get_or after (n - 1) [])) }) between-view between-stored m h second above_too
      zeros (distinct m) there_too after after-others (let size = length-set rows (n - 1) (get_or after (n - 1) []) in omega arith)

  pub two-stored : AreStored index after
  two-stored =
      row-stored number index between (record now { leaves = with_entries now.leaves n (shown number first ∷ map (shown number) (get_or after (n - 1) [])) }) between-view between-stored m h second above_too
      zeros (distinct m) there_too after after-others (let size = length-set rows (n - 1) (get_or after (n - 1) []) in omega arith)

-- rows that are seen
module _ {K I : Type 0} (number : I → ℕ) where
  shown-insert : (row : List (K × I)) (at : ℕ) (x : K × I) → map (shown number) (insert row at x) ≡ insert (map (shown number) row) at (shown number x)
  shown-insert row zero x = refl
  shown-insert [] (suc at) x = refl
  shown-insert (e ∷ row) (suc at) x = ap (λ (l : List (K × ℕ)). shown number e ∷ l) (shown-insert row at x)

  shown-remove : (row : List (K × I)) (at : ℕ) → map (shown number) (remove row at) ≡ remove (map (shown number) row) at
  shown-remove [] zero = refl
  shown-remove [] (suc at) = refl
  shown-remove (e ∷ row) zero = refl
  shown-remove (e ∷ row) (suc at) = ap (λ (l : List (K × ℕ)). shown number e ∷ l) (shown-remove row at)

  shown-take : (row : List (K × I)) (at : ℕ) → map (shown number) (take at row) ≡ take at (map (shown number) row)
  shown-take row zero = refl
  shown-take [] (suc at) = refl
  shown-take (e ∷ row) (suc at) = ap (λ (l : List (K × ℕ)). shown number e ∷ l) (shown-take row at)

  shown-drop : (row : List (K × I)) (at : ℕ) → map (shown number) (drop at row) ≡ drop at (map (shown number) row)
  shown-drop row zero = refl
  shown-drop [] (suc at) = refl
  shown-drop (e ∷ row) (suc at) = shown-drop row at

  shown-append : (row other : List (K × I)) → map (shown number) (row ++ other) ≡ map (shown number) row ++ map (shown number) other
  shown-append [] other = refl
  shown-append (e ∷ row) other = ap (λ (l : List (K × ℕ)). shown number e ∷ l) (shown-append row other)

  shown-get : (row : List (K × I)) (at : ℕ) (x : K × I) → slice_get row at ≡ Some x → slice_get (map (shown number) row) at ≡ Some (shown number x)
  shown-get [] at x is = absurd (cc)
  shown-get (e ∷ row) zero x is = let own : e ≡ x = cc in ap (λ (y : K × I). Some (shown number y)) own
  shown-get (e ∷ row) (suc at) x is = shown-get row at x is

  module _ (es : List (K × ℕ)) (item : K × I) (row : List (K × I)) (is : es ≡ shown number item ∷ map (shown number) row) where
    -- the entries of a leaf after a write of its row
    pub put-head : (x : K × I) (after : List (K × I)) → after ≡ insert row 0 item → shown number x ∷ map (shown number) after ≡ insert es 0 (shown number x)
    put-head x after done = ap (λ (l : List (K × I)). shown number x ∷ map (shown number) l) done ∙ ap (λ (l : List (K × ℕ)). shown number x ∷ l) (sym is)

    pub put-row : (x : K × I) (at : ℕ) (after : List (K × I)) → 0 < at → after ≡ insert row (at - 1) x → shown number item ∷ map (shown number) after ≡ insert es at (shown number x)
    put-row x zero after some done = absurd (omega arith)
    put-row x (suc at) after some done =
        let place : suc at - 1 ≡ at = omega arith in
        ap (λ (l : List (K × I)). shown number item ∷ map (shown number) l) (done ∙ ap (λ (i : ℕ). insert row i x) place)
        ∙ ap (λ (l : List (K × ℕ)). shown number item ∷ l) (shown-insert row at x) ∙ ap (λ (l : List (K × ℕ)). insert l (suc at) (shown number x)) (sym is)

    pub taken-head : slice_get es 0 ≡ Some (shown number item)
    taken-head = ap (λ (l : List (K × ℕ)). slice_get l 0) is

    pub take-head : (x : K × I) (after : List (K × I)) → slice_get row 0 ≡ Some x → after ≡ remove row 0 → shown number x ∷ map (shown number) after ≡ remove es 0
    take-head x after here done =
        ap (λ (l : List (K × I)). shown number x ∷ map (shown number) l) done ∙ head row here ∙ ap (λ (l : List (K × ℕ)). remove l 0) (sym is)
      where
        head : (r : List (K × I)) → slice_get r 0 ≡ Some x → shown number x ∷ map (shown number) (remove r 0) ≡ map (shown number) r
        head [] here = absurd (cc)
        head (e ∷ r) here = let own : e ≡ x = cc in ap (λ (y : K × I). shown number y ∷ map (shown number) r) (sym own)

    pub taken-row : (x : K × I) (at : ℕ) → 0 < at → slice_get row (at - 1) ≡ Some x → slice_get es at ≡ Some (shown number x)
    taken-row x zero some here = absurd (omega arith)
    taken-row x (suc at) some here =
        let place : suc at - 1 ≡ at = omega arith in
        ap (λ (l : List (K × ℕ)). slice_get l (suc at)) is ∙ shown-get row at x (ap (slice_get row) (sym place) ∙ here)

    pub take-row : (at : ℕ) (after : List (K × I)) → 0 < at → after ≡ remove row (at - 1) → shown number item ∷ map (shown number) after ≡ remove es at
    take-row zero after some done = absurd (omega arith)
    take-row (suc at) after some done =
        let place : suc at - 1 ≡ at = omega arith in
        ap (λ (l : List (K × I)). shown number item ∷ map (shown number) l) (done ∙ ap (remove row) place)
        ∙ ap (λ (l : List (K × ℕ)). shown number item ∷ l) (shown-remove row at) ∙ ap (λ (l : List (K × ℕ)). remove l (suc at)) (sym is)

    pub name-head : (name : I) → shown number (item.0, name) ∷ map (shown number) row ≡ renamed es 0 (number name)
    name-head name = ap (λ (l : List (K × ℕ)). renamed l 0 (number name)) (sym is)

    pub name-row : (name : I) (at : ℕ) (after : List (K × I)) → 0 < at → at - 1 < length row → map (λ e. e.0) after ≡ map (λ e. e.0) row → map (λ e. e.1) after ≡ set (map (λ e. e.1) row) (at - 1) name
        → shown number item ∷ map (shown number) after ≡ renamed es at (number name)
    name-row name zero after some within keys names = absurd (omega arith)
    name-row name (suc at) after some within keys names =
        let place : suc at - 1 ≡ at = omega arith in
        ap (λ (l : List (K × ℕ)). shown number item ∷ l) (both row after at keys (names ∙ ap (λ (i : ℕ). set (map (λ (e : K × I). e.1) row) i name) place))
        ∙ ap (λ (l : List (K × ℕ)). renamed l (suc at) (number name)) (sym is)
      where
        same : (r s : List (K × I)) → map (λ e. e.0) s ≡ map (λ e. e.0) r → map (λ e. e.1) s ≡ map (λ e. e.1) r → map (shown number) s ≡ map (shown number) r
        same [] [] keys names = refl
        same [] (f ∷ s) keys names = absurd (let size = ap length keys in omega arith)
        same (e ∷ r) [] keys names = absurd (let size = ap length keys in omega arith)
        same (e ∷ r) (f ∷ s) keys names =
            let first : f.0 ≡ e.0 = cc in let second : f.1 ≡ e.1 = cc in
            let rest_keys : map (λ (e : K × I). e.0) s ≡ map (λ (e : K × I). e.0) r = cc in
            let rest_names : map (λ (e : K × I). e.1) s ≡ map (λ (e : K × I). e.1) r = cc in
            ap (λ (k : K). (k, number f.1) ∷ map (shown number) s) first ∙ ap (λ (i : I). (e.0, number i) ∷ map (shown number) s) second
            ∙ ap (λ (l : List (K × ℕ)). shown number e ∷ l) (same r s rest_keys rest_names)

        both : (r s : List (K × I)) (i : ℕ) → map (λ e. e.0) s ≡ map (λ e. e.0) r → map (λ e. e.1) s ≡ set (map (λ e. e.1) r) i name → map (shown number) s ≡ renamed (map (shown number) r) i (number name)
        both [] [] i keys names = refl
        both [] (f ∷ s) i keys names = absurd (let size = ap length keys in omega arith)
        both (e ∷ r) [] i keys names = absurd (let size = ap length keys in omega arith)
        both (e ∷ r) (f ∷ s) zero keys names =
            let first : f.0 ≡ e.0 = cc in let second : f.1 ≡ name = cc in
            let rest_keys : map (λ (e : K × I). e.0) s ≡ map (λ (e : K × I). e.0) r = cc in
            let rest_names : map (λ (e : K × I). e.1) s ≡ map (λ (e : K × I). e.1) r = cc in
            ap (λ (k : K). (k, number f.1) ∷ map (shown number) s) first ∙ ap (λ (i : I). (e.0, number i) ∷ map (shown number) s) second
            ∙ ap (λ (l : List (K × ℕ)). (e.0, number name) ∷ l) (same r s rest_keys rest_names)
        both (e ∷ r) (f ∷ s) (suc i) keys names =
            let first : f.0 ≡ e.0 = cc in let second : f.1 ≡ e.1 = cc in
            let rest_keys : map (λ (e : K × I). e.0) s ≡ map (λ (e : K × I). e.0) r = cc in
            let rest_names : map (λ (e : K × I). e.1) s ≡ set (map (λ (e : K × I). e.1) r) i name = cc in
            ap (λ (k : K). (k, number f.1) ∷ map (shown number) s) first ∙ ap (λ (i : I). (e.0, number i) ∷ map (shown number) s) second
            ∙ ap (λ (l : List (K × ℕ)). shown number e ∷ l) (both r s i rest_keys rest_names)

    -- where entries go to another leaf
    pub tail-kept : (at : ℕ) (after : List (K × I)) → 0 < at → after ≡ take (at - 1) row → shown number item ∷ map (shown number) after ≡ take at es
    tail-kept zero after some done = absurd (omega arith)
    tail-kept (suc at) after some done =
        let place : suc at - 1 ≡ at = omega arith in
        ap (λ (l : List (K × I)). shown number item ∷ map (shown number) l) (done ∙ ap (λ (i : ℕ). take i row) place)
        ∙ ap (λ (l : List (K × ℕ)). shown number item ∷ l) (shown-take row at) ∙ ap (take (suc at)) (sym is)

    tail-of : (at : ℕ) → 0 < at → map (shown number) (drop (at - 1) row) ≡ drop at es
    tail-of zero some = absurd (omega arith)
    tail-of (suc at) some =
        let place : suc at - 1 ≡ at = omega arith in
        ap (λ (i : ℕ). map (shown number) (drop i row)) place ∙ shown-drop row at ∙ ap (drop (suc at)) (sym is)

    pub tail-came : (at : ℕ) (fs : List (K × ℕ)) (head : K × I) (other after : List (K × I)) → 0 < at → fs ≡ shown number head ∷ map (shown number) other → other ≡ [] → after ≡ drop (at - 1) row
        → shown number head ∷ map (shown number) after ≡ fs ++ drop at es
    tail-came at fs head other after some there none done =
        ap (λ (l : List (K × I)). shown number head ∷ map (shown number) l) done ∙ ap (λ (l : List (K × ℕ)). shown number head ∷ l) (tail-of at some)
        ∙ ap (λ (l : List (K × ℕ)). l ++ drop at es) (sym (there ∙ ap (λ (l : List (K × I)). shown number head ∷ map (shown number) l) none))

    pub rest-kept : (after : List (K × I)) → after ≡ [] → shown number item ∷ map (shown number) after ≡ take 1 es
    rest-kept after done = ap (λ (l : List (K × I)). shown number item ∷ map (shown number) l) done ∙ ap (take 1) (sym is)

    pub rest-came : (fs : List (K × ℕ)) (head : K × I) (other after : List (K × I)) → fs ≡ shown number head ∷ map (shown number) other → after ≡ other ++ row
        → shown number head ∷ map (shown number) after ≡ fs ++ drop 1 es
    rest-came fs head other after there done =
        ap (λ (l : List (K × I)). shown number head ∷ map (shown number) l) done ∙ ap (λ (l : List (K × ℕ)). shown number head ∷ l) (shown-append other row)
        ∙ ap (λ (l : List (K × ℕ)). l ++ map (shown number) row) (sym there) ∙ ap (λ (l : List (K × ℕ)). fs ++ drop 1 l) (sym is)
