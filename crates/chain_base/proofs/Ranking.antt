-- The places of indexes among the occupied ones, counted by rising index.
use Rattle.std.proofs.Common.{◌≡◌, ℕ, zero, suc, ◌+◌, ◌-◌, ◌<◌, ◌≤◌, List, [], ◌∷◌, ◌++◌, length, map, take, replicate, slice_get, Option, Some, None, is_some, count_by, cond, get_or, add-zero, refl, sym, ap, ◌∙◌, arith, add-one, inl, inr, option_map}
use Rattle.std.proofs.{lemmas.Bool.Decides.nat_tests, lemmas.Bool.Decides.leb_tells, lemmas.List.take_all, lemmas.List.get_or_past}
use Rattle.std.proofs.{lemmas.List.Sums.sum_by-cons, lemmas.List.Sums.sum_by_more, lemmas.Grind.common_steps}
use Rattle.arena_base.specs.{Walk.entries_from, Arena.resized}
use Rattle.chain_base.specs.{Compression.lesser, Compression.compressed_index, Compression.entry_before, Chain.Entry, Chain.IsDistinct, Chain.times}
use Rattle.chain_base.proofs.{Vacancy.get_or-vacant, Vacancy.HoldIndexes, Vacancy.held-within, Lists.times-here}

module _ {T : Type 0} where
  pub lesser-zero : (es : List (Entry T)) → lesser es 0 ≡ 0
  lesser-zero [] = refl
  lesser-zero (e ∷ es) = let ih = lesser-zero es in grind (arith, nat_tests)

  pub lesser-next : (es : List (Entry T)) (i : ℕ) → lesser es (i + 1) ≡ lesser es i + times i es
  lesser-next [] i = refl
  lesser-next (e ∷ es) i = let ih = lesser-next es i in grind (arith, nat_tests)

  pub lesser-le : (es : List (Entry T)) (i j : ℕ) → i ≤ j → lesser es i ≤ lesser es j
  lesser-le [] i j le = omega arith
  lesser-le (e ∷ es) i j le = let ih = lesser-le es i j le in grind (arith, nat_tests)

  -- of two occupied indexes the lesser has the lesser place
  pub lesser-below : (es : List (Entry T)) (i j : ℕ) → 1 ≤ times i es → i < j → lesser es i < lesser es j
  lesser-below es i j occurs below = omega (arith, lesser-le es (i + 1) j (omega arith), lesser-next es i)

  pub place-injective : (es : List (Entry T)) (x y : ℕ) → 1 ≤ times x es → 1 ≤ times y es → compressed_index es x ≡ compressed_index es y → x ≡ y
  place-injective es x y there_x there_y same = grind (arith, common_steps, lesser-below es x y there_x, lesser-below es y x there_y)

  -- all indexes are lesser than one above them
  pub lesser-all : (es : List (Entry T)) (m : ℕ) → ((i : ℕ) → 1 ≤ times i es → i < m) → lesser es m ≡ length es
  lesser-all [] m below = refl
  lesser-all (e ∷ es) m below = grind (arith, common_steps, lesser-all es m, below e.index, times-here e.index e es, below)

  -- no index has more lesser ones than there are entries
  pub lesser-most : (es : List (Entry T)) (i : ℕ) → lesser es i ≤ length es
  lesser-most [] i = omega arith
  lesser-most (e ∷ es) i = grind (arith, common_steps, lesser-most es i)

  -- each number below the place of m is the place of an entry
  pub place-found : (es : List (Entry T)) → IsDistinct es → (m k : ℕ) → k < lesser es m → (i : ℕ) × (i < m) × (lesser es i ≡ k) × (1 ≤ times i es)
  place-found es distinct zero k more = absurd (omega (arith, more, lesser-zero es))
  place-found es distinct (suc m) k more =
      let next : lesser es (suc m) ≡ lesser es m + times m es = rw (← add-one) (lesser-next es m) in
      elim (leb_tells (suc k) (lesser es m)) [
        | inl h ↦ let found = place-found es distinct m k (omega (arith, h.1)) in (found.0, omega (arith, found.1), found.2, found.3)
        | inr h ↦ (m, omega arith, omega (arith, h.1, more, next, distinct m), omega (arith, h.1, more, next))
      ]

-- one more slot is counted
count-next : {X : Type 0} (slots : List (Option X)) (i : ℕ) → count_by is_some (take (i + 1) slots) ≡ count_by is_some (take i slots) + cond (is_some (get_or slots i None)) 1 0
count-next slots i = grind (arith, common_steps, sum_by_more, take_all, get_or_past)

module _ {X T : Type 0} where
  -- counting slots and counting in the list agree
  pub place-slots : (slots : List (Option X)) (es : List (Entry T)) → HoldIndexes slots es → (i : ℕ) → count_by is_some (take i slots) ≡ lesser es i
  place-slots slots es held zero = sym (lesser-zero es)
  place-slots slots es held (suc i) =
      let next : count_by is_some (take (i + 1) slots) ≡ lesser es (i + 1) = omega (arith, count-next slots i, lesser-next es i, place-slots slots es held i, held i) in
      rw add-one at next

  pub counted-held : (slots : List (Option X)) (es : List (Entry T)) → HoldIndexes slots es → count_by is_some slots ≡ length es
  counted-held slots es held =
      grind (arith, common_steps, take_all (length slots) slots, place-slots slots es held (length slots), lesser-all es (length slots), held-within slots es)

-- the entries of slots by rising index, and their places
module _ {X : Type 0} where
  pub length-entries : (from : ℕ) (slots : List (Option (ℕ × X))) → length (entries_from from slots) ≡ count_by is_some slots
  length-entries from [] = refl
  length-entries from (None ∷ slots) = omega (arith, length-entries (from + 1) slots, sum_by-cons (λ (o : Option (ℕ × X)). cond (is_some o) 1 0) None slots)
  length-entries from (Some e ∷ slots) = omega (arith, length-entries (from + 1) slots, sum_by-cons (λ o. cond (is_some o) 1 0) (Some e) slots)

  pub entry-placed : (i : ℕ) (os : List (Option (ℕ × X))) (x : ℕ) (e : ℕ × X) → get_or os x None ≡ Some e
      → slice_get (entries_from i os) (count_by is_some (take x os)) ≡ Some (i + x, e.0, e.1)
  entry-placed i (None ∷ os) (suc x) e is = grind (arith, common_steps, entry-placed (i + 1) os x e is)
  entry-placed i (Some f ∷ os) (suc x) e is = grind (arith, common_steps, entry-placed (i + 1) os x e is)
  entry-placed i os x e is = grind (arith, common_steps)

  -- an entry of generation g
  abbrev pub with_era : ℕ → X → ℕ × X
  with_era g x = (g, x)

  filled-at : (g : ℕ) (xs : List X) (n k : ℕ) → get_or (map (λ x. Some (with_era g x)) xs ++ replicate n None) k None ≡ option_map (with_era g) (slice_get xs k)
  filled-at g (x ∷ xs) n (suc k) = filled-at g xs n k
  filled-at g xs n k = grind (arith, common_steps, get_or-vacant)

  -- the slots of a compressed arena
  abbrev pub compact : ℕ → ℕ → List X → List (Option (ℕ × X))
  compact n g xs = resized n (None ∷ map (λ x. Some (with_era g x)) xs)

  compact-is : (n g : ℕ) (xs : List X) → length xs < suc n → compact (suc n) g xs ≡ None ∷ (map (λ x. Some (with_era g x)) xs ++ replicate (n - length xs) None)
  compact-is n g xs fits = grind (arith, common_steps)

  pub compressed-length : (n g : ℕ) (xs : List X) → length xs < n → length (compact n g xs) ≡ n
  compressed-length n g xs fits = grind (arith, common_steps)

  pub compressed-at : (n g : ℕ) (xs : List X) (k : ℕ) → length xs < n → get_or (compact n g xs) (suc k) None ≡ option_map (with_era g) (slice_get xs k)
  compressed-at n g xs k fits = grind (arith, common_steps, compact-is, filled-at)

  pub compressed-first : (n : ℕ) (xs : List (Option (ℕ × X))) → get_or (resized n (None ∷ xs)) 0 None ≡ None
  compressed-first n xs = grind (arith, common_steps, get_or-vacant)

  -- its entries are in a row
  filled-count : (g : ℕ) (xs : List X) (n k : ℕ) → k ≤ length xs → count_by is_some (take k (map (λ x. Some (with_era g x)) xs ++ replicate n None)) ≡ k
  filled-count g (x ∷ xs) n (suc k) within = grind (arith, common_steps, filled-count g xs n k)
  filled-count g xs n k within = grind (arith, common_steps)

  pub compressed-place : (n g : ℕ) (xs : List X) (k : ℕ) → length xs < n → k ≤ length xs → count_by is_some (take (k + 1) (compact n g xs)) ≡ k
  compressed-place n g xs k fits within = grind (arith, common_steps, compact-is, sum_by-cons, filled-count)

-- the entries by rising index, from slots and from the list: `at` is what the list has at an index, `among` lists that
module _ {X Y : Type 0} (see : X → Y) (at : ℕ → Option (ℕ × Y)) (among : ℕ → ℕ → List (ℕ × ℕ × Y)) (none : (i : ℕ) → among i 0 ≡ [])
    (next : (i n : ℕ) → among i (suc n) ≡ entry_before i (at i) (among (i + 1) n)) where
  abbrev seen : Option (ℕ × X) → Option (ℕ × Y)
  seen o = option_map (λ e. (e.0, see e.1)) o

  abbrev all_seen : List (ℕ × ℕ × X) → List (ℕ × ℕ × Y)
  all_seen es = map (λ e. (e.0, e.1, see e.2)) es

  among-slots : (from : ℕ) (slots : List (Option (ℕ × X))) → ((k : ℕ) → k < length slots → seen (get_or slots k None) ≡ at (from + k))
      → all_seen (entries_from from slots) ≡ among from (length slots)
  among-slots from [] same = sym (none from)
  among-slots from (o ∷ slots) same = by o _ (let here : seen o ≡ at (from + 0) = same 0 (omega arith) in rw add-zero at here)
      (among-slots (from + 1) slots (λ k within. let shift : from + suc k ≡ from + 1 + k = omega arith in rw shift at (same (suc k) (omega arith)))) ∙ sym (next from (length slots))
    where
      by : (o : Option (ℕ × X)) (rest : List (ℕ × ℕ × Y)) → seen o ≡ at from → all_seen (entries_from (from + 1) slots) ≡ rest → all_seen (entries_from from (o ∷ slots)) ≡ entry_before from (at from) rest
      by None rest here more = rw (← here) more
      by (Some e) rest here more = rw (← here) (ap (λ rest. (from, e.0, see e.1) ∷ rest) more)

  pub among-arena : (slots : List (Option (ℕ × X))) → at 0 ≡ None → ((i : ℕ) → seen (get_or slots i None) ≡ at i)
      → all_seen (entries_from 0 slots) ≡ among 1 (length slots - 1)
  among-arena [] begins same = sym (none 1)
  among-arena (Some e ∷ slots) begins same = absurd (let here = same 0 in cc)
  among-arena (None ∷ slots) begins same =
      let count : length slots ≡ suc (length slots) - 1 = omega arith in
      among-slots 1 slots (λ k within. let shift : suc k ≡ 1 + k = omega arith in rw shift at (same (suc k))) ∙ ap (among 1) count
