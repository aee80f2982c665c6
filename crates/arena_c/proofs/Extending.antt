-- Pairs that come behind all entries at once, and the pointers of the last entries.
use Rattle.std.proofs.Common.{◌≡◌, ℕ, zero, suc, ◌+◌, ◌-◌, ◌<◌, ◌≤◌, ℤ, ◌++◌, List, [], ◌∷◌, map, length, length-append, take, drop, get_or, slice_set, Option, Some, None, Vec, Result, Ok, Err, OnOk, IsSome, IsSomeAnd, true, false, refl, sym, ap, subst, ◌∙◌, ◌⊎◌, inl, inr, arith}
use native.Mathlib.Numerals.{unary_clauses}
use Rattle.std.proofs.lemmas.{Grind.common_steps, List.length-map}
use Rattle.std.specs.{Option.option_map, Ordering.is_gt, Ordering.int_cmp, List.zip, declared.cmp.Ordering.TheVariants.Greater}
use Rattle.sorted_arena.specs.{Chain.item_of, Gap.last_of, PlainArena.capacity_for, Change.ExtendsSorted, Change.refusal_of, Sorted.count, Sorted.get, Sorted.last_item, Sorted.pair_of as pair_in}
use Rattle.sorted_arena.specs.declared.error.SortedError.{SortedError, TheVariants.OutOfOrder, TheVariants.BeyondMaxCapacity, TheVariants.AllocError}
use Rattle.arena_c.specs.{declared.entry.Pointer.Pointer, Batch.first_fall, Batch.fall_behind, Batch.with_pointers, Batch.ExtendsAtOnce, Shown.Arena, Shown.most_entries}
use Rattle.arena_c.proofs.Runs.{fall-step, take-step, drop-get}
use Rattle.sorted_arena.proofs.CallerLemmas.{last-item}

pub length-zip : (ks : List ℤ) (vs : List ℕ) → length ks ≡ length vs → length (zip ks vs) ≡ length ks
length-zip [] vs same = refl
length-zip (k ∷ ks) [] same = absurd (omega arith)
length-zip (k ∷ ks) (v ∷ vs) same = let rest = length-zip ks vs (omega arith) in omega (arith, rest)

pub zip-keys : (ks : List ℤ) (vs : List ℕ) → length ks ≡ length vs → map (λ (p : ℤ × ℕ). p.0) (zip ks vs) ≡ ks
zip-keys [] vs same = refl
zip-keys (k ∷ ks) [] same = absurd (omega arith)
zip-keys (k ∷ ks) (v ∷ vs) same = ap (λ (zs : List ℤ). k ∷ zs) (zip-keys ks vs (omega arith))

split : (m n : ℕ) → (m < n) ⊎ (n ≤ m)
split m zero = inr (omega arith)
split zero (suc n) = inl (omega arith)
split (suc m) (suc n) = up (split m n)
  where
    up : (m < n) ⊎ (n ≤ m) → (suc m < suc n) ⊎ (suc n ≤ suc m)
    up (inl less) = inl (omega (arith, less))
    up (inr more) = inr (omega (arith, more))

module _ {X : Type 0} where
  pub take-some : (xs : List X) (k : ℕ) → 0 < k → 0 < length xs → take k xs ≡ [] → ⊥
  take-some [] k some more is = omega arith
  take-some (x ∷ xs) zero some more is = omega arith
  take-some (x ∷ xs) (suc k) some more is = let none : x ∷ take k xs ≡ [] = is in cc

  last-joined : (o : Option X) (xs ys : List X) → last_of o (xs ++ ys) ≡ last_of (last_of o xs) ys
  last-joined o [] ys = refl
  last-joined o (x ∷ xs) ys = last-joined (Some x) xs ys

  pub take-long : (xs : List X) (n : ℕ) → length xs ≤ n → take n xs ≡ xs
  take-long [] n fits = grind (arith, common_steps)
  take-long (x ∷ xs) zero fits = absurd (omega arith)
  take-long (x ∷ xs) (suc n) fits = ap (λ zs. x ∷ zs) (take-long xs n (omega arith))

  take-none : (xs : List X) (n : ℕ) → n ≡ 0 → take n xs ≡ []
  take-none [] n is = grind (arith, common_steps)
  take-none (x ∷ xs) n is = ap (λ k. take k (x ∷ xs)) is

  -- two lists that end with an item
  snoc-same : (xs ys : List X) (x y : X) → xs ++ x ∷ [] ≡ ys ++ y ∷ [] → (xs ≡ ys) × (x ≡ y)
  snoc-same [] [] x y is = (refl, let same : x ∷ [] ≡ y ∷ [] = is in cc)
  snoc-same [] (b ∷ ys) x y is = absurd (omega (arith, ap length is, length-append ys (y ∷ [])))
  snoc-same (a ∷ xs) [] x y is = absurd (omega (arith, ap length is, length-append xs (x ∷ [])))
  snoc-same (a ∷ xs) (b ∷ ys) x y is =
      let whole : a ∷ (xs ++ x ∷ []) ≡ b ∷ (ys ++ y ∷ []) = is in
      let head : a ≡ b = cc in let tail : xs ++ x ∷ [] ≡ ys ++ y ∷ [] = cc in
      let rest = snoc-same xs ys x y tail in (ap (λ z. z ∷ xs) head ∙ ap (λ zs. b ∷ zs) rest.0, rest.1)

  -- what is left before the last of the first k items
  pub back-passed : (es left : List X) (x : X) (k m : ℕ) → k ≡ m + 1 → m < length es → take k es ≡ left ++ x ∷ [] → (left ≡ take m es) × (drop m es ≡ x ∷ drop k es)
  back-passed es left x k m next fits is =
      let there = drop-get es m x fits in
      let one = snoc-same left (take m es) x (get_or es m x) (sym is ∙ ap (λ n. take n es) next ∙ take-step es (drop (m + 1) es) (get_or es m x) m there) in
      (one.0, there ∙ ap (λ z. z ∷ drop (m + 1) es) (sym one.1) ∙ ap (λ n. x ∷ drop n es) (sym next))

  -- an item is written behind those at the front
  set-front : (old rest : List X) (j : ℕ) (x : X) → j < length old → slice_set (take (j + 1) old ++ rest) j x ≡ take j old ++ x ∷ rest
  set-front [] rest j x fits = absurd (omega arith)
  set-front (y ∷ old) rest zero x fits = grind (arith, common_steps)
  set-front (y ∷ old) rest (suc j) x fits = simp unary_clauses (ap (λ zs. y ∷ zs) (simp unary_clauses at (set-front old rest j x (omega arith))))

-- one more item is written before those at the back, if there is room for it
module _ {A B : Type 0} (f : A → B) (es : List A) (x : A) (before now : List B) (n k m h j : ℕ) (cut : drop m es ≡ x ∷ drop k es) (next : h ≡ j + 1)
    (held : now ≡ take h before ++ (map f (take (length before - h) (drop k es)) ++ drop n before)) where
  put-inside : j < length before → slice_set now j (f x) ≡ take j before ++ (map f (take (length before - j) (drop m es)) ++ drop n before)
  put-inside fits =
      let rest = map f (take (length before - h) (drop k es)) ++ drop n before in
      let room : length before - j ≡ suc (length before - h) = omega (arith, fits, next) in
      let whole : take (length before - j) (drop m es) ≡ x ∷ take (length before - h) (drop k es) = ap (take (length before - j)) cut ∙ ap (λ t. take t (x ∷ drop k es)) room in
      let one : slice_set now j (f x) ≡ slice_set (take h before ++ rest) j (f x) = ap (λ zs. slice_set zs j (f x)) held in
      let two : slice_set (take h before ++ rest) j (f x) ≡ slice_set (take (j + 1) before ++ rest) j (f x) = ap (λ t. slice_set (take t before ++ rest) j (f x)) next in
      let shown : f x ∷ rest ≡ map f (x ∷ take (length before - h) (drop k es)) ++ drop n before = refl in
      one ∙ two ∙ set-front before rest j (f x) fits ∙ ap (λ zs. take j before ++ zs) shown ∙ ap (λ zs. take j before ++ (map f zs ++ drop n before)) (sym whole)

  put-outside : length before ≤ j → now ≡ take j before ++ (map f (take (length before - j) (drop m es)) ++ drop n before)
  put-outside long =
      let none : take (length before - h) (drop k es) ≡ take (length before - j) (drop m es) =
      take-none (drop k es) (length before - h) (omega (arith, long, next)) ∙ sym (take-none (drop m es) (length before - j) (omega (arith, long))) in
      held ∙ ap (λ t. t ++ (map f (take (length before - h) (drop k es)) ++ drop n before)) (take-long before h (omega (arith, long, next)) ∙ sym (take-long before j long))
      ∙ ap (λ zs. take j before ++ (map f zs ++ drop n before)) none

  pub put-either : (placed : List B) (y : B) (p : ℕ) → y ≡ f x → p ≡ j → length now ≡ length before → (p < length now → placed ≡ slice_set now p y) → (length now ≤ p → placed ≡ now)
      → placed ≡ take j before ++ (map f (take (length before - j) (drop m es)) ++ drop n before)
  put-either placed y p same is long inside outside = go (split p (length now))
    where
      go : (p < length now) ⊎ (length now ≤ p) → placed ≡ take j before ++ (map f (take (length before - j) (drop m es)) ++ drop n before)
      go (inl fits) = inside fits ∙ ap (λ z. slice_set now p z) same ∙ ap (λ t. slice_set now t (f x)) is ∙ put-inside (omega (arith, fits, is, long))
      go (inr over) = outside over ∙ put-outside (omega (arith, over, is, long))

-- a key that is smaller than the one before it is found
fell : (o : Option (ℤ × ℕ)) (front back : List (ℤ × ℕ)) (pair : ℤ × ℕ) (i : ℕ) → IsSomeAnd (last_of o front) (λ b. int_cmp b.0 pair.0 ≡ Greater)
    → first_fall (option_map (λ (x : ℤ × ℕ). x.0) o) (map (λ (x : ℤ × ℕ). x.0) (front ++ pair ∷ back)) i ≡ None → ⊥
fell None [] back pair i great none = great
fell (Some b) [] back pair i great none =
    let step = fall-step (Some b.0) pair.0 (map (λ (x : ℤ × ℕ). x.0) back) i none in
    let test : is_gt (int_cmp b.0 pair.0) ≡ true = rw great refl in let other : is_gt (int_cmp b.0 pair.0) ≡ false = step.0 in cc
fell o (f ∷ front) back pair i great none =
    fell (Some f) front back pair (i + 1) great (fall-step (option_map (λ (x : ℤ × ℕ). x.0) o) f.0 (map (λ (x : ℤ × ℕ). x.0) (front ++ pair ∷ back)) i none).1

-- An insertion of pairs behind all entries, after a reservation for them.
module _ (old mid new : Arena) (ks : List ℤ) (pairs : List (ℤ × ℕ)) {B : Type 0} (r : Result (Unit {0}) (Vec (ℤ × ℕ) B × SortedError)) (done : ExtendsSorted int_cmp most_entries mid pairs r new)
    (room : count mid + length pairs ≤ mid.capacity) (entries : mid.entries ≡ old.entries) where
  pub not-refused : (e : SortedError) → refusal_of r ≡ Some e → map (λ (p : ℤ × ℕ). p.0) pairs ≡ ks → fall_behind old ks ≡ None → (most_entries < count mid + length pairs → ⊥) → ⊥
  not-refused (OutOfOrder at) is keys order fits =
      let out = done.unsorted at is in
      fell (last_item mid.entries) out.front out.back out.pair 0
      (subst (λ (o : Option (ℤ × ℕ)). IsSomeAnd o (λ b. int_cmp b.0 out.pair.0 ≡ Greater)) (last-joined None (map pair_in mid.entries) out.front ∙ ap (λ o. last_of o out.front) (last-item mid.entries)) out.smaller)
      (ap (λ zs. first_fall (option_map (λ (x : ℤ × ℕ). x.0) (last_item mid.entries)) zs 0) (ap (map (λ (x : ℤ × ℕ). x.0)) (sym out.cut) ∙ keys)
      ∙ ap (λ es. first_fall (option_map (λ (x : ℤ × ℕ). x.0) (last_item es)) ks 0) entries ∙ order)
  not-refused BeyondMaxCapacity is keys order fits = fits (done.full is).1
  not-refused AllocError is keys order fits = let short = (done.memory is).1 in omega (arith, room, short)

  fact : {P : Type 0} (q : Result (Unit {0}) (Vec (ℤ × ℕ) B × SortedError)) (u : Unit {0}) → q ≡ Ok u → OnOk q P → P
  fact (Ok v) u is p = p
  fact (Err e) u is p = absurd (cc)

  module _ (u : Unit {0}) (is : r ≡ Ok u) where
    pub counted : count new ≡ count old + length pairs
    counted =
        let held = fact r u is done.ok in
        omega (arith, ap length held, ap length entries, length-append (map pair_in mid.entries) pairs, length-map new.entries (pair_in {K = ℤ} {V = ℕ}), length-map mid.entries (pair_in {K = ℤ} {V = ℕ}))

    either : (x a b g : ℕ) → a ≡ g → b ≡ a → (x ≡ a) ⊎ (x ≡ b) → x ≡ g
    either x a b g one other (inl same) = same ∙ one
    either x a b g one other (inr same) = same ∙ other ∙ one

    pub extended : (before after : List Pointer) → mid.generation ≡ old.generation → mid.capacity ≡ capacity_for most_entries old.capacity (count old + length pairs)
        → after ≡ with_pointers (drop (count new - length pairs) new.entries) before → ExtendsAtOnce pairs old new before after
    extended before after generation capacity wrote = record {
      entries = fact r u is done.ok ∙ ap (λ es. map pair_in es ++ pairs) entries;
      kept = λ q there. done.kept q (subst (λ o. IsSome o) (sym (named q)) there) ∙ named q;
      comes = λ q none there. either q.1 mid.generation new.generation old.generation generation done.generation (done.step.comes q (named q ∙ none) there);
      generation = done.generation ∙ generation;
      capacity = done.room room ∙ capacity;
      pointers = wrote ∙ ap (λ n. with_pointers (drop n new.entries) before) (omega (arith, counted));
    }
      where
        named : (q : ℕ × ℕ) → get mid q ≡ get old q
        named q = ap (λ es. item_of es q) entries
