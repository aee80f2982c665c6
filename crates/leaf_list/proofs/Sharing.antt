-- Entries that go from a leaf to another one: all of them, or the first ones.
use Rattle.std.proofs.Common.{◌≡◌, ◌≢◌, ℕ, zero, suc, ◌+◌, ◌-◌, ◌<◌, ◌≤◌, List, [], ◌∷◌, ◌++◌, length, take, drop, slice_get, Some, arith, ap, sym, ◌∙◌, refl, length-append, append_assoc}
use Rattle.std.specs.List.{insert, remove}
use Rattle.std.proofs.lemmas.List.{append-nil, length-take-le, length-drop}
use Rattle.leaf_list.specs.Leaves.{Leaf}
use Rattle.leaf_list.specs.Parts.{entries_in, HasLeaf, with_entries, without_leaf}
use Rattle.leaf_list.proofs.Entering.{insert-end}
use Rattle.leaf_list.proofs.Changing.{own-changed, other-changed, other-gone, changed-twice, changed-gone, changed-apart, gone-apart, unchanged}

module _ {X : Type 0} where
  insert-between : (xs ys : List X) (x : X) → insert (xs ++ ys) (length xs) x ≡ xs ++ x ∷ ys
  insert-between [] ys x = refl
  insert-between (y ∷ xs) ys x = ap (λ (l : List X). y ∷ l) (insert-between xs ys x)

  head-back : (es : List X) (x : X) → slice_get (take 1 es) 0 ≡ Some x → x ∷ drop 1 es ≡ es
  head-back [] x is = absurd (cc)
  head-back (e ∷ es) x is = let own : e ≡ x = cc in ap (λ (y : X). y ∷ es) (sym own)

  take-next : (es : List X) (i : ℕ) (x : X) → slice_get (drop i es) 0 ≡ Some x → take (i + 1) es ≡ take i es ++ x ∷ []
  take-next [] zero x is = absurd (cc)
  take-next [] (suc i) x is = absurd (cc)
  take-next (e ∷ es) zero x is = let own : e ≡ x = cc in ap (λ (y : X). y ∷ []) own
  take-next (e ∷ es) (suc i) x is =
      let place : suc i + 1 ≡ suc (i + 1) = omega arith in
      ap (λ (j : ℕ). take j (e ∷ es)) place ∙ ap (λ (l : List X). e ∷ l) (take-next es i x is)

  drop-next : (es : List X) (i : ℕ) → remove (drop i es) 0 ≡ drop (i + 1) es
  drop-next [] zero = refl
  drop-next [] (suc i) = let place : suc i + 1 ≡ suc (i + 1) = omega arith in ap (λ (j : ℕ). drop j []) (sym place)
  drop-next (e ∷ es) zero = refl
  drop-next (e ∷ es) (suc i) = let place : suc i + 1 ≡ suc (i + 1) = omega arith in drop-next es i ∙ ap (λ (j : ℕ). drop j (e ∷ es)) (sym place)

-- from leaf n to leaf m
module _ {K : Type 0} (ls : List (Leaf K)) (n m : ℕ) (other : n ≢ m) (from : HasLeaf ls n) (to : HasLeaf ls m) where
  back-too : m ≢ n
  back-too same = other (sym same)

  abbrev es : List (K × ℕ)
  es = entries_in ls n

  abbrev fs : List (K × ℕ)
  fs = entries_in ls m

  -- all but the first have gone, then the leaf is closed
  abbrev pub single : List (Leaf K)
  single = with_entries (with_entries ls n (take 1 es)) m (fs ++ drop 1 es)

  pub single-own : entries_in single n ≡ take 1 es
  single-own = other-changed (with_entries ls n (take 1 es)) m n (fs ++ drop 1 es) back-too ∙ own-changed ls n (take 1 es) from

  pub single-size : length (entries_in single n) ≡ 1
  single-size = ap length single-own ∙ length-take-le 1 es from

  single-other : entries_in single m ≡ fs ++ drop 1 es
  single-other =
      let same = other-changed ls n m (take 1 es) other in
      own-changed (with_entries ls n (take 1 es)) m (fs ++ drop 1 es) (rw same to)

  pub closed-other : entries_in (without_leaf single n) m ≡ fs ++ drop 1 es
  closed-other = other-gone single n m other ∙ single-other

  pub closed-size : length (entries_in (without_leaf single n) m) + 1 ≡ length fs + length es
  closed-size = let size = ap length closed-other in omega (arith, length-append fs (drop 1 es), length-drop 1 es)

  pub joined-is : (x : K × ℕ) (at : ℕ) → at ≡ length fs → slice_get (entries_in single n) 0 ≡ Some x
      → with_entries (without_leaf single n) m (insert (entries_in (without_leaf single n) m) at x) ≡ without_leaf (with_entries ls m (fs ++ es)) n
  joined-is x at size taken =
      let all : insert (entries_in (without_leaf single n) m) at x ≡ fs ++ es =
      ap (λ (l : List (K × ℕ)). insert l at x) closed-other ∙ ap (λ (i : ℕ). insert (fs ++ drop 1 es) i x) size ∙ insert-between fs (drop 1 es) x
      ∙ ap (λ (l : List (K × ℕ)). fs ++ l) (head-back es x (ap (λ (l : List (K × ℕ)). slice_get l 0) (sym single-own) ∙ taken)) in
      let gone : without_leaf single n ≡ with_entries (without_leaf ls n) m (fs ++ drop 1 es) =
      gone-apart m n back-too (with_entries ls n (take 1 es)) (fs ++ drop 1 es)
      ∙ ap (λ (xs : List (Leaf K)). with_entries xs m (fs ++ drop 1 es)) (changed-gone ls n (take 1 es)) in
      ap (with_entries (without_leaf single n) m) all ∙ ap (λ (xs : List (Leaf K)). with_entries xs m (fs ++ es)) gone
      ∙ changed-twice (without_leaf ls n) m (fs ++ drop 1 es) (fs ++ es) ∙ sym (gone-apart m n back-too ls (fs ++ es))

  -- the first i have gone
  abbrev pub shared : ℕ → List (Leaf K)
  shared i = with_entries (with_entries ls m (fs ++ take i es)) n (drop i es)

  pub shared-none : shared 0 ≡ ls
  shared-none =
      ap (λ (l : List (K × ℕ)). with_entries (with_entries ls m l) n es) (append-nil fs) ∙ ap (λ (xs : List (Leaf K)). with_entries xs n es) (unchanged ls m) ∙ unchanged ls n

  pub shared-own : (i : ℕ) → entries_in (shared i) n ≡ drop i es
  shared-own i =
      let same = other-changed ls m n (fs ++ take i es) back-too in own-changed (with_entries ls m (fs ++ take i es)) n (drop i es) (rw same from)

  pub shared-other : (i : ℕ) → entries_in (shared i) m ≡ fs ++ take i es
  shared-other i = other-changed (with_entries ls m (fs ++ take i es)) n m (drop i es) other ∙ own-changed ls m (fs ++ take i es) to

  pub shared-size : (i : ℕ) → length (entries_in (shared i) n) ≡ length es - i
  shared-size i = ap length (shared-own i) ∙ length-drop i es

  -- the next one is taken out
  abbrev pub between : ℕ → List (Leaf K)
  between i = with_entries (shared i) n (remove (entries_in (shared i) n) 0)

  pub between-other : (i : ℕ) → entries_in (between i) m ≡ fs ++ take i es
  between-other i = other-changed (shared i) n m (remove (entries_in (shared i) n) 0) other ∙ shared-other i

  pub between-size : (i : ℕ) → i ≤ length es → length (entries_in (between i) m) ≡ length fs + i
  between-size i within = let size = ap length (between-other i) in let front_size = length-take-le i es within in omega (arith, length-append fs (take i es))

  pub shared-next : (i : ℕ) (x : K × ℕ) (at : ℕ) → i < length es → at ≡ length fs + i → slice_get (entries_in (shared i) n) 0 ≡ Some x
      → with_entries (between i) m (insert (entries_in (between i) m) at x) ≡ shared (i + 1)
  shared-next i x at within place taken =
      let front_size = length-take-le i es (omega arith) in
      let size : at ≡ length (fs ++ take i es) = omega (arith, length-append fs (take i es)) in
      let head : slice_get (drop i es) 0 ≡ Some x = ap (λ (l : List (K × ℕ)). slice_get l 0) (sym (shared-own i)) ∙ taken in
      let put : insert (entries_in (between i) m) at x ≡ fs ++ take (i + 1) es =
      ap (λ (l : List (K × ℕ)). insert l at x) (between-other i) ∙ ap (λ (j : ℕ). insert (fs ++ take i es) j x) size ∙ insert-end (fs ++ take i es) x
      ∙ append_assoc fs (take i es) (x ∷ []) ∙ ap (λ (l : List (K × ℕ)). fs ++ l) (sym (take-next es i x head)) in
      let left : between i ≡ with_entries (with_entries ls m (fs ++ take i es)) n (drop (i + 1) es) =
      ap (λ (l : List (K × ℕ)). with_entries (shared i) n (remove l 0)) (shared-own i) ∙ ap (with_entries (shared i) n) (drop-next es i)
      ∙ changed-twice (with_entries ls m (fs ++ take i es)) n (drop i es) (drop (i + 1) es) in
      ap (with_entries (between i) m) put ∙ ap (λ (xs : List (Leaf K)). with_entries xs m (fs ++ take (i + 1) es)) left
      ∙ changed-apart n m other (with_entries ls m (fs ++ take i es)) (drop (i + 1) es) (fs ++ take (i + 1) es)
      ∙ ap (λ (xs : List (Leaf K)). with_entries xs n (drop (i + 1) es)) (changed-twice ls m (fs ++ take i es) (fs ++ take (i + 1) es))
