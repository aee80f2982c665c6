-- Lists of rows that become longer or shorter, and calls that may be refused memory.
use Rattle.std.proofs.Common.{◌≡◌, ℕ, zero, suc, ◌+◌, ◌<◌, ◌≤◌, min, List, [], ◌∷◌, ◌++◌, length, take, get_or, Result, Ok, Err, OnOk, OnErr, IsErr, arith, ap, sym, ◌∙◌, refl, inl, inr}
use Rattle.std.proofs.lemmas.Bool.{cases_lt}
use Rattle.std.proofs.lemmas.List.{take_all}

module _ {X : Type 0} where
  -- an empty row at the end
  pub pushed-same : (xs : List (List X)) (i : ℕ) → get_or (xs ++ [] ∷ []) i [] ≡ get_or xs i []
  pushed-same [] zero = refl
  pushed-same [] (suc i) = refl
  pushed-same (x ∷ xs) zero = refl
  pushed-same (x ∷ xs) (suc i) = pushed-same xs i

  -- no row
  pub past-end : (xs : List (List X)) (i : ℕ) → length xs ≤ i → get_or xs i [] ≡ []
  past-end [] i past = refl
  past-end (x ∷ xs) zero past = absurd (omega arith)
  past-end (x ∷ xs) (suc i) past = past-end xs i (omega arith)

  -- the last one is cut off
  pub cut-last : (xs front : List X) (x : X) (m : ℕ) → front ++ x ∷ [] ≡ take m xs → m ≤ length xs → length front + 1 ≡ m
      → (front ≡ take (length front) xs) × ((d : X) → get_or xs (length front) d ≡ x)
  cut-last [] front x m is within size = absurd (omega arith)
  cut-last (y ∷ xs) front x zero is within size = absurd (omega arith)
  cut-last (y ∷ xs) [] x (suc m) is within size = let own : x ≡ y = cc in (refl, λ d. sym own)
  cut-last (y ∷ xs) (f ∷ front) x (suc m) is within size =
      let own : f ≡ y = cc in
      let later : front ++ x ∷ [] ≡ take m xs = cc in
      let rest = cut-last xs front x m later (omega arith) (omega arith) in
      (ap (λ (l : List X). f ∷ l) rest.0 ∙ ap (λ (z : X). z ∷ take (length front) xs) own, rest.1)

  pub take-cut : (xs : List X) (m n : ℕ) → m ≤ n → min n (length xs) ≤ m → m ≤ length xs → take m xs ≡ take n xs
  take-cut xs m n most least within = elim (cases_lt n (length xs)) [
    | inl l ↦ let same : m ≡ n = omega arith in ap (λ (i : ℕ). take i xs) same
    | inr l ↦ take_all m xs (omega arith) ∙ sym (take_all n xs l)
  ]

  -- one more
  pub taken-more : (xs : List X) (i : ℕ) (x : X) → i < length xs → x ≡ get_or xs i x → take i xs ++ x ∷ [] ≡ take (i + 1) xs
  taken-more [] i x within is = absurd (omega arith)
  taken-more (y ∷ xs) zero x within is = ap (λ (z : X). z ∷ []) is
  taken-more (y ∷ xs) (suc i) x within is =
      let place : suc i + 1 ≡ suc (i + 1) = omega arith in
      ap (λ (l : List X). y ∷ l) (taken-more xs i x (omega arith) is) ∙ ap (λ (j : ℕ). take j (y ∷ xs)) (sym place)

module _ {R E : Type 0} where
  -- what a call leaves, if it succeeds
  pub on-ok : {A B : Type 0} (r : Result R E) → (A → B) → OnOk r A → OnOk r B
  on-ok (Ok x) f a = f a
  on-ok (Err e) f a = a

  pub on-err : {A B : Type 0} (r : Result R E) → (A → B) → OnErr r A → OnErr r B
  on-err (Ok x) f a = a
  on-err (Err e) f a = f a

  -- a call that cannot fail
  pub not-refused : {A : Type 0} (r : Result R E) → (IsErr r → ⊥) → OnOk r A → A
  not-refused (Ok x) fails a = a
  not-refused (Err e) fails a = absurd (fails refl)

  -- in either case
  pub either : {A : Type 0} (r : Result R E) → OnOk r A → OnErr r A → A
  either (Ok x) a b = a
  either (Err e) a b = b

  pub as-err : {A : Type 0} (r : Result R E) → A → OnErr r A
  as-err (Ok x) a = tt
  as-err (Err e) a = a
