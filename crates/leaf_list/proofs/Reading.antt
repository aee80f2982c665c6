-- What is read of a leaf.
use Rattle.std.proofs.Common.{◌≡◌, ℕ, zero, suc, ◌+◌, ◌-◌, ◌<◌, ◌≤◌, List, [], ◌∷◌, map, length, take, drop, get_or, Some, slice_get, arith, ap, sym, subst, ◌∙◌, refl, inl, inr}
use Rattle.std.specs.{List.Sorted.IsPartitionPoint, Option.IsSomeAnd}
use Rattle.std.proofs.lemmas.Bool.{eq-eqb, Decides.eqb_tells}
use Rattle.std.proofs.lemmas.List.{length-map}
use Rattle.leaf_row.specs.Named.{IsNamed}
use Rattle.leaf_list.specs.Leaves.{times}
use Rattle.leaf_list.specs.Layout.{shown}

module _ {K I : Type 0} (number : I → ℕ) where
  -- an entry of a row, by its key and its name
  pub read-both : (row : List (K × I)) (at : ℕ) (k : K) (i : I) (keys : List K) (names : List I) → at < length row → keys ≡ map (λ e. e.0) row → take (length row) names ≡ map (λ e. e.1) row
      → k ≡ get_or keys at k → i ≡ get_or names at i → slice_get (map (shown number) row) at ≡ Some (k, number i)
  read-both [] at k i keys names within ks ns own name = absurd (omega arith)
  read-both (e ∷ row) at k i [] names within ks ns own name = absurd (let size = ap length ks in omega arith)
  read-both (e ∷ row) at k i keys [] within ks ns own name = absurd (let size = ap length ns in omega arith)
  read-both (e ∷ row) zero k i (j ∷ keys) (n ∷ names) within ks ns own name =
      let first : j ≡ e.0 = cc in
      let second : n ≡ e.1 = cc in
      ap (λ (x : K). Some (x, number e.1)) (sym first ∙ sym own) ∙ ap (λ (x : I). Some (k, number x)) (sym second ∙ sym name)
  read-both (e ∷ row) (suc at) k i (j ∷ keys) (n ∷ names) within ks ns own name =
      let rest_keys : keys ≡ map (λ (e : K × I). e.0) row = cc in
      let rest_names : take (length row) names ≡ map (λ (e : K × I). e.1) row = cc in
      read-both row at k i keys names (omega arith) rest_keys rest_names own name

  -- a place in the entries behind the first
  point-of-row : (P Q : K × ℕ → Type 0) (row : List (K × I)) (q : ℕ) → IsPartitionPoint P Q (map (shown number) row) q → q ≤ length row
      → IsPartitionPoint (λ (e : K × I). P (shown number e)) (λ (e : K × I). Q (shown number e)) row q
  point-of-row P Q row q point within = (
    λ i d from until. subst P (get_or-shown row i d (omega arith)) (point.0 i (shown number d) from until),
    λ i d from until. subst Q (get_or-shown row i d (omega arith)) (point.1 i (shown number d) from (let size = length-map row (shown number) in omega arith)),
  )
    where
      get_or-shown : (xs : List (K × I)) (i : ℕ) (d : K × I) → i < length xs → get_or (map (shown number) xs) i (shown number d) ≡ shown number (get_or xs i d)
      get_or-shown [] i d within = absurd (omega arith)
      get_or-shown (x ∷ xs) zero d within = refl
      get_or-shown (x ∷ xs) (suc i) d within = get_or-shown xs i d (omega arith)

  pub row-point : (P Q : K × ℕ → Type 0) (es : List (K × ℕ)) (item : K × I) (row : List (K × I)) (q : ℕ) → es ≡ shown number item ∷ map (shown number) row → q + 1 ≤ length es
      → IsPartitionPoint P Q (drop 1 es) q → (q ≤ length row) × IsPartitionPoint (λ (e : K × I). P (shown number e)) (λ (e : K × I). Q (shown number e)) row q
  row-point P Q es item row q is within point =
      let size = ap length is in
      let few : q ≤ length row = omega (arith, length-map row (shown number)) in
      (few, point-of-row P Q row q (subst (λ (xs : List (K × ℕ)). IsPartitionPoint P Q (drop 1 xs) q) is point) few)

  -- names in a row
  pub named-at : (row : List (K × I)) (at n : ℕ) → IsNamed number row at n → IsSomeAnd (slice_get (map (shown number) row) at) (λ e. e.1 ≡ n)
  named-at row at n named = rw (get-shown row at named.entry named.here) named.name
    where
      get-shown : (xs : List (K × I)) (i : ℕ) (e : K × I) → slice_get xs i ≡ Some e → slice_get (map (shown number) xs) i ≡ Some (shown number e)
      get-shown [] i e is = absurd (cc)
      get-shown (x ∷ xs) zero e is = let own : x ≡ e = cc in ap (λ (y : K × I). Some (shown number y)) own
      get-shown (x ∷ xs) (suc i) e is = get-shown xs i e is

  named-times : (row : List (K × I)) (at n : ℕ) → IsNamed number row at n → 1 ≤ times n (map (shown number) row)
  named-times [] at n named = absurd (let here = named.here in cc)
  named-times (e ∷ row) zero n named =
      let here = named.here in
      let own : e ≡ named.entry = cc in
      let same : number e.1 ≡ n = ap (λ (x : K × I). number x.1) own ∙ named.name in
      let test = eq-eqb (number e.1) n same in rw test (omega arith)
  named-times (e ∷ row) (suc at) n named = let rest = named-times row at n (record { entry = named.entry; here = named.here; name = named.name }) in omega arith

  -- no two entries have a name that occurs once
  clash : (e : K × I) (row : List (K × I)) (j n : ℕ) → times n (map (shown number) (e ∷ row)) ≤ 1 → IsNamed number (e ∷ row) zero n → IsNamed number (e ∷ row) (suc j) n → ⊥
  clash e row j n once one other =
      let here = one.here in
      let own : e ≡ one.entry = cc in
      let test = eq-eqb (number e.1) n (ap (λ (x : K × I). number x.1) own ∙ one.name) in
      let rest = named-times row j n (record { entry = other.entry; here = other.here; name = other.name }) in omega (arith, rw test at once)

  pub named-once : (row : List (K × I)) (i j n : ℕ) → times n (map (shown number) row) ≤ 1 → IsNamed number row i n → IsNamed number row j n → i ≡ j
  named-once [] i j n once one other = absurd (let here = one.here in cc)
  named-once (e ∷ row) zero zero n once one other = refl
  named-once (e ∷ row) zero (suc j) n once one other = absurd (clash e row j n once one other)
  named-once (e ∷ row) (suc i) zero n once one other = absurd (clash e row i n once other one)
  named-once (e ∷ row) (suc i) (suc j) n once one other =
      let rest = named-once row i j n (omega arith) (record { entry = one.entry; here = one.here; name = one.name }) (record { entry = other.entry; here = other.here; name = other.name }) in omega arith

  -- an entry with a name, if there is one
  pub some-named : (row : List (K × I)) (n : ℕ) → 1 ≤ times n (map (shown number) row) → (i : ℕ) × IsNamed number row i n
  some-named [] n some = absurd (omega arith)
  some-named (e ∷ row) n some = elim (eqb_tells (number e.1) n) [
    | inl same ↦ (0, record { entry = e; here = refl; name = same.1 })
    | inr other ↦ let rest = some-named row n (omega (arith, rw other.0 at some)) in (suc rest.0, record { entry = rest.1.entry; here = rest.1.here; name = rest.1.name })
  ]

  -- where a row tells the place of a name, or else it is the first entry's
  pub place-of : (es : List (K × ℕ)) (item : K × I) (row : List (K × I)) (at n : ℕ) → es ≡ shown number item ∷ map (shown number) row → times n es ≡ 1
      → (0 < at → IsNamed number row (at - 1) n) → (at ≡ 0 → (i : ℕ) → IsNamed number row i n → ⊥) → IsSomeAnd (slice_get es at) (λ e. e.1 ≡ n)
  place-of es item row zero n is once found none = rw is (elim (eqb_tells (number item.1) n) [
    | inl same ↦ same.1
    | inr other ↦ absurd (let count = rw (is, other.0) at once in let some = some-named row n (omega arith) in none refl some.0 some.1)
  ])
  place-of es item row (suc at) n is once found none = let place : suc at - 1 ≡ at = omega arith in rw is (named-at row at n (subst (λ (m : ℕ). IsNamed number row m n) place (found (omega arith))))

  pub row-once : (es : List (K × ℕ)) (item : K × I) (row : List (K × I)) (n : ℕ) → es ≡ shown number item ∷ map (shown number) row → times n es ≡ 1 → times n (map (shown number) row) ≤ 1
  row-once es item row n is once = let count = ap (times n) is in omega arith

pub times-length : {K : Type 0} (i : ℕ) (es : List (K × ℕ)) → times i es ≤ length es
times-length i [] = omega arith
times-length i (e ∷ es) = let rest = times-length i es in elim (eqb_tells e.1 i) [ inl same ↦ rw same.0 (omega arith) | inr other ↦ rw other.0 (omega arith) ]

pub behind-head : {X : Type 0} (es : List X) (x : X) (xs : List X) (at : ℕ) (y : X) → es ≡ x ∷ xs → 0 < at → slice_get xs (at - 1) ≡ Some y → slice_get es at ≡ Some y
behind-head {X} es x xs zero y is some there = absurd (omega arith)
behind-head {X} es x xs (suc at) y is some there =
    let place : suc at - 1 ≡ at = omega arith in ap (λ (l : List X). slice_get l (suc at)) is ∙ ap (slice_get xs) (sym place) ∙ there
