-- Steps of the searches of a row.
use Rattle.std.proofs.Common.{◌≡◌, inl, inr, ℕ, ◌+◌, ◌-◌, ◌*◌, ◌/◌, ◌^◌, ◌<◌, ◌≤◌, Bool, true, false, List, length, get_or, arith, sym, ◌∙◌, subst}
use Rattle.std.specs.List.{HoldsAt, AllWithin}
use Rattle.std.proofs.lemmas.List.{get_or_default}
use Rattle.std.proofs.lemmas.Bool.{cases_lt}
use Rattle.std.proofs.lemmas.Nat.{mul-le, pow-add}
use Rattle.std.proofs.Math.Pow.{pow_mono}
use Rattle.leaf_row.specs.Before.{IsWithinHalvings}

module _ {X : Type 0} (xs : List X) where
  -- what holds of the element that was read at i
  pub holds_read : (P : X → Type 0) (i : ℕ) (x : X) → i < length xs → x ≡ get_or xs i x → P x → HoldsAt P xs i
  holds_read P i x h e p d = subst P (e ∙ get_or_default xs i x d h) p

  -- an element that passes is before the place
  pub passed : (p : X → Bool) (q i : ℕ) (x : X) → i < length xs → x ≡ get_or xs i x → p x ≡ true
      → AllWithin (λ y. p y ≡ false) xs q (length xs) → i < q
  passed p q i x h e t f = elim (cases_lt i q) [ inl l ↦ l | inr l ↦ let n = f i x l h in cc ]

  -- one that fails isn't
  pub failed : (p : X → Bool) (q i : ℕ) (x : X) → x ≡ get_or xs i x → p x ≡ false → AllWithin (λ y. p y ≡ true) xs 0 q → q ≤ i
  failed p q i x e t f = elim (cases_lt i q) [ inl l ↦ let n = f i x (omega arith) l in cc | inr l ↦ l ]

-- a step halves what is left
pub halved : (v s h t : ℕ) → h ≡ s / 2 → 1 < s → 2 ^ v * (s - 1) ≤ t → (2 ^ (v + 1) * (s - h - 1) ≤ t) × (2 ^ (v + 1) ≤ 2 * t)
halved v s h t is some left =
    let twice : 2 ^ (v + 1) ≡ 2 ^ v * 2 = pow-add 2 v 1 in
    let half : 2 * (s - h - 1) ≤ s - 1 = omega arith in
    let part : 2 ^ v * (2 * (s - h - 1)) ≤ 2 ^ v * (s - 1) = mul-le (2 ^ v) (2 * (s - h - 1)) (2 ^ v) (s - 1) (omega arith) half in
    let one : 2 ^ v * 1 ≤ 2 ^ v * (s - 1) = mul-le (2 ^ v) 1 (2 ^ v) (s - 1) (omega arith) (omega arith) in
    (subst (λ (p : ℕ). p * (s - h - 1) ≤ t) (sym twice) (omega (arith, part, left)), omega (arith, twice, one, left))

-- a row with more than 15 keys has five binary digits
pub five : (n v : ℕ) → 15 < n → IsWithinHalvings 31 v → IsWithinHalvings n v
five n v many h = record {
  few = λ some. elim (cases_lt v 6) [
    | inl l ↦ let most : 2 ^ v ≤ 32 = pow_mono {i = v} {j = 5} (omega arith) in omega arith
    | inr l ↦ absurd (let p : 2 ^ 6 ≤ 2 ^ v = pow_mono {i = 6} {j = v} l in let most = h.few (omega arith) in omega arith)
  ];
  none = λ none. absurd (omega arith);
}
