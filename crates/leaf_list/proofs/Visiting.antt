-- How many keys a search compares, in the index and in a row.
use Rattle.std.proofs.Common.{◌≡◌, ℕ, zero, suc, ◌+◌, ◌*◌, ◌^◌, ◌<◌, ◌≤◌, inl, inr, arith, ap, ◌∙◌}
use Rattle.std.proofs.Math.Nat.{pow-suc, pow-zero}
use Rattle.std.proofs.Math.Pow.{pow_mono}
use Rattle.std.proofs.lemmas.Nat.{mul-le, pow-add}
use Rattle.std.proofs.lemmas.Bool.{cases_lt}
use Rattle.leaf_row.specs.Before.{IsWithinHalvings}

pub square : (n : ℕ) → n ^ 2 ≡ n * n
square n =
    let one : 1 * n ≡ n = omega arith in
    pow-suc n 1 ∙ ap (λ (m : ℕ). m * n) (pow-suc n 0 ∙ ap (λ (m : ℕ). m * n) (pow-zero n) ∙ one)

sum : (c v : ℕ) → 2 ^ (c + v + 1) ≡ 2 ^ (c + 1) * 2 ^ v
sum c v = ap (λ (n : ℕ). 2 ^ n) (omega arith) ∙ pow-add 2 (c + 1) v

-- at most five in a row
few-powers : (r v : ℕ) → r ≤ 31 → IsWithinHalvings r v → 2 ^ v ≤ 32
few-powers r v few h = elim (cases_lt v 6) [
  | inl l ↦ pow_mono {i = v} {j = 5} (omega arith)
  | inr l ↦ elim (cases_lt 0 r) [
    | inl some ↦ absurd (let p : 2 ^ 6 ≤ 2 ^ v = pow_mono {i = 6} {j = v} l in omega (arith, p, h.few some))
    | inr none ↦ absurd (omega (arith, h.none (omega arith)))
  ]
]

-- one leaf with r entries behind its first
pub one-leaf : (c v r : ℕ) → 2 ^ (c + 1) ≤ 4 → IsWithinHalvings r v → 2 ^ (c + v + 1) ≤ (r + 2) * (r + 2)
one-leaf c v r top h = elim (cases_lt 0 r) [
  | inl some ↦
      let product : 2 ^ (c + 1) * 2 ^ v ≤ 4 * (2 * r) = mul-le (2 ^ (c + 1)) (2 ^ v) 4 (2 * r) top (h.few some) in
      let enough : 4 * (2 * r) ≤ (r + 2) * (r + 2) = wide r in omega (arith, product, enough, sum c v)
  | inr none ↦
      let zero_of : v ≡ 0 = h.none (omega arith) in
      let least : 2 ^ v ≤ 1 = omega (arith, ap (λ (n : ℕ). 2 ^ n) zero_of) in
      let product : 2 ^ (c + 1) * 2 ^ v ≤ 4 * 1 = mul-le (2 ^ (c + 1)) (2 ^ v) 4 1 top least in
      let enough : 2 * 2 ≤ (r + 2) * (r + 2) = mul-le 2 2 (r + 2) (r + 2) (omega arith) (omega arith) in omega (arith, product, enough, sum c v)
]
  where
    apart : (x : ℕ) → 8 * (x + 2) ≤ (x + 4) * (x + 4)
    apart x = grind (arith)

    wide : (r : ℕ) → 4 * (2 * r) ≤ (r + 2) * (r + 2)
    wide zero = omega arith
    wide (suc zero) = omega arith
    wide (suc (suc x)) = let e = apart x in let s : suc (suc x) ≡ x + 2 = omega arith in rw s (omega (arith, e))

-- m + 2 leaves, each but the last with at least 16 entries
pub leaves : (c v r m n : ℕ) → 2 ^ (c + 1) ≤ (m + 3) ^ 2 → r ≤ 31 → IsWithinHalvings r v → 16 * (m + 1) + 1 ≤ n → 2 ^ (c + v + 1) ≤ (n + 1) ^ 2
leaves c v r m n top few h many =
    let product : 2 ^ (c + 1) * 2 ^ v ≤ (m + 3) ^ 2 * 32 = mul-le (2 ^ (c + 1)) (2 ^ v) ((m + 3) ^ 2) 32 top (few-powers r v few h) in
    let enough : (16 * m + 18) * (16 * m + 18) ≤ (n + 1) * (n + 1) = mul-le (16 * m + 18) (16 * m + 18) (n + 1) (n + 1) (omega arith) (omega arith) in
    let wide : (m + 3) * (m + 3) * 32 ≤ (16 * m + 18) * (16 * m + 18) = grind (arith) in
    omega (arith, product, enough, wide, sum c v, square (n + 1), ap (λ (x : ℕ). x * 32) (square (m + 3)))

-- a search of fewer leaves than there are words compares fewer than 128 keys
pub few-visits : (c m : ℕ) → (0 < m → 2 ^ (c + 1) ≤ (m + 1) ^ 2) → (m ≡ 0 → c ≡ 0) → m + 1 ≤ 2 ^ 64 → c < 128
few-visits c m bound none few = elim (cases_lt c 128) [
  | inl l ↦ l
  | inr many ↦ elim (cases_lt 0 m) [
    | inl some ↦ absurd (let p : 2 ^ 129 ≤ 2 ^ (c + 1) = pow_mono {i = 129} {j = c + 1} (omega arith) in
        let wide = mul-le (m + 1) (m + 1) (2 ^ 64) (2 ^ 64) few few in omega (arith, p, bound some, wide, square (m + 1)))
    | inr empty ↦ absurd (omega (arith, none (omega arith)))
  ]
]
