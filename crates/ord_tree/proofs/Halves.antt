-- Rebuilt shapes exist, obey the rank rules, and are as high as their size has digits.
use Rattle.std.proofs.Common.{◌≡◌, ℕ, zero, suc, ◌+◌, ◌-◌, ◌*◌, ◌/◌, ◌^◌, ◌<◌, ◌≤◌, List, [], ◌∷◌, ◌++◌, length, take, drop, get_or, arith, refl, sym, ◌∙◌, ap, inl, inr, ⊎_elim, ◌⊎◌, length-append, below_more}
use Rattle.std.proofs.{Math.Seq.split_at, lemmas.List.length-take-le, Math.Nat.two-pow-succ, Math.Nat.one-le-pow, lemmas.Bool.Decides.nat_tests, Math.Numerals.add-one}
use Rattle.std.proofs.lemmas.Bool.{cases_lt}
use Rattle.ord_tree.specs.Shape.{Shape, missing, node, rank_of, size_of, walk, height}
use Rattle.ord_tree.specs.Laws.{RebuiltRanksLaw, RebuiltHeightLaw, RebuiltExistsLaw, DigitsExistLaw}
use Rattle.ord_tree.specs.{Ranks.IsRankOver, Ranks.IsRanked, Numbers.IsLeast, Numbers.IsTop, Half.half_rank, Half.IsHalf}

-- the height
height-half-le : (s : Shape) (q d : ℕ) → IsHalf q s → size_of s < 2 ^ d → height s ≤ d
height-half-le missing q d h b = omega arith
height-half-le (node l i k r) q zero h b = absurd (omega (arith, b))
height-half-le (node l i k r) q (suc d) h b =
    let double = two-pow-succ d in
    omega (arith, height-half-le l (q - 1) d h.2 (omega (arith, h.0)), height-half-le r (q - 1) d h.3 (omega (arith, h.0)))

height-half-gt : (s : Shape) (q d : ℕ) → IsHalf q s → 2 ^ d ≤ size_of s → d < height s
height-half-gt missing q d h b = absurd (omega (arith, b, one-le-pow d 2 (omega arith)))
height-half-gt (node l i k r) q zero h b = omega arith
height-half-gt (node l i k r) q (suc d) h b =
    let double = two-pow-succ d in
    omega (arith, height-half-gt l (q - 1) d h.2 (omega (arith, h.0)))

pub height-rebuilt : RebuiltHeightLaw
height-rebuilt s zero h d = omega (arith, height-half-le s h.0 zero h.2 d.0)
height-rebuilt s (suc d) h e =
    ⊎_elim (λ (low : size_of s < 2 ^ d). absurd (e.1 d (omega arith) low))
    (λ (high : 2 ^ d ≤ size_of s). omega (arith, height-half-le s h.0 (suc d) h.2 e.0, height-half-gt s h.0 d h.2 high))
    (cases_lt (size_of s) (2 ^ d))

-- the rank over a run is one of three, depending on its length
abbrev RankCases : ℕ → ℕ → ℕ → Type 0
RankCases n q k = ((n < 3) × (k ≡ n)) ⊎ ((3 ≤ n) × (n < 5) × (k ≡ 3)) ⊎ ((5 ≤ n) × (k ≡ q))

rank_cases : (n q : ℕ) → RankCases n q (half_rank n q)
rank_cases n q = grind (arith, nat_tests)

-- powers of two, as far as a rank over small sides needs them
abbrev PowerCases : ℕ → ℕ → Type 0
PowerCases k p = ((k ≤ 1) × (p ≤ 2)) ⊎ ((k ≡ 2) × (p ≡ 4)) ⊎ ((k ≡ 3) × (p ≡ 8)) ⊎ ((k ≡ 4) × (p ≡ 16)) ⊎ (32 ≤ p)

power_cases : (k : ℕ) → PowerCases k (2 ^ k)
power_cases zero = inl (omega arith)
power_cases (suc zero) = inl (omega arith)
power_cases (suc (suc zero)) = inr (inl (omega arith))
power_cases (suc (suc (suc zero))) = inr (inr (inl (omega arith)))
power_cases (suc (suc (suc (suc zero)))) = inr (inr (inr (inl (omega arith))))
power_cases (suc (suc (suc (suc (suc k))))) =
    inr (inr (inr (inr (omega (arith, one-le-pow k 2 (omega arith), two-pow-succ k, two-pow-succ (suc k), two-pow-succ (suc (suc k)), two-pow-succ (suc (suc (suc k))), two-pow-succ (suc (suc (suc (suc k)))))))))

-- the power of two of the rank less one is about the length of the run
abbrev FitsRun : ℕ → ℕ → Type 0
FitsRun n q = (k : ℕ) × (q ≡ suc k) × (n ≤ 2 ^ k + 1) × (2 ^ k ≤ 2 * n + 2)

-- the rank over a run is legal over the ranks of its halves
IsRankOver-half : (n l r q : ℕ) → l ≡ n / 2 → n ≡ l + 1 + r → (5 ≤ n → FitsRun n q) → IsRankOver (half_rank n q) (half_rank l (q - 1)) (half_rank r (q - 1))
IsRankOver-half n l r q lesser whole fit =
    ⊎_elim (λ (small : n < 5). let a = rank_cases n q in let b = rank_cases l (q - 1) in let c = rank_cases r (q - 1) in omega arith)
    (λ (large : 5 ≤ n). let f = fit large in let p = power_cases f.0 in
    let a = rank_cases n q in let b = rank_cases l (q - 1) in let c = rank_cases r (q - 1) in omega arith)
    (cases_lt n 5)

-- the same holds for half a run
FitsRun-half : (n c q : ℕ) → c ≤ n / 2 → n ≤ 2 * c + 2 → 5 ≤ n → FitsRun n q → FitsRun c (q - 1)
FitsRun-half n c q below above large f = down f.0 f.1 f.2 f.3
  where
    down : (k : ℕ) → q ≡ suc k → n ≤ 2 ^ k + 1 → 2 ^ k ≤ 2 * n + 2 → FitsRun c (q - 1)
    down zero e low high = absurd (omega arith)
    down (suc zero) e low high = absurd (omega arith)
    down (suc (suc k)) e low high = let a = two-pow-succ k in let b = two-pow-succ (suc k) in (suc k, omega arith, omega arith, omega arith)

rank-half : (s : Shape) (q : ℕ) → IsHalf q s → rank_of s ≡ half_rank (size_of s) q
rank-half missing q h = refl
rank-half (node l i k r) q h = h.1

IsRanked-half : (s : Shape) (q : ℕ) → IsHalf q s → (5 ≤ size_of s → FitsRun (size_of s) q) → IsRanked s
IsRanked-half missing q h fit = tt
IsRanked-half (node l i k r) q h fit =
    let n = size_of l + 1 + size_of r in
    let over = IsRankOver-half n (size_of l) (size_of r) q h.0 refl fit in (
      rw (h.1, rank-half l (q - 1) h.2, rank-half r (q - 1) h.3) over,
      IsRanked-half l (q - 1) h.2 (λ large. FitsRun-half n (size_of l) q (omega (arith, h.0)) (omega (arith, h.0)) (omega arith) (fit (omega arith))),
      IsRanked-half r (q - 1) h.3 (λ large. FitsRun-half n (size_of r) q (omega (arith, h.0)) (omega (arith, h.0)) (omega arith) (fit (omega arith))),
    )

FitsRun-top : (n k : ℕ) → IsLeast (λ j. n - 1 ≤ 2 ^ j) k → FitsRun n (suc k)
FitsRun-top n zero h = (zero, refl, omega (arith, h.0), omega arith)
FitsRun-top n (suc k) h =
    ⊎_elim (λ (high : 2 ^ k < n - 1). let double = two-pow-succ k in (suc k, refl, omega (arith, h.0), omega arith))
    (λ (low : n - 1 ≤ 2 ^ k). absurd (h.1 k (omega arith) low)) (cases_lt (2 ^ k) (n - 1))

pub IsRanked-from_rebuilt : RebuiltRanksLaw
IsRanked-from_rebuilt s h = IsRanked-half s h.0 h.2 (λ large. rw (h.1.1, add-one) (FitsRun-top (size_of s) h.1.0 h.1.2))

-- a decidable property that holds somewhere holds at a least number
abbrev LeastBelow : (ℕ → Type 0) → ℕ → Type 0
LeastBelow P m = ((k : ℕ) × IsLeast P k) ⊎ ((j : ℕ) → j < m → ¬ P j)

least-below : (P : ℕ → Type 0) → ((j : ℕ) → P j ⊎ (¬ P j)) → (m : ℕ) → LeastBelow P m
least-below P test zero = inr (λ j b. absurd (omega (arith, b)))
least-below P test (suc m) =
    ⊎_elim (λ found. inl found)
    (λ (none : (j : ℕ) → j < m → ¬ P j). ⊎_elim (λ (here : P m). inl (m, (here, none))) (λ (not_here : ¬ P m). inr (rw (← add-one m) (below_more (λ j. ¬ P j) m none not_here))) (test m))
    (least-below P test m)

least : (P : ℕ → Type 0) → ((j : ℕ) → P j ⊎ (¬ P j)) → (m : ℕ) → P m → (k : ℕ) × IsLeast P k
least P test m holds = ⊎_elim (λ found. found) (λ none. absurd (none m (omega arith) holds)) (least-below P test (suc m))

power_above : (n : ℕ) → n < 2 ^ n
power_above zero = omega arith
power_above (suc n) = omega (arith, power_above n, two-pow-succ n)

pub digits_exist : DigitsExistLaw
digits_exist n =
    least (λ k. n < 2 ^ k) (λ j. ⊎_elim (λ (low : n < 2 ^ j). inl low) (λ (high : 2 ^ j ≤ n). inr (λ low. omega (arith, low))) (cases_lt n (2 ^ j))) n (power_above n)

top_exists : (n : ℕ) → (q : ℕ) × IsTop n q
top_exists n =
    let k = least (λ k. n - 1 ≤ 2 ^ k) (λ j. ⊎_elim (λ (high : 2 ^ j < n - 1). inr (λ low. omega (arith, low))) (λ (low : n - 1 ≤ 2 ^ j). inl low) (cases_lt (2 ^ j) (n - 1))) n (omega (arith, power_above n)) in
    (k.0 + 1, (k.0, refl, k.1))

pub size_of-walk : (s : Shape) → size_of s ≡ length (walk s)
size_of-walk missing = refl
size_of-walk (node l i k r) = rw (length-append (walk l) (i ∷ walk r)) (omega (arith, size_of-walk l, size_of-walk r))

-- with enough fuel, a list is halved into a shape
halved : (fuel q : ℕ) (xs : List ℕ) → length xs ≤ fuel → (s : Shape) × (walk s ≡ xs) × IsHalf q s
halved fuel q [] b = (missing, refl, tt)
halved zero q (x ∷ xs) b = absurd (omega (arith, b))
halved (suc fuel) q (x ∷ xs) b =
    let all = x ∷ xs in
    let m = length all / 2 in
    let whole : all ≡ take m all ++ get_or all m 0 ∷ drop (suc m) all = split_at all m 0 (omega arith) in
    let front : length (take m all) ≡ m = length-take-le m all (omega arith) in
    let sizes : length all ≡ length (take m all) + suc (length (drop (suc m) all)) = ap length whole ∙ length-append (take m all) (get_or all m 0 ∷ drop (suc m) all) in
    let l = halved fuel (q - 1) (take m all) (omega (arith, b)) in
    let r = halved fuel (q - 1) (drop (suc m) all) (omega (arith, b)) in
    let few : size_of l.0 ≡ length (take m all) = size_of-walk l.0 ∙ ap length l.1 in
    let rest : size_of r.0 ≡ length (drop (suc m) all) = size_of-walk r.0 ∙ ap length r.1 in
    (node l.0 (get_or all m 0) (half_rank (size_of l.0 + 1 + size_of r.0) q) r.0, rw (l.1, r.1) (sym whole), (omega (arith, few, rest, sizes, front), refl, l.2, r.2))

pub rebuilt_exists : RebuiltExistsLaw
rebuilt_exists order =
    let q = top_exists (length order) in
    let s = halved (length order) q.0 order (omega arith) in
    (s.0, s.1, (q.0, rw (size_of-walk s.0, s.1) q.1, s.2))
