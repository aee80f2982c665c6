-- Entries put behind all whose key is at most their own.
use Rattle.std.proofs.Common.{◌≡◌, ℕ, suc, true, false, List, [], ◌∷◌, ◌++◌, arith, refl}
use Rattle.std.specs.{List.All, Ordering.is_lt, declared.cmp.Ordering.Ordering}
use Rattle.leaf_list.specs.Leaves.{put_behind}

module _ {K : Type 0} (cmp : K → K → Ordering) (x : K × ℕ) where
  -- the entries before the place of x, whose key is less than that of no such entry
  pub put-cut : (front back : List (K × ℕ)) → All (λ e. is_lt (cmp x.0 e.0) ≡ false) front → All (λ e. is_lt (cmp x.0 e.0) ≡ true) back
      → put_behind cmp x (front ++ back) ≡ front ++ x ∷ back
  put-cut [] [] low high = refl
  put-cut [] (e ∷ back) low high = rw (high 0 e (omega arith)) refl
  put-cut (e ∷ front) back low high = rw (low 0 e (omega arith), put-cut front back (λ k d h. low (suc k) d (omega arith)) high) refl

  pub put-last : (es : List (K × ℕ)) → All (λ e. is_lt (cmp x.0 e.0) ≡ false) es → put_behind cmp x es ≡ es ++ x ∷ []
  put-last [] low = refl
  put-last (e ∷ es) low = rw (low 0 e (omega arith), put-last es (λ k d h. low (suc k) d (omega arith))) refl
