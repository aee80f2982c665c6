-- What pieces that are appended one after another make.
use Rattle.std.proofs.Common.{◌≡◌, ℕ, List, [], ◌++◌, append_assoc}

module _ (a b c d e : List ℕ) where
  -- to nothing
  pub five : {x0 x1 x2 x3 x4 x5 : List ℕ} → x0 ≡ [] → x1 ≡ x0 ++ a → x2 ≡ x1 ++ b → x3 ≡ x2 ++ c → x4 ≡ x3 ++ d → x5 ≡ x4 ++ e → x5 ≡ a ++ (b ++ (c ++ (d ++ e)))
  five none p q r s t = rw (t, s, r, q, p, none) (simp append_assoc)

  -- to a text
  pub six : (x f : List ℕ) {x1 x2 x3 x4 x5 x6 : List ℕ} → x1 ≡ x ++ a → x2 ≡ x1 ++ b → x3 ≡ x2 ++ c → x4 ≡ x3 ++ d → x5 ≡ x4 ++ e → x6 ≡ x5 ++ f
      → x6 ≡ x ++ (a ++ (b ++ (c ++ (d ++ (e ++ f)))))
  six x f p q r s t u = rw (u, t, s, r, q, p) (simp append_assoc)
