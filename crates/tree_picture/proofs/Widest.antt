-- The widest of some labels.
use Rattle.std.proofs.Common.{◌≡◌, ℕ, ◌+◌, ◌<◌, max, List, [], ◌∷◌, ◌++◌, length, take, get_or, ap, ◌∙◌, arith}
use Rattle.std.proofs.lemmas.List.{take_more}
use Rattle.std.specs.Str.{chars}
use Rattle.tree_picture.specs.{declared.picture.Node.Node, Drawing.label_text, Drawing.widest_label}

module _ {P A : Type 0} where
  widest_behind : (xs : List (Node P A)) (y : Node P A) → widest_label (xs ++ y ∷ []) ≡ max (widest_label xs) (length (chars (label_text y)))
  widest_behind [] y = omega arith
  widest_behind (x ∷ xs) y = omega (arith, widest_behind xs y)

  -- one label more
  pub widest_more : (xs : List (Node P A)) (i : ℕ) (d : Node P A) → i < length xs
      → widest_label (take (i + 1) xs) ≡ max (widest_label (take i xs)) (length (chars (label_text (get_or xs i d))))
  widest_more xs i d within = ap widest_label (take_more xs i d within) ∙ widest_behind (take i xs) (get_or xs i d)
