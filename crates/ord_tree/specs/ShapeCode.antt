-- A code for shapes, by which a proof distinguishes them: the nodes in postorder. No public clause cites this file.
use Rattle.std.specs.Prelude.{◌≡◌, ℕ, Option, None, Some, List, [], ◌∷◌, refl}
use Rattle.std.specs.Coded.{Coded, code_by, coded×, coded_ℕ, coded_list, coded_option}
use Rattle.std.proofs.Common.{ap, ◌∙◌}
use Rattle.ord_tree.specs.Shape.{Shape, missing, node}

-- the nodes of a shape in postorder, before the rest: None for an empty shape, else its index and rank
abbrev pub postorder : Shape → List (Option (ℕ × ℕ)) → List (Option (ℕ × ℕ))
postorder missing rest = None ∷ rest
postorder (node l i k r) rest = postorder l (postorder r (Some (i, k) ∷ rest))

-- a node over the two shapes on top of the stack
abbrev pub join_top : ℕ → ℕ → List Shape → List Shape
join_top i k [] = []
join_top i k (r ∷ []) = []
join_top i k (r ∷ l ∷ stack) = node l i k r ∷ stack

-- what a postorder leaves on the stack
abbrev pub rebuild : List (Option (ℕ × ℕ)) → List Shape → List Shape
rebuild [] stack = stack
rebuild (None ∷ rest) stack = rebuild rest (missing ∷ stack)
rebuild (Some ik ∷ rest) stack = rebuild rest (join_top ik.0 ik.1 stack)

abbrev pub top_of : List Shape → Shape
top_of [] = missing
top_of (s ∷ stack) = s

pub rebuild-postorder : (s : Shape) (rest : List (Option (ℕ × ℕ))) (stack : List Shape) → rebuild (postorder s rest) stack ≡ rebuild rest (s ∷ stack)
rebuild-postorder missing rest stack = refl
rebuild-postorder (node l i k r) rest stack =
    rebuild-postorder l (postorder r (Some (i, k) ∷ rest)) stack ∙ rebuild-postorder r (Some (i, k) ∷ rest) (l ∷ stack)

abbrev pub shape_code : Coded Shape
shape_code =
    code_by (List (Option (ℕ × ℕ))) (coded_list (coded_option (coded× coded_ℕ coded_ℕ))) (λ s. postorder s []) (λ rest. top_of (rebuild rest []))
    (λ s. ap top_of (rebuild-postorder s [] []))
