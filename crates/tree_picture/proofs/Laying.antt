-- The steps of a layout.
use Rattle.std.proofs.Common.{◌≡◌, ℕ, ◌+◌, Bool, nat_lt, Option, Some, List, [], ◌∷◌, ◌++◌, length, ap, ◌∙◌, arith, append_assoc, length-append}
use Rattle.triple_ord.specs.Shape.{Shape, node, rank_of, size_of}
use Rattle.tree_picture.specs.declared.place.{Kind.Kind, Place.Place}
use Rattle.tree_picture.specs.Layout.{laid, kind_of}
use Rattle.tree_picture.proofs.LayoutLaws.{length-laid}

-- the lesser side and the node, appended one after the other
pub length-node : (old first second : List Place) (depth at : ℕ) (l : Shape) (place : Place) → at ≡ length old + size_of l
    → first ≡ old ++ laid (length old) (depth + 1) (Some at) l → second ≡ first ++ place ∷ [] → length second ≡ length old + size_of l + 1
length-node old first second depth at l place is one two =
    ap length two ∙ length-append first (place ∷ []) ∙ omega (arith, ap length one, length-append old (laid (length old) (depth + 1) (Some at) l), length-laid (length old) (depth + 1) (Some at) l)

-- and then the greater side
pub laid-node : (old first second third : List Place) (depth at i k : ℕ) (above : Option ℕ) (l r : Shape) (kind : Kind) (has_greater : Bool) → at ≡ length old + size_of l
    → first ≡ old ++ laid (length old) (depth + 1) (Some at) l
    → second ≡ first ++ record { column = at; depth = depth; rank = k; kind = kind; parent = above; has_greater = has_greater } ∷ []
    → kind ≡ kind_of k (rank_of l) (rank_of r) → has_greater ≡ nat_lt 0 (size_of r)
    → third ≡ second ++ laid (length second) (depth + 1) (Some at) r → third ≡ old ++ laid (length old) depth above (node l i k r)
laid-node old first second third depth at i k above l r kind has_greater is one two is_kind is_greater three =
    rw (three, length-node old first second depth at l _ is one two, two, one, is_kind, is_greater, is) (simp append_assoc)
