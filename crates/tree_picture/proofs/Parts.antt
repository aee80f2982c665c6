-- The parts of a shape below its links.
use Rattle.std.proofs.Common.{◌≡◌, ℕ, ◌≤◌, Option, Some, None, refl, sym, ap, subst, ◌∙◌, arith, inl, inr}
use Rattle.std.proofs.lemmas.Bool.Decides.{nat_tests}
use Rattle.triple_ord.specs.{Parents.HasParentUnder, Shape.Shape, Shape.missing, Shape.node, Shape.root_of, Slots.here, Slots.times_in}
use Rattle.triple_ord.specs.Node.{IsPart}
use Rattle.tree_picture.specs.Below.{part_at, part_below}

-- no index occurs twice in the shape
pub record IsOnceIn (s : Shape) : Type 0 where
  pub once : (j : ℕ) → times_in j s ≤ 1

here-alike : (i j : ℕ) → i ≡ j → here i j ≡ 1
here-alike i j same = grind (arith, nat_tests, same)

-- the root of a part occurs in the shape
occurs : (l r s : Shape) (i k : ℕ) → IsPart (node l i k r) s → 1 ≤ times_in i s
occurs l r missing i k part = absurd (cc)
occurs l r (node a j m b) i k (inl whole) = omega (arith, here-alike i j (cc))
occurs l r (node a j m b) i k (inr (inl part)) = omega (arith, occurs l r a i k part)
occurs l r (node a j m b) i k (inr (inr part)) = omega (arith, occurs l r b i k part)

-- both sides have each index once at most
once-lesser : (l r : Shape) (i k : ℕ) → IsOnceIn (node l i k r) → IsOnceIn l
once-lesser l r i k o = record { once = λ j. omega (arith, o.once j) }

once-greater : (l r : Shape) (i k : ℕ) → IsOnceIn (node l i k r) → IsOnceIn r
once-greater l r i k o = record { once = λ j. omega (arith, o.once j) }

-- what is found at the root's index, in the lesser side and in the greater one
found-here : (l r : Shape) (i k : ℕ) → part_at (node l i k r) i ≡ node l i k r
found-here l r i k = grind (arith, nat_tests)

found-lesser : (l r : Shape) (i j k : ℕ) → IsOnceIn (node l j k r) → 1 ≤ times_in i l → part_at (node l j k r) i ≡ part_at l i
found-lesser l r i j k o some = let few = o.once i in grind (arith, nat_tests)

found-greater : (l r : Shape) (i j k : ℕ) → IsOnceIn (node l j k r) → 1 ≤ times_in i r → part_at (node l j k r) i ≡ part_at r i
found-greater l r i j k o some = let few = o.once i in grind (arith, nat_tests)

-- a node that is part of the shape is found at its index
part-found : (l r s : Shape) (i k : ℕ) → IsOnceIn s → IsPart (node l i k r) s → part_at s i ≡ node l i k r
part-found l r missing i k o part = absurd (cc)
part-found l r (node a j m b) i k o (inl whole) =
    let same : i ≡ j = cc in
    rw same (found-here a b j m ∙ (cc))
part-found l r (node a j m b) i k o (inr (inl part)) =
    found-lesser a b i j m o (occurs l r a i k part) ∙ part-found l r a i k (once-lesser a b j m o) part
part-found l r (node a j m b) i k o (inr (inr part)) =
    found-greater a b i j m o (occurs l r b i k part) ∙ part-found l r b i k (once-greater a b j m o) part

-- a shape is part of itself, and both sides of a part are parts
whole : (s : Shape) → IsPart s s
whole missing = refl
whole (node l i k r) = inl refl

sides : (l r s : Shape) (i k : ℕ) → IsPart (node l i k r) s → IsPart l s × IsPart r s
sides l r missing i k part = absurd (cc)
sides l r (node a j m b) i k (inl same) = subst (λ s. IsPart l s × IsPart r s) same (inr (inl (whole l)), inr (inr (whole r)))
sides l r (node a j m b) i k (inr (inl part)) = let both = sides l r a i k part in (inr (inl both.0), inr (inl both.1))
sides l r (node a j m b) i k (inr (inr part)) = let both = sides l r b i k part in (inr (inr both.0), inr (inr both.1))

-- a part is found by its root
root-found : (part s : Shape) → IsOnceIn s → IsPart part s → part_below s (root_of part) ≡ part
root-found missing s o part = refl
root-found (node l i k r) s o part = part-found l r s i k o part

-- a node is found with both its sides
pub node-found : (l r s : Shape) (i k : ℕ) (lesser greater : Option ℕ) → IsOnceIn s → IsPart (node l i k r) s → lesser ≡ root_of l → greater ≡ root_of r
    → part_at s i ≡ node (part_below s lesser) i k (part_below s greater)
node-found l r s i k lesser greater o part is_lesser is_greater =
    let both = sides l r s i k part in
    rw (is_lesser, is_greater, root-found l s o both.0, root-found r s o both.1, part-found l r s i k o part) refl

-- an index that doesn't occur has no part
pub none-found : (s : Shape) (i : ℕ) → times_in i s ≡ 0 → part_at s i ≡ missing
none-found missing i none = refl
none-found (node a j m b) i none = grind (arith, nat_tests, here-alike i i refl, none-found a i, none-found b i)

-- the whole is found by its root
pub whole-found : (s : Shape) → part_below s (root_of s) ≡ s
whole-found missing = refl
whole-found (node l i k r) = found-here l r i k

-- a node under another has a parent
under-another : (s : Shape) (above i : ℕ) → HasParentUnder (Some above) s i None → ⊥
under-another missing above i has = absurd has
under-another (node l j k r) above i (inl at) = cc
under-another (node l j k r) above i (inr (inl has)) = under-another l j i has
under-another (node l j k r) above i (inr (inr has)) = under-another r j i has

-- a node without a parent is the root
pub root-alone : (s : Shape) (i : ℕ) → HasParentUnder None s i None → root_of s ≡ Some i
root-alone missing i has = absurd has
root-alone (node l j k r) i (inl at) = ap (λ (n : ℕ). Some n) (sym at.0)
root-alone (node l j k r) i (inr (inl has)) = absurd (under-another l j i has)
root-alone (node l j k r) i (inr (inr has)) = absurd (under-another r j i has)

-- what has a parent in a shape occurs in it
has-occurs : (s : Shape) (above : Option ℕ) (i : ℕ) (p : Option ℕ) → HasParentUnder above s i p → 1 ≤ times_in i s
has-occurs missing above i p has = absurd has
has-occurs (node l j k r) above i p (inl at) = omega (arith, here-alike i j at.0)
has-occurs (node l j k r) above i p (inr (inl has)) = omega (arith, has-occurs l (Some j) i p has)
has-occurs (node l j k r) above i p (inr (inr has)) = omega (arith, has-occurs r (Some j) i p has)

-- the root has no parent
pub root-has-none : (s : Shape) (i : ℕ) (p : Option ℕ) → IsOnceIn s → root_of s ≡ Some i → HasParentUnder None s i p → p ≡ None
root-has-none missing i p o is has = absurd has
root-has-none (node l j k r) i p o is (inl at) = at.1
root-has-none (node l j k r) i p o is (inr (inl has)) = absurd (omega (arith, o.once i, has-occurs l (Some j) i p has, here-alike i j (cc)))
root-has-none (node l j k r) i p o is (inr (inr has)) = absurd (omega (arith, o.once i, has-occurs r (Some j) i p has, here-alike i j (cc)))

-- the root occurs in its shape
pub root-occurs : (s : Shape) (i : ℕ) → root_of s ≡ Some i → 1 ≤ times_in i s
root-occurs missing i is = absurd (cc)
root-occurs (node l j k r) i is = omega (arith, here-alike i j (cc))
