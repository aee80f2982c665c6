-- Forks seen from a side, paths, and what nodes store: facts shared by both mirror images.
use Rattle.std.proofs.Common.{◌≡◌, ◌≢◌, ℕ, ◌+◌, ◌<◌, ◌≤◌, Option, Some, None, List, [], ◌∷◌, ◌++◌, arith, refl, sym, ◌∙◌, ap, append_assoc}
use Rattle.std.proofs.lemmas.Bool.{eq-eqb, ne_eqb}
use Rattle.ord_tree.specs.Slots.{Slots, Holds, Way, top, up, plug, above, HoldsWay, here, times, times_in, times_way, IsOnce, IsApart}
use Rattle.ord_tree.specs.Shape.{Shape, missing, node, fork, rank_of, root_of, size_of, walk}
use Rattle.ord_tree.specs.declared.tree_links.Side.TheVariants.{Lesser, Greater}
use Rattle.ord_tree.specs.{TreeLinks.other_side, TreeLinks.child_at, TreeLinks.with_child_at, declared.tree_links.TreeLinks.TreeLinks}
use Rattle.ord_tree.specs.{Balance.IsOver, Balance.IsBalanced, Balance.IsBalancedWay, declared.tree_links.Side.Side}

-- sides
pub other-other : (side : Side) → other_side (other_side side) ≡ side
other-other Lesser = refl
other-other Greater = refl

pub fork-other : (side : Side) (near far : Shape) (i k : ℕ) → fork (other_side side) near i k far ≡ fork side far i k near
fork-other Lesser near far i k = refl
fork-other Greater near far i k = refl

pub child-with_child : (side : Side) (child : Option ℕ) (n : TreeLinks ℕ) → child_at side (with_child_at side child n) ≡ child
child-with_child Lesser child n = refl
child-with_child Greater child n = refl

pub other_child-with_child : (side : Side) (child : Option ℕ) (n : TreeLinks ℕ) → child_at (other_side side) (with_child_at side child n) ≡ child_at (other_side side) n
other_child-with_child Lesser child n = refl
other_child-with_child Greater child n = refl

pub child-with_other : (side : Side) (child : Option ℕ) (n : TreeLinks ℕ) → child_at side (with_child_at (other_side side) child n) ≡ child_at side n
child-with_other Lesser child n = refl
child-with_other Greater child n = refl

pub back-with_child : {I : Type 0} (side : Side) (child : Option I) (n : TreeLinks I) → (with_child_at side child n).back ≡ n.back
back-with_child Lesser child n = refl
back-with_child Greater child n = refl

pub rank-with_child : (side : Side) (child : Option ℕ) (n : TreeLinks ℕ) → (with_child_at side child n).rank ≡ n.rank
rank-with_child Lesser child n = refl
rank-with_child Greater child n = refl

-- what a fork is
pub rank-fork : (side : Side) (near far : Shape) (i k : ℕ) → rank_of (fork side near i k far) ≡ k
rank-fork Lesser near far i k = refl
rank-fork Greater near far i k = refl

pub size-fork : (side : Side) (near far : Shape) (i k : ℕ) → size_of (fork side near i k far) ≡ size_of near + 1 + size_of far
size-fork Lesser near far i k = refl
size-fork Greater near far i k = omega arith

-- a rotation keeps the walk
pub walk-rotated : (side : Side) (outer inner far : Shape) (y z k l m n : ℕ)
    → walk (fork side (fork side outer y k inner) z l far) ≡ walk (fork side outer y m (fork side inner z n far))
walk-rotated Lesser outer inner far y z k l m n = append_assoc (walk outer) (y ∷ walk inner) (z ∷ walk far)
walk-rotated Greater outer inner far y z k l m n = sym (append_assoc (walk far) (z ∷ walk inner) (y ∷ walk outer))

pub walk-ranked : (side : Side) (near far : Shape) (i k l : ℕ) → walk (fork side near i k far) ≡ walk (fork side near i l far)
walk-ranked Lesser near far i k l = refl
walk-ranked Greater near far i k l = refl

pub walk-fork_near : (side : Side) (near near' far : Shape) (i k : ℕ) → walk near ≡ walk near' → walk (fork side near i k far) ≡ walk (fork side near' i k far)
walk-fork_near Lesser near near' far i k e = ap (λ xs. xs ++ i ∷ walk far) e
walk-fork_near Greater near near' far i k e = ap (λ xs. walk far ++ i ∷ xs) e

pub walk-plug : (way : Way) (s t : Shape) → walk s ≡ walk t → walk (plug way s) ≡ walk (plug way t)
walk-plug top s t e = e
walk-plug (up side i k far rest) s t e = walk-plug rest (fork side s i k far) (fork side t i k far) (walk-fork_near side s t far i k e)

-- what nodes store, seen from a side
abbrev pub HoldsFork : Slots → Option ℕ → Option ℕ → Side → Shape → ℕ → ℕ → Shape → Type 0
HoldsFork at over link side near i k far =
    (n : TreeLinks ℕ) × (link ≡ Some i) × (at i ≡ Some n) × (n.back ≡ over) × (n.rank ≡ k)
    × Holds at (Some i) (child_at side n) near × Holds at (Some i) (child_at (other_side side) n) far

pub HoldsFork-holds : (at : Slots) (over link : Option ℕ) (side : Side) (near far : Shape) (i k : ℕ) → Holds at over link (fork side near i k far) → HoldsFork at over link side near i k far
HoldsFork-holds at over link Lesser near far i k h = h
HoldsFork-holds at over link Greater near far i k h = (h.0, h.1, h.2, h.3, h.4, h.6, h.5)

pub Holds-fork : (at : Slots) (over link : Option ℕ) (side : Side) (near far : Shape) (i k : ℕ) → HoldsFork at over link side near i k far → Holds at over link (fork side near i k far)
Holds-fork at over link Lesser near far i k h = h
Holds-fork at over link Greater near far i k h = (h.0, h.1, h.2, h.3, h.4, h.6, h.5)

-- a link leads to the root
pub link-root : (at : Slots) (over link : Option ℕ) (s : Shape) → Holds at over link s → link ≡ root_of s
link-root at over link missing h = h
link-root at over link (node l i k r) h = h.1

pub rootless : (s : Shape) → root_of s ≡ None → s ≡ missing
rootless missing e = refl
rootless (node l i k r) e = absurd cc

-- what the node at a link stores
pub root_holds : (at : Slots) (over : Option ℕ) (y : ℕ) (s : Shape) (ny : TreeLinks ℕ) → Holds at over (Some y) s → at y ≡ Some ny → (ny.back ≡ over) × (ny.rank ≡ rank_of s)
root_holds at over y missing ny h e = absurd cc
root_holds at over y (node l i k r) ny h e =
    let same : i ≡ y = cc in
    let n_is : h.0 ≡ ny = cc in
    rw (← n_is) (h.3, h.4)

pub size-plug : (way : Way) (s : Shape) → size_of s ≤ size_of (plug way s)
size-plug top s = omega arith
size-plug (up side i k far rest) s = omega (arith, size-plug rest (fork side s i k far), size-fork side s far i k)

-- a path and the shape at its end form a tree
pub Holds-plug : (at : Slots) (root : Option ℕ) (way : Way) (s : Shape) (link : Option ℕ) → HoldsWay at root way link → Holds at (above way) link s → Holds at None root (plug way s)
Holds-plug at root top s link w h = rw w h
Holds-plug at root (up side i k far rest) s link w h =
    Holds-plug at root rest (fork side s i k far) (Some i) w.6
    (Holds-fork at (above rest) (Some i) side s far i k (w.0, refl, w.1, w.2, w.3, rw w.4 h, w.5))

-- balance
pub IsOver-turned : {slack k l r : ℕ} → IsOver slack k l r → IsOver slack k r l
IsOver-turned h = record { lesser = h.greater; greater = h.lesser; leaf = λ a b. h.leaf b a; tight = omega (arith, h.tight) }

module _ (slack : ℕ) where
  pub IsBalanced-fork : (s : Side) (near far : Shape) (i k : ℕ) → IsOver slack k (rank_of near) (rank_of far) → IsBalanced slack near → IsBalanced slack far
      → IsBalanced slack (fork s near i k far)
  IsBalanced-fork Lesser near far i k o n f = (o, n, f)
  IsBalanced-fork Greater near far i k o n f = (IsOver-turned o, f, n)

  pub fork_balanced : (side : Side) (near far : Shape) (i k : ℕ) → IsBalanced slack (fork side near i k far)
      → IsOver slack k (rank_of near) (rank_of far) × IsBalanced slack near × IsBalanced slack far
  fork_balanced Lesser near far i k h = h
  fork_balanced Greater near far i k h = (IsOver-turned h.0, h.2, h.1)

  pub IsBalanced-plug : (way : Way) (s : Shape) → IsBalancedWay slack way (rank_of s) → IsBalanced slack s → IsBalanced slack (plug way s)
  IsBalanced-plug top s w h = h
  IsBalanced-plug (up side i k far rest) s w h =
      IsBalanced-plug rest (fork side s i k far) (rw (rank-fork side s far i k) w.2)
      (IsBalanced-fork side s far i k w.0 h w.1)

pub here-same : (i : ℕ) → here i i ≡ 1
here-same i = rw (eq-eqb i i refl) refl

pub here-other : (j i : ℕ) → j ≢ i → here j i ≡ 0
here-other j i e = rw (ne_eqb j i e) refl

pub times-append : (j : ℕ) (xs ys : List ℕ) → times j (xs ++ ys) ≡ times j xs + times j ys
times-append j [] ys = omega arith
times-append j (x ∷ xs) ys = omega (arith, times-append j xs ys)

pub times-walk : (j : ℕ) (s : Shape) → times j (walk s) ≡ times_in j s
times-walk j missing = refl
times-walk j (node l i k r) = rw (times-append j (walk l) (i ∷ walk r)) (omega (arith, times-walk j l, times-walk j r))

pub times_in-fork : (j : ℕ) (side : Side) (near far : Shape) (i k : ℕ) → times_in j (fork side near i k far) ≡ times_in j near + here j i + times_in j far
times_in-fork j Lesser near far i k = refl
times_in-fork j Greater near far i k = omega arith

pub times_in-plug : (j : ℕ) (way : Way) (s : Shape) → times_in j (plug way s) ≡ times_way j way + times_in j s
times_in-plug j top s = omega arith
times_in-plug j (up side i k far rest) s = times_in-plug j rest (fork side s i k far) ∙ omega (arith, times_in-fork j side s far i k)

pub IsApart-once : (way : Way) (s : Shape) (order : List ℕ) → walk (plug way s) ≡ order → IsOnce order → IsApart way s
IsApart-once way s order e once j = omega (arith, once j, times_in-plug j way s, times-walk j (plug way s), ap (times j) e)

-- an index that occurs in one part occurs in no other
pub apart-from : (i j : ℕ) (f : ℕ → ℕ) → f i ≡ 0 → 0 < f j → j ≢ i
apart-from i j f none some e = let g = ap f e in omega arith
