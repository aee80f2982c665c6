-- The ends of a walk, and the neighbours of an index in a list.
use Rattle.std.proofs.Common.{◌≡◌, ℕ, ◌+◌, ◌<◌, ◌≤◌, Option, Some, None, List, [], ◌∷◌, ◌++◌, arith, refl, sym, ◌∙◌, ap, append_assoc}
use Rattle.std.proofs.{lemmas.Grind.common_steps, lemmas.Bool.eq-eqb}
use Rattle.ord_tree.specs.declared.tree_links.Side.TheVariants.{Lesser, Greater}
use Rattle.ord_tree.specs.Slots.{Slots, Holds, here, times, top, above, IsOnce}
use Rattle.ord_tree.specs.{Shape.Shape, Shape.missing, Shape.node, Shape.root_of, Shape.walk, Leaf.previous, Leaf.following, Leaf.neighbour_in, Leaf.paired, Leaf.beside}
use Rattle.ord_tree.specs.{TreeLinks.child_at, TreeLinks.other_side, declared.tree_links.Side.Side, declared.tree_links.TreeLinks.TreeLinks}
use Rattle.ord_tree.proofs.{Forks.here-same, Forks.times-append, Forks.times-walk, Forks.link-root, Rotations.ForkAt}
use Rattle.ord_tree.proofs.Spots.{Spot, spot_in, spot_holds, around, beside-split}

-- a list with this index at its end on a side
abbrev ended : Side → ℕ → List ℕ → List ℕ
ended Lesser i rest = i ∷ rest
ended Greater i rest = rest ++ i ∷ []

-- the outermost node of a nonempty shape on a side, which has no child there
pub record EndOf (side : Side) (s : Shape) : Type 0 where
  pub index : ℕ
  pub rest : List ℕ
  pub is : walk s ≡ ended side index rest
  pub bare : (at : Slots) (over link : Option ℕ) → Holds at over link s → (n : TreeLinks ℕ) → at index ≡ Some n → child_at side n ≡ None

end_of : (side : Side) (s : Shape) (i : ℕ) → root_of s ≡ Some i → EndOf side s
end_of side missing i e = absurd cc
end_of Lesser (node missing i k r) j e = record { index = i; rest = walk r; is = refl; bare = λ at over link h n d. let same : h.0 ≡ n = (let f = h.2 in cc) in sym (ap (λ (n : TreeLinks ℕ). n.lesser) same) ∙ h.5 }
end_of Greater (node l i k missing) j e = record { index = i; rest = walk l; is = refl; bare = λ at over link h n d. let same : h.0 ≡ n = (let f = h.2 in cc) in sym (ap (λ (n : TreeLinks ℕ). n.greater) same) ∙ h.6 }
end_of Lesser (node (node a b c d) i k r) j e =
    let l = end_of Lesser (node a b c d) b refl in
    record { index = l.index; rest = l.rest ++ i ∷ walk r; is = ap (λ ys. ys ++ i ∷ walk r) l.is; bare = λ at over link h. l.bare at (Some i) h.0.lesser h.5 }
end_of Greater (node l i k (node a b c d)) j e =
    let r = end_of Greater (node a b c d) b refl in
    record {
      index = r.index;
      rest = walk l ++ i ∷ r.rest;
      is = ap (λ ys. walk l ++ i ∷ ys) r.is ∙ sym (append_assoc (walk l) (i ∷ r.rest) (r.index ∷ []));
      bare = λ at over link h. r.bare at (Some i) h.0.greater h.6;
    }

-- the predecessor of an index, if the list is split there
pub previous-split : (first : Option ℕ) (z v : ℕ) (front back : List ℕ) → times z (front ++ v ∷ []) ≡ 0 → previous first z (front ++ v ∷ z ∷ back) ≡ Some v
previous-split first z v [] back none = grind (arith, common_steps)
previous-split first z v (x ∷ xs) back none = grind (arith, common_steps, previous-split (Some x) z v xs back)

pub following-split : (z v : ℕ) (front back : List ℕ) → times z front ≡ 0 → following z (front ++ z ∷ v ∷ back) ≡ Some v
following-split z v [] back none = rw (eq-eqb z z refl) refl
following-split z v (x ∷ xs) back none = grind (arith, common_steps, following-split z v xs back)

-- the neighbour of z on a side, if it has no child on its side towards z
pub record NeighbourIn (at : Slots) (side : Side) (z : ℕ) (order : List ℕ) : Type 0 where
  pub index : ℕ
  pub front : List ℕ
  pub back : List ℕ
  pub is : order ≡ front ++ paired side z index back
  pub bare : (n : TreeLinks ℕ) → at index ≡ Some n → child_at (other_side side) n ≡ None

module _ (at : Slots) (root : Option ℕ) (s : Shape) (order : List ℕ) (held : Holds at None root s) (listed : walk s ≡ order) (z : ℕ) (within : 0 < times z order) (nz : TreeLinks ℕ) (e : at z ≡ Some nz) where
  spot : Spot at root Lesser z s
  spot = spot_in at root Lesser z s top root refl held (omega (arith, within, times-walk z s, ap (times z) listed))

  stored : ForkAt at (above spot.way) Lesser spot.near z spot.rank spot.far nz
  stored = spot_holds spot nz e

  split : order ≡ (around spot.way).before ++ ((walk spot.near ++ z ∷ walk spot.far) ++ (around spot.way).behind)
  split = sym listed ∙ ap walk (sym spot.is) ∙ (around spot.way).is (node spot.near z spot.rank spot.far)

  pub neighbour_of : (side : Side) (j : ℕ) → child_at side nz ≡ Some j → NeighbourIn at side z order
  neighbour_of Lesser j some =
      let l = end_of Greater spot.near j (sym (link-root at (Some z) nz.lesser spot.near stored.near_held) ∙ some) in
      let a = around spot.way in
      record {
        index = l.index;
        front = a.before ++ l.rest;
        back = walk spot.far ++ a.behind;
        is = split ∙ ap (λ ys. a.before ++ ((ys ++ z ∷ walk spot.far) ++ a.behind)) l.is ∙ simp append_assoc;
        bare = l.bare at (Some z) nz.lesser stored.near_held;
      }
  neighbour_of Greater j some =
      let f = end_of Lesser spot.far j (sym (link-root at (Some z) nz.greater spot.far stored.far_held) ∙ some) in
      let a = around spot.way in
      record {
        index = f.index;
        front = a.before ++ walk spot.near;
        back = f.rest ++ a.behind;
        is = split ∙ ap (λ ys. a.before ++ ((walk spot.near ++ z ∷ ys) ++ a.behind)) f.is ∙ simp append_assoc;
        bare = f.bare at (Some z) nz.greater stored.far_held;
      }

-- a list with y directly before z
module _ (order front back : List ℕ) (y z : ℕ) (once : IsOnce order) (is : order ≡ front ++ y ∷ z ∷ back) where
  counts : (j : ℕ) → times j front + (here j y + (here j z + times j back)) ≤ 1
  counts j = omega (arith, once j, ap (times j) is, times-append j front (y ∷ z ∷ back))

  previous-neighbour : previous None z order ≡ Some y
  previous-neighbour = ap (previous None z) is ∙ previous-split None z y front back (omega (arith, counts z, here-same z, times-append z front (y ∷ [])))

  following-neighbour : following y order ≡ Some z
  following-neighbour = ap (following y) is ∙ following-split y z front back (omega (arith, counts y, here-same y))

  between : (x : ℕ) → beside Greater y x order ≡ beside Lesser z x order
  between x =
      ap (beside Greater y x) is ∙ beside-split Greater y x front (z ∷ back) (omega (arith, counts y, here-same y))
      ∙ sym (append_assoc front (y ∷ []) (x ∷ z ∷ back))
      ∙ sym (beside-split Lesser z x (front ++ y ∷ []) back (omega (arith, counts z, here-same z, times-append z front (y ∷ []))))
      ∙ ap (beside Lesser z x) (append_assoc front (y ∷ []) (z ∷ back) ∙ sym is)

  pub first-within : 0 < times y order
  first-within = omega (arith, ap (times y) is, times-append y front (y ∷ z ∷ back), here-same y)

  second-within : 0 < times z order
  second-within = omega (arith, ap (times z) is, times-append z front (y ∷ z ∷ back), here-same z)

-- the neighbour on a side, and a new index between it and z
pub neighbour_is : (at : Slots) (side : Side) (z : ℕ) (order : List ℕ) → IsOnce order → (n : NeighbourIn at side z order)
    → (neighbour_in side z order ≡ Some n.index) × (0 < times n.index order) × ((x : ℕ) → beside (other_side side) n.index x order ≡ beside side z x order)
neighbour_is at Lesser z order once n = (
  previous-neighbour order n.front n.back n.index z once n.is,
  first-within order n.front n.back n.index z once n.is,
  between order n.front n.back n.index z once n.is,
)
neighbour_is at Greater z order once n = (
  following-neighbour order n.front n.back z n.index once n.is,
  second-within order n.front n.back z n.index once n.is,
  λ x. sym (between order n.front n.back z n.index once n.is x),
)
