-- The branch of a new leaf.
use Rattle.std.proofs.Common.{◌≡◌, ℕ, ◌<◌, Option, Some, None, List, [], ◌∷◌, arith, refl, sym, ◌∙◌, ap, is_some, true, false, option_map}
use Rattle.std.proofs.lemmas.Grind.{common_steps}
use Rattle.chain_base.specs.Chain.{Entry, entry_at, times as entry_times, link_between, IsDistinct}
use Rattle.chain_base.specs.Link.{Link}
use Rattle.chain_base.proofs.CallerLemmas.{entry-occurs}
use Rattle.ord_tree.specs.{Node.indexes, Leaf.previous, Leaf.following, Leaf.neighbour_in, Leaf.beside, declared.tree_links.Branch.Branch}
use Rattle.ord_tree.specs.{Slots.Slots, Slots.Holds, Slots.times, Slots.IsOnce, TreeLinks.other_side, TreeLinks.child_at}
use Rattle.ord_tree.specs.{declared.tree_links.TreeLinks.TreeLinks, declared.tree_links.Side.Side, Shape.Shape, Shape.walk, LeafBranch.IsLeafBranch}
use Rattle.ord_tree.proofs.Neighbours.{neighbour_of, neighbour_is}

module _ {T : Type 0} where
  -- indexes and entries
  pub times-indexes : (es : List (Entry T)) (i : ℕ) → times i (indexes es) ≡ entry_times i es
  times-indexes [] i = refl
  times-indexes (e ∷ es) i = grind (arith, common_steps, times-indexes es i)

  pub IsOnce-distinct : (es : List (Entry T)) → IsDistinct es → IsOnce (indexes es)
  IsOnce-distinct es h j = omega (arith, h j, times-indexes es j)

  pub within-occupied : (es : List (Entry T)) (i : ℕ) → is_some (entry_at es i) ≡ true → 0 < times i (indexes es)
  within-occupied es i there = omega (arith, entry-occurs es i there, times-indexes es i)

  module _ (i g : ℕ) (l : Link T) where
    pub neighbours-linked : (before : Option ℕ) (es : List (Entry T)) → link_between before None es i ≡ Some (g, l)
        → (l.prev ≡ previous before i (indexes es)) × (l.next ≡ following i (indexes es))
    neighbours-linked before [] h = absurd cc
    neighbours-linked before (e ∷ es) h = grind (arith, common_steps, neighbours-linked (Some e.index) es)

  -- a link of an entry is found whatever its generation
  pub linked-some : (o : Option (ℕ × Link T)) (l : Link T) → option_map (λ (e : ℕ × Link T). e.1) o ≡ Some l → (g : ℕ) × (o ≡ Some (g, l))
  linked-some None l h = absurd cc
  linked-some (Some e) l h = (e.0, let same : e.1 ≡ l = cc in ap (λ (l : Link T). Some (e.0, l)) same)

-- the neighbour that gets the new leaf as a child if that side of i is taken
pub record NextLeafBranch (side : Side) (i : ℕ) (slots : Slots) (order : List ℕ) : Type 0 where
  pub index : ℕ
  pub is : neighbour_in side i order ≡ Some index
  pub within : 0 < times index order
  pub bare : (n : TreeLinks ℕ) → slots index ≡ Some n → child_at (other_side side) n ≡ None
  pub put : (x : ℕ) → beside (other_side side) index x order ≡ beside side i x order

module _ (slots : Slots) (root : Option ℕ) (s : Shape) (order : List ℕ) (held : Holds slots None root s) (listed : walk s ≡ order) (once : IsOnce order)
    (i : ℕ) (within : 0 < times i order) (n : TreeLinks ℕ) (e : slots i ≡ Some n) where
  pub next_bud : (side : Side) (j : ℕ) → child_at side n ≡ Some j → NextLeafBranch side i slots order
  next_bud side j some =
      let b = neighbour_of slots root s order held listed i within n e side j some in
      let is = neighbour_is slots side i order once b in
      record { index = b.index; is = is.0; within = is.1; bare = b.bare; put = is.2 }

module _ {I : Type 0} (number : I → ℕ) {side : Side} {i : ℕ} {slots : Slots} {order : List ℕ} (bud : NextLeafBranch side i slots order) (branch : Branch I) where
  pub IsLeafBranch-next : number branch.parent ≡ bud.index → branch.side ≡ other_side side → IsLeafBranch number i side slots order branch
  IsLeafBranch-next parent_is side_is = record {
    within = rw parent_is bud.within;
    bare = λ n e. rw side_is (bud.bare n (ap slots (sym parent_is) ∙ e));
    put = λ x. rw (parent_is, side_is) (bud.put x);
  }

-- options
pub is_some-mapped : {A B : Type 0} (f : A → B) (o : Option A) → is_some (option_map f o) ≡ is_some o
is_some-mapped f None = refl
is_some-mapped f (Some x) = refl

pub none_of : {A : Type 0} (o : Option A) → is_some o ≡ false → o ≡ None
none_of None e = refl
none_of (Some x) e = absurd cc

pub some_in : {A : Type 0} (o : Option A) → is_some o ≡ true → (x : A) × (o ≡ Some x)
some_in None e = absurd cc
some_in (Some x) e = (x, refl)
