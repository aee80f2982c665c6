-- The place of an index in a tree, and what is before and after it.
use Rattle.std.proofs.Common.{◌≡◌, ◌≢◌, ℕ, ◌+◌, ◌<◌, ◌≤◌, Option, Some, None, is_some, true, List, [], ◌∷◌, ◌++◌, length, arith, refl, sym, ◌∙◌, ap, subst, ⊎_elim, append_assoc}
use Rattle.std.proofs.{lemmas.Bool.cases_eq, lemmas.Bool.cases_lt, lemmas.Bool.eq-eqb, lemmas.List.append-nil, lemmas.Grind.common_steps}
use Rattle.ord_tree.specs.Slots.{Slots, Holds, Way, top, up, plug, above, HoldsWay, here, times, times_in, times_way, IsOnce}
use Rattle.ord_tree.specs.declared.tree_links.Side.TheVariants.{Lesser, Greater}
use Rattle.ord_tree.specs.{Shape.Shape, Shape.missing, Shape.node, Shape.fork, Shape.rank_of, Shape.walk, declared.tree_links.Side.Side}
use Rattle.ord_tree.specs.{Balance.IsOver, Balance.IsBalanced, Balance.IsBalancedWay, Promote.IsBuilt, TreeLinks.child_at, declared.tree_links.TreeLinks.TreeLinks, Leaf.paired, Leaf.beside}
use Rattle.ord_tree.proofs.Forks.{HoldsFork-holds, rank-fork, link-root, rootless, here-same, here-other, times-append, times-walk, times_in-plug, times_in-fork, fork_balanced}
use Rattle.ord_tree.proofs.Rotations.{ForkAt}

-- y is at the end of a path, seen from a side
pub record Spot (at : Slots) (root : Option ℕ) (side : Side) (y : ℕ) (whole : Shape) : Type 0 where
  pub way : Way
  pub near : Shape
  pub rank : ℕ
  pub far : Shape
  pub links : TreeLinks ℕ
  pub held_way : HoldsWay at root way (Some y)
  pub at_y : at y ≡ Some links
  pub holds : ForkAt at (above way) side near y rank far links
  pub is : plug way (fork side near y rank far) ≡ whole

module _ (at : Slots) (root : Option ℕ) where
  module _ (side : Side) (way : Way) (near far : Shape) (i k : ℕ) (link : Option ℕ) where
    spot_here : HoldsWay at root way link → Holds at (above way) link (fork side near i k far) → Spot at root side i (plug way (fork side near i k far))
    spot_here w h =
        let f = HoldsFork-holds at (above way) link side near far i k h in
        record {
          way = way;
          near = near;
          rank = k;
          far = far;
          links = f.0;
          held_way = rw f.1 at w;
          at_y = f.2;
          holds = record { back = f.3; rank = f.4; near_held = f.5; far_held = f.6 };
          is = refl;
        }

  -- each index of a tree has its spot
  pub spot_in : (side : Side) (y : ℕ) (s : Shape) (way : Way) (link : Option ℕ) → HoldsWay at root way link
      → Holds at (above way) link s → 0 < times_in y s → Spot at root side y (plug way s)
  spot_in side y missing way link w h b = absurd (omega (arith, b))
  spot_in side y (node l i k r) way link w h b =
      let w' = rw h.1 at w in
      let in_l = spot_in side y l (up Lesser i k r way) h.0.lesser (h.0, h.2, h.3, h.4, refl, h.6, w') h.5 in
      let in_r = spot_in side y r (up Greater i k l way) h.0.greater (h.0, h.2, h.3, h.4, refl, h.5, w') h.6 in
      ⊎_elim (λ (same : y ≡ i). let Q : ℕ → Type 0 = λ y. Spot at root side y (plug way (node l i k r)) in subst Q (sym same) (here_on side))
      (λ (other : y ≢ i). ⊎_elim (λ (some : 0 < times_in y l). in_l some) (λ (none : times_in y l ≤ 0). in_r (omega (arith, b, here-other y i other))) (cases_lt 0 (times_in y l)))
      (cases_eq y i)
    where
      here_on : (side : Side) → Spot at root side i (plug way (node l i k r))
      here_on Lesser = spot_here Lesser way l r i k link w h
      here_on Greater = spot_here Greater way r l i k link w h

-- what y stores there
pub spot_holds : {at : Slots} {root : Option ℕ} {side : Side} {y : ℕ} {whole : Shape} (p : Spot at root side y whole) (n : TreeLinks ℕ) → at y ≡ Some n
    → ForkAt at (above p.way) side p.near y p.rank p.far n
spot_holds {at} {y = y} p n e = let f = p.at_y in let same : p.links ≡ n = cc in rw same at p.holds

-- balance along a path
pub plug_balanced : (slack : ℕ) (way : Way) (s : Shape) → IsBalanced slack (plug way s) → IsBalancedWay slack way (rank_of s) × IsBalanced slack s
plug_balanced slack top s h = (tt, h)
plug_balanced slack (up side i k far rest) s h =
    let below = plug_balanced slack rest (fork side s i k far) h in
    let parts = fork_balanced slack side s far i k below.1 in
    ((parts.0, parts.2, rw (rank-fork side s far i k) at below.0), parts.1)

-- what is before and after the end of a path
pub record Around (way : Way) : Type 0 where
  pub before : List ℕ
  pub behind : List ℕ
  pub is : (s : Shape) → walk (plug way s) ≡ before ++ (walk s ++ behind)

pub around : (way : Way) → Around way
around top = record { before = []; behind = []; is = λ s. sym (append-nil (walk s)) }
around (up Lesser i k far rest) =
    let a = around rest in
    record { before = a.before; behind = i ∷ (walk far ++ a.behind); is = λ s. a.is (node s i k far) ∙ ap (λ ys. a.before ++ ys) (append_assoc (walk s) (i ∷ walk far) a.behind) }
around (up Greater i k far rest) =
    let a = around rest in
    record { before = a.before ++ (walk far ++ i ∷ []); behind = a.behind; is = λ s. a.is (node far i k s) ∙ simp append_assoc }

-- the list of a path with v at its end, split at v, if v has no child on that side
pub record IsSplit (side : Side) (v : ℕ) (order : List ℕ) (way : Way) (k : ℕ) (far : Shape) : Type 0 where
  pub front : List ℕ
  pub back : List ℕ
  pub is : order ≡ front ++ v ∷ back
  pub without_v : walk (plug way far) ≡ front ++ back
  pub with_leaf : (x : ℕ) → walk (plug way (fork side (node missing x 1 missing) v k far)) ≡ front ++ paired side v x back

split_at : (side : Side) (v : ℕ) (order : List ℕ) (way : Way) (k : ℕ) (far : Shape) → order ≡ walk (plug way (fork side missing v k far)) → IsSplit side v order way k far
split_at Lesser v order way k far e = let a = around way in record {
  front = a.before;
  back = walk far ++ a.behind;
  is = e ∙ a.is (node missing v k far);
  without_v = a.is far;
  with_leaf = λ x. a.is (node (node missing x 1 missing) v k far);
}
split_at Greater v order way k far e = let a = around way in record {
  front = a.before ++ walk far;
  back = a.behind;
  is = e ∙ a.is (node far v k missing) ∙ simp append_assoc;
  without_v = a.is far ∙ sym (append_assoc a.before (walk far) a.behind);
  with_leaf = λ x. a.is (node far v k (node missing x 1 missing)) ∙ simp append_assoc;
}

-- v is in a balanced tree and has no child on that side
pub record IsBare (at : Slots) (root : Option ℕ) (side : Side) (v : ℕ) (order : List ℕ) (slack : ℕ) : Type 0 where
  pub built : IsBuilt at root order slack
  pub within : 0 < times v order
  pub bare : (n : TreeLinks ℕ) → at v ≡ Some n → child_at side n ≡ None
  pub once : IsOnce order

module _ {at : Slots} {root : Option ℕ} {side : Side} {v : ℕ} {order : List ℕ} {slack : ℕ} (b : IsBare at root side v order slack) where
  pub bare_spot : Spot at root side v b.built.shape
  bare_spot = spot_in at root side v b.built.shape top root refl b.built.held (omega (arith, b.within, times-walk v b.built.shape, ap (times v) b.built.listed))

  pub bare_occupied : is_some (at v) ≡ true
  bare_occupied = ap is_some bare_spot.at_y

  near_missing : bare_spot.near ≡ missing
  near_missing = rootless bare_spot.near (sym (link-root at (Some v) (child_at side bare_spot.links) bare_spot.near bare_spot.holds.near_held) ∙ b.bare bare_spot.links bare_spot.at_y)

  pub bare_whole : plug bare_spot.way (fork side missing v bare_spot.rank bare_spot.far) ≡ b.built.shape
  bare_whole = ap (λ s. plug bare_spot.way (fork side s v bare_spot.rank bare_spot.far)) (sym near_missing) ∙ bare_spot.is

  pub bare_total : (j : ℕ) → times j order ≡ times_way j bare_spot.way + here j v + times_in j bare_spot.far
  bare_total j = ap (times j) (sym b.built.listed) ∙ times-walk j b.built.shape ∙ ap (times_in j) (sym bare_whole)
      ∙ times_in-plug j bare_spot.way (fork side missing v bare_spot.rank bare_spot.far) ∙ omega (arith, times_in-fork j side missing bare_spot.far v bare_spot.rank)

  pub bare_split : IsSplit side v order bare_spot.way bare_spot.rank bare_spot.far
  bare_split = split_at side v order bare_spot.way bare_spot.rank bare_spot.far (sym b.built.listed ∙ ap walk (sym bare_whole))

  pub bare_first : times v bare_split.front ≡ 0
  bare_first = omega (arith, b.once v, ap (times v) bare_split.is, times-append v bare_split.front (v ∷ bare_split.back), here-same v)

  pub bare_balanced : IsOver slack bare_spot.rank 0 (rank_of bare_spot.far) × IsBalanced slack bare_spot.far × IsBalancedWay slack bare_spot.way bare_spot.rank
  bare_balanced =
      let below = plug_balanced slack bare_spot.way (fork side missing v bare_spot.rank bare_spot.far) (rw (← bare_whole) at b.built.balanced) in
      let parts = fork_balanced slack side missing bare_spot.far v bare_spot.rank below.1 in
      (parts.0, parts.2, rw (rank-fork side missing bare_spot.far v bare_spot.rank) at below.0)

-- x beside y in a list that contains y once
pub beside-split : (side : Side) (y x : ℕ) (front back : List ℕ) → times y front ≡ 0 → beside side y x (front ++ y ∷ back) ≡ front ++ paired side y x back
beside-split side y x [] back none = rw (eq-eqb y y refl) refl
beside-split side y x (i ∷ is) back none = grind (arith, common_steps, beside-split side y x is back)

pub times-beside : (side : Side) (y x j : ℕ) (order : List ℕ) → times j (beside side y x order) ≤ times j order + here j x
times-beside side y x j [] = omega arith
times-beside side y x j (i ∷ is) = grind (arith, common_steps, times-beside side y x j is)

pub IsOnce-beside : (side : Side) (y x : ℕ) (order : List ℕ) → IsOnce order → times x order ≡ 0 → IsOnce (beside side y x order)
IsOnce-beside side y x order once fresh j =
    ⊎_elim (λ (same : j ≡ x). omega (arith, times-beside side y x j order, ap (λ i. times i order) same, fresh, here-same x, ap (λ i. here i x) same))
    (λ (other : j ≢ x). omega (arith, times-beside side y x j order, here-other j x other, once j)) (cases_eq j x)

pub length-beside : (side : Side) (y x : ℕ) (order : List ℕ) → length (beside side y x order) ≤ length order + 1
length-beside side y x [] = omega arith
length-beside side y x (i ∷ is) = grind (arith, common_steps, length-beside side y x is)

pub times-beside-ge : (side : Side) (y x j : ℕ) (order : List ℕ) → times j order ≤ times j (beside side y x order)
times-beside-ge side y x j [] = omega arith
times-beside-ge side y x j (i ∷ is) = grind (arith, common_steps, times-beside-ge side y x j is)

pub length-beside_in : (side : Side) (y x : ℕ) (order : List ℕ) → 0 < times y order → length (beside side y x order) ≡ length order + 1
length-beside_in side y x [] b = absurd (omega (arith, b))
length-beside_in side y x (i ∷ is) b = grind (arith, common_steps, length-beside_in side y x is)
