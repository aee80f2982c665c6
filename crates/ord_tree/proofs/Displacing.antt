-- Removing a node: its predecessor takes its place, and the fallen branch is renamed with it.
use Rattle.std.proofs.Common.{◌≡◌, ◌≢◌, ℕ, Option, None, List, [], ◌∷◌, map, arith, refl, sym, ◌∙◌, ap, inl, inr, ⊎_elim}
use Rattle.std.proofs.{lemmas.Grind.common_steps, lemmas.List.map-append, lemmas.Bool.cases_eq, lemmas.Bool.eq-eqb, lemmas.Bool.ne_eqb}
use Rattle.ord_tree.specs.Slots.{Slots, Holds, Way, top, up, plug, above, HoldsWay, times}
use Rattle.ord_tree.specs.{declared.tree_links.Side.TheVariants.Lesser, declared.tree_links.Side.TheVariants.Greater, TreeLinks.child_at}
use Rattle.ord_tree.specs.{Shape.Shape, Shape.missing, Shape.node, Shape.fork, Shape.rank_of, Shape.walk, Detach.stand_in, Detach.renamed}
use Rattle.ord_tree.specs.{Balance.IsBalanced, Balance.IsBalancedWay, declared.tree_links.Side.Side}
use Rattle.ord_tree.specs.{Potential.potential, Account.potential_way, Account.rank_here, Account.rank_in, Account.rank_way, Account.NamesChanges, Account.ranks_without}
use Rattle.ord_tree.proofs.{Forks.HoldsFork-holds, Standing.stand_in-same, Standing.stand_in-other, RankChanges.rank_here-other}

-- the path with v in place of z
abbrev pub renamed_way : ℕ → ℕ → Way → Way
renamed_way z v top = top
renamed_way z v (up side i k far rest) = up side (stand_in z v i) k (renamed z v far) (renamed_way z v rest)

pub renamed-fork : (z v : ℕ) (side : Side) (near far : Shape) (i k : ℕ) → renamed z v (fork side near i k far) ≡ fork side (renamed z v near) (stand_in z v i) k (renamed z v far)
renamed-fork z v Lesser near far i k = refl
renamed-fork z v Greater near far i k = refl

pub renamed-plug : (z v : ℕ) (way : Way) (s : Shape) → renamed z v (plug way s) ≡ plug (renamed_way z v way) (renamed z v s)
renamed-plug z v top s = refl
renamed-plug z v (up side i k far rest) s = renamed-plug z v rest (fork side s i k far) ∙ ap (plug (renamed_way z v rest)) (renamed-fork z v side s far i k)

pub rank-renamed : (z v : ℕ) (s : Shape) → rank_of (renamed z v s) ≡ rank_of s
rank-renamed z v missing = refl
rank-renamed z v (node l i k r) = refl

pub IsBalanced-renamed : (slack z v : ℕ) (s : Shape) → IsBalanced slack s → IsBalanced slack (renamed z v s)
IsBalanced-renamed slack z v missing h = tt
IsBalanced-renamed slack z v (node l i k r) h =
    (rw (rank-renamed z v l, rank-renamed z v r) h.0, IsBalanced-renamed slack z v l h.1, IsBalanced-renamed slack z v r h.2)

pub IsBalancedWay-renamed : (slack z v : ℕ) (way : Way) (rank : ℕ) → IsBalancedWay slack way rank → IsBalancedWay slack (renamed_way z v way) rank
IsBalancedWay-renamed slack z v top rank h = tt
IsBalancedWay-renamed slack z v (up side i k far rest) rank h =
    (rw (rank-renamed z v far) h.0, IsBalanced-renamed slack z v far h.1, IsBalancedWay-renamed slack z v rest k h.2)

pub walk-renamed : (z v : ℕ) (s : Shape) → walk (renamed z v s) ≡ map (stand_in z v) (walk s)
walk-renamed z v missing = refl
walk-renamed z v (node l i k r) = rw (walk-renamed z v l, walk-renamed z v r) (sym (map-append (stand_in z v) (walk l) (i ∷ walk r)))

pub map-absent : (z v : ℕ) (xs : List ℕ) → times z xs ≡ 0 → map (stand_in z v) xs ≡ xs
map-absent z v [] none = refl
map-absent z v (x ∷ xs) none = grind (arith, common_steps, map-absent z v xs)

-- nodes that form a whole tree form a path and the shape at its end
pub plug_held : (at : Slots) (root : Option ℕ) (way : Way) (s : Shape) → Holds at None root (plug way s) → (link : Option ℕ) × HoldsWay at root way link × Holds at (above way) link s
plug_held at root top s h = (root, refl, h)
plug_held at root (up side i k far rest) s h =
    let below = plug_held at root rest (fork side s i k far) h in
    let f = HoldsFork-holds at (above rest) below.0 side s far i k below.2 in
    (child_at side f.0, (f.0, f.2, f.3, f.4, refl, f.6, rw f.1 at below.1), f.5)

-- with v in place of z, the potential and the ranks of all others stay
pub potential-renamed : (z v : ℕ) (s : Shape) → potential (renamed z v s) ≡ potential s
potential-renamed z v missing = refl
potential-renamed z v (node l i k r) = rw (rank-renamed z v l, rank-renamed z v r, potential-renamed z v l, potential-renamed z v r) refl

pub potential_way-renamed : (z v : ℕ) (way : Way) (rank : ℕ) → potential_way (renamed_way z v way) rank ≡ potential_way way rank
potential_way-renamed z v top rank = refl
potential_way-renamed z v (up side i k far rest) rank = rw (rank-renamed z v far, potential-renamed z v far, potential_way-renamed z v rest k) refl

module _ (z v j : ℕ) (not_z : j ≢ z) (not_v : j ≢ v) where
  pub rank_here-renamed : (i k : ℕ) → rank_here j (stand_in z v i) k ≡ rank_here j i k
  rank_here-renamed i k =
      ⊎_elim (λ (same : i ≡ z). rw (same, stand_in-same z v, rank_here-other j v k not_v, rank_here-other j z k not_z) refl) (λ (other : i ≢ z). ap (λ i. rank_here j i k) (stand_in-other z v i other)) (cases_eq i z)

  pub rank_in-renamed : (s : Shape) → rank_in (renamed z v s) j ≡ rank_in s j
  rank_in-renamed missing = refl
  rank_in-renamed (node l i k r) = omega (arith, rank_in-renamed l, rank_here-renamed i k, rank_in-renamed r)

  pub rank_way-renamed : (way : Way) → rank_way (renamed_way z v way) j ≡ rank_way way j
  rank_way-renamed top = refl
  rank_way-renamed (up side i k far rest) = omega (arith, rank_here-renamed i k, rank_in-renamed far, rank_way-renamed rest)

-- v is named, z is gone
pub names_stood : (z v : ℕ) (s : Shape) (named : List ℕ) (was is : ℕ → ℕ) → NamesChanges named (ranks_without v s) was → ((j : ℕ) → j ≢ z → j ≢ v → is j ≡ was j) → NamesChanges (v ∷ named) (ranks_without z s) is
names_stood z v s named was is names same j =
    ⊎_elim (λ (e : j ≡ v). inl (inl e)) (λ (not_v : j ≢ v). ⊎_elim (λ (e : j ≡ z). inr (inl (rw (e, eq-eqb z z refl) refl)))
    (λ (not_z : j ≢ z).
    let but_z : ranks_without z s j ≡ rank_in s j = rw (ne_eqb j z not_z) refl in
    let but_v : ranks_without v s j ≡ rank_in s j = rw (ne_eqb j v not_v) refl in
    ⊎_elim (λ in_named. inl (inr in_named)) (⊎_elim (λ (none : ranks_without v s j ≡ 0). inr (inl (but_z ∙ sym but_v ∙ none)))
    (λ (e : ranks_without v s j ≡ was j). inr (inr (but_z ∙ sym but_v ∙ e ∙ sym (same j not_z not_v))))) (names j)) (cases_eq j z)) (cases_eq j v)
