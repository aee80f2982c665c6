-- The parts of an arena's shape below its links.
use Rattle.std.proofs.Common.{◌≡◌, ◌≢◌, ℕ, ◌+◌, ◌≤◌, List, [], ◌∷◌, ◌++◌, Option, Some, None, Bool, not, is_some, option_map, true, false, length, max, Fits, w16, ◌^◌, ◌<◌, refl, sym, ap, subst, ◌∙◌, arith}
use Rattle.std.proofs.lemmas.Bool.Decides.{nat_tests}
use Rattle.std.proofs.lemmas.Grind.{common_steps}
use Rattle.std.proofs.lemmas.List.{length-map}
use Rattle.triple_ord.specs.Chain.{Entry, IsDistinct, times as entry_times, link_at, link_between}
use Rattle.triple_ord.specs.{Parents.HasParent, Slots.times, Slots.times_in, Tree.Tree, Tree.IsSoundTree}
use Rattle.triple_ord.specs.Shape.{missing, node, root_of, size_of}
use Rattle.triple_ord.proofs.TreeLemmas.{times-indexes, times-walk, size_of-walk}
use Rattle.triple_ord.specs.Node.{IsNodeIn}
use Rattle.tree_picture.specs.Below.{part_at, part_below}
use Rattle.tree_picture.proofs.Parts.{IsOnceIn, node-found, none-found, root-occurs, root-alone, root-has-none}

module _ {T : Type 0} where
  -- an index without a link doesn't occur
  unlinked : (before after : Option ℕ) (es : List (Entry T)) (i : ℕ) → link_between before after es i ≡ None → entry_times i es ≡ 0
  unlinked before after [] i none = refl
  unlinked before after (e ∷ es) i none = grind (arith, common_steps, unlinked (Some e.index) after es i)

  module _ (t : Tree T) (sound : IsSoundTree t) where
    -- an index occurs in the shape as often as in the list
    pub times-listed : (i : ℕ) → times_in i t.shape ≡ entry_times i t.list.entries
    times-listed i = sym (times-walk i t.shape) ∙ ap (times i) sound.listed ∙ times-indexes t.list.entries i

    pub once-listed : IsDistinct t.list.entries → IsOnceIn t.shape
    once-listed distinct = record { once = λ j. omega (arith, times-listed j, distinct j) }

    -- the node of an entry, with its sides
    pub branch-found : (i rank : ℕ) (parent lesser greater : Option ℕ) → IsDistinct t.list.entries → IsNodeIn t.shape i parent lesser greater rank
        → part_at t.shape i ≡ node (part_below t.shape lesser) i rank (part_below t.shape greater)
    branch-found i rank parent lesser greater distinct at =
        node-found at.lesser_side at.greater_side t.shape i rank lesser greater (once-listed distinct) at.part at.lesser_root at.greater_root

    pub branch-missing : (i : ℕ) → link_at t.list.entries i ≡ None → part_at t.shape i ≡ missing
    branch-missing i none = none-found t.shape i (times-listed i ∙ unlinked None None t.list.entries i none)

    -- the root's entry is in the list
    pub root-listed : (i : ℕ) → root_of t.shape ≡ Some i → 1 ≤ entry_times i t.list.entries
    root-listed i is = omega (arith, times-listed i, root-occurs t.shape i is)

    -- the whole shape has as many nodes as there are entries
    pub size-listed : size_of t.shape ≡ length t.list.entries
    size-listed = size_of-walk t.shape ∙ ap length sound.listed ∙ length-map t.list.entries (λ (e : Entry T). e.index)

-- an optional index and its number
module _ {I : Type 0} (number : I → ℕ) where
  pub none-mapped : (o : Option I) (p : Option ℕ) (b : Bool) → option_map number o ≡ p → is_some o ≡ not b → b ≡ true → p ≡ None
  none-mapped None p b is tells none = sym is
  none-mapped (Some x) p b is tells none = let even : true ≡ false = tells ∙ ap not none in absurd (cc)

  pub some-mapped : (o : Option I) (p : Option ℕ) (b : Bool) → option_map number o ≡ p → is_some o ≡ not b → b ≡ false → p ≡ None → ⊥
  some-mapped None p b is tells some none = let even : false ≡ true = tells ∙ ap not some in cc
  some-mapped (Some x) p b is tells some none = cc

module _ {T : Type 0} where
  -- one more entry that isn't the root
  one-more : (before : List (Entry T)) (e : Entry T) (i : ℕ) → entry_times i before ≡ 0 → e.index ≢ i → entry_times i (before ++ e ∷ []) ≡ 0
  one-more [] e i none other = grind (arith, nat_tests)
  one-more (f ∷ before) e i none other =
      let rest = one-more before e i (omega (arith, none)) other in
      omega (arith, none, rest)

  pub none-more : (root : Option ℕ) (before : List (Entry T)) (e : Entry T) → root ≢ Some e.index → ((i : ℕ) → root ≡ Some i → entry_times i before ≡ 0)
      → (i : ℕ) → root ≡ Some i → entry_times i (before ++ e ∷ []) ≡ 0
  none-more root before e other far i is =
      one-more before e i (far i is) (λ same. other (is ∙ ap (λ (n : ℕ). Some n) (sym same)))

  module _ (t : Tree T) (sound : IsSoundTree t) where
    -- the root has a link
    pub root-linked : (i : ℕ) → root_of t.shape ≡ Some i → link_at t.list.entries i ≡ None → ⊥
    root-linked i is none = absurd (omega (arith, root-listed t sound i is, unlinked None None t.list.entries i none))

    -- an entry without a parent is the root, and one with a parent isn't
    pub alone-root : (i : ℕ) (p : Option ℕ) → HasParent t.shape i p → p ≡ None → root_of t.shape ≡ Some i
    alone-root i p has none = root-alone t.shape i (subst (λ (q : Option ℕ). HasParent t.shape i q) none has)

    pub parent-none : (i : ℕ) (p : Option ℕ) → IsDistinct t.list.entries → HasParent t.shape i p → root_of t.shape ≡ Some i → p ≡ None
    parent-none i p distinct has is = root-has-none t.shape i p (once-listed t sound distinct) is has

    -- if no entry is the root, there is none
    no-root : (o : Option ℕ) → root_of t.shape ≡ o → ((i : ℕ) → root_of t.shape ≡ Some i → entry_times i t.list.entries ≡ 0) → root_of t.shape ≡ None
    no-root None is far = is
    no-root (Some i) is far = absurd (omega (arith, far i is, root-listed t sound i is))

    pub rootless : ((i : ℕ) → root_of t.shape ≡ Some i → entry_times i t.list.entries ≡ 0) → root_of t.shape ≡ None
    rootless far = no-root (root_of t.shape) refl far

-- one level more than that of the higher side fits in 16 bits
pub max-fits : (low high left right both whole : ℕ) → low ≡ left → high ≡ right → both ≡ max low high → whole ≡ max left right + 1 → whole ≤ 10000 → Fits w16 (both + 1)
max-fits low high left right both whole is_low is_high is_both is_whole few =
    let bound : both + 1 < 2 ^ 16 = omega (arith, is_low, is_high, is_both, is_whole, few) in
    omega (arith, bound)
