-- What the reads before a change say about the shapes there.
use Rattle.std.proofs.{lemmas.Option.same_Some}
use Rattle.std.proofs.Common.{◌≡◌, ◌≢◌, ℕ, ◌+◌, Option, Some, None, List, refl, sym, ◌∙◌, ap, subst, option_map, is_some, true, false}
use Rattle.ord_tree.specs.{TreeLinks.other_side, TreeLinks.child_at, TreeLinks.as_numbers, declared.tree_links.TreeLinks.TreeLinks}
use Rattle.ord_tree.specs.{declared.tree_links.Side.Side, Shape.rank_of, Shape.root_of, Slots.Slots, Slots.above, Slots.rank_at, Demote.IsFallen}
use Rattle.ord_tree.specs.{Rotate.Site, Promote.IsRising}
use Rattle.ord_tree.proofs.Promoting.{y_holds as y_holds-risen, IsParent, z_holds}
use Rattle.ord_tree.proofs.Doubles.{high_rank, low_rank as site_low, outer_rank, inner_rank, inner_root, rank_at-held}
use Rattle.ord_tree.proofs.{LeafBranches.is_some-mapped, Rotations.child-as_numbers, Rotations.ForkAt, Rotations.occupied-link}
use Rattle.ord_tree.proofs.{Demoting.y_holds, Forks.link-root, Forks.root_holds, Frames.IsLast, Frames.last_step}

-- links with the same number are the same link
pub same-link : {I : Type 0} (number : I → ℕ) → ((i j : I) → number i ≡ number j → i ≡ j) → (a b : Option I) → option_map number a ≡ option_map number b → a ≡ b
same-link number one None None same = refl
same-link number one (Some i) (Some j) same = ap (λ i. Some i) (one i j (same_Some _ _ same))
same-link number one None (Some j) same = let never : false ≡ true = ap is_some same in cc
same-link number one (Some i) None same = let never : true ≡ false = ap is_some same in cc

module _ {I : Type 0} (number : I → ℕ) where
  -- the link read from a side, as a number
  pub child-read : (side : Side) (n : TreeLinks I) (link : Option I) → link ≡ child_at side n → option_map number link ≡ child_at side (as_numbers number n)
  child-read side n link is = ap (option_map number) is ∙ child-as_numbers number side n

  pub child_other-read : (side other : Side) → other ≡ other_side side → (n : TreeLinks I) (o : Option I) → o ≡ child_at other n
      → option_map number o ≡ child_at (other_side side) (as_numbers number n)
  child_other-read side other other_is n link is = child-read (other_side side) n link (is ∙ ap (λ s. child_at s n) other_is)

  -- at the site of a single or double rotation: the nodes y and s, and the ranks under s
  module _ {at : Slots} {root : Option ℕ} {side : Side} {y s : ℕ} (site : Site at root side y s) where
    pub outer-read : (low : TreeLinks I) → at s ≡ Some (as_numbers number low) → (a : Option I) → a ≡ child_at side low
        → (outer : ℕ) → outer ≡ rank_at at (option_map number a) → outer ≡ rank_of site.outer
    outer-read low at_s a a_is outer outer_is = outer_is ∙ ap (rank_at at) (child-read side low a a_is) ∙ outer_rank site (as_numbers number low) at_s

    module _ (other : Side) (other_is : other ≡ other_side side) (low : TreeLinks I) (at_s : at s ≡ Some (as_numbers number low)) (b : Option I) (b_is : b ≡ child_at other low) where
      -- the inner child of s
      pub inner-read : (x : I) → b ≡ Some x → root_of site.inner ≡ Some (number x)
      inner-read x is =
          sym (inner_root site (as_numbers number low) at_s) ∙ sym (child_other-read _ other other_is low b b_is) ∙ ap (option_map number) is

      pub inner-there : is_some (child_at (other_side side) (as_numbers number low)) ≡ true → is_some b ≡ true
      inner-there there = sym (is_some-mapped number b) ∙ ap is_some (child_other-read _ other other_is low b b_is) ∙ there

      module _ (high : TreeLinks I) (at_y : at y ≡ Some (as_numbers number high)) (a : Option I) (a_is : a ≡ child_at side low) where
        pub record SiteRead (outer inner : ℕ) : Type 0 where
          pub outer_is : outer ≡ rank_of site.outer
          pub inner_is : inner ≡ rank_of site.inner
          pub low_is : low.rank ≡ site.low
          pub high_is : high.rank ≡ site.high

        pub site_read : (outer inner : ℕ) → outer ≡ rank_at at (option_map number a) → inner ≡ rank_at at (option_map number b) → SiteRead outer inner
        site_read outer inner outer_is inner_is = record {
          outer_is = outer-read low at_s a a_is outer outer_is;
          inner_is = inner_is ∙ ap (rank_at at) (child_other-read _ other other_is low b b_is) ∙ inner_rank site (as_numbers number low) at_s;
          low_is = site_low site (as_numbers number low) at_s;
          high_is = high_rank site (as_numbers number high) at_y;
        }

  -- at y, a side of which has fallen
  module _ {at : Slots} {root : Option ℕ} {y : ℕ} {side : Side} {order : List ℕ} (fallen : IsFallen at root y side order) (other : Side) (other_is : other ≡ other_side side)
      (links : TreeLinks I) (at_y : at y ≡ Some (as_numbers number links)) where
    y_fork : ForkAt at (above fallen.way) side fallen.low y fallen.rank fallen.far (as_numbers number links)
    y_fork = y_holds fallen (as_numbers number links) at_y

    pub low-read : (a : Option I) → a ≡ child_at side links → (low : ℕ) → low ≡ rank_at at (option_map number a) → (low ≡ rank_of fallen.low) × (links.rank ≡ fallen.rank)
    low-read a a_is low is =
        (is ∙ ap (rank_at at) (child-read side links a a_is) ∙ rank_at-held at (Some y) (child_at side (as_numbers number links)) fallen.low y_fork.near_held, y_fork.rank)

    module _ (b : Option I) (b_is : b ≡ child_at other links) where
      pub far-read : root_of fallen.far ≡ option_map number b
      far-read =
          sym (link-root at (Some y) (child_at (other_side side) (as_numbers number links)) fallen.far y_fork.far_held) ∙ sym (child_other-read _ other other_is links b b_is)

      pub sibling-read : (s : I) → b ≡ Some s → (sibling : TreeLinks I) → at (number s) ≡ Some (as_numbers number sibling)
          → (sibling.rank ≡ rank_of fallen.far) × (root_of fallen.far ≡ Some (number s))
      sibling-read s is sibling at_s =
          let link = sym (child_other-read _ other other_is links b b_is) ∙ ap (option_map number) is in
          ((root_holds at (Some y) (number s) fallen.far (as_numbers number sibling) (rw link at y_fork.far_held) at_s).1, far-read ∙ ap (option_map number) is)

  -- at y, which has risen under z
  module _ {at : Slots} {root : Option ℕ} {y : ℕ} {order : List ℕ} {slack : ℕ} (rising : IsRising at root y order slack) (low high : TreeLinks I)
      (at_y : at y ≡ Some (as_numbers number low)) {z : ℕ} (at_z : at z ≡ Some (as_numbers number high)) (back : option_map number low.back ≡ Some z) where
    pub record RisingRead (side : Side) (sibling : ℕ) : Type 0 where
      pub last : IsLast rising.way side z
      pub high_is : high.rank ≡ last.rank
      pub low_is : low.rank ≡ rising.low + 1
      pub sibling_is : sibling ≡ rank_of last.far

    pub hangs : (side : Side) × IsLast rising.way side z
    hangs = last_step rising.way z (sym (y_holds-risen rising (as_numbers number low) at_y).0 ∙ back)

    stored : IsParent rising hangs.1 (as_numbers number high)
    stored = z_holds rising hangs.1 (as_numbers number high) at_z

    pub ranks-read : (last : IsLast rising.way hangs.0 z) × (high.rank ≡ last.rank) × (low.rank ≡ rising.low + 1)
    ranks-read = (hangs.1, stored.rank, (y_holds-risen rising (as_numbers number low) at_y).1)

    module _ (side : Side) (told : (s : Side) → child_at s (as_numbers number high) ≡ Some y → child_at (other_side s) (as_numbers number high) ≢ Some y → side ≡ s) where
      side_is : side ≡ hangs.0
      side_is = told hangs.0 stored.child stored.one_side

      -- and at the other side of z
      module _ (other : Side) (other_is : other ≡ other_side side) (b : Option I) (b_is : b ≡ child_at other high) where
        link_is : option_map number b ≡ child_at (other_side hangs.0) (as_numbers number high)
        link_is = child_other-read hangs.0 other (other_is ∙ ap other_side side_is) high b b_is

        pub beside-read : (sibling : ℕ) → sibling ≡ rank_at at (option_map number b) → RisingRead side sibling
        beside-read sibling is =
            let here : RisingRead hangs.0 sibling = record {
              last = hangs.1;
              high_is = stored.rank;
              low_is = ranks-read.2;
              sibling_is = is ∙ ap (rank_at at) link_is ∙ rank_at-held at (Some z) (child_at (other_side hangs.0) (as_numbers number high)) hangs.1.far stored.held_far;
            } in
            subst (λ (side : Side). RisingRead side sibling) (sym side_is) here

        pub beside-occupied : (i : ℕ) → option_map number b ≡ Some i → is_some (at i) ≡ true
        beside-occupied i is = occupied-link at (Some z) (child_at (other_side hangs.0) (as_numbers number high)) hangs.1.far i stored.held_far (sym link_is ∙ is)
