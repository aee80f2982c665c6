-- Links and ranks of entries in a list.
use Rattle.std.proofs.Common.{◌≡◌, ℕ, List, [], ◌∷◌, ◌++◌, inl, inr, Option, Some, None, IsSome, refl, sym, ap, subst, ◌∙◌}
use Rattle.std.proofs.lemmas.Bool.Decides.{eqb_tells}
use Rattle.triple_ord.specs.Chain.{Entry, link_at, link_between}
use Rattle.triple_ord.specs.Shape.{Shape}
use Rattle.triple_ord.specs.{Shape.missing, Shape.node, Ranks.HasRank}
use Rattle.triple_ord.specs.Node.{IsPart}
use Rattle.ord_machine.specs.Machine.{HaveRanks}

module _ {T : Type 0} where
  -- an entry of a list has a link
  pub link_there : (prev next : Option ℕ) (front back : List (Entry T)) (e : Entry T) → IsSome (link_between prev next (front ++ e ∷ back) e.index)
  link_there prev next [] back e = elim (eqb_tells e.index e.index) [ inl same ↦ rw same.0 refl | inr other ↦ absurd (other.1 refl) ]
  link_there prev next (f ∷ front) back e =
      elim (eqb_tells f.index e.index) [ inl same ↦ rw same.0 refl | inr other ↦ rw other.0 (link_there (Some f.index) next front back e) ]

  -- the next entry of a rest has one too
  pub link_next : (all done rest left : List (Entry T)) (e : Entry T) (i : ℕ) → done ++ rest ≡ all → rest ≡ e ∷ left → i ≡ e.index → IsSome (link_at all i)
  link_next all done rest left e i cut next is =
      let there = subst (λ (k : ℕ). IsSome (link_at (done ++ e ∷ left) k)) (sym is) (link_there None None done left e) in
      subst (λ (es : List (Entry T)). IsSome (link_at es i)) (ap (λ r. done ++ r) (sym next) ∙ cut) there

-- a node of the shape has the rank that it shows
pub HasRank-part : (shape l r : Shape) (i k : ℕ) → IsPart (node l i k r) shape → HasRank shape i k
HasRank-part missing l r i k part = cc
HasRank-part (node lesser j m greater) l r i k (inl whole) = inl (cc, cc)
HasRank-part (node lesser j m greater) l r i k (inr (inl part)) = inr (inl (HasRank-part lesser l r i k part))
HasRank-part (node lesser j m greater) l r i k (inr (inr part)) = inr (inr (HasRank-part greater l r i k part))

-- one more rank
module _ {T : Type 0} (shape : Shape) (e : Entry T) (k : ℕ) (has : HasRank shape e.index k) where
  pub HaveRanks-more : (before : List (Entry T)) (ranks : List ℕ) → HaveRanks shape before ranks → HaveRanks shape (before ++ e ∷ []) (ranks ++ k ∷ [])
  HaveRanks-more [] [] ranked = (has, tt)
  HaveRanks-more (b ∷ before) (r ∷ ranks) ranked = (ranked.0, HaveRanks-more before ranks ranked.1)
  HaveRanks-more before ranks ranked = absurd ranked
