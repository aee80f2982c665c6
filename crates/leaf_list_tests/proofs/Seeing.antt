-- Names that have been looked for among the first entries.
use Rattle.std.proofs.Common.{◌≡◌, ◌≢◌, ℕ, zero, suc, ◌+◌, List, [], ◌∷◌, length, take, Some, slice_get, arith, ap, sym, ◌∙◌, inl, inr}
use Rattle.std.proofs.lemmas.Bool.{Decides.eqb_tells}
use Rattle.std.proofs.lemmas.List.{take_all}
use Rattle.leaf_list.specs.Leaves.{times}

module _ {K : Type 0} where
  -- one more entry has another name
  pub seen-more : (es : List (K × ℕ)) (i name : ℕ) (e : K × ℕ) → slice_get es i ≡ Some e → e.1 ≢ name → times name (take i es) ≡ 0 → times name (take (i + 1) es) ≡ 0
  seen-more [] i name e is other none = absurd (cc)
  seen-more (x ∷ es) zero name e is other none =
      let own : x ≡ e = cc in
      elim (eqb_tells x.1 name) [
        | inl same ↦ absurd (other (sym (ap (λ (y : K × ℕ). y.1) own) ∙ same.1))
        | inr apart ↦ rw apart.0 (omega arith)
      ]
  seen-more (x ∷ es) (suc i) name e is other none =
      let place : suc i + 1 ≡ suc (i + 1) = omega arith in
      let rest = seen-more es i name e is other (omega arith) in
      let all = ap (λ (m : ℕ). times name (take m (x ∷ es))) place in omega arith

  pub seen-all : (es : List (K × ℕ)) (i name : ℕ) → length es ≡ i → times name (take i es) ≡ 0 → times name es ≡ 0
  seen-all es i name is none = sym (ap (times name) (take_all i es (omega arith))) ∙ none
