-- Lists that are traversed from the front.
use Rattle.std.proofs.Common.{◌≡◌, List, [], ◌∷◌, ◌++◌, length, sym, ap, ◌∙◌, append_assoc, append-nil, arith}

module _ {X : Type 0} where
  -- the rest behind its first element
  pub cut_more : (all done rest left : List X) (x : X) → done ++ rest ≡ all → rest ≡ x ∷ left → (done ++ x ∷ []) ++ left ≡ all
  cut_more all done rest left x cut next = append_assoc done (x ∷ []) left ∙ ap (λ r. done ++ r) (sym next) ∙ cut

  -- the end, with nothing left
  pub cut_all : (all done rest : List X) → done ++ rest ≡ all → length rest ≡ 0 → done ≡ all
  cut_all all done [] cut none = sym (append-nil done) ∙ cut
  cut_all all done (x ∷ rest) cut none = absurd (omega (arith, none))
