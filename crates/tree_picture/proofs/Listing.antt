-- The nodes of a picture, entry by entry.
use Rattle.std.proofs.Common.{◌≡◌, ℕ, ◌+◌, ◌<◌, List, [], ◌∷◌, ◌++◌, Option, length, map, take, get_or, sym, ap, subst, ◌∙◌, All, arith, append_assoc, length-append}
use Rattle.std.proofs.lemmas.List.{length-map, map-append, take_more}
use Rattle.std.proofs.lemmas.List.Elements.{All-append, All-nil, All-cons}
use Rattle.triple_ord.specs.Chain.{Entry}
use Rattle.tree_picture.specs.Text.{Shows, ShowEach}

-- one more element of a list that is walked
pub cut_more : {X : Type 0} (all done rest left : List X) (x : X) → done ++ rest ≡ all → rest ≡ x ∷ left → (done ++ x ∷ []) ++ left ≡ all
cut_more all done rest left x cut next = append_assoc done (x ∷ []) left ∙ ap (λ r. done ++ r) (sym next) ∙ cut

-- lists with the same images are equally long
pub as-many : {X Y B : Type 0} (f : X → B) (g : Y → B) (xs : List X) (ys : List Y) → map f xs ≡ map g ys → length xs ≡ length ys
as-many f g xs ys same = sym (length-map xs f) ∙ ap length same ∙ length-map ys g

-- while an element is left, fewer were listed than there are
pub fewer : {X Y B : Type 0} (f : X → B) (g : Y → B) (listed : List X) (all done rest left : List Y) (y : Y) → map f listed ≡ map g done → done ++ rest ≡ all → rest ≡ y ∷ left
    → length listed < length all
fewer f g listed all done rest left y same cut next =
    omega (arith, as-many f g listed done same, ap length cut, length-append done rest, ap length next)

-- one more element of which something holds
pub more-all : {N : Type 0} (P : N → Type 0) (old new : List N) (n : N) → new ≡ old ++ n ∷ [] → All P old → P n → All P new
more-all P old new n grown all one = rw grown (All-append P old (n ∷ []) all (All-cons P n [] one (All-nil P)))

-- one more node
module _ {N : Type 0} (old new : List N) (n : N) (grown : new ≡ old ++ n ∷ []) where
  map-grown : {B : Type 0} (f : N → B) → map f new ≡ map f old ++ f n ∷ []
  map-grown f = ap (map f) grown ∙ map-append f old (n ∷ [])

  pub more-mapped : {E B : Type 0} (f : N → B) (g : E → B) (es : List E) (e : E) → map f old ≡ map g es → f n ≡ g e → map f new ≡ map g (es ++ e ∷ [])
  more-mapped f g es e same one =
      map-grown f ∙ ap (λ bs. bs ++ f n ∷ []) same ∙ ap (λ b. map g es ++ b ∷ []) one ∙ sym (map-append g es (e ∷ []))

  pub more-taken : {B : Type 0} (f : N → B) (places : List B) (d : B) (j : ℕ) → map f old ≡ take (length old) places → j ≡ length old → length old < length places
      → f n ≡ get_or places j d → map f new ≡ take (length new) places
  more-taken f places d j same is few one =
      let many : length new ≡ length old + 1 = ap length grown ∙ length-append old (n ∷ []) in
      map-grown f ∙ ap (λ bs. bs ++ f n ∷ []) same ∙ ap (λ b. take (length old) places ++ b ∷ []) (one ∙ ap (λ k. get_or places k d) is)
      ∙ sym (take_more places (length old) d few) ∙ ap (λ k. take k places) (sym many)

-- one more key that is shown
module _ {T K : Type 0} (output : K → Option (List ℕ)) (key : T → K) (e : Entry T) (shown : List ℕ) (shows : Shows (output (key e.item)) shown) where
  pub ShowEach-more : (es : List (Entry T)) (keys : List (List ℕ)) → ShowEach output key es keys → ShowEach output key (es ++ e ∷ []) (keys ++ shown ∷ [])
  ShowEach-more [] [] each = (shows, tt)
  ShowEach-more [] (k ∷ keys) each = absurd each
  ShowEach-more (f ∷ es) [] each = absurd each
  ShowEach-more (f ∷ es) (k ∷ keys) each = (each.0, ShowEach-more es keys each.1)

module _ {T K N : Type 0} (output : K → Option (List ℕ)) (key : T → K) (bytes : N → List ℕ) (old new : List N) (n : N) (grown : new ≡ old ++ n ∷ []) (e : Entry T) where
  pub more-shown : (es : List (Entry T)) → ShowEach output key es (map bytes old) → Shows (output (key e.item)) (bytes n) → ShowEach output key (es ++ e ∷ []) (map bytes new)
  more-shown es each shows =
      subst (ShowEach output key (es ++ e ∷ [])) (sym (map-grown old new n grown bytes)) (ShowEach-more output key e (bytes n) shows es (map bytes old) each)
