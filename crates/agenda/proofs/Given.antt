-- Jobs with their tickets at the end of a vector.
use Rattle.std.proofs.Common.{◌≡◌, length, List, [], ◌∷◌, ◌++◌, map, take, drop, append_assoc, Result, Ok, Err, IsOk, is_ok, if◌then◌else◌, refl, sym, ap, ◌∙◌}
use Rattle.std.proofs.lemmas.{List.append-nil, List.map-append}

module _ {X Y : Type 0} (shows : X → Y) where
  -- A vector has these behind those that it had.
  pub record HasBehind (given filled : List X) (shown : List Y) : Type 0 where
    pub more : List X
    pub filled_is : filled ≡ given ++ more
    pub shown_are : map shows more ≡ shown

  pub behind-none : (given filled : List X) → filled ≡ given → HasBehind given filled []
  behind-none given filled is = record { more = []; filled_is = is ∙ sym (append-nil given); shown_are = refl }

  pub behind-more : (given filled new : List X) (shown : List Y) (x : X) → HasBehind given filled shown → new ≡ filled ++ x ∷ [] → HasBehind given new (shown ++ shows x ∷ [])
  behind-more given filled new shown x has is = record {
    more = has.more ++ x ∷ [];
    filled_is = is ∙ ap (λ (xs : List X). xs ++ x ∷ []) has.filled_is ∙ append_assoc given has.more (x ∷ []);
    shown_are = map-append shows has.more (x ∷ []) ∙ ap (λ (ys : List Y). ys ++ shows x ∷ []) has.shown_are;
  }

  take-front : (xs ys : List X) → take (length xs) (xs ++ ys) ≡ xs
  take-front [] ys = refl
  take-front (x ∷ xs) ys = ap (λ zs. x ∷ zs) (take-front xs ys)

  drop-front : (xs ys : List X) → drop (length xs) (xs ++ ys) ≡ ys
  drop-front [] ys = refl
  drop-front (x ∷ xs) ys = drop-front xs ys

  module _ (given filled : List X) (shown : List Y) (has : HasBehind given filled shown) where
    pub behind-held : take (length given) filled ≡ given
    behind-held = ap (take (length given)) has.filled_is ∙ take-front given has.more

    pub behind-more_is : drop (length given) filled ≡ has.more
    behind-more_is = ap (drop (length given)) has.filled_is ∙ drop-front given has.more

    pub behind-shown : map shows (drop (length given) filled) ≡ shown
    behind-shown = ap (map shows) behind-more_is ∙ has.shown_are

-- a vector with room takes one more
pub pushed : {X U E : Type 0} (r : Result U E) (xs new : List X) (x : X) → new ≡ (if is_ok r then xs ++ x ∷ [] else xs) → IsOk r → new ≡ xs ++ x ∷ []
pushed (Ok u) xs new x is ok = is
pushed (Err e) xs new x is ok = absurd (cc)
