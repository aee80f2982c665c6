-- What is true of each element of lists.
use Rattle.std.proofs.Common.{◌≡◌, Bool, true, false, List, [], ◌∷◌, ◌++◌, filter, refl, ap}
use Rattle.std.specs.List.{AllByRecursion}

module _ {X : Type 0} (P : X → Type 0) where
  pub all-append : (xs ys : List X) → AllByRecursion P xs → AllByRecursion P ys → AllByRecursion P (xs ++ ys)
  all-append [] ys all more = more
  all-append (x ∷ xs) ys all more = (all.0, all-append xs ys all.1 more)

  pub all-front : (xs ys : List X) → AllByRecursion P (xs ++ ys) → AllByRecursion P xs
  all-front [] ys all = tt
  all-front (x ∷ xs) ys all = (all.0, all-front xs ys all.1)

  pub all-back : (xs ys : List X) → AllByRecursion P (xs ++ ys) → AllByRecursion P ys
  all-back [] ys all = all
  all-back (x ∷ xs) ys all = all-back xs ys all.1

  pub all-at : (xs : List X) (x : X) (ys : List X) → AllByRecursion P (xs ++ x ∷ ys) → P x
  all-at [] x ys all = all.0
  all-at (y ∷ xs) x ys all = all-at xs x ys all.1

  pub all-between : (xs : List X) (x : X) (ys : List X) → AllByRecursion P (xs ++ ys) → P x → AllByRecursion P (xs ++ x ∷ ys)
  all-between [] x ys all one = (one, all)
  all-between (y ∷ xs) x ys all one = (all.0, all-between xs x ys all.1 one)

  -- what follows from two facts
  pub all-both : (Q R : X → Type 0) → ((x : X) → P x → Q x → R x) → (xs : List X) → AllByRecursion P xs → AllByRecursion Q xs → AllByRecursion R xs
  all-both Q R follows [] all more = tt
  all-both Q R follows (x ∷ xs) all more = (follows x all.0 more.0, all-both Q R follows xs all.1 more.1)

-- a filter keeps all, or none
module _ {X : Type 0} (test : X → Bool) where
  pub filter-all : (xs : List X) → AllByRecursion (λ x. test x ≡ true) xs → filter test xs ≡ xs
  filter-all [] all = refl
  filter-all (x ∷ xs) all = rw (all.0) (ap (λ ys. x ∷ ys) (filter-all xs all.1))

  pub filter-none : (xs : List X) → AllByRecursion (λ x. test x ≡ false) xs → filter test xs ≡ []
  filter-none [] all = refl
  filter-none (x ∷ xs) all = rw (all.0) (filter-none xs all.1)
