-- Two rows of a list that is cut between them.
use Rattle.std.proofs.Common.{◌≡◌, ◌≢◌, ℕ, zero, suc, ◌<◌, List, [], ◌∷◌, ◌++◌, length, get_or, set, arith, ap, sym, ◌∙◌, refl}

module _ {X : Type 0} where
  part-front : (front back : List (List X)) (i : ℕ) (d : List X) → i < length front → get_or front i d ≡ get_or (front ++ back) i []
  part-front [] back i d within = absurd (omega arith)
  part-front (x ∷ front) back zero d within = refl
  part-front (x ∷ front) back (suc i) d within = part-front front back i d (omega arith)

  part-back : (front back : List (List X)) (d : List X) → 0 < length back → get_or back 0 d ≡ get_or (front ++ back) (length front) []
  part-back [] [] d some = absurd (omega arith)
  part-back [] (x ∷ back) d some = refl
  part-back (x ∷ front) back d some = part-back front back d some

  pub read-front : (rows front back : List (List X)) (i : ℕ) (d : List X) → rows ≡ front ++ back → i < length front → get_or front i d ≡ get_or rows i []
  read-front rows front back i d is within = part-front front back i d within ∙ ap (λ (l : List (List X)). get_or l i []) (sym is)

  pub read-back : (rows front back : List (List X)) (m : ℕ) (d : List X) → rows ≡ front ++ back → length front ≡ m → 0 < length back → get_or back 0 d ≡ get_or rows m []
  read-back rows front back m d is size some =
      part-back front back d some ∙ ap (λ (i : ℕ). get_or (front ++ back) i []) size ∙ ap (λ (l : List (List X)). get_or l m []) (sym is)

  pub own-front : (front back : List (List X)) (i : ℕ) (x y : List X) → i < length front → get_or (set front i x ++ set back 0 y) i [] ≡ x
  own-front [] back i x y within = absurd (omega arith)
  own-front (z ∷ front) back zero x y within = refl
  own-front (z ∷ front) back (suc i) x y within = own-front front back i x y (omega arith)

  own-behind : (front back : List (List X)) (i : ℕ) (x y : List X) → 0 < length back → get_or (set front i x ++ set back 0 y) (length front) [] ≡ y
  own-behind [] [] i x y some = absurd (omega arith)
  own-behind [] (z ∷ back) i x y some = refl
  own-behind (z ∷ front) back zero x y some = kept front back y some
    where
      kept : (front back : List (List X)) (y : List X) → 0 < length back → get_or (front ++ set back 0 y) (length front) [] ≡ y
      kept [] [] y some = absurd (omega arith)
      kept [] (z ∷ back) y some = refl
      kept (z ∷ front) back y some = kept front back y some
  own-behind (z ∷ front) back (suc i) x y some = own-behind front back i x y some

  pub own-back : (front back : List (List X)) (i m : ℕ) (x y : List X) → length front ≡ m → 0 < length back → get_or (set front i x ++ set back 0 y) m [] ≡ y
  own-back front back i m x y size some = ap (λ (k : ℕ). get_or (set front i x ++ set back 0 y) k []) (sym size) ∙ own-behind front back i x y some

  kept-behind : (back : List (List X)) (y : List X) (k : ℕ) → k ≢ 0 → get_or (set back 0 y) k [] ≡ get_or back k []
  kept-behind [] y k apart = refl
  kept-behind (z ∷ back) y zero apart = absurd (apart refl)
  kept-behind (z ∷ back) y (suc k) apart = refl

  kept-after : (front back : List (List X)) (y : List X) (k : ℕ) → k ≢ length front → get_or (front ++ set back 0 y) k [] ≡ get_or (front ++ back) k []
  kept-after [] back y k apart = kept-behind back y k apart
  kept-after (z ∷ front) back y zero apart = refl
  kept-after (z ∷ front) back y (suc k) apart = kept-after front back y k (λ same. apart (omega (arith, same)))

  kept-both : (front back : List (List X)) (i : ℕ) (x y : List X) (k : ℕ) → k ≢ i → k ≢ length front → get_or (set front i x ++ set back 0 y) k [] ≡ get_or (front ++ back) k []
  kept-both [] back i x y k apart other = kept-behind back y k other
  kept-both (z ∷ front) back zero x y zero apart other = absurd (apart refl)
  kept-both (z ∷ front) back zero x y (suc k) apart other = kept-after front back y k (λ same. other (omega (arith, same)))
  kept-both (z ∷ front) back (suc i) x y zero apart other = refl
  kept-both (z ∷ front) back (suc i) x y (suc k) apart other = kept-both front back i x y k (λ same. apart (ap suc same)) (λ same. other (omega (arith, same)))

  pub kept-others : (rows front back : List (List X)) (i m : ℕ) (x y : List X) (k : ℕ) → rows ≡ front ++ back → length front ≡ m → k ≢ i → k ≢ m
      → get_or (set front i x ++ set back 0 y) k [] ≡ get_or rows k []
  kept-others rows front back i m x y k is size apart other =
      kept-both front back i x y k apart (λ same. other (same ∙ size)) ∙ ap (λ (l : List (List X)). get_or l k []) (sym is)
