-- The elements of a list from an index on are written anew, one by one.
use Rattle.std.proofs.Common.{◌≡◌, ℕ, ◌+◌, ◌-◌, ◌≤◌, ◌<◌, get_or, set, take, drop, List, [], ◌∷◌, ◌++◌, map, length, length-append, length-drop, append_assoc, refl, sym, ap, ◌∙◌, arith}
use Rattle.std.proofs.lemmas.List.{append-nil, get_or_at, length-map, map-append, set-append_right, take-append-drop}

module _ {X : Type 0} (f : X → X) (from : ℕ) (whole : List X) where
  -- How far it is: from `from` on, these are done and those are left.
  pub record IsRefreshing (at : ℕ) (now : List X) : Type 0 where
    pub within : from ≤ length whole
    pub done : List X
    pub left : List X
    pub cut : drop from whole ≡ done ++ left
    pub reached : from + length done ≡ at
    pub is : now ≡ (take from whole ++ map f done) ++ left

  pub refreshing-start : from ≤ length whole → IsRefreshing from whole
  refreshing-start within = record {
    within = within;
    done = [];
    left = drop from whole;
    cut = refl;
    reached = omega arith;
    is = sym (ap (λ xs. xs ++ drop from whole) (append-nil (take from whole)) ∙ take-append-drop from whole);
  }

  module _ (at : ℕ) (now : List X) (h : IsRefreshing at now) where
    long : length (take from whole ++ map f h.done) ≡ at
    long =
        let kept : length whole ≡ length (take from whole) + length (drop from whole) = ap length (sym (take-append-drop from whole)) ∙ length-append (take from whole) (drop from whole) in
        omega (arith, length-append (take from whole) (map f h.done), length-map h.done f, h.reached, h.within, kept, length-drop from whole)

    -- the list keeps its length
    pub refreshing-length : length now ≡ length whole
    refreshing-length =
        omega (arith, ap length h.is, length-append (take from whole ++ map f h.done) h.left, long, ap length h.cut, length-append h.done h.left, h.reached, h.within, length-drop from whole)

    pub refreshing-end : length whole ≤ at → now ≡ take from whole ++ map f (drop from whole)
    refreshing-end past = go h.left h.cut h.is
      where
        go : (left : List X) → drop from whole ≡ h.done ++ left → now ≡ (take from whole ++ map f h.done) ++ left → now ≡ take from whole ++ map f (drop from whole)
        go [] cut is = is ∙ append-nil (take from whole ++ map f h.done) ∙ sym (ap (λ xs. take from whole ++ map f xs) (cut ∙ append-nil h.done))
        go (x ∷ xs) cut is = absurd (omega (arith, past, ap length cut, length-append h.done (x ∷ xs), h.reached, h.within, length-drop from whole))

    -- the next one
    pub refreshing-next : (x : X) → at < length whole → x ≡ get_or now at x → IsRefreshing (at + 1) (set now at (f x))
    refreshing-next x less read = go h.left h.cut h.is
      where
        go : (left : List X) → drop from whole ≡ h.done ++ left → now ≡ (take from whole ++ map f h.done) ++ left → IsRefreshing (at + 1) (set now at (f x))
        go [] cut is = absurd (omega (arith, less, ap length cut, length-append h.done [], h.reached, h.within, length-drop from whole))
        go (y ∷ ys) cut is =
            let front : List X = take from whole ++ map f h.done in
            let same : x ≡ y = read ∙ ap (λ xs. get_or xs at x) is ∙ get_or_at front y ys x at long in
            let none : at - at ≡ 0 = omega arith in
            record {
              within = h.within;
              done = h.done ++ y ∷ [];
              left = ys;
              cut = cut ∙ sym (append_assoc h.done (y ∷ []) ys);
              reached = omega (arith, length-append h.done (y ∷ []), h.reached);
              is = ap (λ xs. set xs at (f x)) is ∙ set-append_right front (y ∷ ys) at at (f x) long (omega arith)
                  ∙ ap (λ (n : ℕ). front ++ set (y ∷ ys) n (f x)) none ∙ ap (λ (z : X). front ++ f z ∷ ys) same
                  ∙ sym (append_assoc front (f y ∷ []) ys)
                  ∙ ap (λ xs. xs ++ ys) (append_assoc (take from whole) (map f h.done) (f y ∷ []) ∙ sym (ap (λ xs. take from whole ++ xs) (map-append f h.done (y ∷ []))));
            }
