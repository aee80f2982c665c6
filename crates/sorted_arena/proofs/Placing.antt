-- Iterators over lists whose entries have the indexes from 1 on.
use Rattle.std.proofs.Common.{◌≡◌, ◌≢◌, Bool, true, false, ℕ, zero, suc, ◌+◌, ◌-◌, ◌^◌, ◌<◌, ◌≤◌, List, [], ◌∷◌, ◌++◌, length, length-append, append_assoc, slice_get, take, drop, Option, Some, None, is_some, refl, sym, ap, subst, ◌∙◌, arith}
use Rattle.std.specs.{Option.option_map, Iterator.YieldsFirstBy, Iterator.YieldsLastBy}
use Rattle.listing.specs.Chain.{Entry, entry_at}
use Rattle.sorted_arena.specs.{Layout.AreNumbered, Place.position_of, Place.left_at, Place.IsPlace, Stretch.stretch, Stretch.first_index, Stretch.IsStretch}
use Rattle.sorted_arena.proofs.{Numbering.position-cut, Numbering.found-numbered, Numbering.run-first, Numbering.run-last, Numbering.run-between, Stretching.stretch-middle}

-- a value that can't be none is there
pub some-unless : {A B : Type 0} (f : A → B) (r : Option A) (x : Option B) → option_map f r ≡ x → (None ≡ x → ⊥) → is_some r ≡ true
some-unless f None x is never = absurd (never is)
some-unless f (Some a) x is never = refl

module _ {T : Type 0} where
  -- a stretch by positions
  module _ (front middle back : List (Entry T)) (h : AreNumbered 1 (front ++ (middle ++ back))) where
    begins-at : position_of (length (front ++ (middle ++ back))) (first_index (middle ++ back)) ≡ length front
    begins-at = position-cut front (middle ++ back) h

    ends-at : position_of (length (front ++ (middle ++ back))) (first_index back) ≡ length front + length middle
    ends-at =
        let same : front ++ (middle ++ back) ≡ (front ++ middle) ++ back = sym (append_assoc front middle back) in
        ap (λ (es : List (Entry T)). position_of (length es) (first_index back)) same
        ∙ position-cut (front ++ middle) back (subst (λ (es : List (Entry T)). AreNumbered 1 es) same h) ∙ length-append front middle

  -- what is left between two indexes
  pub record IsRun (es : List (Entry T)) (first end : Option ℕ) (from left : ℕ) : Type 0 where
    pub gives : take left (drop from es) ≡ stretch es first end
    pub within : from + left ≤ length es

  pub run-stretch : (es : List (Entry T)) (first end : Option ℕ) → AreNumbered 1 es → IsStretch es first end
      → (from to : ℕ) → from ≡ position_of (length es) first → to ≡ position_of (length es) end → IsRun es first end from (to - from)
  run-stretch es first end h s from to from_is to_is =
      let h' : AreNumbered 1 (s.front ++ (s.middle ++ s.back)) = subst (λ (xs : List (Entry T)). AreNumbered 1 xs) s.cut h in
      let begins : from ≡ length s.front =
      from_is ∙ ap (position_of (length es)) (sym s.begins) ∙ ap (λ (xs : List (Entry T)). position_of (length xs) (first_index (s.middle ++ s.back))) s.cut
      ∙ begins-at s.front s.middle s.back h' in
      let ends : to ≡ length s.front + length s.middle =
      to_is ∙ ap (position_of (length es)) (sym s.ends) ∙ ap (λ (xs : List (Entry T)). position_of (length xs) (first_index s.back)) s.cut ∙ ends-at s.front s.middle s.back h' in
      let long : to - from ≡ length s.middle = omega (arith, begins, ends) in
      record {
        gives = ap (λ (n : ℕ). take n (drop from es)) long ∙ ap (λ (n : ℕ). take (length s.middle) (drop n es)) begins
            ∙ ap (λ (xs : List (Entry T)). take (length s.middle) (drop (length s.front) xs)) s.cut ∙ run-between s.front s.middle s.back ∙ sym (stretch-middle es first end s);
        within = omega (arith, begins, ends, ap length s.cut, length-append s.front (s.middle ++ s.back), length-append s.middle s.back);
      }

  -- an iterator over what is between two indexes, whether entries are counted or linked
  module _ (es : List (Entry T)) (first end : Option ℕ) where
    pub place-stretch : (most : ℕ) (is_numbered : Bool) → (is_numbered ≡ true → AreNumbered 1 es) → IsStretch es first end → (length es < 2 ^ 64) × (length es ≤ most)
        → (from to : ℕ) → from ≡ position_of (length es) first → to ≡ position_of (length es) end → IsPlace most es is_numbered first end from (to - from)
    place-stretch most true numbered s few from to from_is to_is = (numbered refl, (run-stretch es first end (numbered refl) s from to from_is to_is).within, few.0, few.1)
    place-stretch most false numbered s few from to from_is to_is = s

    pub gives-stretch : (is_numbered : Bool) → (is_numbered ≡ true → AreNumbered 1 es) → IsStretch es first end
        → (from to : ℕ) → from ≡ position_of (length es) first → to ≡ position_of (length es) end → left_at es is_numbered first end from (to - from) ≡ stretch es first end
    gives-stretch true numbered s from to from_is to_is = (run-stretch es first end (numbered refl) s from to from_is to_is).gives
    gives-stretch false numbered s from to from_is to_is = refl

  -- an iterator whose entries are linked, and one whose entries are counted
  module _ (es : List (Entry T)) (is_numbered : Bool) (first end : Option ℕ) (from left : ℕ) where
    pub left-linked : is_numbered ≡ false → left_at es is_numbered first end from left ≡ stretch es first end
    left-linked is = ap (λ (b : Bool). left_at es b first end from left) is

    pub place-linked : (most : ℕ) → is_numbered ≡ false → IsPlace most es is_numbered first end from left → IsStretch es first end
    place-linked most is place = subst (λ (b : Bool). IsPlace most es b first end from left) is place

    pub linked-place : (most : ℕ) → is_numbered ≡ false → IsStretch es first end → IsPlace most es is_numbered first end from left
    linked-place most is stands = subst (λ (b : Bool). IsPlace most es b first end from left) (sym is) stands

    pub left-numbered : is_numbered ≡ true → left_at es is_numbered first end from left ≡ take left (drop from es)
    left-numbered is = ap (λ (b : Bool). left_at es b first end from left) is

    pub place-numbered : (most : ℕ) → is_numbered ≡ true → IsPlace most es is_numbered first end from left → from + left ≤ length es
    place-numbered most is place = (subst (λ (b : Bool). IsPlace most es b first end from left) is place).1

  -- each position has an entry
  pub got : (es : List (Entry T)) (k : ℕ) → k < length es → (e : Entry T) × (slice_get es k ≡ Some e)
  got [] k within = absurd (omega arith)
  got (x ∷ es) zero within = (x, refl)
  got (x ∷ es) (suc k) within = got es k (omega arith)

  module _ (es : List (Entry T)) (h : AreNumbered 1 es) (position : ℕ) (within : position < length es) (i : ℕ) (at : i ≡ position + 1) where
    there : entry_at es i ≡ Some ((got es position within).0.generation, (got es position within).0.item)
    there =
        let e = got es position within in
        let sums : i ≡ 1 + position = omega (arith, at) in
        ap (entry_at es) sums ∙ (found-numbered 1 es position e.0 h e.1).1

    pub never-absent : None ≡ entry_at es i → ⊥
    never-absent none = let some = there in cc

    pub shown-there : (g : ℕ) (item : T) → Some (g, item) ≡ entry_at es i → Some (record { index = i; generation = g; item = item }) ≡ slice_get es position
    shown-there g item is =
        let e = got es position within in
        let found = found-numbered 1 es position e.0 h e.1 in
        let index : i ≡ e.0.index = omega (arith, at, found.0) in
        let same : (g, item) ≡ (e.0.generation, e.0.item) = let both = is ∙ there in cc in
        ap (λ (j : ℕ). Some (record { index = j; generation = g; item = item })) index
        ∙ ap (λ (x : ℕ × T). Some (record { index = e.0.index; generation = x.0; item = x.1 })) same ∙ sym e.1

  -- a step from the front, and from the back
  module _ {X : Type 0} (shows : X → Entry T) (es : List (Entry T)) (from left : ℕ) (some : left ≢ 0) (within : from + left ≤ length es) where
    one-more : suc (left - 1) ≡ left
    one-more = omega (arith, some)

    steps-front : (e : Entry T) → slice_get es from ≡ Some e → take left (drop from es) ≡ e ∷ take (left - 1) (drop (from + 1) es)
    steps-front e at = ap (λ (n : ℕ). take n (drop from es)) (sym one-more) ∙ run-first es from (left - 1) e at

    steps-end : (e : Entry T) → slice_get es (from + (left - 1)) ≡ Some e → take left (drop from es) ≡ take (left - 1) (drop from es) ++ e ∷ []
    steps-end e at = ap (λ (n : ℕ). take n (drop from es)) (sym one-more) ∙ run-last es from (left - 1) e at

    -- the position has an entry
    gives-some : (k : ℕ) → k < length es → (r : Option X) → option_map shows r ≡ slice_get es k → r ≡ None → ⊥
    gives-some k inside r is none = let e = got es k inside in let both : None ≡ Some e.0 = ap (option_map shows) (sym none) ∙ is ∙ e.1 in cc

    pub yields-front : (r : Option X) → option_map shows r ≡ slice_get es from → YieldsFirstBy shows (λ l. l) (take left (drop from es)) r (take (left - 1) (drop (from + 1) es))
    yields-front None is = absurd (gives-some from (omega (arith, some, within)) None is refl)
    yields-front (Some x) is = steps-front (shows x) (sym is)

    pub yields-end : (r : Option X) → option_map shows r ≡ slice_get es (from + (left - 1)) → YieldsLastBy shows (λ l. l) (take left (drop from es)) r (take (left - 1) (drop from es))
    yields-end None is = absurd (gives-some (from + (left - 1)) (omega (arith, some, within)) None is refl)
    yields-end (Some x) is = steps-end (shows x) (sym is)
