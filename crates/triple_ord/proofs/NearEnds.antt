-- The steps from a near hint end at the far neighbour of the gap where the key belongs.
use Rattle.std.proofs.{Math.Seq.drop-append_seam, Math.Seq.take-append_seam, Common.drop, Common.take, Common.false, lemmas.Bool.Decides.nat_tests}
use Rattle.triple_ord.proofs.Words.{◌≡◌, ◌≢◌, ℕ, true, ◌+◌, ◌≤◌, List, [], ◌∷◌, ◌++◌, Option, Some, None, IfSome, length, refl, sym, ap, ◌∙◌, arith, append_assoc, length-append, option_map, ordering_reverse, Ordering, Less, Equal, Greater}
use Rattle.triple_ord.proofs.Words.{IsTotalOrder, Gap, first_of, last_of, order_to, Fits, IsInOrder, Entry, common_steps, CameFrom}
use Rattle.triple_ord.proofs.Inserting.{last_of-append, begins, ends, no_first, no_last}
use Rattle.triple_ord.proofs.OrderLaws.{stands-before, stands-behind}
use Rattle.triple_ord.proofs.Words.{IsDistinct, IsStepping, IsNear, Link, is_eq, is_some, pointer, link_at, entry_at, neighbour_towards}
use Rattle.triple_ord.proofs.Stepping.{HasTurned, low-answered, high-answered, linked, named, stepping-order, stepping-unequal}
use Rattle.triple_ord.specs.{Hint.way_end, Hint.AnswersNear, Steps.EndsNear}

module _ {X : Type 0} where
  -- lists cut at the same position
  same-front : (xs front back front0 back0 : List X) → xs ≡ front ++ back → xs ≡ front0 ++ back0 → length front ≡ length front0 → front ≡ front0
  same-front xs front back front0 back0 cut cut0 same =
      sym (take-append_seam front back) ∙ ap (take (length front)) (sym cut ∙ cut0) ∙ ap (λ n. take n (front0 ++ back0)) same ∙ take-append_seam front0 back0

  same-back : (xs front back front0 back0 : List X) → xs ≡ front ++ back → xs ≡ front0 ++ back0 → length front ≡ length front0 → back ≡ back0
  same-back xs front back front0 back0 cut cut0 same =
      sym (drop-append_seam front back) ∙ ap (drop (length front)) (sym cut ∙ cut0) ∙ ap (λ n. drop n (front0 ++ back0)) same ∙ drop-append_seam front0 back0

module _ {T K : Type 0} (key : T → K) (cmp real : K → K → Ordering) (total : IsTotalOrder real) (es : List (Entry T)) (k : K)
    (lesser : (other : K) → cmp k other ≡ Less → real k other ≡ Less) (greater : (other : K) → cmp k other ≡ Greater → real k other ≢ Less)
    (ordered : IsInOrder key real es) (gap : Gap es) (fits : Fits key real gap k) (start visits : ℕ)
    (front : List (Entry T)) (entry : Entry T) (back : List (Entry T)) (cut : es ≡ front ++ entry ∷ back) where
  whole : length es ≡ length front + (1 + length back)
  whole = ap length cut ∙ length-append front (entry ∷ back) ∙ omega arith

  within : length gap.front ≤ length es
  within = let n = ap length gap.cut in omega (arith, n, length-append gap.front gap.back)

  -- the entry after the gap is reached
  module _ (here : order_to key cmp k entry ≡ Less) where
    front-less : (o : Option (Entry T)) → last_of None front ≡ o → IfSome o (λ e. order_to key cmp k e ≡ Greater) → length gap.front ≡ length front
    front-less None none answered =
        let high = stands-behind key real total k es ordered gap fits front back entry cut (λ more. let less = lesser _ here in cc) in
        omega (arith, high, ap length (no_last front none))
    front-less (Some f) is answered =
        let high = stands-behind key real total k es ordered gap fits front back entry cut (λ more. let less = lesser _ here in cc) in
        let end = ends front f is in
        let cut_before : es ≡ end.0 ++ f ∷ (entry ∷ back) = cut ∙ (ap (λ (xs : List (Entry T)). xs ++ entry ∷ back) end.1 ∙ simp append_assoc) in
        let low = stands-before key real total k es ordered gap fits end.0 (entry ∷ back) f cut_before (greater _ answered) in
        omega (arith, high, low, ap length end.1, length-append end.0 (f ∷ []))

    module _ (same : length gap.front ≡ length front) where
      pub ends-less : (came : Ordering) → CameFrom key cmp es k start visits front back came
          → IfSome (option_map (λ e. e.index) (last_of None front)) (λ j. Less ≡ ordering_reverse came) → way_end gap start ≡ Some entry
      ends-less came from turned =
          by came from (last_of None front) refl turned (same-front es gap.front gap.back front (entry ∷ back) gap.cut cut same) (same-back es gap.front gap.back front (entry ∷ back) gap.cut cut same)
        where
          by : (came : Ordering) → CameFrom key cmp es k start visits front back came → (o : Option (Entry T)) → last_of None front ≡ o
              → IfSome (option_map (λ e. e.index) o) (λ j. Less ≡ ordering_reverse came) → gap.front ≡ front → gap.back ≡ entry ∷ back → way_end gap start ≡ Some entry
          by came from None none turned f b = grind (arith, common_steps, nat_tests, f, b, none, no_last front none)
          by Greater from (Some e) is turned f b = grind (arith, common_steps, nat_tests, f, b, from.3, from.4)
          by came from (Some e) is turned f b = absurd (cc)

  -- the entry before the gap is reached
  module _ (here : order_to key cmp k entry ≡ Greater) where
    front-greater : (o : Option (Entry T)) → first_of back ≡ o → IfSome o (λ e. order_to key cmp k e ≡ Less) → length gap.front ≡ length (front ++ entry ∷ [])
    front-greater None none answered =
        let low = stands-before key real total k es ordered gap fits front back entry cut (greater _ here) in
        omega (arith, low, whole, within, length-append front (entry ∷ []), ap length (no_first back none))
    front-greater (Some f) is answered =
        let low = stands-before key real total k es ordered gap fits front back entry cut (greater _ here) in
        let begin = begins back f is in
        let cut_behind : es ≡ (front ++ entry ∷ []) ++ f ∷ begin.0 = cut ∙ (ap (λ (xs : List (Entry T)). front ++ entry ∷ xs) begin.1 ∙ simp append_assoc) in
        let high = stands-behind key real total k es ordered gap fits (front ++ entry ∷ []) begin.0 f cut_behind (λ more. let less = lesser _ answered in cc) in
        omega (arith, low, high, length-append front (entry ∷ []))

    module _ (same : length gap.front ≡ length (front ++ entry ∷ [])) where
      cut_after : es ≡ (front ++ entry ∷ []) ++ back
      cut_after = cut ∙ simp append_assoc

      pub ends-greater : (came : Ordering) → CameFrom key cmp es k start visits front back came
          → IfSome (option_map (λ e. e.index) (first_of back)) (λ j. Greater ≡ ordering_reverse came) → way_end gap start ≡ Some entry
      ends-greater came from turned =
          by came from (first_of back) refl turned (same-front es gap.front gap.back (front ++ entry ∷ []) back gap.cut cut_after same) (same-back es gap.front gap.back (front ++ entry ∷ []) back gap.cut cut_after same)
        where
          last : last_of None (front ++ entry ∷ []) ≡ Some entry
          last = last_of-append None front entry []

          long : length (front ++ entry ∷ []) ≡ length front + 1
          long = length-append front (entry ∷ [])

          by : (came : Ordering) → CameFrom key cmp es k start visits front back came → (o : Option (Entry T)) → first_of back ≡ o
              → IfSome (option_map (λ e. e.index) o) (λ j. Greater ≡ ordering_reverse came) → gap.front ≡ front ++ entry ∷ [] → gap.back ≡ back → way_end gap start ≡ Some entry
          by Less from o is turned f b = grind (arith, common_steps, nat_tests, f, b, last, long, from.3, from.4)
          by Equal from None none turned f b = grind (arith, common_steps, nat_tests, f, b, none, last, long, from)
          by Greater from None none turned f b = grind (arith, common_steps, nat_tests, f, b, none, last, long, from.3, from.4)
          by came from (Some e) is turned f b = absurd (cc)

-- so the steps end there
module _ {T K : Type 0} (key : T → K) (cmp : K → K → Ordering) (es : List (Entry T)) (k : K) (distinct : IsDistinct es) (start i visits : ℕ) (came : Ordering)
    (s : IsStepping key cmp es k start i visits came) (generation : ℕ) (l : Link T) (is : link_at es i ≡ Some (generation, l))
    (real : K → K → Ordering) (total : IsTotalOrder real) (ordered : IsInOrder key real es) (gap : Gap es) (fits : Fits key real gap k)
    (lesser : (other : K) → cmp k other ≡ Less → real k other ≡ Less) (greater : (other : K) → cmp k other ≡ Greater → real k other ≢ Less) where
  found-there : (o : Ordering) → order_to key real k s.entry ≡ o → way_end gap start ≡ Some s.entry
      → option_map {U = (ℕ × ℕ) × Ordering} (λ e. (pointer e, order_to key real k e)) (way_end gap start) ≡ Some ((i, generation), o)
  found-there o order stops = rw (stops, named key cmp es k distinct start i visits came s generation l is, order) refl

  real-greater : (o : Ordering) → o ≢ Less → o ≢ Equal → o ≡ Greater
  real-greater o less equal = grind (arith, common_steps)

  pub stepping-ends : (o : Ordering) → o ≡ cmp k (key l.item) → is_eq o ≡ false → HasTurned key cmp es k distinct came o (neighbour_towards l o)
      → option_map {U = (ℕ × ℕ) × Ordering} (λ e. (pointer e, order_to key real k e)) (way_end gap start) ≡ Some ((i, generation), o)
  stepping-ends Less order other turned =
      let at = linked key cmp es k distinct start i visits came s generation l is in
      let here = stepping-order key cmp es k distinct start i visits came s generation l is Less order in
      let came_turned = rw (← at.prev) at turned in
      let low = low-answered key cmp es k distinct start visits s.front s.back came s.from (last_of None s.front) refl came_turned in
      let same = front-less key cmp real total es k lesser greater ordered gap fits start visits s.front s.entry s.back s.cut here (last_of None s.front) refl low.0 in
      found-there Less (lesser _ here) (ends-less key cmp real total es k lesser greater ordered gap fits start visits s.front s.entry s.back s.cut here same came s.from came_turned)
  stepping-ends Equal order other turned = absurd (cc)
  stepping-ends Greater order other turned =
      let at = linked key cmp es k distinct start i visits came s generation l is in
      let here = stepping-order key cmp es k distinct start i visits came s generation l is Greater order in
      let came_turned = rw (← at.next) at turned in
      let high = high-answered key cmp es k distinct start visits s.front s.back came s.from (first_of s.back) refl came_turned in
      let same = front-greater key cmp real total es k lesser greater ordered gap fits start visits s.front s.entry s.back s.cut here (first_of s.back) refl high.0 in
      let more = real-greater _ (greater _ here) (stepping-unequal key cmp es k distinct start i visits came s real total ordered gap fits) in
      found-there Greater more (ends-greater key cmp real total es k lesser greater ordered gap fits start visits s.front s.entry s.back s.cut here same came s.from came_turned)

-- the result of a search from a hint, if the steps have one and if they leave it open
module _ {T K : Type 0} (key : T → K) (cmp : K → K → Ordering) (es : List (Entry T)) (k : K) (i num : ℕ) (P : Type 0) (pointer_of : P → ℕ × ℕ) where
  abbrev named_by : Option (P × Ordering) → Option ((ℕ × ℕ) × Ordering)
  named_by found = option_map (λ a. (pointer_of a.0, a.1)) found

  pub settled-answers : (found : Option (P × Ordering)) → EndsNear key cmp es k i (named_by found) → is_some found ≡ true → AnswersNear key cmp es k i num (named_by found)
  settled-answers None ends some = absurd (cc)
  settled-answers (Some a) ends some = λ ordered there gap fits few. sym (ends ordered gap fits)

  pub open-answers : (met found : Option (P × Ordering)) (visits : ℕ) → IsNear key cmp es k i num met visits → is_some met ≡ false → AnswersNear key cmp es k i num (named_by found)
  open-answers None found visits near none = λ ordered there gap fits few. let far = near ordered gap fits in absurd (omega (arith, far, few))
  open-answers (Some a) found visits near none = absurd (cc)

  -- a hint without an entry is no hint
  pub missing-answers : (found : Option (P × Ordering)) → is_some (entry_at es i) ≡ false → AnswersNear key cmp es k i num (named_by found)
  missing-answers found missing = λ ordered there gap fits few. absurd (cc)
