-- Lists of changes: cutting them at a time, and putting changes between.
use Rattle.std.proofs.Common.{◌≡◌, true, false, not, leb, ℕ, ◌<◌, ◌≤◌, List, [], ◌∷◌, ◌++◌, Option, refl, sym, ap, ◌∙◌, arith, inl, inr}
use Rattle.std.proofs.{lemmas.Bool.Decides.leb_tells, lemmas.Bool.le-leb, lemmas.Bool.lt-leb, lemmas.List.append-nil}
use Rattle.std.proofs.lemmas.List.Elements.{filter-append, filter_passes, recursion_from_All}
use Rattle.std.specs.List.{AllByRecursion}
pub use Rattle.sorted_arena.proofs.CallerLemmas.{all-append, all-front, all-back, filter-all, filter-none}
pub use Rattle.sorted_arena.proofs.OrdLemmas.{recursion-map as all-weaker}
use Rattle.timeline.specs.{Layout.earlier, Layout.later, Layout.last_value, Layout.Brings, Timeline.Change, Timeline.IsRising, Timeline.IsJoinedAfter}

not-leb : (a b : ℕ) → not (leb a b) ≡ true → b < a
not-leb a b is = elim (leb_tells a b) [
  | inl h ↦ absurd (let no : not (leb a b) ≡ false = ap not h.0 in cc)
  | inr h ↦ omega (arith, h.1)
]

module _ {V : Type 0} where
  -- all changes are before a time, at most at it, at least at it, or after it
  abbrev pub AreBefore : ℕ → List (Change V) → Type 0
  AreBefore t cs = AllByRecursion (λ (c : Change V). c.time < t) cs

  abbrev pub AreUntil : ℕ → List (Change V) → Type 0
  AreUntil t cs = AllByRecursion (λ (c : Change V). c.time ≤ t) cs

  abbrev pub AreFrom : ℕ → List (Change V) → Type 0
  AreFrom t cs = AllByRecursion (λ (c : Change V). t ≤ c.time) cs

  abbrev pub AreAfter : ℕ → List (Change V) → Type 0
  AreAfter t cs = AllByRecursion (λ (c : Change V). t < c.time) cs

  -- the changes before a time, and those after it
  pub earlier-before : (t : ℕ) (cs : List (Change V)) → AreBefore t (earlier t cs)
  earlier-before t cs =
      all-weaker (λ (c : Change V). not (leb t c.time) ≡ true) (λ c. c.time < t) (λ c is. not-leb t c.time is) (earlier t cs)
      (recursion_from_All (λ (c : Change V). not (leb t c.time) ≡ true) (earlier t cs) (filter_passes (λ (c : Change V). not (leb t c.time)) cs))

  pub later-after : (t : ℕ) (cs : List (Change V)) → AreAfter t (later t cs)
  later-after t cs =
      all-weaker (λ (c : Change V). not (leb c.time t) ≡ true) (λ c. t < c.time) (λ c is. not-leb c.time t is) (later t cs)
      (recursion_from_All (λ (c : Change V). not (leb c.time t) ≡ true) (later t cs) (filter_passes (λ (c : Change V). not (leb c.time t)) cs))

  -- a list in two parts, cut at a time
  pub cut-before : (t : ℕ) (front back : List (Change V)) → AreBefore t front → AreFrom t back → earlier t (front ++ back) ≡ front
  cut-before t front back low high =
      filter-append _ front back ∙ ap (λ zs. earlier t front ++ zs) (filter-none _ back (all-weaker _ _ (λ c is. ap not (le-leb t c.time is)) back high))
      ∙ append-nil (earlier t front) ∙ filter-all _ front (all-weaker _ _ (λ c is. ap not (lt-leb t c.time is)) front low)

  pub cut-after : (t : ℕ) (front back : List (Change V)) → AreUntil t front → AreAfter t back → later t (front ++ back) ≡ back
  cut-after t front back low high =
      filter-append _ front back ∙ ap (λ zs. zs ++ later t back) (filter-none _ front (all-weaker _ _ (λ c is. ap not (le-leb c.time t is)) front low))
      ∙ filter-all _ back (all-weaker _ _ (λ c is. ap not (lt-leb c.time t is)) back high)

  -- rising lists
  pub rising-front : (xs ys : List (Change V)) → IsRising (xs ++ ys) → IsRising xs
  rising-front [] ys rising = tt
  rising-front (x ∷ xs) ys rising = (all-front _ xs ys rising.0, rising-front xs ys rising.1)

  pub rising-back : (xs ys : List (Change V)) → IsRising (xs ++ ys) → IsRising ys
  rising-back [] ys rising = rising
  rising-back (x ∷ xs) ys rising = rising-back xs ys rising.1

  pub rising-append : (t : ℕ) (xs ys : List (Change V)) → IsRising xs → IsRising ys → AreBefore t xs → AreFrom t ys → IsRising (xs ++ ys)
  rising-append t [] ys low high before from = high
  rising-append t (x ∷ xs) ys low high before from =
      (all-append _ xs ys low.0 (all-weaker (λ (c : Change V). t ≤ c.time) (λ c. x.time < c.time) (λ c late. omega (arith, late, before.0)) ys from), rising-append t xs ys low.1 high before.1 from)

  -- in a rising list all are before the last
  pub before-end : (cs : List (Change V)) (d : Change V) → IsRising (cs ++ d ∷ []) → AreBefore d.time cs
  before-end [] d rising = tt
  before-end (c ∷ cs) d rising = ((all-back _ cs (d ∷ []) rising.0).0, before-end cs d rising.1)

  -- a rising list is what is before a time, and the rest; or some, and what is after it
  pub cut-earlier : (t : ℕ) (cs : List (Change V)) → IsRising cs → (rest : List (Change V)) × (cs ≡ earlier t cs ++ rest) × AreFrom t rest
  cut-earlier t [] rising = ([], refl, tt)
  cut-earlier t (c ∷ cs) rising = elim (leb_tells t c.time) [
    | inl h ↦
        let all = all-weaker (λ (d : Change V). c.time < d.time) (λ d. t ≤ d.time) (λ d late. omega (arith, late, h.1)) cs rising.0 in
        (c ∷ cs, rw (h.0, filter-none _ cs (all-weaker _ _ (λ d is. ap not (le-leb t d.time is)) cs all)) refl, (h.1, all))
    | inr h ↦ let rest = cut-earlier t cs rising.1 in (rest.0, rw h.0 (ap (λ xs. c ∷ xs) rest.1), rest.2)
  ]

  pub cut-later : (t : ℕ) (cs : List (Change V)) → IsRising cs → (front : List (Change V)) × (cs ≡ front ++ later t cs) × AreUntil t front
  cut-later t [] rising = ([], refl, tt)
  cut-later t (c ∷ cs) rising = elim (leb_tells c.time t) [
    | inl h ↦ let rest = cut-later t cs rising.1 in (c ∷ rest.0, rw h.0 (ap (λ xs. c ∷ xs) rest.1), (h.1, rest.2))
    | inr h ↦
        let all = all-weaker (λ (d : Change V). c.time < d.time) (λ d. t < d.time) (λ d late. omega (arith, late, h.1)) cs rising.0 in
        ([], rw (h.0, filter-all _ cs (all-weaker _ _ (λ d is. ap not (lt-leb d.time t is)) cs all)) refl, tt)
  ]

  -- neighbours with different values
  pub joined-front : (held : Option V) (xs ys : List (Change V)) → IsJoinedAfter held (xs ++ ys) → IsJoinedAfter held xs
  joined-front held [] ys joined = tt
  joined-front held (x ∷ xs) ys joined = (joined.0, joined-front x.value xs ys joined.1)

  pub joined-back : (held : Option V) (xs ys : List (Change V)) → IsJoinedAfter held (xs ++ ys) → IsJoinedAfter (last_value held xs) ys
  joined-back held [] ys joined = joined
  joined-back held (x ∷ xs) ys joined = joined-back x.value xs ys joined.1

  pub joined-append : (held : Option V) (xs ys : List (Change V)) → IsJoinedAfter held xs → IsJoinedAfter (last_value held xs) ys → IsJoinedAfter held (xs ++ ys)
  joined-append held [] ys low high = high
  joined-append held (x ∷ xs) ys low high = (low.0, joined-append x.value xs ys low.1 high)

  pub last-append : (held : Option V) (xs ys : List (Change V)) → last_value held (xs ++ ys) ≡ last_value (last_value held xs) ys
  last-append held [] ys = refl
  last-append held (x ∷ xs) ys = last-append x.value xs ys

  -- what is put between brings the value, differs from what held, is at its time and rises
  pub last-brings : (held : Option V) (t : ℕ) (value : Option V) (put : List (Change V)) → Brings held t value put → last_value held put ≡ value
  last-brings held t value put (inl h) = rw h.1 h.0
  last-brings held t value put (inr h) = rw h.1 refl

  pub joined-brings : (held : Option V) (t : ℕ) (value : Option V) (put : List (Change V)) → Brings held t value put → IsJoinedAfter held put
  joined-brings held t value put (inl h) = rw h.1 tt
  joined-brings held t value put (inr h) = rw h.1 (λ same. h.0 (sym same), tt)

  pub rising-brings : (held : Option V) (t : ℕ) (value : Option V) (put : List (Change V)) → Brings held t value put → IsRising put
  rising-brings held t value put (inl h) = rw h.1 tt
  rising-brings held t value put (inr h) = rw h.1 (tt, tt)

  pub all-brings : (held : Option V) (t : ℕ) (value : Option V) (put : List (Change V)) → Brings held t value put → (P : ℕ → Type 0) → P t → AllByRecursion (λ (c : Change V). P c.time) put
  all-brings held t value put (inl h) P at = rw h.1 tt
  all-brings held t value put (inr h) P at = rw h.1 (at, tt)
