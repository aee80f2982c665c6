-- What the steps of a setting leave.
use Rattle.std.proofs.Common.{◌≡◌, ◌≢◌, ℕ, ◌<◌, ◌≤◌, List, [], ◌∷◌, ◌++◌, map, Option, Some, None, Result, Ok, Err, IfOk, OnOk, IfErr, OnErr, IfSome, IsSomeAnd, refl, sym, ap, subst, ◌∙◌, arith, inl, inr, append_assoc}
use Rattle.std.proofs.{lemmas.Bool.Decides.nat_tests, lemmas.List.map-append}
use Rattle.std.specs.{List.AllByRecursion, Ordering.nat_cmp, declared.cmp.Ordering.TheVariants.Less}
use Rattle.sorted_arena.specs.{Gap.last_of, Sorted.Sorted, Sorted.key_of}
use Rattle.sorted_arena.proofs.CallerLemmas.{IsPutBetween}
use Rattle.timeline.specs.Timeline.{Change, most_entries, value_at, IsRising, AreChanges}
use Rattle.timeline.specs.Layout.{change, changes_of, earlier, later, later_than, last_value, last_taken, held_or, or_else, end_value_of, IsChanged, IsAt, IsReached, IsBeyond, TakesSame, TakesOver, IsRefusable, IsJoinedTo, IsOpen, IsFinished, IsPainted, EndsAt, Sets, CannotEnd}
use Rattle.timeline.proofs.Cutting.{AreBefore, AreUntil, AreAfter, all-append, all-front, all-weaker, earlier-before, later-after, cut-before, cut-after, cut-earlier, cut-later, rising-front, rising-back, rising-append, before-end, last-append}
use Rattle.timeline.proofs.{Values.value-cut, Places.Item}
use Rattle.timeline.proofs.Setting.{IsCutOut, rising-mid, unmet-mid, early-mid, last-mid, value-unmet, changed-same, set-is, set-timeline, set-from, from-timeline}

module _ {V E : Type 0} where
  pub cloned : (r : Result (Option V) E) (from held : Option V) → from ≡ held → IfOk r (λ clone. clone ≡ from) → IfOk r (λ clone. clone ≡ held)
  cloned (Ok clone) from held is same = same ∙ is
  cloned (Err e) from held is same = tt

  pub refused : (is_infallible : V → Type 0) {es : List (Item V)} {p : ℕ × ℕ} (at : IsAt es p) (spare taken : Option (Option V)) (r : Result (Option V) E) (from : Option V)
      → from ≡ last_value None (map change at.front) → spare ≡ None → taken ≡ None → IfErr r (λ _. IsSomeAnd from (λ v. ¬ (is_infallible v))) → IfErr r (λ _. IsRefusable is_infallible at spare taken)
  refused is_infallible at spare taken (Ok clone) from is unspared untaken refusal = tt
  refused is_infallible at spare taken (Err e) None is unspared untaken refusal = absurd refusal
  refused is_infallible at spare taken (Err e) (Some v) is unspared untaken refusal = record { unspared = unspared; untaken = untaken; value = v; held = sym is; refusable = refusal }

module _ {V : Type 0} where
  -- the change at a pointer between those before it and those behind it
  module _ (es : List (Item V)) (p : ℕ × ℕ) (at : IsAt es p) where
    abbrev low : List (Change V)
    low = map change at.front

    abbrev high : List (Change V)
    high = map change at.back

    both : map change (at.front ++ at.back) ≡ low ++ high
    both = map-append change at.front at.back

    module _ (before : AreBefore at.entry.item.0 low) (behind : AreAfter at.entry.item.0 high) where
      early : earlier at.entry.item.0 (map change (at.front ++ at.back)) ≡ low
      early = ap (earlier at.entry.item.0) both ∙ cut-before at.entry.item.0 low high before (all-weaker _ _ (λ c is. omega (arith, is)) high behind)

      late : later at.entry.item.0 (map change (at.front ++ at.back)) ≡ high
      late = ap (later at.entry.item.0) both ∙ cut-after at.entry.item.0 low high (all-weaker _ _ (λ c is. omega (arith, is)) low before) behind

      -- it is put between, unless it brings the value that held
      pub joined-changed : (new : List (Item V)) → IsJoinedTo at new → IsChanged (map change (at.front ++ at.back)) at.entry.item.0 at.entry.item.1 (map change new)
      joined-changed new joined = elim joined [
        | inl h ↦ record {
          put = [];
          brings = inl (ap (last_value None) early ∙ h.0, refl);
          after = ap (map change) h.1 ∙ both ∙ sym (ap (λ (cs : List (Change V)). cs ++ later at.entry.item.0 (map change (at.front ++ at.back))) early ∙ ap (λ (cs : List (Change V)). low ++ cs) late);
        }
        | inr h ↦ record {
          put = change at.entry ∷ [];
          brings = inr (λ same. h.0 (sym (ap (last_value None) early) ∙ same), refl);
          after = ap (map change) (h.1 ∙ at.cut) ∙ map-append change at.front (at.entry ∷ at.back)
              ∙ sym (ap (λ (cs : List (Change V)). cs ++ (change at.entry ∷ later at.entry.item.0 (map change (at.front ++ at.back)))) early ∙ ap (λ (cs : List (Change V)). low ++ (change at.entry ∷ cs)) late);
        }
      ]

  -- a change that an insertion puts between
  module _ (old new : Sorted ℕ (Option V)) (p : ℕ × ℕ) (t : ℕ) (value : Option V) (inserts : IsPutBetween nat_cmp most_entries old p (t, value) new) where
    not-later : (es : List (Item V)) → AllByRecursion (λ (e : Item V). nat_cmp t (key_of e) ≢ Less) es → AreUntil t (map change es)
    not-later [] all = tt
    not-later (e ∷ es) all = (grind (arith, nat_tests, all.0), not-later es all.1)

    all-later : (es : List (Item V)) → AllByRecursion (λ (e : Item V). nat_cmp t (key_of e) ≡ Less) es → AreAfter t (map change es)
    all-later [] all = tt
    all-later (e ∷ es) all = (grind (arith, nat_tests, all.0), all-later es all.1)

    pub until-front : AreUntil t (map change inserts.front)
    until-front = not-later inserts.front inserts.at_most_before

    pub after-back : AreAfter t (map change inserts.back)
    after-back = all-later inserts.back inserts.greater_behind

    pub parts-inserted : changes_of old ≡ map change inserts.front ++ map change inserts.back
    parts-inserted = ap (map change) inserts.before ∙ map-append change inserts.front inserts.back

    module _ (rising : IsRising (changes_of old)) (unmet : AllByRecursion (λ (c : Change V). c.time ≢ t) (changes_of old)) (other : value_at (changes_of old) t ≢ value) where
      front-before : AreBefore t (map change inserts.front)
      front-before = go (map change inserts.front) until-front (all-front _ (map change inserts.front) (map change inserts.back) (subst (AllByRecursion (λ (c : Change V). c.time ≢ t)) parts-inserted unmet))
        where
          go : (cs : List (Change V)) → AreUntil t cs → AllByRecursion (λ (c : Change V). c.time ≢ t) cs → AreBefore t cs
          go [] all apart = tt
          go (c ∷ cs) all apart = (grind (arith, all.0, apart.0), go cs all.1 apart.1)

      early-inserted : earlier t (changes_of old) ≡ map change inserts.front
      early-inserted = ap (earlier t) parts-inserted ∙ cut-before t (map change inserts.front) (map change inserts.back) front-before (all-weaker _ _ (λ c is. omega (arith, is)) (map change inserts.back) after-back)

      late-inserted : later t (changes_of old) ≡ map change inserts.back
      late-inserted = ap (later t) parts-inserted ∙ cut-after t (map change inserts.front) (map change inserts.back) until-front after-back

      pub changed-inserted : IsChanged (changes_of old) t value (changes_of new)
      changed-inserted = record {
        put = record { time = t; value = value } ∷ [];
        brings = inr (λ same. other (value-unmet t (changes_of old) rising unmet ∙ same), refl);
        after = ap (map change) inserts.after ∙ map-append change inserts.front (record { index = p.0; generation = p.1; item = (t, value) } ∷ inserts.back)
            ∙ sym (ap (λ (cs : List (Change V)). cs ++ (record { time = t; value = value } ∷ later t (changes_of old))) early-inserted ∙ ap (λ (cs : List (Change V)). map change inserts.front ++ (record { time = t; value = value } ∷ cs)) late-inserted);
      }

  -- the stretch that begins at a pointer ends
  module _ (es : List (Item V)) (p : ℕ × ℕ) (until : ℕ) (stands : IsOpen es p until) (mid : Sorted ℕ (Option V)) (joined : IsJoinedTo stands.at mid.entries) where
    abbrev left : List (Change V)
    left = map change (stands.at.front ++ stands.at.back)

    abbrev start : ℕ
    start = stands.at.entry.item.0

    behind-start : AreAfter start (map change stands.at.back)
    behind-start = all-weaker _ _ (λ c is. omega (arith, is, stands.later)) (map change stands.at.back) stands.behind

    begun : IsChanged left start stands.at.entry.item.1 (changes_of mid)
    begun = joined-changed es p stands.at stands.before behind-start mid.entries joined

    parts : left ≡ map change stands.at.front ++ map change stands.at.back
    parts = map-append change stands.at.front stands.at.back

    cut : IsCutOut left left start until
    cut = record {
      rising = subst IsRising (sym parts) (rising-append start (map change stands.at.front) (map change stands.at.back) stands.rising.0 stands.rising.1 stands.before (all-weaker _ _ (λ c is. omega (arith, is)) (map change stands.at.back) behind-start));
      ordered = stands.later;
      taken = parts ∙ sym (ap (λ (cs : List (Change V)). cs ++ later until left) (ap (earlier start) parts ∙ cut-before start (map change stands.at.front) (map change stands.at.back) stands.before (all-weaker _ _ (λ c is. omega (arith, is)) (map change stands.at.back) behind-start))
          ∙ ap (λ (cs : List (Change V)). map change stands.at.front ++ cs) (ap (later until) parts ∙ cut-after until (map change stands.at.front) (map change stands.at.back) (all-weaker _ _ (λ c is. omega (arith, is, stands.later)) (map change stands.at.front) stands.before) stands.behind));
    }

    held-mid : value_at (changes_of mid) until ≡ stands.at.entry.item.1
    held-mid = value-unmet until (changes_of mid) (rising-mid cut begun) (unmet-mid cut begun) ∙ ap (last_value None) (early-mid cut begun) ∙ last-mid cut begun

    pub finished-same : (value : Option V) → stands.at.entry.item.1 ≡ value → IsFinished stands value (changes_of mid)
    finished-same value same = record { mid = changes_of mid; begun = begun; ended = changed-same until (changes_of mid) value (rising-mid cut begun) (unmet-mid cut begun) (held-mid ∙ same) }

    pub finished-other : (value : Option V) (q : ℕ × ℕ) (new : Sorted ℕ (Option V)) → stands.at.entry.item.1 ≢ value → IsPutBetween nat_cmp most_entries mid q (until, value) new → IsFinished stands value (changes_of new)
    finished-other value q new other inserts = record {
      mid = changes_of mid;
      begun = begun;
      ended = changed-inserted mid new q until value inserts (rising-mid cut begun) (unmet-mid cut begun) (λ same. other (sym held-mid ∙ same));
    }

  -- what was taken out, and the value of the last
  taken-last : (held before : Option V) (o : Option (Option V)) (es : List (Item V)) → held ≡ held_or before o → last_value held (map change es) ≡ held_or before (last_taken o es)
  taken-last held before o [] is = is
  taken-last held before o (e ∷ es) is = taken-last e.item.1 before (Some e.item.1) es refl

  some-taken : (o : Option (Option V)) (v : Option V) (es : List (Item V)) → last_taken (Some v) es ≡ None → ⊥
  some-taken o v [] none = absurd (cc)
  some-taken o v (e ∷ es) none = some-taken o e.item.1 es none

  none-taken : (es : List (Item V)) → last_taken None es ≡ None → es ≡ []
  none-taken [] none = refl
  none-taken (e ∷ es) none = absurd (some-taken None e.item.1 es none)

  else-none : (o : Option (Option V)) → or_else o None ≡ o
  else-none None = refl
  else-none (Some v) = refl

  else-some : (o : Option (Option V)) (v w : Option V) → held_or w (or_else o (Some v)) ≡ held_or v o
  else-some None v w = refl
  else-some (Some x) v w = refl

  else-never : (o : Option (Option V)) (v : Option V) → or_else o (Some v) ≡ None → ⊥
  else-never None v none = cc
  else-never (Some x) v none = cc

  no-beyond : (cs : List (Change V)) → AllByRecursion (λ (c : Change V). IsBeyond None c.time) cs → cs ≡ []
  no-beyond [] all = refl
  no-beyond (c ∷ cs) all = absurd all.0

  -- none of those until a time is at it, if the last isn't
  before-apart : (t : ℕ) (es : List (Item V)) → IsRising (map change es) → AreUntil t (map change es) → IfSome (last_of None es) (λ d. d.item.0 ≢ t) → AreBefore t (map change es)
  before-apart t [] rising until apart = tt
  before-apart t (e ∷ []) rising until apart = (grind (arith, until.0, apart), tt)
  before-apart t (e ∷ f ∷ es) rising until apart =
      let rest = before-apart t (f ∷ es) rising.1 until.1 apart in
      let next : e.item.0 < f.item.0 = rising.0.0 in
      (omega (arith, next, rest.0), rest)

-- What is left beside the change at a pointer, which brings the new value, after those from a time until an end were taken out.
pub record IsCleared {V : Type 0} (old : List (Change V)) (from : ℕ) (until : Option ℕ) (value : Option V) (taken : Option (Option V)) (es : List (Item V)) (p : ℕ × ℕ) : Type 0 where
  pub at : IsAt es p
  pub entry_is : at.entry.item ≡ (from, value)
  pub low_is : map change at.front ≡ earlier from old
  pub high_is : map change at.back ≡ later_than until old
  pub nothing : taken ≡ None → old ≡ map change at.front ++ map change at.back
  pub held : (u : ℕ) → until ≡ Some u → held_or (last_value None (map change at.front)) taken ≡ value_at old u

module _ {V : Type 0} (old mid : Sorted ℕ (Option V)) (p : ℕ × ℕ) (from : ℕ) (until : Option ℕ) (value : Option V) (inserts : IsPutBetween nat_cmp most_entries old p (from, value) mid)
    (rising : IsRising (changes_of old)) (ordered : IfSome until (λ u. from < u)) where
  abbrev put : Item V
  put = record { index = p.0; generation = p.1; item = (from, value) }

  abbrev pub at_put : IsAt mid.entries p
  at_put = record { front = inserts.front; entry = put; back = inserts.back; cut = inserts.after; named = refl }

  abbrev F : List (Change V)
  F = map change inserts.front

  abbrev B : List (Change V)
  B = map change inserts.back

  olds : changes_of old ≡ F ++ B
  olds = parts-inserted old mid p from value inserts

  F-until : AreUntil from F
  F-until = until-front old mid p from value inserts

  B-after : AreAfter from B
  B-after = after-back old mid p from value inserts

  F-rising : IsRising F
  F-rising = rising-front F B (subst IsRising olds rising)

  module _ (taken : Option (Option V)) (es : List (Item V)) (over : TakesOver from until at_put taken es) where
    abbrev T : List (Change V)
    T = map change over.takes_behind.taken

    abbrev R : List (Change V)
    R = map change over.takes_behind.rest

    B-parts : B ≡ T ++ R
    B-parts = ap (map change) over.takes_behind.parts ∙ map-append change over.takes_behind.taken over.takes_behind.rest

    whole : changes_of old ≡ (F ++ T) ++ R
    whole = olds ∙ ap (λ (cs : List (Change V)). F ++ cs) B-parts ∙ sym (append_assoc F T R)

    -- cut at the end
    until-end : (u : ℕ) → until ≡ Some u → AreUntil u (F ++ T) × AreAfter u R
    until-end u is =
        let later : from < u = subst (λ (o : Option ℕ). IfSome o (λ u. from < u)) is ordered in (
          all-append _ F T (all-weaker _ _ (λ c early. omega (arith, early, later)) F F-until) (subst (λ (o : Option ℕ). AllByRecursion (λ (c : Change V). IsReached o c.time) T) is over.takes_behind.reached),
          subst (λ (o : Option ℕ). AllByRecursion (λ (c : Change V). IsBeyond o c.time) R) is over.takes_behind.beyond,
        )

    high-left : R ≡ later_than until (changes_of old)
    high-left = go until refl
      where
        go : (o : Option ℕ) → until ≡ o → R ≡ later_than until (changes_of old)
        go None is = rw is (no-beyond R (subst (λ (o : Option ℕ). AllByRecursion (λ (c : Change V). IsBeyond o c.time) R) is over.takes_behind.beyond))
        go (Some u) is = rw is (let ends = until-end u is in sym (ap (later u) whole ∙ cut-after u (F ++ T) R ends.0 ends.1))

    held-end : (u : ℕ) → until ≡ Some u → value_at (changes_of old) u ≡ held_or (last_value None F) over.behind
    held-end u is =
        let ends = until-end u is in
        ap (λ cs. value_at cs u) whole ∙ value-cut None (F ++ T) R u ends.0 ends.1 ∙ last-append None F T
        ∙ taken-last (last_value None F) (last_value None F) None over.takes_behind.taken refl ∙ ap (held_or (last_value None F)) (sym over.takes_behind.moved_is)

    nothing-behind : over.behind ≡ None → B ≡ R
    nothing-behind none = B-parts ∙ ap (λ (xs : List (Item V)). map change xs ++ R) (none-taken over.takes_behind.taken (sym over.takes_behind.moved_is ∙ none))

    pub cleared : IsCleared (changes_of old) from until value taken es p
    cleared = go over.same over.takes_same over.moved_is
      where
        go : (same : Option (Option V)) → TakesSame from over.at_mid same es → taken ≡ or_else over.behind same → IsCleared (changes_of old) from until value taken es p
        go None (is, apart) moved =
            let low : AreBefore from F = before-apart from inserts.front F-rising F-until (subst (λ (xs : List (Item V)). IfSome (last_of None xs) (λ d. d.item.0 ≢ from)) over.same_mid.0 apart) in
            let moved_is : taken ≡ over.behind = moved ∙ else-none over.behind in
            record {
              at = record { front = inserts.front; entry = put; back = over.takes_behind.rest; cut = is ∙ over.takes_behind.left; named = refl };
              entry_is = refl;
              low_is = sym (ap (earlier from) olds ∙ cut-before from F B low (all-weaker _ _ (λ c later. omega (arith, later)) B B-after));
              high_is = high-left;
              nothing = λ none. olds ∙ ap (λ (cs : List (Change V)). F ++ cs) (nothing-behind (sym moved_is ∙ none));
              held = λ u end. ap (held_or (last_value None F)) moved_is ∙ sym (held-end u end);
            }
        go (Some v) (front, d, here, time, brings, left) moved =
            let F-is : F ≡ map change front ++ change d ∷ [] = ap (map change) (sym over.same_mid.0 ∙ here) ∙ map-append change front (d ∷ []) in
            let low : AreBefore from (map change front) = subst (λ (t : ℕ). AreBefore t (map change front)) time (before-end (map change front) (change d) (subst IsRising F-is F-rising)) in
            let all : changes_of old ≡ map change front ++ change d ∷ B = olds ∙ ap (λ (cs : List (Change V)). cs ++ B) F-is ∙ append_assoc (map change front) (change d ∷ []) B in
            let last : last_value None F ≡ v = ap (last_value None) F-is ∙ last-append None (map change front) (change d ∷ []) ∙ brings in
            record {
              at = record { front = front; entry = put; back = over.takes_behind.rest; cut = left ∙ ap (λ (e : Item V). front ++ e ∷ over.at_mid.back) over.same_mid.1 ∙ ap (λ (xs : List (Item V)). front ++ put ∷ xs) over.same_mid.2; named = refl };
              entry_is = refl;
              low_is = sym (ap (earlier from) all ∙ cut-before from (map change front) (change d ∷ B) low (omega (arith, time), all-weaker _ _ (λ c later. omega (arith, later)) B B-after));
              high_is = high-left;
              nothing = λ none. absurd (else-never over.behind v (sym moved ∙ none));
              held = λ u end. ap (held_or (last_value None (map change front))) moved ∙ else-some over.behind v (last_value None (map change front)) ∙ ap (λ (w : Option V). held_or w over.behind) (sym last) ∙ sym (held-end u end);
            }

-- a setting, by what is left beside the change at its pointer
module _ {V : Type 0} (old : List (Change V)) (rising : IsRising old) (from : ℕ) (until : Option ℕ) (value : Option V) (taken : Option (Option V)) (es : List (Item V)) (p : ℕ × ℕ)
    (clear : IsCleared old from until value taken es p) where
  abbrev below : List (Change V)
  below = map change clear.at.front

  abbrev above : List (Change V)
  above = map change clear.at.back

  pub time-is : clear.at.entry.item.0 ≡ from
  time-is = ap (λ (x : ℕ × Option V). x.0) clear.entry_is

  pub below-before : AreBefore clear.at.entry.item.0 below
  below-before = subst (λ (t : ℕ). AreBefore t below) (sym time-is) (subst (AreBefore from) (sym clear.low_is) (earlier-before from old))

  pub below-rising : IsRising below
  below-rising = subst IsRising (sym clear.low_is) (let parts = cut-earlier from old rising in rising-front (earlier from old) parts.0 (subst IsRising parts.1 rising))

  left-is : map change (clear.at.front ++ clear.at.back) ≡ earlier from old ++ later_than until old
  left-is = map-append change clear.at.front clear.at.back ∙ ap (λ (cs : List (Change V)). cs ++ above) clear.low_is ∙ ap (λ (cs : List (Change V)). earlier from old ++ cs) clear.high_is

  begins : (mid : List (Change V)) → IsChanged (map change (clear.at.front ++ clear.at.back)) clear.at.entry.item.0 clear.at.entry.item.1 mid → IsChanged (earlier from old ++ later_than until old) from value mid
  begins mid changed =
      subst (λ (x : ℕ × Option V). IsChanged (earlier from old ++ later_than until old) x.0 x.1 mid) clear.entry_is
      (subst (λ (cs : List (Change V)). IsChanged cs clear.at.entry.item.0 clear.at.entry.item.1 mid) left-is changed)

  -- for ever
  pub painted-none : until ≡ None → (new : List (Item V)) → IsJoinedTo clear.at new → IsPainted old from until value (map change new)
  painted-none is new joined =
      let nothing : above ≡ [] = clear.high_is ∙ ap (λ (o : Option ℕ). later_than o old) is in
      record {
        mid = map change new;
        begun = begins (map change new) (joined-changed es p clear.at below-before (subst (AreAfter clear.at.entry.item.0) (sym nothing) tt) new joined);
        ended = subst (λ (o : Option ℕ). EndsAt old o (map change new) (map change new)) (sym is) refl;
      }

  -- until an end
  module _ (u : ℕ) (is : until ≡ Some u) (ordered : from < u) where
    pub above-is : above ≡ later u old
    above-is = clear.high_is ∙ ap (λ (o : Option ℕ). later_than o old) is

    pub above-after : AreAfter u above
    above-after = subst (AreAfter u) (sym above-is) (later-after u old)

    abbrev pub stands : IsOpen es p u
    stands = record {
      at = clear.at;
      rising = (below-rising, subst IsRising (sym above-is) (let parts = cut-later u old rising in rising-back parts.0 (later u old) (subst IsRising parts.1 rising)));
      before = below-before;
      behind = above-after;
      later = omega (arith, time-is, ordered);
    }

    end-is : (spare : Option (Option V)) → IfSome spare (λ held. IfSome until (λ u. held ≡ value_at old u)) → end_value_of clear.at spare taken ≡ value_at old u
    end-is None fits = clear.held u is
    end-is (Some held) fits = subst (λ (o : Option ℕ). IfSome o (λ u. held ≡ value_at old u)) is fits

    pub painted-some : (spare : Option (Option V)) → IfSome spare (λ held. IfSome until (λ u. held ≡ value_at old u)) → (new : List (Change V)) {U E : Type 0} (r : Result U E)
        → OnOk r (IsFinished stands (end_value_of clear.at spare taken) new) → OnOk r (IsPainted old from until value new)
    painted-some spare fits new (Err e) finished = tt
    painted-some spare fits new (Ok x) finished = record {
      mid = finished.mid;
      begun = begins finished.mid finished.begun;
      ended = subst (λ (o : Option ℕ). EndsAt old o finished.mid new) (sym is) (subst (λ (v : Option V). IsChanged finished.mid u v new) (end-is spare fits) finished.ended);
    }

    pub painted-refused : (is_infallible : V → Type 0) (spare : Option (Option V)) {U E : Type 0} (r : Result U E) → OnErr r (IsRefusable is_infallible clear.at spare taken)
        → OnErr r ((spare ≡ None) × CannotEnd is_infallible old from until)
    painted-refused is_infallible spare (Ok x) refusal = tt
    painted-refused is_infallible spare (Err e) refusal = (refusal.unspared, subst (CannotEnd is_infallible old from) (sym is) (refusal.value, refusal.refusable, λ t past early. holds t past early))
      where
        holds : (t : ℕ) → from ≤ t → t ≤ u → value_at old t ≡ Some refusal.value
        holds t past early =
            ap (λ cs. value_at cs t) (clear.nothing refusal.untaken)
            ∙ value-cut None below above t (all-weaker _ _ (λ c before. omega (arith, before, past, time-is)) below below-before) (all-weaker _ _ (λ c after. omega (arith, after, early)) above above-after)
            ∙ refusal.held

    pub painted-kept : (is_infallible : V → Type 0) (spare : Option (Option V)) (new : List (Item V)) {U E : Type 0} (r : Result U E) → OnErr r (IsRefusable is_infallible clear.at spare taken)
        → OnErr r (new ≡ clear.at.front ++ clear.at.back) → OnErr r (map change new ≡ old)
    painted-kept is_infallible spare new (Ok x) refusal kept = tt
    painted-kept is_infallible spare new (Err e) refusal kept = ap (map change) kept ∙ map-append change clear.at.front clear.at.back ∙ sym (clear.nothing refusal.untaken)

-- what it makes of the values
module _ {V : Type 0} where
  pub painted-sets : (old room : List (Change V)) (from : ℕ) (until : Option ℕ) (value : Option V) (new : List (Change V)) → AreChanges old → room ≡ old → IfSome until (λ u. from < u)
      → IsPainted room from until value new → Sets old from until value new × AreChanges new
  painted-sets old room from None value new lawful same ordered painted =
      let changed : IsChanged (earlier from old ++ []) from value new =
      subst (λ (cs : List (Change V)). IsChanged (earlier from cs ++ []) from value new) same (subst (IsChanged (earlier from room ++ []) from value) (sym painted.ended) painted.begun) in
      (set-from old new from value lawful changed, from-timeline old new from value lawful changed)
  painted-sets old room from (Some u) value new lawful same ordered painted =
      let cut : IsCutOut old (earlier from old ++ later u old) from u = record { rising = lawful.rising; ordered = ordered; taken = refl } in
      let begun = subst (λ (cs : List (Change V)). IsChanged (earlier from cs ++ later u cs) from value painted.mid) same painted.begun in
      let ended = subst (λ (cs : List (Change V)). IsChanged painted.mid u (value_at cs u) new) same painted.ended in
      (set-is cut begun ended, set-timeline cut begun ended lawful)
