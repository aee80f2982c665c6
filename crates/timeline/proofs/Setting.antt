-- Setting a value step by step: the changes in between are taken out, then the value comes, then what held at the end.
use Rattle.std.proofs.Common.{◌≡◌, ◌≢◌, ℕ, ◌+◌, ◌<◌, ◌≤◌, inl, inr, List, [], ◌∷◌, ◌++◌, Option, None, refl, sym, ap, subst, ◌∙◌, arith}
use Rattle.std.proofs.{lemmas.List.append_assoc, lemmas.List.append-nil}
use Rattle.std.specs.List.{AllByRecursion}
use Rattle.timeline.specs.Timeline.{Change, value_after, value_at, IsRising, IsJoinedAfter, AreChanges, IsSet, IsSetFrom}
use Rattle.timeline.specs.Layout.{earlier, later, last_value, Brings, IsChanged}
use Rattle.timeline.proofs.Cutting.{AreBefore, AreUntil, AreFrom, AreAfter, all-append, all-back, all-weaker, earlier-before, later-after, cut-before, cut-after, cut-earlier, cut-later, rising-front, rising-back, rising-append, last-append, last-brings, rising-brings, joined-brings, joined-append, joined-front, joined-back, all-brings}
use Rattle.timeline.proofs.Values.{value-early, value-late, value-cut, value-before}

-- the value becomes another at a time
module _ {V : Type 0} {cs new : List (Change V)} {t : ℕ} {value : Option V} (changed : IsChanged cs t value new) where
  abbrev low-of : List (Change V)
  low-of = earlier t cs

  abbrev high-of : List (Change V)
  high-of = later t cs

  put-at : (P : ℕ → Type 0) → P t → AllByRecursion (λ (c : Change V). P c.time) changed.put
  put-at P at = all-brings (last_value None low-of) t value changed.put changed.brings P at

  high-from : AreFrom t high-of
  high-from = all-weaker _ _ (λ c is. omega (arith, is)) high-of (later-after t cs)

  last-put : last_value None (low-of ++ changed.put) ≡ value
  last-put = last-append None low-of changed.put ∙ last-brings (last_value None low-of) t value changed.put changed.brings

  -- from then on it is that one, until a later change comes, and before it is what it was
  value-from : (u : ℕ) → t ≤ u → value_at new u ≡ value_after value high-of u
  value-from u past =
      ap (λ zs. value_at zs u) (changed.after ∙ sym (append_assoc low-of changed.put high-of))
      ∙ value-late None (low-of ++ changed.put) high-of u
      (all-append _ low-of changed.put (all-weaker _ _ (λ c is. omega (arith, is, past)) low-of (earlier-before t cs)) (put-at (λ s. s ≤ u) past))
      ∙ ap (λ held. value_after held high-of u) last-put

  value-till : (u : ℕ) → u < t → IsRising cs → value_at new u ≡ value_at cs u
  value-till u sooner rising =
      let parts = cut-earlier t cs rising in
      ap (λ zs. value_at zs u) changed.after
      ∙ value-before None low-of (changed.put ++ high-of) parts.0 u
      (all-append _ changed.put high-of (put-at (λ s. u < s) sooner) (all-weaker _ _ (λ c is. omega (arith, is, sooner)) high-of high-from))
      (all-weaker _ _ (λ c is. omega (arith, is, sooner)) parts.0 parts.2)
      ∙ sym (ap (λ zs. value_at zs u) parts.1)

  -- the changes still rise, and differ from their neighbours
  rising-changed : IsRising cs → IsRising new
  rising-changed rising =
      let low = cut-earlier t cs rising in
      let high = cut-later t cs rising in
      subst IsRising (sym changed.after) (rising-append t low-of (changed.put ++ high-of) (rising-front low-of low.0 (subst IsRising low.1 rising))
      (rising-append (t + 1) changed.put high-of (rising-brings (last_value None low-of) t value changed.put changed.brings) (rising-back high.0 high-of (subst IsRising high.1 rising))
      (put-at (λ s. s < t + 1) (omega arith)) (all-weaker _ _ (λ c is. omega (arith, is)) high-of (later-after t cs)))
      (earlier-before t cs) (all-append _ changed.put high-of (put-at (λ s. t ≤ s) (omega arith)) high-from))

  joined-put : IsJoinedAfter None low-of → IsJoinedAfter value high-of → IsJoinedAfter None new
  joined-put low high = subst (IsJoinedAfter None) (sym changed.after) (joined-append None low-of (changed.put ++ high-of) low
      (joined-append (last_value None low-of) changed.put high-of (joined-brings (last_value None low-of) t value changed.put changed.brings)
      (subst (λ held. IsJoinedAfter held high-of) (sym (last-brings (last_value None low-of) t value changed.put changed.brings)) high)))

-- the changes from one time until another are taken out of a timeline
pub record IsCutOut {V : Type 0} (old left : List (Change V)) (from until : ℕ) : Type 0 where
  pub rising : IsRising old
  pub ordered : from < until
  pub taken : left ≡ earlier from old ++ later until old

module _ {V : Type 0} {old left : List (Change V)} {from until : ℕ} (cut : IsCutOut old left from until) where
  abbrev low : List (Change V)
  low = earlier from old

  abbrev high : List (Change V)
  high = later until old

  low-before : AreBefore from low
  low-before = earlier-before from old

  high-after : AreAfter until high
  high-after = later-after until old

  -- the old changes, cut at both times
  early : (rest : List (Change V)) × (old ≡ low ++ rest) × AreFrom from rest
  early = cut-earlier from old cut.rising

  late : (front : List (Change V)) × (old ≡ front ++ high) × AreUntil until front
  late = cut-later until old cut.rising

  held-is : value_at old until ≡ last_value None late.0
  held-is = ap (λ cs. value_at cs until) late.1 ∙ value-cut None late.0 high until late.2 high-after

  left-rising : IsRising left
  left-rising = subst IsRising (sym cut.taken) (rising-append from low high (rising-front low early.0 (subst IsRising early.1 cut.rising)) (rising-back late.0 high (subst IsRising late.1 cut.rising))
      low-before (all-weaker _ _ (λ c is. omega (arith, is, cut.ordered)) high high-after))

  early-left : earlier from left ≡ low
  early-left = ap (earlier from) cut.taken ∙ cut-before from low high low-before (all-weaker _ _ (λ c is. omega (arith, is, cut.ordered)) high high-after)

  late-left : later from left ≡ high
  late-left = ap (later from) cut.taken ∙ cut-after from low high (all-weaker _ _ (λ c is. omega (arith, is)) low low-before) (all-weaker _ _ (λ c is. omega (arith, is, cut.ordered)) high high-after)

  left-till : (t : ℕ) → t < from → value_at left t ≡ value_at old t
  left-till t sooner =
      ap (λ cs. value_at cs t) cut.taken
      ∙ value-before None low high early.0 t (all-weaker _ _ (λ c is. omega (arith, is, sooner, cut.ordered)) high high-after) (all-weaker _ _ (λ c is. omega (arith, is, sooner)) early.0 early.2)
      ∙ sym (ap (λ cs. value_at cs t) early.1)

  module _ {value : Option V} {mid : List (Change V)} (first : IsChanged left from value mid) where
    mid-is : mid ≡ (low ++ first.put) ++ high
    mid-is = first.after ∙ ap (λ zs. zs ++ (first.put ++ later from left)) early-left ∙ ap (λ zs. low ++ (first.put ++ zs)) late-left ∙ sym (append_assoc low first.put high)

    front-before : AreBefore until (low ++ first.put)
    front-before = all-append _ low first.put (all-weaker _ _ (λ c is. omega (arith, is, cut.ordered)) low low-before) (put-at first (λ t. t < until) cut.ordered)

    -- after the first change they rise, and none is at the second time
    pub rising-mid : IsRising mid
    rising-mid = rising-changed first left-rising

    pub unmet-mid : AllByRecursion (λ (c : Change V). c.time ≢ until) mid
    unmet-mid = subst (AllByRecursion (λ (c : Change V). c.time ≢ until)) (sym mid-is)
        (all-append _ (low ++ first.put) high (all-weaker _ _ (λ c is same. absurd (omega (arith, is, same))) (low ++ first.put) front-before) (all-weaker _ _ (λ c is same. absurd (omega (arith, is, same))) high high-after))

    pub early-mid : earlier until mid ≡ low ++ first.put
    early-mid = ap (earlier until) mid-is ∙ cut-before until (low ++ first.put) high front-before (all-weaker _ _ (λ c is. omega (arith, is)) high high-after)

    late-mid : later until mid ≡ high
    late-mid = ap (later until) mid-is ∙ cut-after until (low ++ first.put) high (all-weaker _ _ (λ c is. omega (arith, is)) (low ++ first.put) front-before) high-after

    pub last-mid : last_value None (low ++ first.put) ≡ value
    last-mid = subst (λ cs. last_value None (cs ++ first.put) ≡ value) early-left (last-put first)

    module _ {new : List (Change V)} (second : IsChanged mid until (value_at old until) new) where
      pub set-is : IsSet old from until value new
      set-is = record {
        within = λ t past sooner.
            value-till second t sooner rising-mid ∙ value-from first t past ∙ ap (λ cs. value_after value cs t) late-left
            ∙ value-early value high t (all-weaker _ _ (λ c is. omega (arith, is, sooner)) high high-after);
        outside = λ t out. elim out [
          | inl sooner ↦ value-till second t (omega (arith, sooner, cut.ordered)) rising-mid ∙ value-till first t sooner left-rising ∙ left-till t sooner
          | inr past ↦
              value-from second t past ∙ ap (λ cs. value_after (value_at old until) cs t) late-mid ∙ ap (λ held. value_after held high t) held-is
              ∙ sym (ap (λ cs. value_at cs t) late.1 ∙ value-late None late.0 high t (all-weaker _ _ (λ c is. omega (arith, is, past)) late.0 late.2))
        ];
      }

      pub set-timeline : AreChanges old → AreChanges new
      set-timeline lawful = record {
        rising = rising-changed second rising-mid;
        joined = joined-put second
            (subst (IsJoinedAfter None) (sym early-mid) (joined-append None low first.put (joined-front None low early.0 (subst (IsJoinedAfter None) early.1 lawful.joined))
            (joined-brings (last_value None low) from value first.put (subst (λ cs. Brings (last_value None cs) from value first.put) early-left first.brings))))
            (subst (IsJoinedAfter (value_at old until)) (sym late-mid) (subst (λ held. IsJoinedAfter held high) (sym held-is) (joined-back None late.0 high (subst (IsJoinedAfter None) late.1 lawful.joined))));
      }

-- where no change is at a time, the changes before it and after it are all
module _ {V : Type 0} where
  cut-unmet : (t : ℕ) (cs : List (Change V)) → IsRising cs → AllByRecursion (λ (c : Change V). c.time ≢ t) cs → cs ≡ earlier t cs ++ later t cs
  cut-unmet t cs rising unmet =
      let cut = cut-earlier t cs rising in
      let apart = all-back _ (earlier t cs) cut.0 (subst (AllByRecursion (λ (c : Change V). c.time ≢ t)) cut.1 unmet) in
      cut.1 ∙ ap (λ zs. earlier t cs ++ zs) (sym (ap (later t) cut.1 ∙ cut-after t (earlier t cs) cut.0 (all-weaker _ _ (λ c is. omega (arith, is)) (earlier t cs) (earlier-before t cs)) (after cut.0 cut.2 apart)))
    where
      after : (cs : List (Change V)) → AreFrom t cs → AllByRecursion (λ (c : Change V). c.time ≢ t) cs → AreAfter t cs
      after [] all apart = tt
      after (c ∷ cs) all apart = (grind (arith, all.0, apart.0), after cs all.1 apart.1)

  pub value-unmet : (t : ℕ) (cs : List (Change V)) → IsRising cs → AllByRecursion (λ (c : Change V). c.time ≢ t) cs → value_at cs t ≡ last_value None (earlier t cs)
  value-unmet t cs rising unmet =
      ap (λ zs. value_at zs t) (cut-unmet t cs rising unmet)
      ∙ value-cut None (earlier t cs) (later t cs) t (all-weaker _ _ (λ c is. omega (arith, is)) (earlier t cs) (earlier-before t cs)) (later-after t cs)

  -- the value is what it is to be, so nothing is put between
  pub changed-same : (t : ℕ) (cs : List (Change V)) (value : Option V) → IsRising cs → AllByRecursion (λ (c : Change V). c.time ≢ t) cs → value_at cs t ≡ value → IsChanged cs t value cs
  changed-same t cs value rising unmet same = record {
    put = [];
    brings = inl (sym (value-unmet t cs rising unmet) ∙ same, refl);
    after = cut-unmet t cs rising unmet;
  }

  -- for ever: what comes after the time is taken out
  module _ (old new : List (Change V)) (from : ℕ) (value : Option V) (lawful : AreChanges old) (changed : IsChanged (earlier from old ++ []) from value new) where
    abbrev kept : List (Change V)
    kept = earlier from old

    early-kept : earlier from (kept ++ []) ≡ kept
    early-kept = cut-before from kept [] (earlier-before from old) tt

    late-kept : later from (kept ++ []) ≡ []
    late-kept = cut-after from kept [] (all-weaker _ _ (λ c is. omega (arith, is)) kept (earlier-before from old)) tt

    rest : (rest : List (Change V)) × (old ≡ kept ++ rest) × AreFrom from rest
    rest = cut-earlier from old lawful.rising

    rising-kept : IsRising (kept ++ [])
    rising-kept = subst IsRising (sym (append-nil kept)) (rising-front kept rest.0 (subst IsRising rest.1 lawful.rising))

    pub set-from : IsSetFrom old from value new
    set-from = record {
      within = λ t past. value-from changed t past ∙ ap (λ cs. value_after value cs t) late-kept;
      before = λ t sooner.
          value-till changed t sooner rising-kept ∙ value-before None kept [] rest.0 t tt (all-weaker _ _ (λ c is. omega (arith, is, sooner)) rest.0 rest.2) ∙ sym (ap (λ cs. value_at cs t) rest.1);
    }

    pub from-timeline : AreChanges new
    from-timeline = record {
      rising = rising-changed changed rising-kept;
      joined = joined-put changed (subst (IsJoinedAfter None) (sym early-kept) (joined-front None kept rest.0 (subst (IsJoinedAfter None) rest.1 lawful.joined))) (subst (IsJoinedAfter value) (sym late-kept) tt);
    }
