-- What holds beside the cut of a timeline at a time: the value there, the whole stretch around it, and the next change.
use Rattle.std.proofs.Common.{◌≡◌, ◌≢◌, ℕ, ◌+◌, ◌<◌, ◌≤◌, List, [], ◌∷◌, ◌++◌, map, Option, Some, None, refl, sym, ap, subst, ◌∙◌, arith, append_assoc}
use Rattle.std.proofs.lemmas.List.{map-append}
use Rattle.std.specs.{List.AllByRecursion, Option.option_map, Option.option_and_then}
use Rattle.sorted_arena.specs.{Chain.Entry, Chain.IsDistinct, Chain.item_of, Gap.first_of, Gap.last_of}
use Rattle.sorted_arena.proofs.OrdLemmas.{ends}
use Rattle.timeline.specs.Timeline.{Change, value_at, IsRising, IsJoinedAfter, AreChanges, IsNextChange, IsWholeSpan}
use Rattle.timeline.specs.Layout.{change, last_value, valued, IsAround}
use Rattle.timeline.proofs.Cutting.{AreUntil, AreAfter, all-append, all-weaker, all-back, rising-front, rising-back, before-end, joined-back, last-append}
use Rattle.timeline.proofs.{Values.value-cut, Places.first-found, Places.last-found, Places.value-found}

-- a time and a value
abbrev pair : {V : Type 0} → ℕ → V → ℕ × V
pair t v = (t, v)

-- the time of the first entry
abbrev first_time : {V : Type 0} → List (Entry (ℕ × Option V)) → Option ℕ
first_time es = option_map (λ x. x.0) (option_map (λ e. e.item) (first_of es))

module _ {V : Type 0} (es : List (Entry (ℕ × Option V))) (t : ℕ) (beside : Option (ℕ × ℕ) × Option (ℕ × ℕ)) (around : IsAround es t beside) where
  abbrev low : List (Change V)
  low = map change around.front

  abbrev high : List (Change V)
  high = map change around.back

  pub changes-cut : map change es ≡ low ++ high
  changes-cut = ap (map change) around.cut ∙ map-append change around.front around.back

  -- as long as no later change has come, the value is that before the cut
  held-on : (u : ℕ) → t ≤ u → AreAfter u high → value_at (map change es) u ≡ last_value None low
  held-on u past later = ap (λ cs. value_at cs u) changes-cut ∙ value-cut None low high u (all-weaker _ _ (λ c is. omega (arith, is, past)) low around.until) later

  pub held-around : value_at (map change es) t ≡ last_value None low
  held-around = held-on t (omega arith) around.after

  module _ (lawful : AreChanges (map change es)) where
    rising : IsRising (low ++ high)
    rising = subst IsRising changes-cut lawful.rising

    joined : IsJoinedAfter None (low ++ high)
    joined = subst (IsJoinedAfter None) changes-cut lawful.joined

    lasting-none : around.back ≡ [] → IsNextChange (map change es) t None
    lasting-none none u past = held-on u past (subst (λ (back : List (Entry (ℕ × Option V))). AreAfter u (map change back)) (sym none) tt) ∙ sym held-around

    -- the first entry behind the cut
    module _ (e : Entry (ℕ × Option V)) (rest : List (Entry (ℕ × Option V))) (here : around.back ≡ e ∷ rest) where
      high-is : high ≡ change e ∷ map change rest
      high-is = ap (map change) here

      high-rising : IsRising (change e ∷ map change rest)
      high-rising = subst IsRising high-is (rising-back low high rising)

      later : t < e.item.0
      later = (subst (AreAfter t) high-is around.after).0

      after-sooner : (u : ℕ) → u < e.item.0 → AreAfter u high
      after-sooner u sooner = subst (AreAfter u) (sym high-is) (sooner, all-weaker _ _ (λ c is. omega (arith, is, sooner)) (map change rest) high-rising.0)

      -- at the change its own value holds
      held-then : value_at (map change es) e.item.0 ≡ e.item.1
      held-then =
          ap (λ cs. value_at cs e.item.0) (changes-cut ∙ ap (λ cs. low ++ cs) high-is ∙ sym (append_assoc low (change e ∷ []) (map change rest)))
          ∙ value-cut None (low ++ change e ∷ []) (map change rest) e.item.0
          (all-append _ low (change e ∷ []) (all-weaker _ _ (λ c is. omega (arith, is, later)) low around.until) (omega arith, tt)) high-rising.0
          ∙ last-append None low (change e ∷ [])

      another : e.item.1 ≢ last_value None low
      another = (subst (IsJoinedAfter (last_value None low)) high-is (joined-back None low high joined)).0

      lasting-some : IsNextChange (map change es) t (Some e.item.0)
      lasting-some = (later, λ u past sooner. held-on u past (after-sooner u sooner) ∙ sym held-around, λ same. another (sym held-then ∙ same ∙ held-around))

    -- by what the pointer behind the cut finds
    pub next-change : IsDistinct es → (r : Option ℕ) → r ≡ option_map (λ x. x.0) (option_and_then (item_of es) beside.1) → IsNextChange (map change es) t r
    next-change distinct r is = go around.back refl
      where
        found : r ≡ first_time around.back
        found = is ∙ ap (option_map (λ (x : ℕ × Option V). x.0)) (first-found es distinct around.front around.back around.cut beside.1 around.after_is)

        go : (back : List (Entry (ℕ × Option V))) → around.back ≡ back → IsNextChange (map change es) t r
        go [] none = subst (IsNextChange (map change es) t) (sym (found ∙ ap first_time none)) (lasting-none none)
        go (e ∷ rest) some = subst (IsNextChange (map change es) t) (sym (found ∙ ap first_time some)) (lasting-some e rest some)

    -- the last entry before the cut
    module _ (d : Entry (ℕ × Option V)) (v : V) (brings : d.item.1 ≡ Some v) (last : last_of None around.front ≡ Some d) where
      front : (before : List (Entry (ℕ × Option V))) × (around.front ≡ before ++ d ∷ [])
      front = ends around.front d last

      low-is : low ≡ map change front.0 ++ change d ∷ []
      low-is = ap (map change) front.1 ∙ map-append change front.0 (d ∷ [])

      all-before : AllByRecursion (λ (c : Change V). c.time < d.item.0) (map change front.0)
      all-before = before-end (map change front.0) (change d) (subst IsRising low-is (rising-front low high rising))

      last-is : last_value None low ≡ Some v
      last-is = ap (last_value None) low-is ∙ last-append None (map change front.0) (change d ∷ []) ∙ brings

      begun : d.item.0 ≤ t
      begun = (all-back _ (map change front.0) (change d ∷ []) (subst (AreUntil t) low-is around.until)).0

      holds-at : (u : ℕ) → d.item.0 ≤ u → AreAfter u high → value_at (map change es) u ≡ Some v
      holds-at u past after =
          ap (λ cs. value_at cs u) changes-cut
          ∙ value-cut None low high u (subst (AreUntil u) (sym low-is) (all-append _ (map change front.0) (change d ∷ []) (all-weaker _ _ (λ c is. omega (arith, is, past)) (map change front.0) all-before) (past, tt))) after
          ∙ last-is

      -- before it another value held
      another-before : (u : ℕ) → u + 1 ≡ d.item.0 → value_at (map change es) u ≢ Some v
      another-before u next same = differs.0 (brings ∙ sym same ∙ held)
        where
          whole : map change es ≡ map change front.0 ++ change d ∷ high
          whole = changes-cut ∙ ap (λ (cs : List (Change V)). cs ++ high) low-is ∙ append_assoc (map change front.0) (change d ∷ []) high

          held : value_at (map change es) u ≡ last_value None (map change front.0)
          held =
              ap (λ cs. value_at cs u) whole
              ∙ value-cut None (map change front.0) (change d ∷ high) u (all-weaker _ _ (λ c is. omega (arith, is, next)) (map change front.0) all-before)
              (omega (arith, next), all-weaker _ _ (λ c is. omega (arith, is, begun, next)) high around.after)

          differs : IsJoinedAfter (last_value None (map change front.0)) (change d ∷ high)
          differs = joined-back None (map change front.0) (change d ∷ high) (subst (IsJoinedAfter None) whole lawful.joined)

      whole-none : around.back ≡ [] → IsWholeSpan (map change es) t (record { from = d.item.0; until = None; value = v })
      whole-none none = record {
        begins = begun;
        ends = tt;
        holds = λ u past _. holds-at u past (subst (λ (back : List (Entry (ℕ × Option V))). AreAfter u (map change back)) (sym none) tt);
        another_before = another-before;
        another_after = tt;
      }

      whole-some : (e : Entry (ℕ × Option V)) (rest : List (Entry (ℕ × Option V))) → around.back ≡ e ∷ rest → IsWholeSpan (map change es) t (record { from = d.item.0; until = Some e.item.0; value = v })
      whole-some e rest here = record {
        begins = begun;
        ends = later e rest here;
        holds = λ u past sooner. holds-at u past (after-sooner e rest here u sooner);
        another_before = another-before;
        another_after = λ same. another e rest here (sym (held-then e rest here) ∙ same ∙ sym last-is);
      }

    abbrev Whole : ℕ → Option ℕ → V → Type 0
    Whole from until v = IsWholeSpan (map change es) t (record { from = from; until = until; value = v })

    -- by what the pointers beside the cut find
    pub whole-span : IsDistinct es → (from : ℕ) (v : V) (until : Option ℕ) → Some (pair from v) ≡ option_and_then valued (option_and_then (item_of es) beside.0)
        → until ≡ option_map (λ x. x.0) (option_and_then (item_of es) beside.1) → Whole from until v
    whole-span distinct from v until held is = go (last_of None around.front) refl
      where
        began : Some (pair from v) ≡ option_and_then valued (option_map (λ (e : Entry (ℕ × Option V)). e.item) (last_of None around.front))
        began = held ∙ ap (option_and_then valued) (last-found es distinct around.front around.back around.cut beside.0 around.before_is)

        found : until ≡ first_time around.back
        found = is ∙ ap (option_map (λ (x : ℕ × Option V). x.0)) (first-found es distinct around.front around.back around.cut beside.1 around.after_is)

        by : (d : Entry (ℕ × Option V)) (w : V) → last_of None around.front ≡ Some d → d.item.1 ≡ Some w → (back : List (Entry (ℕ × Option V))) → around.back ≡ back → Whole d.item.0 until w
        by d w last brings [] none = subst (λ (u : Option ℕ). Whole d.item.0 u w) (sym (found ∙ ap first_time none)) (whole-none d w brings last none)
        by d w last brings (e ∷ rest) some = subst (λ (u : Option ℕ). Whole d.item.0 u w) (sym (found ∙ ap first_time some)) (whole-some d w brings last e rest some)

        named : (d : Entry (ℕ × Option V)) → last_of None around.front ≡ Some d → (o : Option V) → d.item.1 ≡ o → Some (pair from v) ≡ option_map (pair d.item.0) o → Whole from until v
        named d last None brings same = absurd (cc)
        named d last (Some w) brings same =
            let both : pair from v ≡ pair d.item.0 w = cc in
            subst (λ (x : ℕ × V). Whole x.0 until x.1) (sym both) (by d w last brings around.back refl)

        go : (o : Option (Entry (ℕ × Option V))) → last_of None around.front ≡ o → Whole from until v
        go None none = absurd (let no : Some (pair from v) ≡ None = began ∙ ap (λ (o : Option (Entry (ℕ × Option V))). option_and_then valued (option_map (λ (e : Entry (ℕ × Option V)). e.item) o)) none in cc)
        go (Some d) last = named d last d.item.1 refl (began ∙ ap (λ (o : Option (Entry (ℕ × Option V))). option_and_then valued (option_map (λ (e : Entry (ℕ × Option V)). e.item) o)) last)

  -- where the entry before the cut has no value, none holds
  pub none-held : IsDistinct es → None ≡ option_and_then valued (option_and_then (item_of es) beside.0) → value_at (map change es) t ≡ None
  none-held distinct none = held-around ∙ sym (value-found es distinct around.front around.back around.cut beside.0 around.before_is) ∙ go (option_and_then (item_of es) beside.0) none
    where
      go : (o : Option (ℕ × Option V)) → None ≡ option_and_then valued o → option_and_then (λ x. x.1) o ≡ None
      go None is = refl
      go (Some x) is = by x.1 is
        where
          by : (w : Option V) → None ≡ option_map (pair x.0) w → w ≡ None
          by None is = refl
          by (Some v) is = absurd (cc)
