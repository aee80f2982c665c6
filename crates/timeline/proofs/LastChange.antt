-- The last change of a timeline.
use Rattle.std.proofs.Common.{◌≡◌, ◌≢◌, ℕ, ◌+◌, ◌≤◌, List, [], ◌∷◌, ◌++◌, map, Option, Some, None, refl, sym, ap, subst, ◌∙◌, arith}
use Rattle.std.proofs.lemmas.List.{append-nil, map-append}
use Rattle.std.specs.{Option.option_map, Option.option_and_then}
use Rattle.sorted_arena.specs.{Chain.Entry, Chain.IsDistinct, Chain.item_of, Chain.last_pointer, Gap.last_of}
use Rattle.sorted_arena.proofs.OrdLemmas.{ends, no_last}
use Rattle.timeline.specs.Timeline.{Change, value_at, IsRising, IsJoinedAfter, AreChanges}
use Rattle.timeline.specs.Layout.{change, last_value, IsLastChange}
use Rattle.timeline.proofs.Cutting.{AreBefore, all-append, all-weaker, before-end, joined-back, last-append}
use Rattle.timeline.proofs.{Values.value-cut, Places.last-found, Places.last-pointer, Places.unmapped}

-- a list of changes that ends with this one
module _ {V : Type 0} (cs : List (Change V)) (lawful : AreChanges cs) (before : List (Change V)) (d : Change V) (cut : cs ≡ before ++ d ∷ []) where
  all-before : AreBefore d.time before
  all-before = before-end before d (subst IsRising cut lawful.rising)

  differs : d.value ≢ last_value None before
  differs = (joined-back None before (d ∷ []) (subst (IsJoinedAfter None) cut lawful.joined)).0

  value-from : (u : ℕ) → d.time ≤ u → value_at cs u ≡ d.value
  value-from u past =
      ap (λ cs. value_at cs u) (cut ∙ sym (append-nil (before ++ d ∷ [])))
      ∙ value-cut None (before ++ d ∷ []) [] u (all-append _ before (d ∷ []) (all-weaker _ _ (λ c is. omega (arith, is, past)) before all-before) (past, tt)) tt
      ∙ last-append None before (d ∷ [])

  value-directly_before : (u : ℕ) → u + 1 ≡ d.time → value_at cs u ≡ last_value None before
  value-directly_before u next =
      ap (λ cs. value_at cs u) cut
      ∙ value-cut None before (d ∷ []) u (all-weaker _ _ (λ c is. omega (arith, is, next)) before all-before) (omega (arith, next), tt)

  none-before : d.time ≡ 0 → last_value None before ≡ None
  none-before start = go before all-before
    where
      go : (before : List (Change V)) → AreBefore d.time before → last_value None before ≡ None
      go [] all = refl
      go (c ∷ cs) all = absurd (omega (arith, all.0, start))

  ends-changes : IsLastChange cs (Some d.time)
  ends-changes =
      let now : value_at cs d.time ≡ d.value = value-from d.time (omega arith) in (
        λ u past. value-from u past ∙ sym now,
        λ u next same. differs (sym now ∙ sym same ∙ value-directly_before u next),
        λ start none. differs (sym now ∙ none ∙ sym (none-before start)),
      )

-- by what the last pointer of an arena finds
pub last-change : {V : Type 0} (es : List (Entry (ℕ × Option V))) → IsDistinct es → AreChanges (map change es) → (last : Option (ℕ × ℕ)) → option_map (λ p. p) last ≡ last_pointer es
    → (r : Option ℕ) → r ≡ option_map (λ x. x.0) (option_and_then (item_of es) last) → IsLastChange (map change es) r
last-change {V} es distinct lawful last last_is r is = go (last_of None es) refl
  where
    found : option_and_then (item_of es) last ≡ option_map (λ (e : Entry (ℕ × Option V)). e.item) (last_of None es)
    found = last-found es distinct es [] (sym (append-nil es)) last (sym (unmapped last) ∙ last_is ∙ last-pointer es)

    go : (o : Option (Entry (ℕ × Option V))) → last_of None es ≡ o → IsLastChange (map change es) r
    go None none = subst (IsLastChange (map change es)) (sym (is ∙ ap (option_map (λ (x : ℕ × Option V). x.0)) (found ∙ ap (option_map (λ (e : Entry (ℕ × Option V)). e.item)) none))) (ap (map change) (no_last es none))
    go (Some d) some =
        let front = ends es d some in
        subst (IsLastChange (map change es)) (sym (is ∙ ap (option_map (λ (x : ℕ × Option V). x.0)) (found ∙ ap (option_map (λ (e : Entry (ℕ × Option V)). e.item)) some)))
        (ends-changes (map change es) lawful (map change front.0) (change d) (ap (map change) front.1 ∙ map-append change front.0 (d ∷ [])))
