-- What is taken out beside a pointer.
use Rattle.std.proofs.Common.{◌≡◌, ◌≢◌, ℕ, List, [], ◌∷◌, ◌++◌, map, Option, Some, None, IfSome, refl, sym, ap, subst, ◌∙◌, arith, inl, inr, append_assoc}
use Rattle.std.proofs.{lemmas.Bool.Decides.leb_tells, lemmas.Bool.Decides.nat_tests, lemmas.List.map-append, lemmas.List.Elements.recursion_from_All}
use Rattle.std.specs.{List.AllByRecursion, Option.option_map, Ordering.nat_cmp, declared.cmp.Ordering.TheVariants.Greater}
use Rattle.sorted_arena.specs.{Chain.IsDistinct, Chain.item_of, Chain.without, Gap.first_of, Gap.last_of}
use Rattle.sorted_arena.specs.Sorted.{Sorted, key_of, next_of, prev_of, without_entry, AreSorted, IsSound}
use Rattle.sorted_arena.specs.PlainPointer.{greatest_generation}
use Rattle.sorted_arena.proofs.CallerLemmas.{sorted-back, capacity-without_entry, removed-sound}
use Rattle.timeline.specs.Timeline.{Change, most_entries}
use Rattle.timeline.specs.Layout.{change, last_taken, or_else, IsAt, IsReached, IsBeyond, TakesNext, TakesBehind, TakesSame, TakesOver, KeepsCapacity}
use Rattle.timeline.proofs.Places.{Item, NextAt, next-at, PrevAt, before-at, next-there, prev-there}
use Rattle.timeline.proofs.Cutting.{all-append}

-- if a change leaves, the arena keeps its capacity and stays sound
pub keeps-removed : {V : Type 0} (old new : Sorted ℕ (Option V)) (p : ℕ × ℕ) → new ≡ without_entry greatest_generation old p → IsSound nat_cmp most_entries old → KeepsCapacity old new
keeps-removed {V} old new p after sound = record {
  capacity = ap (λ (a : Sorted ℕ (Option V)). a.capacity) after ∙ capacity-without_entry greatest_generation old p;
  sound = rw after (removed-sound nat_cmp most_entries greatest_generation old p sound);
}

module _ {V : Type 0} (es : List (Item V)) (distinct : IsDistinct es) (p : ℕ × ℕ) (at : IsAt es p) where
  -- nothing is behind, or what is behind is beyond the end
  pub none-next : (until : Option ℕ) → None ≡ next_of es p → TakesNext until at None es
  none-next until none = (refl, go at.back refl)
    where
      go : (b : List (Item V)) → at.back ≡ b → IfSome (first_of at.back) (λ f. IsBeyond until f.item.0)
      go [] is = subst (λ (b : List (Item V)). IfSome (first_of b) (λ f. IsBeyond until f.item.0)) (sym is) tt
      go (f ∷ b) is = absurd (let no = none ∙ next-there es distinct p at ∙ ap (λ (xs : List (Item V)). option_map (λ (e : Item V). (e.index, e.generation)) (first_of xs)) is in cc)

  module _ (until : Option ℕ) (q : ℕ × ℕ) (time : ℕ) (is : Some q ≡ next_of es p) (timed : Some time ≡ option_map (λ x. x.0) (item_of es q)) where
    next : NextAt es distinct p at q
    next = next-at es distinct p at q is

    time-is : time ≡ next.entry.item.0
    time-is = let both : Some time ≡ Some next.entry.item.0 = timed ∙ ap (option_map (λ (x : ℕ × Option V). x.0)) next.found in cc

    pub beyond-next : IsBeyond until time → IfSome (first_of at.back) (λ f. IsBeyond until f.item.0)
    beyond-next beyond = subst (λ (b : List (Item V)). IfSome (first_of b) (λ f. IsBeyond until f.item.0)) (sym next.here) (subst (IsBeyond until) time-is beyond)

    pub takes-next : IsReached until time → (item : ℕ × Option V) → Some item ≡ item_of es q → (new : List (Item V)) → new ≡ without q.0 es → TakesNext until at (Some item.1) new
    takes-next reached item taken new left =
        let both : Some item ≡ Some next.entry.item = taken ∙ next.found in
        let same : item ≡ next.entry.item = cc in
        (next.entry, next.back, next.here, subst (IsReached until) time-is reached, sym (ap (λ (x : ℕ × Option V). x.1) same), left ∙ next.rest)

  -- nothing is before, or it is at another time
  pub none-before : (from : ℕ) → None ≡ prev_of es p → TakesSame from at None es
  none-before from none = (refl, go (last_of None at.front) refl)
    where
      go : (o : Option (Item V)) → last_of None at.front ≡ o → IfSome (last_of None at.front) (λ d. d.item.0 ≢ from)
      go None is = subst (λ (o : Option (Item V)). IfSome o (λ d. d.item.0 ≢ from)) (sym is) tt
      go (Some d) is = absurd (let no = none ∙ prev-there es distinct p at ∙ ap (option_map (λ (e : Item V). (e.index, e.generation))) is in cc)

  module _ (from : ℕ) (q : ℕ × ℕ) (time : ℕ) (is : Some q ≡ prev_of es p) (timed : Some time ≡ option_map (λ x. x.0) (item_of es q)) where
    before : PrevAt es distinct p at q
    before = before-at es distinct p at q is

    time-was : time ≡ before.entry.item.0
    time-was = let both : Some time ≡ Some before.entry.item.0 = timed ∙ ap (option_map (λ (x : ℕ × Option V). x.0)) before.found in cc

    pub apart-before : time ≢ from → IfSome (last_of None at.front) (λ d. d.item.0 ≢ from)
    apart-before apart = subst (λ (o : Option (Item V)). IfSome o (λ d. d.item.0 ≢ from)) (sym before.last) (λ same. apart (time-was ∙ same))

    pub takes-same : time ≡ from → (item : ℕ × Option V) → Some item ≡ item_of es q → (new : List (Item V)) → new ≡ without q.0 es → TakesSame from at (Some item.1) new
    takes-same here item taken new left =
        let both : Some item ≡ Some before.entry.item = taken ∙ before.found in
        let same : item ≡ before.entry.item = cc in
        (before.front, before.entry, before.here, sym time-was ∙ here, sym (ap (λ (x : ℕ × Option V). x.1) same), left ∙ before.rest)

-- the changes taken out so far
pub record Taking {V : Type 0} (until : Option ℕ) {es : List (Item V)} {p : ℕ × ℕ} (at : IsAt es p) (moved : Option (Option V)) (now : List (Item V)) : Type 0 where
  pub taken : List (Item V)
  pub rest : List (Item V)
  pub parts : at.back ≡ taken ++ rest
  pub reached : AllByRecursion (λ (c : Change V). IsReached until c.time) (map change taken)
  pub left : now ≡ at.front ++ at.entry ∷ rest
  pub moved_is : moved ≡ last_taken None taken

module _ {V : Type 0} where
  last-behind : (o : Option (Option V)) (es : List (Item V)) (e : Item V) → last_taken o (es ++ e ∷ []) ≡ Some e.item.1
  last-behind o [] e = refl
  last-behind o (f ∷ es) e = last-behind (Some f.item.1) es e

  -- behind an entry beyond the end all are
  all-beyond : (until : Option ℕ) (es : List (Item V)) → AreSorted nat_cmp es → IfSome (first_of es) (λ f. IsBeyond until f.item.0) → AllByRecursion (λ (c : Change V). IsBeyond until c.time) (map change es)
  all-beyond until [] sorted first = tt
  all-beyond until (e ∷ es) sorted first = (first, rest es (recursion_from_All (λ (f : Item V). nat_cmp e.item.0 (key_of f) ≢ Greater) es sorted.0))
    where
      later : (until : Option ℕ) (k : ℕ) → IsBeyond until e.item.0 → nat_cmp e.item.0 k ≢ Greater → IsBeyond until k
      later None k beyond most = beyond
      later (Some u) k beyond most = elim (leb_tells e.item.0 k) [
        | inl h ↦ omega (arith, h.1, beyond)
        | inr h ↦ absurd (most (grind (arith, nat_tests, h.1)))
      ]

      rest : (fs : List (Item V)) → AllByRecursion (λ (f : Item V). nat_cmp e.item.0 (key_of f) ≢ Greater) fs → AllByRecursion (λ (c : Change V). IsBeyond until c.time) (map change fs)
      rest [] all = tt
      rest (f ∷ fs) all = (later until f.item.0 first all.0, rest fs all.1)

  module _ (until : Option ℕ) (es : List (Item V)) (p : ℕ × ℕ) (at : IsAt es p) where
    pub taking-none : Taking until at None es
    taking-none = record { taken = []; rest = at.back; parts = refl; reached = tt; left = at.cut; moved_is = refl }

    module _ (moved : Option (Option V)) (now : List (Item V)) (taking : Taking until at moved now) where
      abbrev pub at_now : IsAt now p
      at_now = record { front = at.front; entry = at.entry; back = taking.rest; cut = taking.left; named = at.named }

      pub taking-more : (v : Option V) (new : List (Item V)) → TakesNext until at_now (Some v) new → Taking until at (Some v) new
      taking-more v new (f, back, here, reached, value, left) = record {
        taken = taking.taken ++ f ∷ [];
        rest = back;
        parts = taking.parts ∙ ap (λ (xs : List (Item V)). taking.taken ++ xs) here ∙ sym (append_assoc taking.taken (f ∷ []) back);
        reached = subst (AllByRecursion (λ (c : Change V). IsReached until c.time)) (sym (map-append change taking.taken (f ∷ []))) (all-append (λ (c : Change V). IsReached until c.time) (map change taking.taken) (change f ∷ []) taking.reached (reached, tt));
        left = left;
        moved_is = ap (λ (w : Option V). Some w) (sym value) ∙ sym (last-behind None taking.taken f);
      }

      pub taking-done : (new : List (Item V)) → TakesNext until at_now None new → AreSorted nat_cmp new → TakesBehind until at moved new
      taking-done new (same, first) sorted = record {
        taken = taking.taken;
        rest = taking.rest;
        parts = taking.parts;
        reached = taking.reached;
        beyond = all-beyond until taking.rest (sorted-back nat_cmp (at.entry ∷ []) taking.rest (sorted-back nat_cmp at.front (at.entry ∷ taking.rest) (subst (AreSorted nat_cmp) (same ∙ taking.left) sorted))) first;
        left = same ∙ taking.left;
        moved_is = taking.moved_is;
      }

  -- those behind a pointer and then the one before it at the same time
  module _ (from : ℕ) (until : Option ℕ) (es : List (Item V)) (p : ℕ × ℕ) (at : IsAt es p) (behind : Option (Option V)) (mid : List (Item V)) (takes : TakesBehind until at behind mid) where
    abbrev pub at_mid : IsAt mid p
    at_mid = record { front = at.front; entry = at.entry; back = takes.rest; cut = takes.left; named = at.named }

    pub takes-over : (same : Option (Option V)) (new : List (Item V)) → TakesSame from at_mid same new → TakesOver from until at (or_else behind same) new
    takes-over same new takes_same = record {
      behind = behind;
      mid = mid;
      takes_behind = takes;
      at_mid = at_mid;
      same_mid = (refl, refl, refl);
      same = same;
      takes_same = takes_same;
      moved_is = refl;
    }
