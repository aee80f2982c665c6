-- Pointers that ended stay ended: how generations change along a run.
use Rattle.std.proofs.Common.{◌≡◌, ◌≢◌, ℕ, zero, suc, ◌+◌, ◌<◌, ◌≤◌, ◌⊎◌, inl, inr, false, List, [], ◌∷◌, Option, Some, None, IsSome, is_some, refl, sym, ap, ◌∙◌, arith}
use Rattle.std.proofs.lemmas.Bool.Decides.{eqb_tells}
use Rattle.std.specs.{Option.ForSome, Option.option_map, List.AllByRecursion}
use Rattle.triple_ord.specs.Generation.{next_generation}
use Rattle.triple_ord.specs.Chain.{Chain, IsSound, IsDistinct, entry_at, item_of}
use Rattle.triple_ord.proofs.ChainLemmas.{entry_at-without, entry_at-without_other, entry_at-with_item_among, entry_at-with_item_among_other}
use Rattle.triple_ord.proofs.ChainLemmas.{entry_at-with_generation, entry_at-with_generation_other, entry_at-between}
use Rattle.ord_machine.specs.Pointers.{resets, raises, raises_among, Part, EndedPointerLaw}
use Rattle.ord_machine.specs.{Machine.Reading, Machine.Calls, Machine.State, Machine.Runs, declared.command.Command.Command, declared.reply.Reply.Reply}
use Rattle.ord_machine.proofs.Outcomes.{cases_pointer, found-there, there-found, elsewhere, unused, risen, Change, stays, comes, writes, rekeys, leaves, renews, relays, empties, outcome}

-- An entry was there with this index and generation, or the generation is between the old one and the new one.
abbrev WasOrIsNew : {T : Type 0} → Chain T → Chain T → ℕ → ℕ → Type 0
WasOrIsNew {T} old new i g = ((x : T) × (entry_at old.entries i ≡ Some (g, x))) ⊎ ((old.generation ≤ g) × (g ≤ new.generation))

-- How generations change from one list to the next: the arena's rises by n, and if an entry's pointer ended, it rose.
pub record Goes {T : Type 0} (old : Chain T) (n : ℕ) (new : Chain T) : Type 0 where
  pub raised : new.generation ≡ old.generation + n
  pub entries : (i : ℕ) (e : ℕ × T) → entry_at new.entries i ≡ Some e → WasOrIsNew old new i e.0
  pub ended : (p : ℕ × ℕ) → IsSome (item_of old.entries p) → item_of new.entries p ≡ None → 0 < n

-- no entry's generation is above the arena's
abbrev pub IsBelow : {T : Type 0} → Chain T → Type 0
IsBelow c = (i : ℕ) → ForSome (entry_at c.entries i) (λ e. e.0 ≤ c.generation)

-- a pointer names no entry, and never will, because its generation has passed
pub record IsSpent {T : Type 0} (c : Chain T) (p : ℕ × ℕ) : Type 0 where
  pub nothing : item_of c.entries p ≡ None
  pub passed : p.1 < c.generation

module _ {T : Type 0} where
  -- generations stay below the arena's
  below-goes : (old new : Chain T) (n : ℕ) → Goes old n new → IsBelow old → IsBelow new
  below-goes old new n goes below i = go (entry_at new.entries i) refl
    where
      go : (o : Option (ℕ × T)) → entry_at new.entries i ≡ o → ForSome o (λ e. e.0 ≤ new.generation)
      go None is = λ e none. absurd (cc)
      go (Some e) is = elim (goes.entries i e is) [
        | inl was ↦ λ f same. let is_e : f ≡ e = cc in rw is_e (omega (arith, goes.raised, below i (e.0, was.0) was.1))
        | inr late ↦ λ f same. let is_e : f ≡ e = cc in rw is_e late.1
      ]

  -- a spent pointer stays spent
  spent-goes : (old new : Chain T) (n : ℕ) → Goes old n new → (p : ℕ × ℕ) → IsSpent old p → IsSpent new p
  spent-goes old new n goes p spent = record { nothing = go (item_of new.entries p) refl; passed = omega (arith, goes.raised, spent.passed) }
    where
      go : (o : Option T) → item_of new.entries p ≡ o → o ≡ None
      go None is = refl
      go (Some x) is =
          let there = found-there new.entries p (ap is_some is) in
          elim (goes.entries p.0 (p.1, there.0) there.1) [
            | inl was ↦ absurd (let some = there-found old.entries p was.0 was.1 in let none = spent.nothing in cc)
            | inr late ↦ absurd (omega (arith, late.0, spent.passed))
          ]

-- a pointer names an entry, or is spent; and no entry's generation is above the arena's
pub record Watches {T : Type 0} (p : ℕ × ℕ) (c : Chain T) : Type 0 where
  pub below : IsBelow c
  pub named : (item_of c.entries p ≡ None) → IsSpent c p

module _ {T : Type 0} (p : ℕ × ℕ) where
  watched-goes : (old new : Chain T) (n : ℕ) → Goes old n new → Watches p old → Watches p new
  watched-goes old new n goes watched = record { below = below-goes old new n goes watched.below; named = λ none. go (item_of old.entries p) refl none }
    where
      go : (o : Option T) → item_of old.entries p ≡ o → item_of new.entries p ≡ None → IsSpent new p
      go None was none = spent-goes old new n goes p (watched.named was)
      go (Some x) was none =
          let there = found-there old.entries p (ap is_some was) in
          record { nothing = none; passed = omega (arith, goes.ended p (ap is_some was) none, goes.raised, watched.below p.0 (p.1, there.0) there.1) }

-- the generation after one that isn't the greatest is one more
next-counted : (greatest : Option ℕ) (top g : ℕ) → greatest ≡ Some top → g + 1 ≤ top → next_generation greatest g ≡ g + 1
next-counted greatest top g is room = rw is (elim (eqb_tells g top) [
  | inl h ↦ absurd (omega (arith, h.1, room))
  | inr h ↦ rw h.0 refl
])

-- so after n raises it is n more
risen-counted : (greatest : Option ℕ) (top n g : ℕ) → greatest ≡ Some top → g + n ≤ top → risen greatest n g ≡ g + n
risen-counted greatest top zero g is room = omega arith
risen-counted greatest top (suc n) g is room =
    rw (next-counted greatest top g is (omega (arith, room))) (risen-counted greatest top n (g + 1) is (omega (arith, room)) ∙ omega arith)

same-first : {T : Type 0} (g : ℕ) (x : T) (e : ℕ × T) → Some (g, x) ≡ Some e → g ≡ e.0
same-first {T} g x e same = let both : (g, x) ≡ e = cc in ap (λ (p : ℕ × T). p.0) both

-- how generations change in one step
module _ {P T I G K : Type 0} (r : Reading P T I G K) (old new : Chain T) (n : ℕ) (distinct : IsDistinct old.entries) (raised : new.generation ≡ old.generation + n) where
  -- only the entry at this index changes
  goes-at : (i : ℕ) → ((j : ℕ) → j ≢ i → entry_at new.entries j ≡ entry_at old.entries j)
      → ((e : ℕ × T) → entry_at new.entries i ≡ Some e → WasOrIsNew old new i e.0)
      → ((p : ℕ × ℕ) → IsSome (item_of old.entries p) → p.0 ≡ i → item_of new.entries p ≡ None → 0 < n) → Goes old n new
  goes-at i others here ended = record {
    raised = raised;
    entries = λ j e found. elim (eqb_tells j i) [
      | inl h ↦ rw h.1 (here e (ap (entry_at new.entries) (sym h.1) ∙ found))
      | inr h ↦ inl (e.1, sym (others j h.1) ∙ found)
    ];
    ended = λ p there none. elim (eqb_tells p.0 i) [
      | inl h ↦ ended p there h.1 none
      | inr h ↦ absurd (
          let mine = found-there old.entries p there in
          let some = there-found new.entries p mine.0 (others p.0 h.1 ∙ mine.1) in cc)
    ];
  }

  goes-change : {Of : ℕ × ℕ → Type 0} {Keeps : Type 0} → Change r old new n Of Keeps → Goes old n new
  goes-change (stays same) = record {
    raised = raised;
    entries = λ i e is. inl (e.1, ap (λ es. entry_at es i) (sym same) ∙ is);
    ended = λ p there none. absurd (let none = ap (λ es. item_of es p) (sym same) ∙ none in cc);
  }
  goes-change (comes gap i item entered aim place by) =
      let now : entry_at new.entries i ≡ Some (old.generation, item) =
      ap (λ es. entry_at es i) entered.list ∙ entry_at-between gap.front _ gap.back entered.free in
      goes-at i (elsewhere old new gap i item entered)
      (λ e found. let late = same-first old.generation item e (sym now ∙ found) in inr (omega (arith, late), omega (arith, late, raised)))
      (λ p there same none. absurd (unused old new gap i item entered p there same))
  goes-change (writes i was item at is spares alike) =
      let now : entry_at new.entries i ≡ Some (was.0, item) = rw (is, entry_at-with_item_among old.entries i item, at) refl in
      goes-at i (λ j other. ap (λ es. entry_at es j) is ∙ entry_at-with_item_among_other old.entries i j item other)
      (λ e found. inl (was.1, at ∙ ap (λ g. Some (g, was.1)) (same-first was.0 item e (sym now ∙ found))))
      (λ p there same none. absurd (
      let mine = found-there old.entries p there in
      let still : entry_at new.entries p.0 ≡ Some (p.1, item) = rw (is, same, entry_at-with_item_among old.entries i item, ← same, mine.1) refl in
      let some = there-found new.entries p item still in cc))
  goes-change (rekeys q item found now others spares never) = record {
    raised = raised;
    entries = λ i e is. elim (cases_pointer (i, e.0) q) [
      | inl same ↦
          let had = found-there old.entries q found in
          inl (had.0, ap (entry_at old.entries) (ap (λ (p : ℕ × ℕ). p.0) same) ∙ had.1 ∙ ap (λ g. Some (g, had.0)) (sym (ap (λ (p : ℕ × ℕ). p.1) same)))
      | inr other ↦
          let there = sym (others (i, e.0) other) ∙ there-found new.entries (i, e.0) e.1 is in
          inl (found-there old.entries (i, e.0) (ap is_some there))
    ];
    ended = λ p there none. absurd (elim (cases_pointer p q) [
      | inl same ↦ let some = ap (item_of new.entries) same ∙ now in cc
      | inr other ↦ let gone = sym (others p other) ∙ none in cc
    ]);
  }
  goes-change (leaves i is some spares) =
      goes-at i (λ j other. ap (λ es. entry_at es j) is ∙ entry_at-without_other old.entries i j other)
      (λ e found. absurd (let none : entry_at new.entries i ≡ None = rw is (entry_at-without old.entries i distinct) in cc))
      (λ p there same none. some)
  goes-change (renews i is some spares) =
      goes-at i (λ j other. ap (λ es. entry_at es j) is ∙ entry_at-with_generation_other old.entries i j new.generation other)
      (λ e found. late e (entry_at old.entries i)
      (sym (entry_at-with_generation old.entries i new.generation) ∙ ap (λ es. entry_at es i) (sym is) ∙ found))
      (λ p there same none. some)
    where
      late : (e : ℕ × T) (o : Option (ℕ × T)) → option_map (λ f. (new.generation, f.1)) o ≡ Some e → WasOrIsNew old new i e.0
      late e None found = absurd (cc)
      late e (Some f) found = let same = same-first new.generation f.1 e found in inr (omega (arith, same, raised), omega (arith, same))
  goes-change (relays all same some others) = record {
    raised = raised;
    entries = λ i e is. inr (omega (arith, all i e is, raised), omega (arith, all i e is));
    ended = λ p there none. some;
  }
  goes-change (empties none some others) = record {
    raised = raised;
    entries = λ i e is. absurd (let nothing = ap (λ es. entry_at es i) (sym none) ∙ is in cc);
    ended = λ p there gone. some;
  }

-- the end of a run: the arena is sound, its generation was raised n times, and a fact of its list still holds
pub record Ends {T : Type 0} (most : ℕ) (greatest : Option ℕ) (Holds : Chain T → Type 0) (s : State T) (n : ℕ) (t : State T) : Type 0 where
  pub lawful : IsSound most greatest t.tree.list
  pub raised : t.tree.list.generation ≡ s.tree.list.generation + n
  pub holds : Holds t.tree.list

-- how a fact of lists is kept along a run whose steps keep it
module _ {P T I G K : Type 0} (r : Reading P T I G K) (top : ℕ) (counted : r.greatest ≡ Some top)
    (Holds : Chain T → Type 0) (goes : (old new : Chain T) (n : ℕ) → Goes old n new → Holds old → Holds new) where
  -- from a sound arena for which the fact holds, with room for this many raises, to the end of the run
  abbrev Leads : State T → ℕ → State T → Type 0
  Leads s n t = IsSound r.most r.greatest s.tree.list → Holds s.tree.list → s.tree.list.generation + n ≤ top → Ends r.most r.greatest Holds s n t

  abbrev NeverResets : List (Command P T I G K) → Type 0
  NeverResets asked = AllByRecursion (λ command. resets command ≡ false) asked

  module _ {A F : Type 0} (calls : Calls T F) where
    along : (asked : List (Command P T I G K)) → NeverResets asked → (told : List (Reply P T A I G)) (s t : State T) (f g : F)
        → Runs r calls s f asked told t g → Leads s (raises_among asked told) t
    along [] back [] s t f g run lawful holds room = rw run.0 (record { lawful = lawful; raised = omega arith; holds = holds })
    along (c ∷ asked) back (q ∷ told) s t f g run lawful holds room =
        let step = run.2 in
        let leads = outcome r s run.0.tree calls f c q run.1 step.does in
        let raised = leads.raised back.0 ∙ risen-counted r.greatest top (raises c q) s.tree.list.generation counted (omega (arith, room)) in
        let first = goes-change r s.tree.list run.0.tree.list (raises c q) lawful.distinct raised (leads.change lawful.distinct) in
        let rest = along asked back.1 told run.0 t run.1 g run.3 step.lawful (goes s.tree.list run.0.tree.list (raises c q) first holds) (omega (arith, room, first.raised)) in
        record { lawful = rest.lawful; raised = omega (arith, rest.raised, first.raised); holds = rest.holds }
    along asked back told s t f g run lawful holds room = absurd run

    along-part : (s : State T) (f : F) (n : ℕ) (t : State T) (g : F) → Part A r calls s f n t g → Leads s n t
    along-part s f n t g part lawful holds room =
        rw part.count (along part.commands part.never_back part.replies s t f g part.run lawful holds (omega (arith, room, part.count)))

pub ended_pointer : (P T I G A K : Type 0) {F : Type 0} (calls : Calls T F) → EndedPointerLaw P T I G A K calls
ended_pointer P T I G A K calls r top s0 s1 s2 s3 f0 f1 f2 f3 k l m counted lawful below part1 part2 part3 room p there gone =
    let first = along-part r top counted (λ c. IsBelow c) below-goes calls s0 f0 k s1 f1 part1 lawful below (omega (arith, room)) in
    let second = along-part r top counted (Watches p) (watched-goes p) calls s1 f1 l s2 f2 part2 first.lawful (record { below = first.holds; named = λ none. absurd (cc) }) (omega (arith, room, first.raised)) in
    let third = along-part r top counted (λ c. IsSpent c p) (λ old new n goes spent. spent-goes old new n goes p spent) calls s2 f2 m s3 f3
    part3 second.lawful (second.holds.named gone) (omega (arith, room, first.raised, second.raised)) in
    third.holds.nothing
