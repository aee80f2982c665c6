-- That each call is a step of an agenda.
use Rattle.std.proofs.Common.{◌≡◌, ◌≢◌, ℕ, List, [], true, Option, Some, None, IsSome, is_some, refl, sym, ap, subst, ◌∙◌, inl, inr, ◌⊎◌, arith, if◌then◌else◌, ◌+◌, ◌-◌, length}
use Rattle.std.specs.Ordering.{nat_cmp}
use Rattle.std.proofs.lemmas.{Bool.cases_eq, Bool.Decides.eqb_tells}
use Rattle.listing.specs.{Chain.Entry, Chain.item_of, Chain.IsDistinct, Chain.without, Generation.next_generation}
use Rattle.listing.specs.Steps.{Raises}
use Rattle.listing.proofs.CallerLemmas.{generation-with_entry}
use Rattle.listing.proofs.CallerLemmas.{step-stays, step-without_entry, step-with_entry, none-with_entry, step-with_key, none-with_key, step-emptied}
use Rattle.agenda.specs.Agenda.{Agenda, get, count, greatest_generation, most_entries, with_entry, with_key, with_left, with_rest, without_entry, IsFree, IsSound, Reschedules}
use Rattle.agenda.specs.{Scheduling.SchedulesEach, Tickets.IsStep}
use Rattle.agenda.proofs.Parts.{IsPartOf, part-shorter, part-whole, found-part, generation-apart}

next-other : (g : ℕ) → next_generation greatest_generation g ≢ g
next-other g same = elim (eqb_tells g 18446744073709551615) [
  | inl h ↦ absurd (let two : 2 ≡ g = rw h.0 at same in omega (arith, two, h.1))
  | inr h ↦ absurd (let more : g + 1 ≡ g = rw h.0 at same in omega (arith, more))
]

module _ {J : Type 0} (old : Agenda J) where
  pub stays : (new : Agenda J) → new ≡ old → IsStep old new
  unfolding IsStep Raises
  stays new same = record { comes = step-stays old new same; raises = inl (λ q there. subst (λ (a : Agenda J). IsSome (get a q)) (sym same) there) }

  pub comes : (new : Agenda J) (t : ℕ × ℕ) (job : ℕ × J) → IsFree old t → new ≡ with_entry nat_cmp most_entries old t job → IsStep old new
  unfolding IsStep Raises
  comes new t job free is = subst (λ (a : Agenda J). IsStep old a) (sym is)
      (record { comes = step-with_entry nat_cmp most_entries old t job free; raises = inl (none-with_entry nat_cmp most_entries old t job free) })

  pub moves : (new : Agenda J) (t : ℕ × ℕ) (deadline : ℕ) → IsDistinct old.entries → new ≡ with_key nat_cmp old t deadline → IsStep old new
  unfolding IsStep Raises
  moves new t deadline distinct is = subst (λ (a : Agenda J). IsStep old a) (sym is)
      (record { comes = step-with_key nat_cmp old t deadline distinct; raises = inl (none-with_key nat_cmp old t deadline distinct) })

  raised : (t : ℕ × ℕ) → Raises old (without_entry greatest_generation old t)
  unfolding Raises without_entry
  raised t = go (get old t)
    where
      go : (o : Option (ℕ × J)) → Raises old (if is_some o then with_left greatest_generation old (without t.0 old.entries) else old)
      go None = inl (λ q there. there)
      go (Some job) = inr (next-other old.generation)

  pub leaves : (new : Agenda J) (t : ℕ × ℕ) → IsDistinct old.entries → new ≡ without_entry greatest_generation old t → IsStep old new
  unfolding IsStep
  leaves new t distinct is = subst (λ (a : Agenda J). IsStep old a) (sym is) (record { comes = step-without_entry greatest_generation old t distinct; raises = raised t })

  -- a job leaves and comes again
  pub renews : (new : Agenda J) (t u : ℕ × ℕ) (deadline : ℕ) → IsDistinct old.entries → Reschedules old t u deadline new → IsStep old new
  unfolding IsStep Raises without_entry
  renews new t u deadline distinct r =
      let mid : Agenda J = without_entry greatest_generation old t in
      let same : new.generation ≡ mid.generation = ap (λ (a : Agenda J). a.generation) r.after ∙ generation-with_entry nat_cmp most_entries mid u (deadline, r.left.1) in
      record { comes = record { comes = λ q none there. go q none there (get mid q) refl same }; raises = inr (λ still. next-other old.generation (raise same still)) }
    where
      go : (q : ℕ × ℕ) → get old q ≡ None → IsSome (get new q) → (o : Option (ℕ × J)) → get (without_entry greatest_generation old t) q ≡ o
          → new.generation ≡ (without_entry greatest_generation old t).generation → (q.1 ≡ old.generation) ⊎ (q.1 ≡ new.generation)
      go q none there None is same = elim ((step-with_entry nat_cmp most_entries (without_entry greatest_generation old t) u (deadline, r.left.1) r.free).comes q is (subst (λ (a : Agenda J). IsSome (get a q)) r.after there)) [
        | inl at ↦ inr (at ∙ sym same)
        | inr at ↦ inr (at ∙ sym (ap (λ (a : Agenda J). a.generation) r.after))
      ]
      go q none there (Some x) is same = elim ((step-without_entry greatest_generation old t distinct).comes q none (ap is_some is)) [
        | inl at ↦ inl at
        | inr at ↦ inr (at ∙ sym same)
      ]

      raise : new.generation ≡ (without_entry greatest_generation old t).generation → new.generation ≡ old.generation → next_generation greatest_generation old.generation ≡ old.generation
      raise same still = rw (← r.named) at (sym same) ∙ still

  pub empties : (new : Agenda J) → new ≡ with_left greatest_generation old [] → IsStep old new
  unfolding IsStep Raises
  empties new is = subst (λ (a : Agenda J). IsStep old a) (sym is) (record { comes = step-emptied greatest_generation old; raises = inr (next-other old.generation) })

  pub resizes : (new : Agenda J) → new.entries ≡ old.entries → IsStep old new
  unfolding IsStep Raises
  resizes new same =
      let found : (q : ℕ × ℕ) → get new q ≡ get old q = λ q. ap (λ (es : List (Entry (ℕ × J))). item_of es q) same in
      record {
        comes = record { comes = λ q none there. absurd (let lost : is_some (get new q) ≡ is_some {T = ℕ × J} None = ap is_some (found q ∙ none) in cc) };
        raises = inl (λ q there. subst (λ (o : Option (ℕ × J)). IsSome o) (sym (found q)) there);
      }

  -- some jobs leave
  pub thins : (new : Agenda J) → IsSound nat_cmp most_entries old → IsPartOf new.entries old.entries → new ≡ with_rest greatest_generation old new.entries → IsStep old new
  unfolding IsStep Raises
  thins new sound part is = record { comes = record { comes = λ q none there. absurd (gone q none there) }; raises = go (cases_eq (length new.entries) (length old.entries)) }
    where
      gone : (q : ℕ × ℕ) → get old q ≡ None → IsSome (get new q) → ⊥
      gone q none there = let lost : is_some (get old q) ≡ is_some {T = ℕ × J} None = ap is_some none in
          let found : is_some (get old q) ≡ true = found-part new.entries old.entries q part sound.distinct there in cc

      go : (length new.entries ≡ length old.entries) ⊎ (length new.entries ≢ length old.entries) → ((q : ℕ × ℕ) → IsSome (get old q) → IsSome (get new q)) ⊎ (new.generation ≢ old.generation)
      go (inl all) = inl (λ q there. subst (λ (es : List (Entry (ℕ × J))). IsSome (item_of es q)) (sym (part-whole new.entries old.entries part all)) there)
      go (inr fewer) = inr (λ same. generation-apart old.generation (count old - length new.entries) (omega (arith, fewer, part-shorter new.entries old.entries part)) (omega (arith, sound.within, sound.limited))
          (sym (ap (λ (a : Agenda J). a.generation) is) ∙ same))

  -- many jobs come, where at most the capacity changed before
  pub fills : (mid new : Agenda J) (jobs : List (ℕ × J)) (given filled : List (ℕ × ℕ)) → mid.entries ≡ old.entries → mid.generation ≡ old.generation → SchedulesEach mid jobs given filled new → IsStep old new
  unfolding IsStep Raises
  fills mid new jobs given filled same generation s =
      let found : (q : ℕ × ℕ) → get mid q ≡ get old q = λ q. ap (λ (es : List (Entry (ℕ × J))). item_of es q) same in
      record {
        comes = record { comes = λ q none there. inl (s.comes q (found q ∙ none) there ∙ generation) };
        raises = inl (λ q there. let here : IsSome (get mid q) = subst (λ (o : Option (ℕ × J)). IsSome o) (sym (found q)) there in subst (λ (o : Option (ℕ × J)). IsSome o) (sym (s.keeps q here)) here);
      }
