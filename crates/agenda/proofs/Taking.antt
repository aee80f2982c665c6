-- Jobs that are due and leave one after another.
use Rattle.std.proofs.Common.{◌≡◌, ℕ, ◌+◌, ◌≤◌, ◌<◌, List, [], ◌∷◌, ◌++◌, length, length-append, append_assoc, Some, None, refl, sym, ap, subst, ◌∙◌, arith}
use Rattle.std.specs.{List.All, List.AllByRecursion, Ordering.nat_cmp, Ordering.is_gt}
use Rattle.std.proofs.lemmas.List.Elements.{All-from_recursion}
use Rattle.listing.specs.{Gap.first_of, Listing.first_item, Listing.behind_first}
use Rattle.agenda.specs.Agenda.{Agenda, Entry, greatest_generation, key_of, given_job, entries_until, entries_above, first_due, with_left, with_rest, with_passing, without_first, AreSorted}
use Rattle.agenda.proofs.Reached.{until-taken, above-left, until-cut, none-first, all-more}
use Rattle.agenda.proofs.Given.{HasBehind, behind-none, behind-more}
use Rattle.agenda.proofs.Parts.{IsPartOf, part-filter}
use Rattle.agenda.proofs.Removing.{RemovesMany, removes-none, removes-more, removes-rest}

module _ {J : Type 0} (time : ℕ) (old : Agenda J) (given : List ((ℕ × ℕ) × ℕ × J)) where
  -- These jobs were taken, and stand at the end of the vector.
  pub record Takes (now : Agenda J) (filled : List ((ℕ × ℕ) × ℕ × J)) (n : ℕ) : Type 0 where
    pub taken : List (Entry (ℕ × J))
    pub counted : length taken ≡ n
    pub cut : old.entries ≡ taken ++ now.entries
    pub reached : AllByRecursion (λ e. key_of e ≤ time) taken
    pub removes : RemovesMany greatest_generation old now (length taken)
    pub behind : HasBehind given_job given filled taken

  pub takes-none : (filled : List ((ℕ × ℕ) × ℕ × J)) → filled ≡ given → Takes old filled 0
  takes-none filled is = record { taken = []; counted = refl; cut = refl; reached = tt; removes = removes-none greatest_generation old; behind = behind-none given_job given filled is }

  module _ (now : Agenda J) (filled : List ((ℕ × ℕ) × ℕ × J)) (n : ℕ) (t : Takes now filled n) where
    -- a first job that is due
    module _ (x : (ℕ × ℕ) × ℕ × J) (first : first_of now.entries ≡ Some (given_job x)) (due : x.1 ≤ time) where
      first-cut : now.entries ≡ given_job x ∷ behind_first now.entries
      first-cut = go now.entries first
        where
          go : (es : List (Entry (ℕ × J))) → first_of es ≡ Some (given_job x) → es ≡ given_job x ∷ behind_first es
          go [] is = absurd (cc)
          go (e ∷ es) is = let same : e ≡ given_job x = cc in ap (λ f. f ∷ es) same

      more-cut : old.entries ≡ (t.taken ++ given_job x ∷ []) ++ behind_first now.entries
      more-cut = t.cut ∙ ap (λ es. t.taken ++ es) first-cut ∙ sym (append_assoc t.taken (given_job x ∷ []) (behind_first now.entries))

      more-reached : AllByRecursion (λ e. key_of e ≤ time) (t.taken ++ given_job x ∷ [])
      more-reached = all-more (λ (e : Entry (ℕ × J)). key_of e ≤ time) t.taken (given_job x) t.reached due

      -- it is one of those that are due
      pub takes-fewer : n + 1 ≤ length (entries_until nat_cmp time old.entries)
      takes-fewer = omega (
        arith,
        ap length (until-cut time old.entries (t.taken ++ given_job x ∷ []) (behind_first now.entries) more-cut more-reached),
        length-append (t.taken ++ given_job x ∷ []) (entries_until nat_cmp time (behind_first now.entries)),
        length-append t.taken (given_job x ∷ []),
        t.counted,
      )

      pub takes-more : (new : Agenda J) (more : List ((ℕ × ℕ) × ℕ × J)) → new ≡ without_first greatest_generation now → more ≡ filled ++ x ∷ [] → Takes new more (n + 1)
      unfolding without_first
      takes-more new more gone is =
          let left : new ≡ with_left greatest_generation now (behind_first now.entries) = gone ∙ rw (ap first_item first-cut) refl in
          record {
            taken = t.taken ++ given_job x ∷ [];
            counted = omega (arith, length-append t.taken (given_job x ∷ []), t.counted);
            cut = more-cut ∙ ap (λ es. (t.taken ++ given_job x ∷ []) ++ es) (sym (ap (λ (a : Agenda J). a.entries) left));
            reached = more-reached;
            removes = let many : length t.taken + 1 ≡ length (t.taken ++ given_job x ∷ []) = omega (arith, length-append t.taken (given_job x ∷ [])) in
                rw (← many) (removes-more greatest_generation old now new (length t.taken) [] (behind_first now.entries) (given_job x) t.removes first-cut left);
            behind = behind-more given_job given filled more t.taken x t.behind is;
          }

    pub takes-rest : now ≡ with_rest greatest_generation old now.entries
    takes-rest = removes-rest greatest_generation old now (length t.taken) now.entries t.removes refl

    -- no job is due any more
    module _ (sorted : AreSorted nat_cmp now.entries) (none : first_due time now.entries ≡ None) where
      pub takes-behind : HasBehind given_job given filled (entries_until nat_cmp time old.entries)
      takes-behind = rw (until-taken time old.entries t.taken now.entries t.cut t.reached (none-first time now.entries sorted none)) t.behind

      pub takes-left : entries_above nat_cmp time old.entries ≡ now.entries
      takes-left = above-left time old.entries t.taken now.entries t.cut t.reached (none-first time now.entries sorted none)

      pub takes-part : IsPartOf now.entries old.entries
      takes-part = subst (λ (es : List (Entry (ℕ × J))). IsPartOf es old.entries) takes-left (part-filter (λ e. is_gt (nat_cmp (key_of e) time)) old.entries)

      pub takes-after : now ≡ with_passing greatest_generation old (λ e. is_gt (nat_cmp (key_of e) time))
      unfolding with_passing
      takes-after = removes-rest greatest_generation old now (length t.taken) (entries_above nat_cmp time old.entries) t.removes (sym takes-left)

      pub takes-later : All (λ e. time < key_of e) now.entries
      takes-later = All-from_recursion _ _ (none-first time now.entries sorted none)
