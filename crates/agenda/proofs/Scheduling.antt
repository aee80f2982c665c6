-- Jobs that are scheduled one after another.
use Rattle.std.proofs.Common.{◌≡◌, ◌≢◌, ℕ, ◌+◌, ◌≤◌, Bool, true, false, inl, inr, List, [], ◌∷◌, ◌++◌, map, length, drop, append_assoc, Option, Some, None, IsSome, is_some, if◌then◌else◌, refl, sym, ap, ◌∙◌, arith}
use Rattle.std.proofs.lemmas.{List.append-nil, List.map-append, List.length-append}
use Rattle.std.specs.{List.AllByRecursion, Ordering.nat_cmp, Ordering.is_lt}
use Rattle.listing.specs.Chain.{times}
use Rattle.agenda.specs.Agenda.{Agenda, Entry, most_entries, entry_of, key_of, put_behind, get, count, with_entry, IsFree, Keeps}
use Rattle.agenda.specs.{Bulk.entries_of, Bulk.with_all, Scheduling.SchedulesEach}
use Rattle.agenda.proofs.Reached.{all-more}
use Rattle.listing.proofs.CallerLemmas.{entries-with_entry, generation-with_entry, capacity-with_entry, count-with_entry, entry-updates, step-with_entry, get-free}

module _ {J : Type 0} where
  some-found : (o : Option (ℕ × J)) → IsSome o → o ≡ None → ⊥
  some-found o there none = let lost : is_some o ≡ is_some {T = ℕ × J} None = ap is_some none in cc

  with_all-more : (xs : List (Entry (ℕ × J))) (x : Entry (ℕ × J)) (es : List (Entry (ℕ × J))) → with_all (xs ++ x ∷ []) es ≡ put_behind nat_cmp x (with_all xs es)
  with_all-more [] x es = refl
  with_all-more (y ∷ xs) x es = with_all-more xs x (put_behind nat_cmp y es)

  entries_of-more : (ts : List (ℕ × ℕ)) (jobs : List (ℕ × J)) (t : ℕ × ℕ) (job : ℕ × J) → length ts ≡ length jobs → entries_of (ts ++ t ∷ []) (jobs ++ job ∷ []) ≡ entries_of ts jobs ++ entry_of t job ∷ []
  entries_of-more [] [] t job same = refl
  entries_of-more [] (j ∷ jobs) t job same = absurd (omega (arith, same))
  entries_of-more (s ∷ ts) [] t job same = absurd (omega (arith, same))
  entries_of-more (s ∷ ts) (j ∷ jobs) t job same = ap (λ es. entry_of s j ∷ es) (entries_of-more ts jobs t job (omega (arith, same)))

  as_many : (f : ℕ × ℕ → Option (ℕ × J)) (ts : List (ℕ × ℕ)) (jobs : List (ℕ × J)) → map f ts ≡ map Some jobs → length ts ≡ length jobs
  as_many f [] [] same = refl
  as_many f [] (j ∷ jobs) same = absurd (cc)
  as_many f (t ∷ ts) [] same = absurd (cc)
  as_many f (t ∷ ts) (j ∷ jobs) same = let rest : map f ts ≡ map Some jobs = cc in omega (arith, as_many f ts jobs rest)

  -- what tickets name stays, where none of them is the one that changes
  still-named : (f g : ℕ × ℕ → Option (ℕ × J)) (t : ℕ × ℕ) → f t ≡ None → ((q : ℕ × ℕ) → q ≢ t → g q ≡ f q) → (ts : List (ℕ × ℕ)) (jobs : List (ℕ × J)) → map f ts ≡ map Some jobs → map g ts ≡ map Some jobs
  still-named f g t none others [] jobs named = named
  still-named f g t none others (s ∷ ts) [] named = absurd (cc)
  still-named f g t none others (s ∷ ts) (j ∷ jobs) named =
      let first : f s ≡ Some j = cc in
      let rest : map f ts ≡ map Some jobs = cc in
      let apart : s ≢ t = λ same. absurd (let lost : Some j ≡ None = sym first ∙ ap f same ∙ none in cc) in
      ap (λ o. o ∷ map g ts) (others s apart ∙ first) ∙ ap (λ os. Some j ∷ os) (still-named f g t none others ts jobs rest)

  occupied-put : (i : ℕ) (x : Entry (ℕ × J)) (es : List (Entry (ℕ × J))) → times i es ≤ times i (put_behind nat_cmp x es)
  occupied-put i x [] = omega arith
  occupied-put i x (e ∷ es) = go (is_lt (nat_cmp (key_of x) (key_of e))) (occupied-put i x es)
    where
      go : (b : Bool) → times i es ≤ times i (put_behind nat_cmp x es) → times i (e ∷ es) ≤ times i (if b then x ∷ e ∷ es else e ∷ put_behind nat_cmp x es)
      go true more = omega arith
      go false more = omega (arith, more)

  pub schedules-none : (a : Agenda J) (given : List (ℕ × ℕ)) → SchedulesEach a [] given given a
  schedules-none a given = record {
    tickets = [];
    filled_is = sym (append-nil given);
    entries = refl;
    named = refl;
    free = tt;
    keeps = λ q there. refl;
    comes = λ q none there. absurd (some-found (get a q) there none);
    occupies = λ i. omega arith;
    count = omega arith;
    capacity = refl;
    generation = refl;
  }

  -- one more job
  module _ (old now new : Agenda J) (jobs : List (ℕ × J)) (given filled more : List (ℕ × ℕ)) (t : ℕ × ℕ) (job : ℕ × J) (s : SchedulesEach old jobs given filled now)
      (free : IsFree now t) (is : new ≡ with_entry nat_cmp most_entries now t job) (room : count now + 1 ≤ now.capacity) (pushed : more ≡ filled ++ t ∷ []) where
    none : get now t ≡ None
    none = get-free now t free

    listed : new.entries ≡ put_behind nat_cmp (entry_of t job) now.entries
    listed = rw is (entries-with_entry nat_cmp most_entries now t job)

    changed : get new t ≡ Some job
    changed = rw is ((entry-updates nat_cmp most_entries now t job free).changed)

    others : (q : ℕ × ℕ) → q ≢ t → get new q ≡ get now q
    others q apart = rw is ((entry-updates nat_cmp most_entries now t job free).others q apart)

    generation : new.generation ≡ old.generation
    generation = rw is (generation-with_entry nat_cmp most_entries now t job) ∙ s.generation

    keeps : Keeps old new
    keeps q there =
        let same = s.keeps q there in
        others q (λ at. some-found (get old q) there (sym same ∙ ap (get now) at ∙ none)) ∙ same

    comes : (q : ℕ × ℕ) → get old q ≡ None → IsSome (get new q) → q.1 ≡ old.generation
    comes q absent there = go (get now q) refl
      where
        go : (o : Option (ℕ × J)) → get now q ≡ o → q.1 ≡ old.generation
        go (Some x) is_named = s.comes q absent (ap is_some is_named)
        go None is_none = elim ((step-with_entry nat_cmp most_entries now t job free).comes q is_none (rw is at there)) [
          | inl at ↦ at ∙ s.generation
          | inr at ↦ at ∙ generation-with_entry nat_cmp most_entries now t job ∙ s.generation
        ]

    pub schedules-more : SchedulesEach old (jobs ++ job ∷ []) given more new
    schedules-more = record {
      tickets = s.tickets ++ t ∷ [];
      filled_is = pushed ∙ ap (λ ts. ts ++ t ∷ []) s.filled_is ∙ append_assoc given s.tickets (t ∷ []);
      entries =
          listed ∙ ap (put_behind nat_cmp (entry_of t job)) s.entries
          ∙ sym (ap (λ xs. with_all xs old.entries) (entries_of-more s.tickets jobs t job (as_many (get now) s.tickets jobs s.named)) ∙ with_all-more (entries_of s.tickets jobs) (entry_of t job) old.entries);
      named =
          map-append (get new) s.tickets (t ∷ []) ∙ ap (λ os. os ++ get new t ∷ []) (still-named (get now) (get new) t none others s.tickets jobs s.named)
          ∙ ap (λ o. map Some jobs ++ o ∷ []) changed ∙ sym (map-append Some jobs (job ∷ []));
      free = all-more (IsFree old) s.tickets t s.free (record { of_generation = free.of_generation ∙ s.generation; unused = omega (arith, s.occupies t.0, free.unused) });
      keeps = keeps;
      comes = comes;
      occupies = λ i. omega (arith, s.occupies i, occupied-put i (entry_of t job) now.entries, ap (times i) listed);
      count = omega (arith, s.count, ap count is, count-with_entry nat_cmp most_entries now t job, length-append jobs (job ∷ []));
      capacity = rw is (capacity-with_entry nat_cmp most_entries now t job room) ∙ s.capacity;
      generation = generation;
    }

-- the tickets that were appended
pub appended : {X : Type 0} (given filled more : List X) → filled ≡ given ++ more → drop (length given) filled ≡ more
appended {X} given filled more is = ap (drop (length given)) is ∙ go given
  where
    go : (xs : List X) → drop (length xs) (xs ++ more) ≡ more
    go [] = refl
    go (x ∷ xs) = go xs

-- what is free for an agenda is so for one with the same jobs and generation
pub all-free : {J : Type 0} (old mid : Agenda J) (ts : List (ℕ × ℕ)) → mid.entries ≡ old.entries → mid.generation ≡ old.generation → AllByRecursion (IsFree mid) ts → AllByRecursion (IsFree old) ts
all-free old mid [] same of all = tt
all-free old mid (t ∷ ts) same of all =
    (record { of_generation = all.0.of_generation ∙ of; unused = ap (times t.0) (sym same) ∙ all.0.unused }, all-free old mid ts same of all.1)
