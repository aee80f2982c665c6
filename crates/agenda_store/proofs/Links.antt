-- What a call leaves of the tickets, and of the jobs.
use Rattle.std.proofs.Common.{◌≡◌, ℕ, ◌<◌, ◌≤◌, cond, eqb, List, ◌∷◌, ◌++◌, length, map, Option, Some, None, Vec, sym, ◌∙◌, ap, subst, inl, inr, arith}
use Rattle.std.proofs.lemmas.Bool.{cases_eq}
use Rattle.std.proofs.lemmas.Bool.Decides.{nat_tests}
use Rattle.std.specs.declared.alloc.Global.{Global}
use Rattle.agenda.specs.Agenda.{Entry as Listed, Agenda, get, item_of, entry_of, pointer_of, most_entries, put_behind, with_entry, with_key, without as without_index, IsDistinct}
use Rattle.agenda.proofs.CallerLemmas.{IsPut, put as put_at_place, entries-with_entry, entries-with_key}
use Rattle.std.specs.Ordering.{is_eq, nat_cmp}
use Rattle.job_table.specs.Plan.{Job, put, put_at, job_at, without}
use Rattle.agenda_store.specs.Planner.{Entry, Each, ticket_of, ticket_at, job_in, IsApart, IsLinkedBy, IsLinked}
use Rattle.agenda_store.specs.declared.planner.Planner.{Planner}
use Rattle.job_table.specs.declared.rows.TheConstants.{MAX_BYTES}
use Rattle.agenda_store.proofs.Entries.{Entries, ticket_insert, apart_insert, apart_remove, each_insert, each_remove, below_more, entry_at, IsAt}
use Rattle.agenda_store.proofs.Jobs.{put_is, without_entry, job_at_entry, no_job, no_ticket}

abbrev pub Tickets : Type 0
Tickets = ℕ → Option (ℕ × ℕ)

-- the number is below this one
abbrev Below : ℕ → Entry → Type 0
Below next entry = entry.id < next

-- The job isn't too long.
abbrev Short : Entry → Type 0
Short entry = length entry.bytes.items ≤ MAX_BYTES

-- a deadline and an entry as a job
abbrev pub told_entry : ℕ × Entry → Job
told_entry x = record { id = x.1.id; deadline = x.0; attempts = x.1.attempts; bytes = x.1.bytes.items }

-- whether two numbers compare alike
pub alike : (a b : ℕ) → is_eq (nat_cmp a b) ≡ eqb a b
alike a b = elim (cases_eq a b) [
  | inl same ↦ grind (arith, nat_tests, same)
  | inr other ↦ grind (arith, nat_tests, other)
]

-- The entry of a number that has a ticket.
pub record IsFound (id : ℕ) (t : ℕ × ℕ) (xs : Entries) : Type 0 where
  pub entry : Listed (ℕ × Entry)
  pub job : item_of xs t ≡ Some entry.item
  pub at : job_at id (map job_in xs) ≡ Some (job_in entry)

-- Numbers that go on from a later one name no job.
pub linked_on : (f : Tickets) (next later : ℕ) (xs : Entries) → next ≤ later → IsLinkedBy f next xs → IsLinkedBy f later xs
linked_on f next later xs le linked = record {
  tickets = linked.tickets;
  apart = linked.apart;
  below = below_more next later xs le linked.below;
  short = linked.short;
  from_one = omega (arith, le, linked.from_one);
}

module _ (p : Planner) (linked : IsLinked p) where
  -- A number without a ticket names no job.
  pub absent : (id : ℕ) → ticket_at p id ≡ None
      → (job_at id (map job_in p.agenda.entries) ≡ None) × (without id (map job_in p.agenda.entries) ≡ map job_in p.agenda.entries)
  absent id none = no_job id p.agenda.entries (sym (linked.tickets id) ∙ none)

  -- After a job came, all are linked.
  pub inserted : (id : ℕ) (t : ℕ × ℕ) (deadline attempts : ℕ) (v : Vec ℕ Global) (g : Tickets) (b : Agenda Entry)
      → (id < p.next) × (job_at id (map job_in p.agenda.entries) ≡ None) → length v.items ≤ MAX_BYTES → b ≡ with_entry nat_cmp most_entries p.agenda t (deadline, record { id = id; attempts = attempts; bytes = v })
      → ((n : ℕ) → g n ≡ cond (eqb id n) (Some t) (ticket_at p n)) → IsLinkedBy g p.next b.entries
  inserted id t deadline attempts v g b new short is comes =
      let old = p.agenda.entries in
      let x : Listed (ℕ × Entry) = entry_of t (deadline, record { id = id; attempts = attempts; bytes = v }) in
      let place = put_at_place nat_cmp x old in
      let earlier = place.front in
      let later = place.back in
      let split : old ≡ earlier ++ later = place.before in
      let listed : b.entries ≡ earlier ++ x ∷ later = ap (λ (a : Agenda Entry). a.entries) is ∙ entries-with_entry nat_cmp most_entries p.agenda t (deadline, record { id = id; attempts = attempts; bytes = v }) ∙ place.after in
      let none = subst (λ (l : Entries). ticket_of id l ≡ None) split (no_ticket id old new.1) in
      record {
        tickets = λ n. comes n ∙ ap (λ (o : Option (ℕ × ℕ)). cond (eqb id n) (Some t) o) (linked.tickets n ∙ ap (ticket_of n) split)
            ∙ sym (ticket_insert n earlier later x none) ∙ ap (ticket_of n) (sym listed);
        apart = subst IsApart (sym listed) (apart_insert earlier later x (subst IsApart split linked.apart) none);
        below = subst (Each (Below p.next)) (sym listed)
            (each_insert (Below p.next) earlier later x new.0 (subst (Each (Below p.next)) split linked.below));
        short = subst (Each Short) (sym listed) (each_insert Short earlier later x short (subst (Each Short) split linked.short));
        from_one = linked.from_one;
      }

  module _ (id : ℕ) (t : ℕ × ℕ) (distinct : IsDistinct p.agenda.entries) (some : ticket_at p id ≡ Some t) where
    pub here : IsAt id t p.agenda.entries
    here = entry_at id t p.agenda.entries distinct (sym (linked.tickets id) ∙ some)

    pub found : IsFound id t p.agenda.entries
    found = record {
      entry = here.entry;
      job = here.job;
      at = ap (λ (l : Entries). job_at id (map job_in l)) here.split ∙ job_at_entry id here.before here.after here.entry here.none_before here.id_is;
    }

    pub without_is : without id (map job_in p.agenda.entries) ≡ map job_in (without_index t.0 p.agenda.entries)
    without_is = ap (λ (l : Entries). without id (map job_in l)) here.split
        ∙ without_entry id here.before here.after here.entry here.none_before here.id_is ∙ ap (λ (l : Entries). map job_in l) (sym here.others)

    -- No number names two of the others, and this one names none of them.
    rest_apart : IsApart (without_index t.0 p.agenda.entries) × (ticket_of id (without_index t.0 p.agenda.entries) ≡ None)
    rest_apart =
        let parts = apart_remove here.before here.after here.entry (subst IsApart here.split linked.apart) in
        let none = subst (λ (k : ℕ). ticket_of k (here.before ++ here.after) ≡ None) here.id_is parts.1 in
        (subst IsApart (sym here.others) parts.0, subst (λ (l : Entries). ticket_of id l ≡ None) (sym here.others) none)

    -- what each number finds among the others, and with the entry
    rest : (n : ℕ) → ticket_of n p.agenda.entries ≡ cond (eqb id n) (Some t) (ticket_of n (without_index t.0 p.agenda.entries))
    rest n =
        let others = here.before ++ here.after in
        let none = subst (λ (l : Entries). ticket_of id l ≡ None) here.others rest_apart.1 in
        let entry_none = subst (λ (k : ℕ). ticket_of k others ≡ None) (sym here.id_is) none in
        ap (ticket_of n) here.split ∙ ticket_insert n here.before here.after here.entry entry_none
        ∙ ap (λ (k : ℕ). cond (eqb k n) (Some (pointer_of here.entry)) (ticket_of n others)) here.id_is
        ∙ ap (λ (u : ℕ × ℕ). cond (eqb id n) (Some u) (ticket_of n others)) here.ticket_is
        ∙ ap (λ (l : Entries). cond (eqb id n) (Some t) (ticket_of n l)) (sym here.others)

    -- What each entry has, the others have, and this one.
    rest_each : (P : Entry → Type 0) → Each P p.agenda.entries → Each P (without_index t.0 p.agenda.entries) × P here.entry.item.1
    rest_each P all =
        let parts = each_remove P here.before here.after here.entry (subst (Each P) here.split all) in
        (subst (Each P) (sym here.others) parts.0, parts.1)

    -- The number of a job that left is below the next one, and names no other; and the job isn't too long.
    pub left_admitted : (here.entry.item.1.id < p.next) × (job_at here.entry.item.1.id (without id (map job_in p.agenda.entries)) ≡ None)
    left_admitted = (
      (rest_each (Below p.next) linked.below).1,
      subst (λ (k : ℕ). job_at k (without id (map job_in p.agenda.entries)) ≡ None) (sym here.id_is)
          (ap (job_at id) without_is ∙ (no_job id (without_index t.0 p.agenda.entries) rest_apart.1).0),
    )

    pub left_short : Short here.entry.item.1
    left_short = (rest_each Short linked.short).1

    -- After a job left, the others are linked.
    pub removed : (g : Tickets) (new : Entries) → new ≡ without_index t.0 p.agenda.entries
        → ((n : ℕ) → g n ≡ cond (eqb id n) None (ticket_at p n)) → IsLinkedBy g p.next new
    removed g new is gone = record {
      tickets = λ n. gone n ∙ now n ∙ ap (ticket_of n) (sym is);
      apart = subst IsApart (sym is) rest_apart.0;
      below = subst (Each (Below p.next)) (sym is) (rest_each (Below p.next) linked.below).0;
      short = subst (Each Short) (sym is) (rest_each Short linked.short).0;
      from_one = linked.from_one;
    }
      where
        now : (n : ℕ) → cond (eqb id n) None (ticket_at p n) ≡ ticket_of n (without_index t.0 p.agenda.entries)
        now n = elim (cases_eq id n) [
          | inl same ↦
              let none = subst (λ (k : ℕ). ticket_of k (without_index t.0 p.agenda.entries) ≡ None) same rest_apart.1 in
              grind (arith, nat_tests, none)
          | inr other ↦ grind (arith, nat_tests, rest n, linked.tickets n)
        ]

    module _ (deadline : ℕ) (b : Agenda Entry) (is : b ≡ with_key nat_cmp p.agenda t deadline) where
      abbrev moved_entry : Listed (ℕ × Entry)
      moved_entry = entry_of t (deadline, here.entry.item.1)

      abbrev others : Entries
      others = without_index t.0 p.agenda.entries

      place : IsPut nat_cmp moved_entry others
      place = put_at_place nat_cmp moved_entry others

      put_there : b.entries ≡ put_behind nat_cmp moved_entry others
      put_there = ap (λ (a : Agenda Entry). a.entries) is ∙ entries-with_key nat_cmp p.agenda t deadline here.entry.item here.job

      listed : b.entries ≡ place.front ++ moved_entry ∷ place.back
      listed = put_there ∙ place.after

      each_moved : (P : Entry → Type 0) → Each P p.agenda.entries → Each P b.entries
      each_moved P all =
          let parts = rest_each P all in
          subst (Each P) (sym listed) (each_insert P place.front place.back moved_entry parts.1 (subst (Each P) place.before parts.0))

      -- A job that gets another deadline keeps its ticket.
      pub relocated : IsLinkedBy (ticket_at p) p.next b.entries
      relocated =
          let earlier = place.front in
          let later = place.back in
          let rest_none = subst (λ (l : Entries). ticket_of id l ≡ None) place.before rest_apart.1 in
          let none = subst (λ (k : ℕ). ticket_of k (earlier ++ later) ≡ None) (sym here.id_is) rest_none in
          record {
            tickets = λ n. linked.tickets n ∙ rest n ∙ ap (λ (l : Entries). cond (eqb id n) (Some t) (ticket_of n l)) place.before
                ∙ ap (λ (k : ℕ). cond (eqb k n) (Some t) (ticket_of n (earlier ++ later))) (sym here.id_is)
                ∙ sym (ticket_insert n earlier later moved_entry none) ∙ ap (ticket_of n) (sym listed);
            apart = subst IsApart (sym listed) (apart_insert earlier later moved_entry (subst IsApart place.before rest_apart.0) none);
            below = each_moved (Below p.next) linked.below;
            short = each_moved Short linked.short;
            from_one = linked.from_one;
          }

      -- the jobs after one was moved
      pub move_is : map job_in b.entries ≡ put_at deadline (job_at id (map job_in p.agenda.entries)) (without id (map job_in p.agenda.entries))
      unfolding found
      move_is =
          ap (λ (l : Entries). map job_in l) put_there
          ∙ put_is moved_entry others
          ∙ ap (λ (l : List Job). put (job_in moved_entry) l) (sym without_is)
          ∙ ap (λ (o : Option Job). put_at deadline o (without id (map job_in p.agenda.entries))) (sym found.at)

-- the jobs after one came
pub came_is : (t : ℕ × ℕ) (deadline : ℕ) (entry : Entry) (a b : Agenda Entry) → b ≡ with_entry nat_cmp most_entries a t (deadline, entry)
    → map job_in b.entries ≡ put (record { id = entry.id; deadline = deadline; attempts = entry.attempts; bytes = entry.bytes.items }) (map job_in a.entries)
came_is t deadline entry a b is =
    ap (λ (a : Agenda Entry). map job_in a.entries) is ∙ ap (λ (l : Entries). map job_in l) (entries-with_entry nat_cmp most_entries a t (deadline, entry))
    ∙ put_is (entry_of t (deadline, entry)) a.entries
