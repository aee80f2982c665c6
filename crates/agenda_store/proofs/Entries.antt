-- The entries of an agenda by their numbers.
use Rattle.std.proofs.Common.{◌≡◌, ◌≢◌, inl, inr, ℕ, ◌<◌, ◌≤◌, cond, eqb, List, [], ◌∷◌, ◌++◌, Option, Some, None, refl, sym, ◌∙◌, ap, subst, arith}
use Rattle.std.proofs.lemmas.Bool.{cases_eq}
use Rattle.std.proofs.lemmas.Bool.Decides.{nat_tests}
use Rattle.agenda.specs.Agenda.{Entry as Listed, item_of, pointer_of, without, IsDistinct}
use Rattle.agenda.proofs.CallerLemmas.{found-first, found-behind, left-first, left-behind, distinct-rest, index-apart}
use Rattle.agenda_store.specs.Planner.{Entry, Each, ticket_of, IsApart}

abbrev pub Entries : Type 0
Entries = List (Listed (ℕ × Entry))

-- no entry has the number
pub none_cons : (id : ℕ) (y : Listed (ℕ × Entry)) (xs : Entries) → ticket_of id (y ∷ xs) ≡ None → (y.item.1.id ≢ id) × (ticket_of id xs ≡ None)
none_cons id y xs none = elim (cases_eq y.item.1.id id) [
  | inl same ↦ absurd (grind (arith, nat_tests, none))
  | inr other ↦ (other, grind (arith, nat_tests, none))
]

cons_none : (id : ℕ) (y : Listed (ℕ × Entry)) (xs : Entries) → y.item.1.id ≢ id → ticket_of id xs ≡ None → ticket_of id (y ∷ xs) ≡ None
cons_none id y xs other none = grind (arith, nat_tests)

-- one more entry has its own number, and each other number has the ticket that it had
pub ticket_insert : (id : ℕ) (a b : Entries) (x : Listed (ℕ × Entry)) → ticket_of x.item.1.id (a ++ b) ≡ None → ticket_of id (a ++ x ∷ b) ≡ cond (eqb x.item.1.id id) (Some (pointer_of x)) (ticket_of id (a ++ b))
ticket_insert id [] b x none = refl
ticket_insert id (y ∷ a) b x none =
    let parts = none_cons x.item.1.id y (a ++ b) none in
    let rest = ticket_insert id a b x parts.1 in
    elim (cases_eq y.item.1.id id) [
      | inl same ↦ grind (arith, nat_tests, rest, parts.0)
      | inr other ↦ grind (arith, nat_tests, rest, parts.0)
    ]

pub apart_insert : (a b : Entries) (x : Listed (ℕ × Entry)) → IsApart (a ++ b) → ticket_of x.item.1.id (a ++ b) ≡ None → IsApart (a ++ x ∷ b)
apart_insert [] b x apart none = (none, apart)
apart_insert (y ∷ a) b x apart none =
    let parts = none_cons x.item.1.id y (a ++ b) none in
    let first = ticket_insert y.item.1.id a b x parts.1 in
    (grind (arith, nat_tests, first, parts.0, apart.0), apart_insert a b x apart.1 parts.1)

pub apart_remove : (a b : Entries) (x : Listed (ℕ × Entry)) → IsApart (a ++ x ∷ b) → IsApart (a ++ b) × (ticket_of x.item.1.id (a ++ b) ≡ None)
apart_remove [] b x apart = (apart.1, apart.0)
apart_remove (y ∷ a) b x apart =
    let rest = apart_remove a b x apart.1 in
    let first = ticket_insert y.item.1.id a b x rest.1 in
    elim (cases_eq x.item.1.id y.item.1.id) [
      | inl same ↦ absurd (grind (arith, nat_tests, first, apart.0))
      | inr other ↦
          let none : ticket_of y.item.1.id (a ++ b) ≡ None = grind (arith, nat_tests, first, apart.0) in
          ((none, rest.0), cons_none x.item.1.id y (a ++ b) (λ e. other (sym e)) rest.1)
    ]

pub each_insert : (P : Entry → Type 0) (a b : Entries) (x : Listed (ℕ × Entry)) → P x.item.1 → Each P (a ++ b) → Each P (a ++ x ∷ b)
each_insert P [] b x p all = (p, all)
each_insert P (y ∷ a) b x p all = (all.0, each_insert P a b x p all.1)

pub each_remove : (P : Entry → Type 0) (a b : Entries) (x : Listed (ℕ × Entry)) → Each P (a ++ x ∷ b) → Each P (a ++ b) × P x.item.1
each_remove P [] b x all = (all.1, all.0)
each_remove P (y ∷ a) b x all = let rest = each_remove P a b x all.1 in ((all.0, rest.0), rest.1)

pub below_more : (n m : ℕ) (xs : Entries) → n ≤ m → Each (λ job. job.id < n) xs → Each (λ job. job.id < m) xs
below_more n m [] le all = tt
below_more n m (x ∷ xs) le all = let first = all.0 in (omega (arith, first), below_more n m xs le all.1)

-- The entry of a number stands between others, and its ticket names it.
pub record IsAt (id : ℕ) (t : ℕ × ℕ) (xs : Entries) : Type 0 where
  pub before : Entries
  pub entry : Listed (ℕ × Entry)
  pub after : Entries
  pub split : xs ≡ before ++ entry ∷ after
  pub id_is : entry.item.1.id ≡ id
  pub ticket_is : pointer_of entry ≡ t
  pub others : without t.0 xs ≡ before ++ after
  pub job : item_of xs t ≡ Some entry.item
  pub none_before : ticket_of id before ≡ None

abbrev some_ticket : ℕ × ℕ → Option (ℕ × ℕ)
some_ticket t = Some t

pub entry_at : (id : ℕ) (t : ℕ × ℕ) (xs : Entries) → IsDistinct xs → ticket_of id xs ≡ Some t → IsAt id t xs
entry_at id t [] distinct is = absurd (cc)
entry_at id t (x ∷ xs) distinct is = elim (cases_eq x.item.1.id id) [
  | inl same ↦
      let ticket : some_ticket (pointer_of x) ≡ some_ticket t = grind (arith, nat_tests, is) in
      let ticket_is : pointer_of x ≡ t = cc in
      record {
        before = [];
        entry = x;
        after = xs;
        split = refl;
        id_is = same;
        ticket_is = ticket_is;
        others = left-first x xs t ticket_is;
        job = found-first x xs t ticket_is;
        none_before = refl;
      }
  | inr other ↦
      let rest = entry_at id t xs (distinct-rest x xs distinct) (grind (arith, nat_tests, is)) in
      let apart = index-apart x xs t rest.entry.item distinct rest.job in
      record {
        before = x ∷ rest.before;
        entry = rest.entry;
        after = rest.after;
        split = ap (λ (l : Entries). x ∷ l) rest.split;
        id_is = rest.id_is;
        ticket_is = rest.ticket_is;
        others = left-behind x xs t apart ∙ ap (λ (l : Entries). x ∷ l) rest.others;
        job = found-behind x xs t apart ∙ rest.job;
        none_before = cons_none id x rest.before other rest.none_before;
      }
]
