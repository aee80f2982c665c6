-- What the calls answer, from what was found in the arena.
use Rattle.std.proofs.Common.{◌≡◌, ◌≢◌, ℕ, ℤ, Bool, true, List, [], ◌∷◌, length, Option, Some, None, is_some, Result, Ok, Err, IsSomeAnd, IfNone, IfOk, OnOk, OnErr, ◌↔◌, refl, sym, ap, ◌∙◌, subst, arith, lit<}
use Rattle.std.specs.{Option.option_map, Option.option_and_then, Result.result_ok, Ordering.int_cmp, Ordering.is_eq, declared.cmp.Ordering.Ordering, List.Contains}
use Rattle.sorted_arena.specs.{Chain.Entry as Listed, Chain.IsDistinct, Chain.first_pointer, Chain.last_pointer, Chain.item_of, ReallocationError.ReallocationError}
use Rattle.sorted_arena.specs.{Sorted.first_where, Sorted.key_of, Sorted.first_item, Sorted.get, Sorted.last_item, Sorted.with_key, Sorted.without_first, Sorted.without_last, Unique.pointer_in_way, declared.error.UniqueInsertionError.UniqueInsertionError}
use Rattle.sorted_arena.proofs.CallerLemmas.{first-named, last-named, last-none, with_key-none, without_first-none, without_last-none}
use Rattle.arena_c.specs.{declared.entry.Entry.Entry, Shown.Arena, Shown.entry_found, Shown.greatest_generation}
use Rattle.sorted_arena.specs.ReallocationError.TheVariants.{BeyondMaxCapacity as Beyond, AllocError as NoMemory}
use Rattle.arena_c.specs.Status.{ok, full, no_memory, closed, out_of_order}
use Rattle.arena_c.specs.Answer.{found_status, found_or, look_status, Becomes, Looks, Changes, status_of_reservation}

-- pointers are their own numbers
pub own-numbers : {X : Type 0} (o : Option X) → o ≡ option_map (λ x. x) o
own-numbers None = refl
own-numbers (Some x) = refl

-- what a search found in a content that was lent twice
pub found-at : (place : Arena → Option (ℕ × ℕ)) (a lent inside : Arena) (o : Option (ℕ × ℕ)) (found : Option Entry) → lent ≡ a → inside ≡ a → option_map (λ p. p) o ≡ place inside → found ≡ entry_found lent o
    → found ≡ entry_found a (place a)
found-at place a lent inside o found same_lent same_inside value is = is ∙ ap (λ (l : Arena). entry_found l o) same_lent ∙ ap (entry_found a) (own-numbers o ∙ value ∙ ap place same_inside)

-- the same by a key, which came through a reference
pub found-by : (test : Ordering → Bool) (a lent inside : Arena) (key same_key : ℤ) (o : Option (ℕ × ℕ)) (found : Option Entry) → same_key ≡ key → lent ≡ a → inside ≡ a
    → option_map (λ p. p) o ≡ first_where (λ e. test (int_cmp same_key (key_of e))) inside.entries → found ≡ entry_found lent o
    → found ≡ entry_found a (first_where (λ e. test (int_cmp key (key_of e))) a.entries)
found-by test a lent inside key same_key o found same_k same_lent same_inside value is =
    found-at (λ (b : Arena). first_where (λ e. test (int_cmp key (key_of e))) b.entries) a lent inside o found same_lent same_inside
    (value ∙ ap (λ (k : ℤ). first_where (λ e. test (int_cmp k (key_of e))) inside.entries) same_k) is

module _ {X : Type 0} (look : Arena → Option X) (a : Arena) (old new : Option Arena) (status : ℕ) (before after : X) (found : Option X)
    (taken : Some a ≡ old) (same : found ≡ look a) (told : status ≡ found_status found) (wrote : after ≡ found_or before found) where
  answered : status ≡ look_status look old
  answered = told ∙ ap found_status same ∙ ap (look_status look) taken

  written : after ≡ found_or before (option_and_then look old)
  written = wrote ∙ ap (found_or before) (same ∙ ap (option_and_then look) taken)

  -- a call that looked into an open arena
  pub looks : new ≡ Some a → Looks look old new status before after
  looks put = record { answer = answered; written = written; arena = put ∙ taken }

  -- a call that changed an open arena
  pub changes : (change : Arena → Arena → Type 0) (b : Arena) → new ≡ Some b → (found_status found ≡ ok → change a b) → (found_status found ≢ ok → b ≡ a)
      → Changes look change old new status before after
  changes change b put done kept = record {
    answer = answered;
    written = written;
    changed = λ is. subst (λ (n : Option Arena). Becomes change old n) (sym put) (subst (λ (o : Option Arena). Becomes change o (Some b)) taken (done (sym told ∙ is)));
    kept = λ other. put ∙ ap Some (kept (λ is. other (told ∙ is))) ∙ taken;
  }

-- two open arenas, the first of which was changed so to the second
pub becomes : (change : Arena → Arena → Type 0) (a b : Arena) (old new : Option Arena) → Some a ≡ old → new ≡ Some b → change a b → Becomes change old new
becomes change a b old new taken put fact = subst (λ (n : Option Arena). Becomes change old n) (sym put) (subst (λ (o : Option Arena). Becomes change o (Some b)) taken fact)

-- a status that tells whether an entry of an open arena has an equal key
pub equal-told : {P X : Type 0} (numbers : P → ℕ × ℕ) (result : Result P (X × UniqueInsertionError P)) (held : Option Arena) (a inside : Arena) (key same_key : ℤ) (Told : Type 0) → Some a ≡ held → inside ≡ a
    → same_key ≡ key → option_map numbers (pointer_in_way result) ≡ first_where (λ e. is_eq (int_cmp same_key (key_of e))) inside.entries → (Told ↔ (is_some (pointer_in_way result) ≡ true))
    → (Told ↔ IsSomeAnd held (λ b. is_some (first_where (λ e. is_eq (int_cmp key (key_of e))) b.entries) ≡ true))
equal-told {P = P} numbers result held a inside key same_key Told taken same_inside same_k fact told =
    subst (λ (h : Option Arena). Told ↔ IsSomeAnd h (λ b. is_some (first_where (λ e. is_eq (int_cmp key (key_of e))) b.entries) ≡ true)) taken
    ((λ h. sym there ∙ told.0 h), (λ p. told.1 (there ∙ p)))
  where
    same : first_where (λ e. is_eq (int_cmp same_key (key_of e))) inside.entries ≡ first_where (λ e. is_eq (int_cmp key (key_of e))) a.entries
    same = ap (λ (k : ℤ). first_where (λ e. is_eq (int_cmp k (key_of e))) inside.entries) same_k ∙ ap (λ (i : Arena). first_where (λ e. is_eq (int_cmp key (key_of e))) i.entries) same_inside

    mapped : (o : Option P) → is_some (option_map numbers o) ≡ is_some o
    mapped None = refl
    mapped (Some p) = refl

    there : is_some (pointer_in_way result) ≡ is_some (first_where (λ e. is_eq (int_cmp key (key_of e))) a.entries)
    there = sym (mapped (pointer_in_way result)) ∙ ap is_some (fact ∙ same)

-- the last entry is there exactly if there is a last item
module _ (a : Arena) (distinct : IsDistinct a.entries) where
  last-there : is_some (entry_found a (last_pointer a.entries)) ≡ is_some (last_item a.entries)
  last-there = go (last_pointer a.entries) refl
    where
      none : (es : List (Listed (ℤ × ℕ))) → length es ≡ 0 → last_item es ≡ None
      none [] empty = refl
      none (e ∷ es) empty = absurd (omega arith)

      some : (p : ℕ × ℕ) → is_some (entry_found a (Some p)) ≡ is_some (item_of a.entries p)
      some p = go' (item_of a.entries p) refl
        where
          go' : (o : Option (ℤ × ℕ)) → item_of a.entries p ≡ o → is_some (entry_found a (Some p)) ≡ is_some (item_of a.entries p)
          go' None is = rw is refl
          go' (Some x) is = rw is refl

      go : (o : Option (ℕ × ℕ)) → last_pointer a.entries ≡ o → is_some (entry_found a (last_pointer a.entries)) ≡ is_some (last_item a.entries)
      go None is = ap (λ (o : Option (ℕ × ℕ)). is_some (entry_found a o)) is ∙ ap (λ (o : Option (ℤ × ℕ)). is_some o) (sym (none a.entries (last-none a.entries is)))
      go (Some p) is = ap (λ (o : Option (ℕ × ℕ)). is_some (entry_found a o)) is ∙ some p ∙ ap (λ (o : Option (ℤ × ℕ)). is_some o) (last-named a.entries distinct p is).0

  -- a removal of the last entry by a call that found none
  pub kept-last : (found : Option Entry) (b : Arena) → found ≡ entry_found a (last_pointer a.entries) → b ≡ without_last greatest_generation a → found_status found ≢ ok → b ≡ a
  kept-last None b is after other = after ∙ without_last-none greatest_generation a (none (last_item a.entries) (ap (λ (o : Option Entry). is_some o) is ∙ last-there))
    where
      none : (o : Option (ℤ × ℕ)) → is_some {T = Entry} None ≡ is_some o → None ≡ o
      none None same = refl
      none (Some x) same = absurd (cc)
  kept-last (Some x) b is after other = absurd (other refl)

-- a removal of the first entry by a call that found none
module _ (a : Arena) where
  pub kept-first : (found : Option Entry) (b : Arena) → found ≡ entry_found a (first_pointer a.entries) → b ≡ without_first greatest_generation a → found_status found ≢ ok → b ≡ a
  kept-first None b is after other = after ∙ without_first-none greatest_generation a (none a.entries refl)
    where
      none : (es : List (Listed (ℤ × ℕ))) → a.entries ≡ es → None ≡ first_item es
      none [] same = refl
      none (e ∷ es) same =
          let here : item_of a.entries (e.index, e.generation) ≡ Some e.item = first-named a.entries (e.index, e.generation) (ap first_pointer (sym same)) ∙ ap first_item same in
          let found : is_some (entry_found a (first_pointer a.entries)) ≡ true = ap (λ (zs : List (Listed (ℤ × ℕ))). is_some (entry_found a (first_pointer zs))) same ∙ rw here refl in
          absurd (let lost : is_some {T = Entry} None ≡ is_some (entry_found a (first_pointer a.entries)) = ap (λ (o : Option Entry). is_some o) is in cc)
  kept-first (Some x) b is after other = absurd (other refl)

  -- another key, by a call that found no entry
  pub kept-rekeyed : (p : ℕ × ℕ) (k : ℤ) (found : Option ℤ) (b : Arena) → found ≡ option_map (λ (x : ℤ × ℕ). x.0) (get a p) → b ≡ with_key int_cmp a p k → found_status found ≢ ok → b ≡ a
  kept-rekeyed p k None b is after other = after ∙ with_key-none int_cmp a p k (none (get a p) is)
    where
      none : (o : Option (ℤ × ℕ)) → None ≡ option_map (λ (x : ℤ × ℕ). x.0) o → None ≡ o
      none None same = refl
      none (Some x) same = absurd (cc)
  kept-rekeyed p k (Some x) b is after other = absurd (other refl)

-- the old key that a call found at a pointer
pub found-rekeyed : (r : Result ℤ ℤ) (named : Option (ℤ × ℕ)) → IfOk r (λ before. option_map (λ (x : ℤ × ℕ). x.0) named ≡ Some before) → OnErr r (named ≡ None)
    → result_ok r ≡ option_map (λ (x : ℤ × ℕ). x.0) named
found-rekeyed (Ok x) named before stale = sym before
found-rekeyed (Err e) named before stale = sym (ap (option_map (λ (x : ℤ × ℕ). x.0)) stale)

-- a reservation has one of these statuses
pub known-reservation : (r : Result (Unit {0}) ReallocationError) → Contains (ok ∷ full ∷ no_memory ∷ closed ∷ out_of_order ∷ []) (status_of_reservation r)
known-reservation (Ok u) = (0, lit< tt, refl)
known-reservation (Err Beyond) = (1, lit< tt, refl)
known-reservation (Err NoMemory) = (2, lit< tt, refl)

-- what holds if a reservation has the status OK
pub reserved : {P : Type 0} (r : Result (Unit {0}) ReallocationError) (status : ℕ) → status ≡ status_of_reservation r → status ≡ ok → OnOk r P → P
reserved (Ok u) status is done fact = fact
reserved (Err Beyond) status is done fact = absurd (omega arith)
reserved (Err NoMemory) status is done fact = absurd (omega arith)

-- a removal by a key, which came through a reference, that found none
pub kept-key : (a inside b : Arena) (key same_key : ℤ) (result : Option (ℤ × ℕ)) (found : Option Entry) → inside ≡ a → same_key ≡ key
    → found ≡ entry_found a (first_where (λ e. is_eq (int_cmp key (key_of e))) a.entries)
    → result ≡ option_and_then (get inside) (first_where (λ e. is_eq (int_cmp same_key (key_of e))) inside.entries)
    → IfNone result (b ≡ inside) → found_status found ≢ ok → b ≡ a
kept-key a inside b key same_key result found is same is_found value none other =
    go (first_where (λ e. is_eq (int_cmp key (key_of e))) a.entries) is_found
    (subst (λ (i : Arena). result ≡ option_and_then (get i) (first_where (λ e. is_eq (int_cmp key (key_of e))) i.entries)) is
    (subst (λ (k : ℤ). result ≡ option_and_then (get inside) (first_where (λ e. is_eq (int_cmp k (key_of e))) inside.entries)) same value))
  where
    unchanged : result ≡ None → b ≡ a
    unchanged nothing = subst (λ r. IfNone r (b ≡ inside)) nothing none ∙ is

    here : (p : ℕ × ℕ) (pair : Option (ℤ × ℕ)) → get a p ≡ pair → found ≡ entry_found a (Some p) → result ≡ get a p → b ≡ a
    here p None at is_found is_result = unchanged (is_result ∙ at)
    here p (Some x) at is_found is_result = let one : is_some found ≡ true = rw is_found (rw at refl) in absurd (other (rw one refl))

    go : (p : Option (ℕ × ℕ)) → found ≡ entry_found a p → result ≡ option_and_then (get a) p → b ≡ a
    go None is_found is_result = unchanged is_result
    go (Some p) is_found is_result = here p (get a p) refl is_found is_result
