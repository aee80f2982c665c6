-- The rows that were read stand for the plan of the jobs in order.
use Rattle.std.proofs.Common.{◌≡◌, ◌<◌, ◌≤◌, inl, inr, ℕ, pos, negsuc, eqb, cond, Bool, true, false, List, [], ◌∷◌, ◌++◌, length, map, filter, Some, None, refl, sym, ap, ◌∙◌, subst, arith, Ordering, Less, Equal, Greater, is_lt, is_eq, length-append}
use Rattle.std.specs.List.{All, AllByRecursion}
use Rattle.std.specs.List.Sorted.{IsPermutation}
use Rattle.std.proofs.lemmas.List.Sorted.{length_permutation, All-permutation}
use Rattle.std.proofs.lemmas.List.Elements.{filter-append}
use Rattle.std.proofs.lemmas.List.{length-map}
use Rattle.std.proofs.lemmas.Cmp.{tied_itself}
use Rattle.std.proofs.lemmas.Bool.{cases_eq}
use Rattle.std.proofs.lemmas.Bool.Decides.{nat_tests}
use Rattle.sqlite_value.specs.declared.value.Value.TheVariants.{Int}
use Rattle.sqlite_value.specs.Order.{Row, value_cmp}
use Rattle.sqlite_value.proofs.OrderLemmas.{value_cmp_total}
use Rattle.sqlite_trees.specs.Tree.{IsTable, has_rowid, rowid}
use Rattle.sqlite_trees.proofs.ListLemmas.{IsPermutation-filter}
use Rattle.job_table.specs.Plan.{Job, job_at, IsInOrder, HasDistinctNumbers}
use Rattle.job_table.specs.Table.{next_row, row_of, row_under, IsInTurn, StandsBy}
use Rattle.job_table.specs.Entries.{job_of, entry_row, plan_of, turn_at, IsBefore, IsFit, IsChecked}
use Rattle.job_table.specs.declared.rows.Entry.{Entry}
use Rattle.job_table.specs.declared.rows.TheConstants.{MAX_BYTES}
use Rattle.job_table.proofs.Found.{none_later}
use Rattle.job_table.proofs.Standing.{apart_ints}

abbrev has_id : ℕ → Entry → Bool
has_id id e = eqb e.id id

rowid_is : (a b : ℕ) → is_eq (value_cmp (Int (pos a)) (Int (pos b))) ≡ eqb a b
rowid_is a b = elim (cases_eq a b) [
  | inl same ↦ let yes : eqb a b ≡ true = grind (arith, nat_tests) in rw yes (subst (λ (n : ℕ). is_eq (value_cmp (Int (pos a)) (Int (pos n))) ≡ true) same (ap is_eq (tied_itself value_cmp_total (Int (pos a)))))
  | inr other ↦ let no : eqb a b ≡ false = grind (arith, nat_tests) in rw no (apart_ints (pos a) (pos b) (λ e. other (cc)))
]

-- the rows of a number are those of the jobs with it
under : (id : ℕ) (es : List Entry) → filter (has_rowid (pos id)) (map entry_row es) ≡ map entry_row (filter (has_id id) es)
under id [] = refl
under id (e ∷ es) = rw (rowid_is e.id id) (go (eqb e.id id) (under id es))
  where
    go : (b : Bool) → filter (has_rowid (pos id)) (map entry_row es) ≡ map entry_row (filter (has_id id) es)
        → cond b (entry_row e ∷ filter (has_rowid (pos id)) (map entry_row es)) (filter (has_rowid (pos id)) (map entry_row es)) ≡ map entry_row (cond b (e ∷ filter (has_id id) es) (filter (has_id id) es))
    go true more = ap (λ l. entry_row e ∷ l) more
    go false more = more

none_negative : (n : ℕ) (es : List Entry) → filter (has_rowid (negsuc n)) (map entry_row es) ≡ []
none_negative n [] = refl
none_negative n (e ∷ es) = rw (apart_ints (pos e.id) (negsuc n) (λ x. absurd (cc))) (none_negative n es)

not_less : (o : Ordering) → is_eq o ≡ true → is_lt o ≡ false
not_less Less e = absurd (cc)
not_less Equal e = refl
not_less Greater e = refl

-- a table has at most one row of a rowid
once : (id : _) (rows : List Row) → IsTable rows → length (filter (has_rowid id) rows) ≤ 1
once id [] table = omega arith
once id (r ∷ rows) table = go (has_rowid id r) refl (once id rows table.1)
  where
    go : (b : Bool) → has_rowid id r ≡ b → length (filter (has_rowid id) rows) ≤ 1 → length (cond b (r ∷ filter (has_rowid id) rows) (filter (has_rowid id) rows)) ≤ 1
    go false e more = more
    go true e more = rw (none_later id r rows (not_less (value_cmp (rowid r) (Int id)) e) table) (omega arith)

few_same : {X : Type 0} (xs ys : List X) → IsPermutation xs ys → length xs ≤ 1 → ys ≡ xs
few_same {X = X} [] [] h few = refl
few_same {X = X} [] (y ∷ ys) h few = absurd (let same = length_permutation [] (y ∷ ys) h in omega (arith, same))
few_same {X = X} (x ∷ z ∷ xs) ys h few = absurd (omega (arith, few))
few_same {X = X} (x ∷ []) ys h few = alone ys (length_permutation (x ∷ []) ys h) (All-permutation (λ y. y ≡ x) (x ∷ []) ys h (λ i d low. let first : i ≡ 0 = omega arith in rw first))
  where
    alone : (ys : List X) → length ys ≡ 1 → All (λ y. y ≡ x) ys → ys ≡ x ∷ []
    alone [] len all = absurd (omega arith)
    alone (y ∷ []) len all = ap (λ z. z ∷ []) (all 0 y (omega arith))
    alone (y ∷ z ∷ more) len all = absurd (omega arith)

no_more : {X : Type 0} (x : X) (xs : List X) → length (x ∷ xs) ≤ 1 → xs ≡ []
no_more x [] few = refl
no_more x (y ∷ xs) few = absurd (omega (arith, few))

plus_none : (l : List Row) → l ++ [] ≡ l
plus_none [] = refl
plus_none (x ∷ l) = ap (λ t. x ∷ t) (plus_none l)

IsOnce : List Entry → Type 0
IsOnce ps = (id : ℕ) → length (filter (has_id id) ps) ≤ 1

rest_once : (e : Entry) (ps : List Entry) → IsOnce (e ∷ ps) → IsOnce ps
unfolding IsOnce
rest_once e ps once id = go (eqb e.id id) (once id)
  where
    go : (b : Bool) → length (cond b (e ∷ filter (has_id id) ps) (filter (has_id id) ps)) ≤ 1 → length (filter (has_id id) ps) ≤ 1
    go true h = omega (arith, h)
    go false h = h

first_once : (e : Entry) (ps : List Entry) → IsOnce (e ∷ ps) → filter (has_id e.id) ps ≡ []
unfolding IsOnce
first_once e ps once =
    let itself : eqb e.id e.id ≡ true = grind (arith, nat_tests) in
    no_more e (filter (has_id e.id) ps) (rw itself at (once e.id))

none_at : (id : ℕ) (ps : List Entry) → filter (has_id id) ps ≡ [] → job_at id (map job_of ps) ≡ None
none_at id [] none = refl
none_at id (e ∷ ps) none = go (eqb e.id id) none (none_at id ps)
  where
    go : (b : Bool) → cond b (e ∷ filter (has_id id) ps) (filter (has_id id) ps) ≡ [] → (filter (has_id id) ps ≡ [] → job_at id (map job_of ps) ≡ None)
        → cond b (Some (job_of e)) (job_at id (map job_of ps)) ≡ None
    go true h more = absurd (cc)
    go false h more = more h

shown : (id : ℕ) (ps : List Entry) → IsOnce ps → row_of (turn_at ps id) (job_at id (map job_of ps)) ≡ map entry_row (filter (has_id id) ps)
shown id [] once = refl
shown id (e ∷ ps) once = elim (cases_eq e.id id) [
  | inl same ↦
      let yes : eqb e.id id ≡ true = grind (arith, nat_tests) in
      rw (yes, subst (λ (n : ℕ). filter (has_id n) ps ≡ []) same (first_once e ps once))
  | inr other ↦
      let no : eqb e.id id ≡ false = grind (arith, nat_tests) in
      rw no (shown id ps (rest_once e ps once))
]

distinct_once : (ps : List Entry) → IsOnce ps → HasDistinctNumbers (map job_of ps)
distinct_once [] once = tt
distinct_once (e ∷ ps) once = (none_at e.id ps (first_once e ps once), distinct_once ps (rest_once e ps once))

map_all : (P : Entry → Type 0) (Q : Job → Type 0) → ((e : Entry) → P e → Q (job_of e)) → (ps : List Entry) → AllByRecursion P ps → AllByRecursion Q (map job_of ps)
map_all P Q f [] all = tt
map_all P Q f (e ∷ ps) all = (f e all.0, map_all P Q f ps all.1)

ordered : (next t : ℕ) (ps : List Entry) → IsChecked next t ps → IsInOrder (map job_of ps)
ordered next t [] h = tt
ordered next t (e ∷ ps) h = (map_all (IsBefore e) (λ job. e.deadline ≤ job.deadline) (λ x before. before.deadline) ps h.1, ordered next t ps h.2)

fits : (next t : ℕ) (ps : List Entry) → IsChecked next t ps → AllByRecursion (IsFit next t) ps
fits next t [] h = tt
fits next t (e ∷ ps) h = (h.0, fits next t ps h.2)

absent : (next t : ℕ) (ps : List Entry) → AllByRecursion (IsFit next t) ps → filter (has_id next) ps ≡ []
absent next t [] all = refl
absent next t (e ∷ ps) all = let less = all.0.id in let no : eqb e.id next ≡ false = grind (arith, nat_tests, less) in rw no (absent next t ps all.1)

-- Each job has the turn of its number.
abbrev IsOwn : (ℕ → ℕ) → List Entry → Type 0
IsOwn turn = AllByRecursion (λ e. turn e.id ≡ e.turn)

own : (ps : List Entry) → IsOnce ps → IsOwn (turn_at ps) ps
own [] once = tt
own (e ∷ ps) once = (let itself : eqb e.id e.id ≡ true = grind (arith, nat_tests) in rw itself, go ps (first_once e ps once) (own ps (rest_once e ps once)))
  where
    go : (xs : List Entry) → filter (has_id e.id) xs ≡ [] → AllByRecursion (λ x. turn_at ps x.id ≡ x.turn) xs → AllByRecursion (λ x. turn_at (e ∷ ps) x.id ≡ x.turn) xs
    go [] none all = tt
    go (x ∷ xs) none all = elim (cases_eq x.id e.id) [
      | inl same ↦ absurd (let yes : eqb x.id e.id ≡ true = grind (arith, nat_tests) in let h = rw yes at none in cc)
      | inr other ↦
          let no : eqb x.id e.id ≡ false = grind (arith, nat_tests) in
          let away : eqb e.id x.id ≡ false = grind (arith, nat_tests) in
          (rw away all.0, go xs (rw no at none) all.1)
    ]

in_turn : (turn : ℕ → ℕ) (next t : ℕ) (ps : List Entry) → IsOwn turn ps → IsChecked next t ps → IsInTurn turn (map job_of ps)
in_turn turn next t [] own h = tt
in_turn turn next t (e ∷ ps) own h = (go ps own.1 h.1, in_turn turn next t ps own.1 h.2)
  where
    go : (xs : List Entry) → IsOwn turn xs → AllByRecursion (IsBefore e) xs → AllByRecursion (λ job. e.deadline ≡ job.deadline → turn e.id < turn job.id) (map job_of xs)
    go [] own all = tt
    go (x ∷ xs) its all = (λ same. rw (own.0, its.0) (all.0.turn same), go xs its.1 all.1)

turns_below : (turn : ℕ → ℕ) (next t : ℕ) (ps : List Entry) → IsOwn turn ps → AllByRecursion (IsFit next t) ps → AllByRecursion (λ job. turn job.id < t) (map job_of ps)
turns_below turn next t [] own all = tt
turns_below turn next t (e ∷ ps) own all = (rw own.0 all.0.turn_below, turns_below turn next t ps own.1 all.1)

module _ (rows : List Row) (es ps : List Entry) (next t : ℕ) (table : IsTable rows) (is : rows ≡ map entry_row es ++ next_row next ∷ []) (same : IsPermutation es ps) (h : IsChecked next t ps) where
  parts : (id : _) → filter (has_rowid id) rows ≡ filter (has_rowid id) (map entry_row es) ++ filter (has_rowid id) (next_row next ∷ [])
  parts id = ap (filter (has_rowid id)) is ∙ filter-append (has_rowid id) (map entry_row es) (next_row next ∷ [])

  few : (id : ℕ) → length (filter (has_id id) es) ≤ 1
  few id =
      let all = once (pos id) rows table in
      let split = ap length (parts (pos id) ∙ ap (λ l. l ++ filter (has_rowid (pos id)) (next_row next ∷ [])) (under id es)) in
      let sum = split ∙ length-append (map entry_row (filter (has_id id) es)) (filter (has_rowid (pos id)) (next_row next ∷ [])) in
      let len = length-map (filter (has_id id) es) entry_row in
      omega (arith, all, sum, len)

  alike : (id : ℕ) → filter (has_id id) ps ≡ filter (has_id id) es
  alike id = few_same (filter (has_id id) es) (filter (has_id id) ps) (IsPermutation-filter (has_id id) es ps same) (few id)

  each_once : IsOnce ps
  unfolding IsOnce
  each_once id = subst (λ (l : List Entry). length l ≤ 1) (sym (alike id)) (few id)

  turn : ℕ → ℕ
  turn = turn_at ps

  each : (id : ℕ) → filter (has_rowid (pos id)) rows ≡ row_under (turn_at ps) (plan_of ps next) id
  each id = parts (pos id) ∙ ap (λ l. l ++ filter (has_rowid (pos id)) (next_row next ∷ [])) (under id es ∙ ap (map entry_row) (sym (alike id))) ∙ elim (cases_eq id next) [
    | inl here ↦
        let yes : eqb id next ≡ true = grind (arith, nat_tests) in
        let back : eqb next id ≡ true = grind (arith, nat_tests) in
        let none : filter (has_id id) ps ≡ [] = subst (λ (n : ℕ). filter (has_id n) ps ≡ []) (sym here) (absent next t ps (fits next t ps h)) in
        rw (yes, none, rowid_is next id, back)
    | inr other ↦
        let no : eqb id next ≡ false = grind (arith, nat_tests) in
        let back : eqb next id ≡ false = grind (arith, nat_tests) in
        rw (no, rowid_is next id, back) (plus_none (map entry_row (filter (has_id id) ps)) ∙ sym (shown id ps each_once))
  ]

  pub stands_read : 1 ≤ next → StandsBy (turn_at ps) rows (plan_of ps next)
  stands_read one =
      let all = fits next t ps h in
      record {
        each = each;
        natural = λ n. parts (negsuc n) ∙ rw (none_negative n es, apart_ints (pos next) (negsuc n) (λ x. absurd (cc)));
        lawful = record {
          in_order = ordered next t ps h;
          distinct = distinct_once ps each_once;
          below = map_all (IsFit next t) (λ job. job.id < next) (λ e fit. fit.id) ps all;
          short = map_all (IsFit next t) (λ job. length job.bytes ≤ MAX_BYTES) (λ e fit. fit.short) ps all;
          from_one = one;
        };
        in_turn = in_turn (turn_at ps) next t ps (own ps each_once) h;
      }

  pub turns_read : AllByRecursion (λ job. turn_at ps job.id < t) (map job_of ps)
  turns_read = turns_below (turn_at ps) next t ps (own ps each_once) (fits next t ps h)

-- the row of the first number stands for no jobs
pub stands_empty : (turn : ℕ → ℕ) → StandsBy turn (next_row 1 ∷ []) (record { jobs = []; next = 1 })
stands_empty turn = record {
  each = λ id. elim (cases_eq id 1) [
    | inl here ↦
        let yes : eqb id 1 ≡ true = grind (arith, nat_tests) in
        let back : eqb 1 id ≡ true = grind (arith, nat_tests) in rw (rowid_is 1 id, yes, back)
    | inr other ↦
        let no : eqb id 1 ≡ false = grind (arith, nat_tests) in
        let back : eqb 1 id ≡ false = grind (arith, nat_tests) in rw (rowid_is 1 id, no, back)
  ];
  natural = λ n. rw (apart_ints (pos 1) (negsuc n) (λ x. absurd (cc)));
  lawful = record { in_order = tt; distinct = tt; below = tt; short = tt; from_one = omega arith };
  in_turn = tt;
}
