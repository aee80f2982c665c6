-- Rows stand for one plan.
use Rattle.std.proofs.Common.{◌≡◌, ◌≢◌, ◌⊎◌, ◌<◌, ◌≤◌, inl, inr, ℕ, pos, eqb, true, false, List, [], ◌∷◌, filter, Option, Some, None, refl, sym, ap, ◌∙◌, subst, arith}
use Rattle.std.proofs.lemmas.Bool.{cases_eq}
use Rattle.std.proofs.lemmas.Bool.Decides.{nat_tests}
use Rattle.std.proofs.lemmas.Option.{same_Some}
use Rattle.sqlite_value.specs.Order.{Row}
use Rattle.sqlite_trees.specs.Tree.{has_rowid}
use Rattle.job_table.specs.Plan.{Job, Plan, job_at, IsInOrder, HasDistinctNumbers}
use Rattle.job_table.specs.Table.{job_row, next_row, row_of, row_under, IsInTurn, StandsBy, StandsFor}
use Rattle.job_table.proofs.Jobs.{fresh}
use Rattle.job_table.proofs.Leaving.{at_all}

-- what the row of a job tells
same_row : (t u : ℕ) (a b : Job) → ◌≡◌ {A = List Row} (job_row t a ∷ []) (job_row u b ∷ []) → (t ≡ u) × (a ≡ b)
same_row t u a b e =
    let id : a.id ≡ b.id = cc in
    let deadline : a.deadline ≡ b.deadline = cc in
    let attempts : a.attempts ≡ b.attempts = cc in
    let bytes : a.bytes ≡ b.bytes = cc in
    let turn : t ≡ u = cc in (
      turn,
      ap (λ (n : ℕ). record { id = n; deadline = a.deadline; attempts = a.attempts; bytes = a.bytes }) id
          ∙ ap (λ (n : ℕ). record { id = b.id; deadline = n; attempts = a.attempts; bytes = a.bytes }) deadline
          ∙ ap (λ (n : ℕ). record { id = b.id; deadline = b.deadline; attempts = n; bytes = a.bytes }) attempts
          ∙ ap (λ (l : List ℕ). record { id = b.id; deadline = b.deadline; attempts = b.attempts; bytes = l }) bytes,
    )

-- The jobs are alike under each number, and where there is one, so are the turns.
AreAlike : (ℕ → ℕ) → (ℕ → ℕ) → Option Job → Option Job → ℕ → Type 0
AreAlike t u a b id = (a ≡ b) × ((job : Job) → a ≡ Some job → t id ≡ u id)

alike : (t u : ℕ → ℕ) (id : ℕ) (a b : Option Job) → row_of (t id) a ≡ row_of (u id) b → AreAlike t u a b id
unfolding AreAlike
alike t u id None None e = (refl, λ job none. absurd (cc))
alike t u id None (Some b) e = absurd (cc)
alike t u id (Some a) None e = absurd (cc)
alike t u id (Some a) (Some b) e = let both = same_row (t id) (u id) a b e in (ap (λ (j : Job). Some j) both.1, λ job some. both.0)

at_first : (a : Job) (jobs : List Job) → job_at a.id (a ∷ jobs) ≡ Some a
at_first a jobs = let itself : eqb a.id a.id ≡ true = grind (arith, nat_tests) in rw itself

at_rest : (a : Job) (id : ℕ) (jobs : List Job) → a.id ≢ id → job_at id (a ∷ jobs) ≡ job_at id jobs
at_rest a id jobs other = let no : eqb a.id id ≡ false = grind (arith, nat_tests) in rw no

same_list : (t u : ℕ → ℕ) (ps qs : List Job) → IsInOrder ps → IsInOrder qs → HasDistinctNumbers ps → HasDistinctNumbers qs → IsInTurn t ps → IsInTurn u qs
    → ((id : ℕ) → AreAlike t u (job_at id ps) (job_at id qs) id) → ps ≡ qs
unfolding AreAlike
same_list t u [] [] po qo pd qd pt qt same = refl
same_list t u [] (b ∷ qs) po qo pd qd pt qt same = absurd (let e = (same b.id).0 ∙ at_first b qs in cc)
same_list t u (a ∷ ps) [] po qo pd qd pt qt same = absurd (let e = sym (at_first a ps) ∙ (same a.id).0 in cc)
same_list t u (a ∷ ps) (b ∷ qs) po qo pd qd pt qt same = elim (cases_eq a.id b.id) [
  | inl one ↦
      let here : Some a ≡ Some b = sym (at_first a ps) ∙ (same a.id).0 ∙ subst (λ (n : ℕ). job_at n (b ∷ qs) ≡ Some b) (sym one) (at_first b qs) in
      let is : a ≡ b = same_Some a b here in
      let rest = λ (id : ℕ). tail id (cases_eq a.id id) one (pd.0) (qd.0) (same id) in
      let tails : ps ≡ qs = same_list t u ps qs po.1 qo.1 pd.1 qd.1 pt.1 qt.1 rest in
      ap (λ (x : Job). x ∷ ps) is ∙ ap (λ (l : List Job). b ∷ l) tails
  | inr apart ↦
      let b_in : job_at b.id ps ≡ Some b = sym (at_rest a b.id ps apart) ∙ (same b.id).0 ∙ at_first b qs in
      let a_in : job_at a.id qs ≡ Some a = sym (at_rest b a.id qs (λ e. apart (sym e))) ∙ sym (same a.id).0 ∙ at_first a ps in
      let le = at_all (λ x. a.deadline ≤ x.deadline) b.id ps b b_in po.0 in
      let ge = at_all (λ x. b.deadline ≤ x.deadline) a.id qs a a_in qo.0 in
      let lt = at_all (λ x. a.deadline ≡ x.deadline → t a.id < t x.id) b.id ps b b_in pt.0 (omega (arith, le, ge)) in
      let gt = at_all (λ x. b.deadline ≡ x.deadline → u b.id < u x.id) a.id qs a a_in qt.0 (omega (arith, le, ge)) in
      let ta = (same a.id).1 a (at_first a ps) in
      let tb = (same b.id).1 b (at_rest a b.id ps apart ∙ b_in) in
      absurd (omega (arith, lt, gt, ta, tb))
]
  where
    tail : (id : ℕ) → (a.id ≡ id) ⊎ (a.id ≢ id) → a.id ≡ b.id → job_at a.id ps ≡ None → job_at b.id qs ≡ None → AreAlike t u (job_at id (a ∷ ps)) (job_at id (b ∷ qs)) id → AreAlike t u (job_at id ps) (job_at id qs) id
    tail id (inl e) one none gone all =
        let p : job_at id ps ≡ None = subst (λ (n : ℕ). job_at n ps ≡ None) e none in
        let q : job_at id qs ≡ None = subst (λ (n : ℕ). job_at n qs ≡ None) (sym one ∙ e) gone in
        (p ∙ sym q, λ job some. absurd (let h = sym p ∙ some in cc))
    tail id (inr other) one none gone all =
        let p = at_rest a id ps other in
        let q = at_rest b id qs (λ e. other (one ∙ e)) in
        (sym p ∙ all.0 ∙ q, λ job some. all.1 job (p ∙ some))

module _ (t u : ℕ → ℕ) (rows : List Row) (p q : Plan) (one : StandsBy t rows p) (other : StandsBy u rows q) where
  under : (id : ℕ) → row_under t p id ≡ row_under u q id
  under id = sym (one.each id) ∙ other.each id

  same_next : p.next ≡ q.next
  same_next = elim (cases_eq p.next q.next) [
    | inl e ↦ e
    | inr apart ↦
        let yes : eqb p.next p.next ≡ true = grind (arith, nat_tests) in
        let no : eqb p.next q.next ≡ false = grind (arith, nat_tests) in
        absurd (go (job_at p.next q.jobs) (rw (yes, no) at (under p.next)))
  ]
    where
      go : (o : Option Job) → ◌≡◌ {A = List Row} (next_row p.next ∷ []) (row_of (u p.next) o) → ⊥
      go None e = absurd (cc)
      go (Some j) e = absurd (cc)

  each_alike : (id : ℕ) → AreAlike t u (job_at id p.jobs) (job_at id q.jobs) id
  unfolding AreAlike
  each_alike id = elim (cases_eq id p.next) [
    | inl e ↦
        let a : job_at id p.jobs ≡ None = subst (λ (n : ℕ). job_at n p.jobs ≡ None) (sym e) (fresh p.next p.jobs one.lawful.below) in
        let b : job_at id q.jobs ≡ None = subst (λ (n : ℕ). job_at n q.jobs ≡ None) (sym (e ∙ same_next)) (fresh q.next q.jobs other.lawful.below) in
        (a ∙ sym b, λ job some. absurd (let h = sym a ∙ some in cc))
    | inr apart ↦
        let no : eqb id p.next ≡ false = grind (arith, nat_tests) in
        let nor : eqb id q.next ≡ false = subst (λ (n : ℕ). eqb id n ≡ false) same_next no in
        alike t u id (job_at id p.jobs) (job_at id q.jobs) (rw (no, nor) at (under id))
  ]

  pub same_plan : p ≡ q
  same_plan =
      let jobs = same_list t u p.jobs q.jobs one.lawful.in_order other.lawful.in_order one.lawful.distinct other.lawful.distinct one.in_turn other.in_turn each_alike in
      ap (λ (l : List Job). record { jobs = l; next = p.next }) jobs ∙ ap (λ (n : ℕ). record { jobs = q.jobs; next = n }) same_next

-- A table without a row stands by no turns for a plan.
never_empty : (turn : ℕ → ℕ) (rows : List Row) (plan : Plan) → StandsBy turn rows plan → rows ≡ [] → ⊥
never_empty turn rows plan stands none =
    let yes : eqb plan.next plan.next ≡ true = grind (arith, nat_tests) in
    let found = rw yes at (stands.each plan.next) in
    let nothing : filter (has_rowid (pos plan.next)) rows ≡ [] = ap (filter (has_rowid (pos plan.next))) none in
    let e = sym nothing ∙ found in cc

pub one_plan : (rows : List Row) (p q : Plan) → StandsFor rows p → StandsFor rows q → p ≡ q
one_plan rows p q (inl one) (inl other) = same_plan one.0 other.0 rows p q one.1 other.1
one_plan rows p q (inl one) (inr unused) = absurd (never_empty one.0 rows p one.1 unused.no_rows)
one_plan rows p q (inr unused) (inl other) = absurd (never_empty other.0 rows q other.1 unused.no_rows)
one_plan rows p q (inr one) (inr other) = one.no_jobs ∙ sym other.no_jobs
