use Rattle.std.proofs.Common.{inl, inr, ◌≡◌, ◌∷◌, [], ◌∙◌, sym, ap, rules, arith, false}
use Rattle.std.proofs.lemmas.Option.{same_Some}
use Rattle.sqlite_value.specs.Order.{Row}
use Rattle.sqlite_trees.specs.Tree.{Trees, put_row}
use Rattle.sqlite_trees.specs.View.{View, IsClean, Advances, with_cursor}
use Rattle.job_table.specs.Table.{next_row, IsBegun, IsPut}
use Rattle.job_table.proofs.Checked.{from_no_key}
use Rattle.job_table.proofs.Quiet.{is_up}
use Rattle.job_table.proofs.table.begin.Given.{Over}
use Rattle.job_table.proofs.table.begin.Goals as goal
use Rattle.job_table.proofs.table.begin.Goals.{In_ok-commit}

begun : (g : Over) (c : In_ok-commit g) → IsClean (g.S.Store.view c.commit.new.self) → IsBegun (g.S.Store.view c.args.rows.now) (g.S.Store.view c.commit.new.self)
begun g c clean =
    let at_put : IsClean (g.S.Store.view c.put_next.new.rows) = omega (arith, c.commit.ensures.clean, clean) in
    let at_next : IsClean (g.S.Store.view c.next.new.self) = omega (arith, c.put_next.ensures.quiet.clean, at_put) in
    let at_seek : IsClean (g.S.Store.view c.seek.new.self) = omega (arith, c.next.ensures.quiet.clean, at_next) in
    let placed = rw (c.clear.ensures, from_no_key) at (c.in_ok-seek.ensures.ok at_seek) in
    let last = rw c.if-branch.false at (c.in_ok-next.ensures.ok at_next) in
    let was : (g.S.Store.view c.args.rows.now).trees 0 ≡ [] = same_Some _ _ (sym (ap (λ (v : View). v.cursors 0) placed) ∙ last.0) in
    let one = c.in_ok-put_next.ensures.ok at_put in
    let done = c.in_ok-commit.ensures.ok clean in
    let still : (g.S.Store.view c.next.new.self).trees 0 ≡ [] = ap (λ (v : View). v.trees 0) last.1 ∙ ap (λ (v : View). v.trees 0) placed ∙ was in
    record {
      shape = search rules;
      was = was;
      rows = ap (λ (v : View). v.trees 0) done.is ∙ ap (λ (v : View). v.trees 0) one.is ∙ ap (put_row (next_row 1)) still;
      sound = ap (λ (v : View). v.is_broken) done.is ∙ ap (λ (v : View). v.is_broken) one.is ∙ one.sound;
      same = ap (λ (v : View). v.shape) done.is ∙ ap (λ (v : View). v.shape) one.is ∙ ap (λ (v : View). v.shape) last.1 ∙ ap (λ (v : View). v.shape) placed;
    }

pub returns-clause-ok : goal.returns-clause-ok
returns-clause-ok g c = begun g c

pub returns-clause-crash : goal.returns-clause-crash
returns-clause-crash g c clean trees h =
    let all = begun g c clean in
    let new = c.commit.new.self in
    let open' = is_up (g.S.Store.view new).is_open (g.S.Store.view new).is_broken all.sound (g.met.S.Store.broken_if_shut new) in
    let done = c.in_ok-commit.ensures.ok clean in
    let left = g.met.S.Store.settled new trees open' h in
    ap (λ (t : Trees). t 0) left ∙ ap (λ (v : View). v.committed 0) done.is ∙ sym (ap (λ (v : View). v.trees 0) done.is) ∙ all.rows

-- The put row is the one row of a table that had none.
one_row : (v0 v1 v2 v3 : View) (row : Row) → v1 ≡ with_cursor v0 0 (v0.trees 0) → Advances v1 v2 0 row false → IsPut v2 v3 (next_row 1) → v3.trees 0 ≡ next_row 1 ∷ []
one_row v0 v1 v2 v3 row placed last one =
    let was : v0.trees 0 ≡ [] = same_Some _ _ (sym (ap (λ (v : View). v.cursors 0) placed) ∙ last.0) in
    let still : v2.trees 0 ≡ [] = ap (λ (v : View). v.trees 0) last.1 ∙ ap (λ (v : View). v.trees 0) placed ∙ was in
    ap (λ (v : View). v.trees 0) one.is ∙ ap (put_row (next_row 1)) still

pub returns-in_err-commit-clause-crash_err : goal.returns-in_err-commit-clause-crash_err
returns-in_err-commit-clause-crash_err g c clean trees h =
    let at_put : IsClean (g.S.Store.view c.put_next.new.rows) = omega (arith, c.commit.ensures.clean, clean) in
    let at_next : IsClean (g.S.Store.view c.next.new.self) = omega (arith, c.put_next.ensures.quiet.clean, at_put) in
    let at_seek : IsClean (g.S.Store.view c.seek.new.self) = omega (arith, c.next.ensures.quiet.clean, at_next) in
    let placed = rw (c.clear.ensures, from_no_key) at (c.in_ok-seek.ensures.ok at_seek) in
    let last = rw c.if-branch.false at (c.in_ok-next.ensures.ok at_next) in
    let rows = one_row (g.S.Store.view c.args.rows.now) (g.S.Store.view c.seek.new.self) (g.S.Store.view c.next.new.self) (g.S.Store.view c.put_next.new.rows) c.next.new.row placed last (c.in_ok-put_next.ensures.ok at_put) in
    elim (c.commit.ensures.crash trees h) [
      | inl new ↦ inl (ap (λ (t : Trees). t 0) new.1 ∙ rows)
      | inr old ↦ inr (c.seek.ensures.quiet.outcomes trees (c.next.ensures.quiet.outcomes trees (c.put_next.ensures.quiet.outcomes trees old)))
    ]

pub returns-clause-crash_err : goal.returns-clause-crash_err
returns-clause-crash_err g c clean trees h = inl (returns-clause-crash g c clean trees h)
