use Rattle.std.proofs.Common.{◌∙◌, sym, ap, arith}
use Rattle.std.proofs.lemmas.Option.{same_Some}
use Rattle.sqlite_trees.specs.View.{View, IsClean}
use Rattle.job_table.proofs.Checked.{from_no_key}
use Rattle.job_table.proofs.table.is_unused.Goals as goal

pub returns-clause-none : goal.returns-clause-none
returns-clause-none g c is clean =
    let at_seek : IsClean (g.S.Store.view c.seek.new.self) = omega (arith, c.next.ensures.quiet.clean, clean) in
    let placed = rw (c.new-row.ensures, from_no_key) at (c.in_ok-seek.ensures.ok at_seek) in
    let last = rw c.if-branch.false at (c.in_ok-next.ensures.ok clean) in
    same_Some _ _ (sym (ap (λ (v : View). v.cursors 0) placed) ∙ last.0)
