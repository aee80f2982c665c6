use Rattle.std.proofs.Common.{inl, ◌∙◌, sym, subst, arith}
use Rattle.sqlite_trees.specs.Tree.{Trees}
use Rattle.sqlite_trees.specs.View.{IsClean}
use Rattle.job_table.specs.Table.{TreesStandFor}
use Rattle.job_table.specs.Entries.{plan_of, turn_at}
use Rattle.job_table.proofs.Quiet.{is_up}
use Rattle.job_table.proofs.table.Table.rollback.Goals as goal

pub returns-clause-found : goal.returns-clause-found
returns-clause-found g c clean =
    let rows = c.rollback.new.self in
    let items = c.in_ok-entries.entries.items in
    let got = c.in_ok-entries.ensures.ok clean in
    let early : IsClean (g.S.Store.view rows) = omega (arith, c.load.ensures.quiet.clean, clean) in
    let up = is_up (g.S.Store.view rows).is_open (g.S.Store.view rows).is_broken got.sound (g.met.S.Store.broken_if_shut rows) in
    let undone = (c.rollback.ensures.undone.undone up).0 in
    let kept = (c.rollback.ensures.undone.kept early).committed up in
    record {
      trees = (g.S.Store.view rows).committed;
      left = c.rollback.ensures.quiet.outcomes (g.S.Store.view rows).committed (g.met.S.Store.stays rows up);
      stands = subst (λ (t : Trees). TreesStandFor t (plan_of items c.in_ok-entries.next)) (undone ∙ sym kept) (inl (turn_at items, got.stands));
    }

pub returns-clause-settled : goal.returns-clause-settled
returns-clause-settled g c clean trees h =
    let rows = c.rollback.new.self in
    let items = c.in_ok-entries.entries.items in
    let got = c.in_ok-entries.ensures.ok clean in
    let early : IsClean (g.S.Store.view rows) = omega (arith, c.load.ensures.quiet.clean, clean) in
    let up = is_up (g.S.Store.view rows).is_open (g.S.Store.view rows).is_broken got.sound (g.met.S.Store.broken_if_shut rows) in
    let only = g.met.S.Store.settled rows trees up (c.load.ensures.quiet.outcomes trees h) in
    let undone = (c.rollback.ensures.undone.undone up).0 in
    let kept = (c.rollback.ensures.undone.kept early).committed up in
    subst (λ (t : Trees). TreesStandFor t (plan_of items c.in_ok-entries.next)) (undone ∙ sym kept ∙ sym only) (inl (turn_at items, got.stands))
