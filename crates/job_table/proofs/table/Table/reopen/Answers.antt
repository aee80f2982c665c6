use Rattle.std.proofs.Common.{inl, ◌∙◌, sym, subst, arith}
use Rattle.sqlite_trees.specs.Tree.{Trees}
use Rattle.sqlite_trees.specs.View.{IsClean}
use Rattle.job_table.specs.Table.{TreesStandFor}
use Rattle.job_table.specs.Entries.{plan_of, turn_at}
use Rattle.job_table.proofs.Quiet.{is_up}
use Rattle.job_table.proofs.table.Table.reopen.Goals as goal

pub returns-clause-found : goal.returns-clause-found
returns-clause-found g c clean =
    let rows = c.crash_and_reopen.new.self in
    let items = c.in_ok-entries.entries.items in
    let got = c.in_ok-entries.ensures.ok clean in
    let early : IsClean (g.S.Store.view rows) = omega (arith, c.load.ensures.quiet.clean, clean) in
    let same = c.in_ok-crash_and_reopen.ensures.fresh.clean in
    record {
      trees = (g.S.Store.view rows).committed;
      left = c.in_ok-crash_and_reopen.ensures.found early;
      stands = subst (λ (t : Trees). TreesStandFor t (plan_of items c.in_ok-entries.next)) same (inl (turn_at items, got.stands));
    }

pub returns-clause-settled : goal.returns-clause-settled
returns-clause-settled g c clean trees h =
    let rows = c.crash_and_reopen.new.self in
    let items = c.in_ok-entries.entries.items in
    let got = c.in_ok-entries.ensures.ok clean in
    let up = is_up (g.S.Store.view rows).is_open (g.S.Store.view rows).is_broken got.sound (g.met.S.Store.broken_if_shut rows) in
    let only = g.met.S.Store.settled rows trees up (c.load.ensures.quiet.outcomes trees h) in
    let same = c.in_ok-crash_and_reopen.ensures.fresh.clean in
    subst (λ (t : Trees). TreesStandFor t (plan_of items c.in_ok-entries.next)) (same ∙ sym only) (inl (turn_at items, got.stands))
