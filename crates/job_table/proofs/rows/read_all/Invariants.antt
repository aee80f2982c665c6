use Rattle.std.proofs.Common.{◌≡◌, IsSome, ◌++◌, List, Some, map, false}
use Rattle.sqlite_value.specs.Order.{Row}
use Rattle.sqlite_trees.specs.View.{IsClean, IsQuiet}
use Rattle.job_table.specs.Entries.{entry_row}
use Rattle.job_table.proofs.rows.read_all.Given as goal

abbrev pub invariant-rows : goal.invariant-rows
invariant-rows g l =
    let old = g.S.Store.view l.fn.rows in
    record {
      reading : IsClean (g.S.Store.view l.rows) → ((left : List Row) × ((g.S.Store.view l.rows).cursors 0 ≡ Some left) × (old.trees 0 ≡ map entry_row l.entries.items ++ left));
      live : IsSome ((g.S.Store.view l.rows).cursors 0);
      sound : IsClean (g.S.Store.view l.rows) → old.is_broken ≡ false;
      same : IsClean (g.S.Store.view l.rows) → g.S.Store.view l.rows ≡ record old { cursors = (g.S.Store.view l.rows).cursors };
      quiet : IsQuiet g.S.Store.view g.S.Store.faults g.S.Store.recovers g.S.Store.is_shielded l.fn.rows l.rows;
    }
