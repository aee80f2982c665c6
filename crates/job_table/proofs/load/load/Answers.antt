use Rattle.std.proofs.Common.{arith, subst}
use Rattle.sqlite_trees.specs.View.{IsShaped}
use Rattle.sqlite_trees.specs.declared.store.Shape.TheVariants as shapes
use Rattle.job_table.specs.Entries.{IsChecked}
use Rattle.job_table.proofs.Reading.{stands_read, turns_read}
use Rattle.job_table.proofs.load.load.Goals as goal

pub returns-in-Some-clause-ok : goal.returns-in-Some-clause-ok
returns-in-Some-clause-ok g c clean =
    let old = g.S.Store.view c.args.rows.now in
    let rows = old.trees 0 in
    let read = c.in_ok-entries.ensures.ok clean in
    let shaped : IsShaped shapes.Table rows = subst (λ s. IsShaped s rows) read.shape (g.met.S.Store.ordered c.args.rows.now read.sound 0) in
    let es = c.in_ok-entries.entries.items in
    let ps = c.sort_unstable_by_key.new.self.items in
    let checked : IsChecked c.in_ok-entries.next c.in-Some.next_turn ps = subst (IsChecked c.in_ok-entries.next c.in-Some.next_turn) c.deref.ensures.value c.in-Some.ensures in
    let same = c.sort_unstable_by_key.ensures.permutation in
    let next = c.in_ok-entries.next in
    let turn = c.in-Some.next_turn in
    record {
      sound = read.sound;
      shape = read.shape;
      stands = stands_read rows es ps next turn shaped.0 read.rows same checked (omega (arith, c.if-next-eq0.false));
      turns = turns_read rows es ps next turn shaped.0 read.rows same checked;
      same = read.same;
    }
