use Rattle.std.proofs.Common.{subst}
use Rattle.std.specs.BTreeMap.Range.{range_contains}
use Rattle.std.specs.Range.Bound.{bound_map}
use Rattle.std.specs.declared.ops.Bound.{Bound}
use Rattle.sorted_arena.specs.{Sorted.key_of, Write.WritesEach}
use Rattle.sorted_arena.proofs.arena.SortedArena.for_each_mut.Goals as goal

pub returns-clause-written : goal.returns-clause-written
returns-clause-written g c bounds =
    subst (λ (from : Bound g.row.K.Denot). WritesEach g.F.FnMut (λ e. range_contains g.K.Ord.cmp from (g.R.RangeBounds.end_bound c.args.range) (key_of e)) c.args.f c.args.self.now.entries c.write_between.new.self.entries)
    (c.start_bound.ensures bounds)
    (subst (λ (until : Bound g.row.K.Denot). WritesEach g.F.FnMut (λ e. range_contains g.K.Ord.cmp (bound_map (λ k. k.now) c.start_bound.result) until (key_of e)) c.args.f c.args.self.now.entries
    c.write_between.new.self.entries) (c.end_bound.ensures bounds) c.write_between.ensures.written)
