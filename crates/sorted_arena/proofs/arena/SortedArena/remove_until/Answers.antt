use Rattle.std.proofs.Common.{◌∙◌}
use Rattle.sorted_arena.specs.Sorted.{with_passing}
use Rattle.sorted_arena.proofs.Outside.{outside-above, above-greater}
use Rattle.sorted_arena.proofs.arena.SortedArena.remove_until.Goals as goal

pub returns-clause-after : goal.returns-clause-after
returns-clause-after g c = c.remove_between.ensures.after ∙ outside-above g.K.Ord.cmp c.args.until.now g.met.K.Ord.total g.P.Gen.BasePtrGen.greatest c.args.self.now

pub returns-clause-left : goal.returns-clause-left
unfolding with_passing
returns-clause-left g c = rw (returns-clause-after g c) (above-greater g.K.Ord.cmp c.args.until.now c.args.self.now.entries)
