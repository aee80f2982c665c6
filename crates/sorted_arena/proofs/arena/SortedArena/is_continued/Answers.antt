use Rattle.std.proofs.Common.{sym, ◌∙◌}
use Rattle.sorted_arena.proofs.Extending.{continued, goes-on, ascends-answered}
use Rattle.sorted_arena.proofs.arena.SortedArena.is_continued.Goals as goal

pub returns-then-not-is_last_greater : goal.returns-then-not-is_last_greater
returns-then-not-is_last_greater g c sorted is =
    continued g.K.Ord.cmp g.met.K.Ord.total c.args.self.now.entries c.args.pairs.now sorted
    (goes-on g.K.Ord.cmp c.args.self.now.entries c.args.pairs.now c.in-Some.first.now (sym c.in-Some.ensures.value) (sym c.is_last_greater.ensures.value ∙ c.if-not-is_last_greater.true))
    (ascends-answered g.K.Ord.cmp c.args.pairs.now (c.are_sorted.ensures is))
