use Rattle.triple_ord.proofs.Words.{◌≡◌, map, slice_partial_cmp, items}
use Rattle.triple_ord.proofs.arena.SimpleOrdArena.canonical_partial_cmp.Given as goal

abbrev pub invariant-loop-mine : goal.invariant-loop-mine
invariant-loop-mine g l =
    slice_partial_cmp g.T.PartialOrd.partial_cmp (items l.fn.self) (items l.fn.other) ≡ slice_partial_cmp g.T.PartialOrd.partial_cmp (map (λ e. e.item) l.mine-iterator) (map (λ e. e.item) l.theirs)
