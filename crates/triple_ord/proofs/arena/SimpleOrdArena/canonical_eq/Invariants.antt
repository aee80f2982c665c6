use Rattle.triple_ord.proofs.Words.{◌≡◌, map, pointwise, items}
use Rattle.triple_ord.proofs.arena.SimpleOrdArena.canonical_eq.Given as goal

abbrev pub invariant-loop-mine : goal.invariant-loop-mine
invariant-loop-mine g l =
    pointwise g.T.PartialEq.eq (items l.fn.self) (items l.fn.other) ≡ pointwise g.T.PartialEq.eq (map (λ e. e.item) l.mine-iterator) (map (λ e. e.item) l.theirs)
