use Rattle.std.proofs.Common.{◌≢◌, ◌∷◌, List, length, length-append, arith, ap, subst}
use Rattle.std.specs.{List.AllAdjacentBelow, declared.cmp.Ordering.TheVariants.Greater}
use Rattle.sorted_arena.proofs.Extending.{ordered-alone}
use Rattle.sorted_arena.proofs.arena.SortedArena.from_sorted.Goals as goal

pub append_sorted-requires-clause-order : goal.append_sorted-requires-clause-order
append_sorted-requires-clause-order g c =
    ordered-alone g.K.Ord.cmp g.met.K.Ord.total c.args.pairs.items
    (subst (λ (xs : List (g.row.K.Denot × g.row.V.Denot)). AllAdjacentBelow (λ x y. g.K.Ord.cmp x.0 y.0 ≢ Greater) xs (length xs)) c.deref.ensures.value c.in-None.ensures.sorted)
    c.in-Ok.arena.entries c.in-Ok.ensures.entries

pub returns-in-Some-clause-none : goal.returns-in-Some-clause-none
returns-in-Some-clause-none g c is =
    let out = c.in-Some.ensures.unsorted in
    absurd (omega (arith, ap length is, ap length c.deref.ensures.value, ap length out.cut, length-append out.front (out.pair ∷ out.back)))
