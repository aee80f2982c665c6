use Rattle.std.proofs.Common.{◌≡◌, ◌≢◌, ◌∙◌}
use Rattle.std.specs.{Ordering.is_le, Ordering.ordering_index, declared.cmp.Ordering.TheVariants.Greater}
use Rattle.sorted_arena.specs.{Layout.sorted_of, Sorted.key_of}
use Rattle.sorted_arena.proofs.Cutting.{finds-first, le_not, not_le}
use Rattle.sorted_arena.proofs.Comparing.{rises, rises-key, ge-key}
use Rattle.sorted_arena.proofs.arena.SortedArena.lower_bound_by.Goals as goal

pub returns-clause-named : goal.returns-clause-named
returns-clause-named g c = rw c.pairs.ensures.view (c.first_from_in.ensures.named (rw c.pairs.ensures.view at c.pairs.ensures.sound))

pub returns-clause-first : goal.returns-clause-first
returns-clause-first g c order compares up =
    let sound = rw c.pairs.ensures.view at c.pairs.ensures.sound in
    let rising = rises (λ e. ordering_index (order (key_of e))) c.pairs.result.now.list.entries (rw c.pairs.ensures.view at up) in
    rw c.pairs.ensures.view (c.first_from_in.ensures.first order compares sound.distinct rising)

pub returns-clause-finds : goal.returns-clause-finds
returns-clause-finds g c k compares =
    let sound = rw c.pairs.ensures.view at c.pairs.ensures.sound in
    let es = c.pairs.result.now.list.entries in
    rw c.pairs.ensures.view
    (finds-first g.K.Ord.cmp g.P.Inx.BasePtrInx.most g.P.BasePtr.numbers (sorted_of c.pairs.result.now) sound k is_le (λ o. o ≢ Greater) (λ o. o ≡ Greater) le_not not_le c.first_from_in.result
    (c.first_from_in.ensures.first (λ x. g.K.Ord.cmp x k) compares sound.distinct (rises-key g.K.Ord.cmp g.met.K.Ord.total es sound.sorted k) ∙ ge-key g.K.Ord.cmp g.met.K.Ord.total k es))
