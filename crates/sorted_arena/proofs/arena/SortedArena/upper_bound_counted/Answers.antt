use Rattle.std.proofs.Common.{◌≡◌, ◌≢◌}
use Rattle.std.specs.{Ordering.is_lt, declared.cmp.Ordering.TheVariants.Less}
use Rattle.sorted_arena.specs.Layout.{sorted_of}
use Rattle.sorted_arena.proofs.Cutting.{finds-first, lt_is, lt_not}
use Rattle.sorted_arena.proofs.arena.SortedArena.upper_bound_counted.Goals as goal

pub returns : goal.returns
returns g c =
    let sound = rw c.pairs.ensures.view at c.pairs.ensures.sound in
    rw c.pairs.ensures.view (record {
      finds = finds-first g.K.Ord.cmp g.P.Inx.BasePtrInx.most g.P.BasePtr.numbers (sorted_of c.pairs.result.now) sound c.args.k.now
          is_lt (λ o. o ≡ Less) (λ o. o ≢ Less) lt_is lt_not c.upper_bound_in.result.0 (c.upper_bound_in.ensures.finds sound);
      visits = c.upper_bound_in.ensures.visits;
    })
