use Rattle.std.proofs.Common.{◌≡◌, ◌≢◌}
use Rattle.std.specs.{Ordering.is_le, declared.cmp.Ordering.TheVariants.Greater}
use Rattle.sorted_arena.specs.Layout.{sorted_of}
use Rattle.sorted_arena.proofs.Cutting.{finds-first, le_not, not_le}
use Rattle.sorted_arena.proofs.arena.SortedArena.lower_bound_counted.Goals as goal

pub returns : goal.returns
returns g c =
    let sound = rw c.pairs.ensures.view at c.pairs.ensures.sound in
    rw c.pairs.ensures.view (record {
      finds = finds-first g.K.Ord.cmp g.P.Inx.BasePtrInx.most g.P.BasePtr.numbers (sorted_of c.pairs.result.now) sound c.args.k.now
          is_le (λ o. o ≢ Greater) (λ o. o ≡ Greater) le_not not_le c.lower_bound_in.result.0 (c.lower_bound_in.ensures.finds sound);
      visits = c.lower_bound_in.ensures.visits;
    })
