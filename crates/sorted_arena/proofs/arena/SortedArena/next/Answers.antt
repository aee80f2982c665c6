use Rattle.sorted_arena.specs.Layout.{sorted_of}
use Rattle.sorted_arena.proofs.Neighbours.{next-found}
use Rattle.sorted_arena.proofs.arena.SortedArena.next.Goals as goal

pub returns : goal.returns
returns g c =
    let sound = rw c.pairs.ensures.view at c.pairs.ensures.sound in
    rw c.pairs.ensures.view (next-found g.K.Ord.cmp g.P.Inx.BasePtrInx.most (sorted_of c.pairs.result.now) sound (g.P.BasePtr.numbers c.args.p) g.P.BasePtr.numbers c.next_in.result (c.next_in.ensures sound.distinct))
