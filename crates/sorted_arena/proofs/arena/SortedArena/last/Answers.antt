use Rattle.sorted_arena.proofs.Cutting.{last-absent, last-greatest}
use Rattle.sorted_arena.proofs.arena.SortedArena.last.Goals as goal

pub returns : goal.returns
returns g c =
    let es = c.pairs.result.now.list.entries in
    let sound = rw c.pairs.ensures.view at c.pairs.ensures.sound in
    rw c.pairs.ensures.view (record {
      value = c.last.ensures.pointer;
      greatest = last-greatest g.K.Ord.cmp g.met.K.Ord.total g.P.BasePtr.numbers c.last.result es sound.distinct sound.sorted c.last.ensures.pointer;
      none = last-absent g.P.BasePtr.numbers c.last.result es c.last.ensures.pointer;
      sound = sound;
    })
