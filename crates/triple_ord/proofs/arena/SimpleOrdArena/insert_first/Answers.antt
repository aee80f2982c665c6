use Rattle.triple_ord.proofs.Places.{alone-reserved}
use Rattle.triple_ord.proofs.arena.SimpleOrdArena.insert_first.Goals as goal

pub insert_reserved-requires-clause-place : goal.insert_reserved-requires-clause-place
insert_reserved-requires-clause-place g c = rw c.self.view_is c.requires.empty

pub returns : goal.returns
returns g c =
    let done = alone-reserved g.P.Inx.BasePtrInx.most c.args.self.now c.insert_reserved.new.self c.args.t c.requires.empty (g.P.BasePtr.numbers c.insert_reserved.result)
    (rw c.self.view_is at c.insert_reserved.ensures.inserted) (rw c.self.view_is at c.insert_reserved.ensures.grown) in
    record { inserts = done.inserts; updates = done.updates; count = done.counted; capacity = done.capacity }
