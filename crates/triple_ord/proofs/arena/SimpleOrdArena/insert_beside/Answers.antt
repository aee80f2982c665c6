use Rattle.triple_ord.proofs.{Places.beside-reserved, Places.side-unequal, Places.insert_at-on, Places.CanInsertAt-on, Words.IsInsertion, Words.put_on}
use Rattle.triple_ord.proofs.arena.SimpleOrdArena.insert_beside.Goals as goal

pub insert_reserved-requires-clause-place : goal.insert_reserved-requires-clause-place
insert_reserved-requires-clause-place g c =
    let on = side-unequal c.args.direction c.requires.direction in
    rw (c.self.view_is, on.1) (CanInsertAt-on g.P.Inx.BasePtrInx.number c.args.p on.0 c.args.self.now.list c.requires.occupied)

pub returns : goal.returns
returns g c =
    let on = side-unequal c.args.direction c.requires.direction in
    let p = g.P.BasePtr.numbers c.insert_reserved.result in
    let i = g.P.Inx.BasePtrInx.number c.args.p in
    let old = c.args.self.now in
    let put : IsInsertion old.list c.insert_reserved.new.self.list (put_on on.0 i old.list.entries) c.args.t p.0 p.1 =
    rw (c.self.view_is, on.1, insert_at-on g.P.Inx.BasePtrInx.number c.args.p on.0 old.list.entries) at c.insert_reserved.ensures.inserted in
    let done = beside-reserved g.P.Inx.BasePtrInx.most old c.insert_reserved.new.self c.args.t i on.0 c.requires.occupied p put (rw c.self.view_is at c.insert_reserved.ensures.grown) in
    record { inserts = rw on.1 done.inserts; updates = done.updates; count = done.counted; capacity = done.capacity }
