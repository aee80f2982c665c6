use Rattle.triple_ord.proofs.{Places.new-refused, Places.err-and}
use Rattle.triple_ord.proofs.arena.SimpleOrdArena.prepare.Goals as goal

pub returns-in_err-p-in-New-clause-refused : goal.returns-in_err-p-in-New-clause-refused
returns-in_err-p-in-New-clause-refused g c =
    let found = rw c.in-New.is at c.in_ok-place.ensures.place in
    let lacks = rw c.in_err-p-in-New.was at c.next_slot.ensures.makes.refused in
    err-and c.from_residual-in_err-p-in-New.result c.from_residual-in_err-p-in-New.ensures.1
    (λ e same. new-refused g.P.BasePtr.numbers g.T.SimpleOrdItem.key_of g.T.Key.Ord.cmp g.P.Inx.BasePtrInx.number c.args.growth g.P.Inx.BasePtrInx.most c.args.self.now _ _ _ found e (rw same lacks))
