use Rattle.triple_ord.proofs.{Places.beside-replaced, Places.beside-inserted, Places.beside-refused, Places.side-named, Places.insert_at-on, Words.◌≡◌, Words.Ok, Words.Err, Words.rules, Words.IsInsertion, Words.with_room_by, Words.put_on, Words.Reallocating}
use Rattle.triple_ord.proofs.arena.SimpleOrdArena.insert_inx_manual_unwrap.Goals as goal

pub returns-in-Equal : goal.returns-in-Equal
returns-in-Equal g c =
    let done = beside-replaced g.P.Inx.BasePtrInx.most c.args.self.now c.replace.new.self c.args.t (g.P.Inx.BasePtrInx.number c.args.p)
    c.replace.result c.replace.ensures.before c.replace.ensures.after in
    record { inserts = rw c.in-Equal.is done.inserts; replaced = search rules; new = search rules; updates = done.updates; count = done.counted; refused = search rules }

pub returns-in_ok-put_growing-in-Less : goal.returns-in_ok-put_growing-in-Less
returns-in_ok-put_growing-in-Less g c =
    let on = side-named c.args.direction c.in-Less.is in
    let was : c.put_growing.result ≡ Ok c.in_ok-put_growing-in-Less.field-0 = c.in_ok-put_growing-in-Less.was in
    let p = g.P.BasePtr.numbers c.in_ok-put_growing-in-Less.field-0 in
    let i = g.P.Inx.BasePtrInx.number c.args.p in
    let old = c.args.self.now in
    let put : IsInsertion (with_room_by Reallocating g.P.Inx.BasePtrInx.most old.list) c.put_growing.new.self.list (put_on on.0 i old.list.entries) c.args.t p.0 p.1 =
    rw (on.1, insert_at-on g.P.Inx.BasePtrInx.number c.args.p on.0 old.list.entries) at (rw was at c.put_growing.ensures.inserted) in
    let done = beside-inserted g.P.Inx.BasePtrInx.most old c.put_growing.new.self c.args.t i on.0 c.requires p put (rw was at c.put_growing.ensures.grown) in
    record { inserts = rw on.1 done.inserts; replaced = search rules; new = search rules; updates = done.updates; count = done.counted; refused = search rules }

pub returns-in_err-put_growing-in-Less : goal.returns-in_err-put_growing-in-Less
returns-in_err-put_growing-in-Less g c =
    let on = side-named c.args.direction c.in-Less.is in
    let was : c.put_growing.result ≡ Err c.in_err-put_growing-in-Less.field-0.0 = c.in_err-put_growing-in-Less.was in
    let lost = beside-refused g.P.Inx.BasePtrInx.most c.args.self.now c.put_growing.new.self c.args.t (g.P.Inx.BasePtrInx.number c.args.p) on.0 c.requires
    c.in_err-put_growing-in-Less.field-0.0 (rw was at c.put_growing.ensures.refused) (rw was at c.put_growing.ensures.err) c.from_residual.result c.from_residual.ensures.1 in
    record { inserts = rw on.1 lost; replaced = search rules; new = search rules; updates = search rules; count = search rules; refused = search rules }
