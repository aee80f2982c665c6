use Rattle.leaf_list.proofs.Neighbouring.{first-none, first-place}
use Rattle.leaf_list.proofs.list.LeafList.first.Goals as goal

pub returns-in_default : goal.returns-in_default
returns-in_default g c =
    rw (← c.self.view_is) (first-none c.self.inside.store.leaves c.in_default.ensures)

pub returns : goal.returns
returns g c =
    rw (← c.self.view_is) (first-place c.self.inside.store.leaves (g.P.Inx.BasePtrInx.number c.in-Some.leaf) c.room.ensures.apart c.in-Some.ensures)
