use Rattle.std.proofs.Common.{◌∙◌, sym}
use Rattle.leaf_list.specs.Leaves.{entries_of}
use Rattle.leaf_list.proofs.Entering.{goes-last}
use Rattle.leaf_list.proofs.list.LeafList.enter.Goals as goal

pub push-requires-clause-last : goal.push-requires-clause-last
push-requires-clause-last g c = c.goes_last.ensures.last c.if-goes_last.true

pub returns-then-goes_last-clause-entries : goal.returns-then-goes_last-clause-entries
returns-then-goes_last-clause-entries g c =
    c.push.ensures.entries
    ∙ sym (goes-last g.K.Ord.cmp g.met.K.Ord.total (entries_of c.args.self.now.leaves) (c.args.k, g.P.Inx.BasePtrInx.number c.args.name) (c.goes_last.ensures.last c.if-goes_last.true))

pub returns-then-goes_last-clause-houses : goal.returns-then-goes_last-clause-houses
returns-then-goes_last-clause-houses g c = c.push.ensures.houses

pub enter_inside-requires-clause-some : goal.enter_inside-requires-clause-some
enter_inside-requires-clause-some g c = c.goes_last.ensures.some c.if-goes_last.false

pub returns-clause-entries : goal.returns-clause-entries
returns-clause-entries g c = c.enter_inside.ensures.entries

pub returns-clause-houses : goal.returns-clause-houses
returns-clause-houses g c = c.enter_inside.ensures.houses
