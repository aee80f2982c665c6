use Rattle.ord_tree.proofs.Named.{index-named}
use Rattle.ord_tree.proofs.node_inx.node_at.Goals as goal

pub new-requires : goal.new-requires
new-requires g c = index-named g.P.Inx.BasePtrInx.most g.P.Gen.BasePtrGen.greatest c.args.chain.now c.len.ensures.sound (g.P.Inx.BasePtrInx.number c.args.i) c.requires
