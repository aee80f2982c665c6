use Rattle.triple_ord.proofs.Bare.{node-looked_up, link-looked_up}
use Rattle.triple_ord.proofs.arena.SimpleOrdArena.get_inx_node.Goals as goal

pub returns-clause-entry : goal.returns-clause-entry
returns-clause-entry g c = rw (← c.self.view_is) (link-looked_up c.self.inside.tree (λ e. (g.P.Gen.BasePtrGen.number e.0, e.1.now)) _ _ c.get_inx_node.ensures)

pub returns-clause-node : goal.returns-clause-node
returns-clause-node g c = rw (← c.self.view_is) (node-looked_up c.self.inside.tree (λ e. (g.P.Gen.BasePtrGen.number e.0, e.1.now)) _ _ c.get_inx_node.ensures)
