use Rattle.ord_tree.proofs.Trees.{IsSoundTree-laid_out}
use Rattle.ord_tree.proofs.tree.OrdTree.chain.Goals as goal

pub returns-clause-sound : goal.returns-clause-sound
returns-clause-sound g c = rw (← c.self.view_is) (IsSoundTree-laid_out c.self.inside.chain _ c.self.invariant)
