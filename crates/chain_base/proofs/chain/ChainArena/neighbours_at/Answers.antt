use Rattle.chain_base.proofs.Ends.{occupied-laid_out, some-of}
use Rattle.chain_base.proofs.chain.ChainArena.neighbours_at.Goals as goal

pub unwrap-requires : goal.unwrap-requires
unwrap-requires g c = some-of _ c.get_inx.result _ c.get_inx.ensures
    (occupied-laid_out c.self.inside.arena _ _ c.self.invariant _ (let held = rw (← c.self.view_is) at c.requires in held))
