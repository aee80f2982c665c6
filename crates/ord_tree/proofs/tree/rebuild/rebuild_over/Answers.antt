use Rattle.ord_tree.proofs.Rebuilt.{rebuilt-shape_in, IsOnce-bare, slots-within_bare}
use Rattle.ord_tree.proofs.tree.rebuild.rebuild_over.Goals as goal

pub rebuild-requires-clause-once : goal.rebuild-requires-clause-once
rebuild-requires-clause-once g c = IsOnce-bare c.args.chain.now _ _ c.len-len.ensures.sound

pub rebuild-requires-clause-there : goal.rebuild-requires-clause-there
rebuild-requires-clause-there g c = slots-within_bare c.args.chain.now

pub returns : goal.returns
returns g c =
    let both = rebuilt-shape_in c.args.chain.now c.rebuild.new.nodes c.rebuild.ensures.kept _ c.rebuild.ensures.rebuilt in
    record { laid = both.0; rebuilt = both.1; kept = c.rebuild.ensures.kept }
