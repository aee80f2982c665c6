use Rattle.ord_tree.proofs.ChainLemmas.{compression-keeps}
use Rattle.triple_ord.proofs.arena.SimpleOrdArena.compress_keeping_keys.Goals as goal

pub returns-clause-keys : goal.returns-clause-keys
returns-clause-keys g c =
    compression-keeps g.T.SimpleOrdItem.key_of g.P.BasePtr.numbers _ _ _ _ (λ f p x q y h called. c.requires.keeps f h p q x y called) _ c.args.self.now.list
    c.compress_with.new.self.list c.compress_with.ensures.sound c.compress_with.ensures.renumbers.after
