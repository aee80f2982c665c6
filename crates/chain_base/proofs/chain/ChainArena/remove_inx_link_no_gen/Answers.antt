use Rattle.std.proofs.Common.{sym, refl}
use Rattle.chain_base.proofs.Ends.{link_at-none}
use Rattle.chain_base.proofs.chain.ChainArena.remove_inx_link_no_gen.Goals as goal

pub returns-then-not-contains_inx : goal.returns-then-not-contains_inx
returns-then-not-contains_inx g c =
    record { value = link_at-none c.args.self.now.entries _ (sym c.if-not-contains_inx.ensures); overflow = tt; removed = tt; invalid = refl }
