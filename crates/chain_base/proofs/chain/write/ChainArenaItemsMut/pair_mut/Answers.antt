use Rattle.std.proofs.Common.{is_some, ◌∙◌, ap, refl, sym}
use Rattle.chain_base.proofs.{Ends.entry_at-laid_out, Steps.Writes-at}
use Rattle.chain_base.proofs.chain.write.ChainArenaItemsMut.pair_mut.Goals as goal

pub link_item_mut-requires : goal.link_item_mut-requires
link_item_mut-requires g c =
    let held = rw (← c.self.view_is) at c.requires in ap is_some (sym (entry_at-laid_out c.self.inside.arena _ _ c.self.invariant _)) ∙ held

pub invariant_of-self-lent : goal.invariant_of-self-lent
invariant_of-self-lent g c = λ w. (Writes-at c.self.inside.arena _ _ c.self.invariant _ w).laid

pub returns : goal.returns
returns g c = (
  (refl, λ w. rw (← c.self.view_is) (Writes-at c.self.inside.arena _ _ c.self.invariant _ w).chain),
  record { writes_back = tt; value = rw (← c.self.view_is) (entry_at-laid_out c.self.inside.arena _ _ c.self.invariant _ ∙ c.link_item_mut.ensures.value) },
)
