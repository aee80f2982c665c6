use Rattle.std.proofs.Common.{◌∙◌, sym, ap, option_map}
use Rattle.chain_base.specs.declared.chain.compress.Side.TheVariants.{Before, After}
use Rattle.chain_base.proofs.{Calls.beside-held, Calls.Removes-linked, Ends.occupied-laid_out}
use Rattle.chain_base.proofs.chain.ChainArena.remove_entry.Goals as goal

pub entry-requires : goal.entry-requires
entry-requires g c = let held = rw (← c.self.view_is) at c.requires in occupied-laid_out c.self.inside.arena _ _ c.self.invariant _ held

pub remove_entry-taken-requires : goal.remove_entry-taken-requires
remove_entry-taken-requires g c = let held = rw (← c.self.view_is) at c.requires in occupied-laid_out c.self.inside.arena _ _ c.self.invariant _ held

pub relink-requires-clause-left : goal.relink-requires-clause-left
relink-requires-clause-left g c = λ x is.
    rw c.remove_entry-taken.ensures.removed (beside-held c.self.inside.arena _ _ c.self.invariant g.P.Gen.BasePtrGen.greatest _ _ c.entry.ensures.value Before _
    (sym c.prev_next.ensures.prev ∙ ap (option_map g.P.Inx.BasePtrInx.number) is))

pub relink-requires-clause-right : goal.relink-requires-clause-right
relink-requires-clause-right g c = λ x is.
    rw c.remove_entry-taken.ensures.removed (beside-held c.self.inside.arena _ _ c.self.invariant g.P.Gen.BasePtrGen.greatest _ _ c.entry.ensures.value After _
    (sym c.prev_next.ensures.next ∙ ap (option_map g.P.Inx.BasePtrInx.number) is))

pub invariant_of-self : goal.invariant_of-self
invariant_of-self g c =
    let ends = c.relink.ensures in
    let beside = c.prev_next.ensures in
    let removes = Removes-linked c.self.inside.arena _ _ c.self.invariant g.P.Gen.BasePtrGen.greatest _ _ c.entry.ensures.value
    _ _ beside.prev beside.next beside.named_prev beside.named_next _ c.relink.new.arena _ _ c.remove_entry-taken.ensures.removed ends.arena ends.first ends.last in
    removes.laid

pub returns : goal.returns
returns g c =
    let ends = c.relink.ensures in
    let beside = c.prev_next.ensures in
    let taken = c.remove_entry-taken.ensures in
    let removes = Removes-linked c.self.inside.arena _ _ c.self.invariant g.P.Gen.BasePtrGen.greatest _ _ c.entry.ensures.value
    _ _ beside.prev beside.next beside.named_prev beside.named_next _ c.relink.new.arena _ _ taken.removed ends.arena ends.first ends.last in
    record {
      value = rw (← c.self.view_is, ← c.self.invariant.links) taken.value;
      overflow = rw (← c.self.view_is) taken.overflow;
      removed = rw (← c.self.view_is) removes.chain;
    }
