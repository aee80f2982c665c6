use Rattle.std.proofs.Common.{Option, Some, IsSome, sym, ap, subst, ◌∙◌, inl, inr, option_map, option_and_then}
use Rattle.arena_base.specs.{Arena.slot, Pointer.named_of}
use Rattle.chain_base.specs.Insert.{placed}
use Rattle.chain_base.proofs.LaidOut.{alike-next, alike-prev}
use Rattle.chain_base.proofs.Moving.{stood, held-beside, held-itself, held-place, closed-alike, closed-holding, Moves-linked}
use Rattle.chain_base.proofs.{Ends.occupied-laid_out, Sound.IsSound-viewed}
use Rattle.chain_base.specs.Move.{without_entry}
use Rattle.chain_base.proofs.chain.ChainArena.move_beside.Goals as goal

pub entry-requires : goal.entry-requires
entry-requires g c = let held = rw (← c.self.view_is) at c.requires.entry in occupied-laid_out c.self.inside.arena _ _ c.self.invariant _ held

pub relink-requires-clause-left : goal.relink-requires-clause-left
relink-requires-clause-left g c = λ x is.
    let st = stood c.self.inside.arena _ _ c.args.self.now _ _ c.self.view_is c.self.invariant c.entry.ensures.value in
    held-beside st _ (inl (sym c.prev_next.ensures.prev ∙ ap (option_map g.P.Inx.BasePtrInx.number) is))

pub relink-requires-clause-right : goal.relink-requires-clause-right
relink-requires-clause-right g c = λ x is.
    let st = stood c.self.inside.arena _ _ c.args.self.now _ _ c.self.view_is c.self.invariant c.entry.ensures.value in
    held-beside st _ (inr (sym c.prev_next.ensures.next ∙ ap (option_map g.P.Inx.BasePtrInx.number) is))

pub neighbours_in-requires : goal.neighbours_in-requires
neighbours_in-requires g c =
    let st = stood c.self.inside.arena _ _ c.args.self.now _ _ c.self.view_is c.self.invariant c.entry.ensures.value in
    let beside = c.prev_next.ensures in
    (without_entry c.args.self.now (g.P.Inx.BasePtrInx.number c.args.i), closed-holding st _ _ (IsSound-viewed _ _ c.self.inside.arena _ _ c.self.invariant _ c.self.view_is c.entry.ensures.sound) _ _ beside.prev beside.next beside.named_prev beside.named_next _ c.relink.ensures.arena, c.requires.place)

pub set_next-requires : goal.set_next-requires
set_next-requires g c = λ x is.
    let st = stood c.self.inside.arena _ _ c.args.self.now _ _ c.self.view_is c.self.invariant c.entry.ensures.value in
    let beside = c.prev_next.ensures in
    let alike = closed-alike st _ _ (IsSound-viewed _ _ c.self.inside.arena _ _ c.self.invariant _ c.self.view_is c.entry.ensures.sound) _ _ beside.prev beside.next beside.named_prev beside.named_next _ c.relink.ensures.arena in
    subst (λ (o : Option _). IsSome (option_and_then (λ y. slot c.relink.new.arena (g.P.Inx.BasePtrInx.number y)) o)) is (held-itself st _ alike)

pub set_prev-requires : goal.set_prev-requires
set_prev-requires g c = λ x is.
    let st = stood c.self.inside.arena _ _ c.args.self.now _ _ c.self.view_is c.self.invariant c.entry.ensures.value in
    let beside = c.prev_next.ensures in
    let alike = closed-alike st _ _ (IsSound-viewed _ _ c.self.inside.arena _ _ c.self.invariant _ c.self.view_is c.entry.ensures.sound) _ _ beside.prev beside.next beside.named_prev beside.named_next _ c.relink.ensures.arena in
    subst (λ (o : Option _). IsSome (option_and_then (λ y. slot c.set_next.new.arena (g.P.Inx.BasePtrInx.number y)) o)) is (held-itself st _ (alike-next _ _ _ (Some (g.P.Inx.BasePtrInx.number c.args.i)) (named_of (option_map g.P.Inx.BasePtrInx.number c.neighbours_in.result.1)) c.set_next.ensures alike))

pub relink-requires-2-clause-left : goal.relink-requires-2-clause-left
relink-requires-2-clause-left g c = λ x is.
    let st = stood c.self.inside.arena _ _ c.args.self.now _ _ c.self.view_is c.self.invariant c.entry.ensures.value in
    let beside = c.prev_next.ensures in
    let alike = closed-alike st _ _ (IsSound-viewed _ _ c.self.inside.arena _ _ c.self.invariant _ c.self.view_is c.entry.ensures.sound) _ _ beside.prev beside.next beside.named_prev beside.named_next _ c.relink.ensures.arena in
    let holding = closed-holding st _ _ (IsSound-viewed _ _ c.self.inside.arena _ _ c.self.invariant _ c.self.view_is c.entry.ensures.sound) _ _ beside.prev beside.next beside.named_prev beside.named_next _ c.relink.ensures.arena in
    let at = c.neighbours_in.ensures (without_entry c.args.self.now (g.P.Inx.BasePtrInx.number c.args.i)) holding c.requires.place in
    held-place st _ _ _ at _ (alike-prev _ _ _ (Some (g.P.Inx.BasePtrInx.number c.args.i)) (named_of (option_map g.P.Inx.BasePtrInx.number c.neighbours_in.result.0)) c.set_prev.ensures (alike-next _ _ _ (Some (g.P.Inx.BasePtrInx.number c.args.i)) (named_of (option_map g.P.Inx.BasePtrInx.number c.neighbours_in.result.1)) c.set_next.ensures alike)) _ (inl (ap (option_map g.P.Inx.BasePtrInx.number) is))

pub relink-requires-2-clause-right : goal.relink-requires-2-clause-right
relink-requires-2-clause-right g c = λ x is.
    let st = stood c.self.inside.arena _ _ c.args.self.now _ _ c.self.view_is c.self.invariant c.entry.ensures.value in
    let beside = c.prev_next.ensures in
    let alike = closed-alike st _ _ (IsSound-viewed _ _ c.self.inside.arena _ _ c.self.invariant _ c.self.view_is c.entry.ensures.sound) _ _ beside.prev beside.next beside.named_prev beside.named_next _ c.relink.ensures.arena in
    let holding = closed-holding st _ _ (IsSound-viewed _ _ c.self.inside.arena _ _ c.self.invariant _ c.self.view_is c.entry.ensures.sound) _ _ beside.prev beside.next beside.named_prev beside.named_next _ c.relink.ensures.arena in
    let at = c.neighbours_in.ensures (without_entry c.args.self.now (g.P.Inx.BasePtrInx.number c.args.i)) holding c.requires.place in
    held-place st _ _ _ at _ (alike-prev _ _ _ (Some (g.P.Inx.BasePtrInx.number c.args.i)) (named_of (option_map g.P.Inx.BasePtrInx.number c.neighbours_in.result.0)) c.set_prev.ensures (alike-next _ _ _ (Some (g.P.Inx.BasePtrInx.number c.args.i)) (named_of (option_map g.P.Inx.BasePtrInx.number c.neighbours_in.result.1)) c.set_next.ensures alike)) _ (inr (ap (option_map g.P.Inx.BasePtrInx.number) is))

pub invariant_of-self : goal.invariant_of-self
invariant_of-self g c =
    let st = stood c.self.inside.arena _ _ c.args.self.now _ _ c.self.view_is c.self.invariant c.entry.ensures.value in
    let beside = c.prev_next.ensures in
    let holding = closed-holding st _ _ (IsSound-viewed _ _ c.self.inside.arena _ _ c.self.invariant _ c.self.view_is c.entry.ensures.sound) _ _ beside.prev beside.next beside.named_prev beside.named_next _ c.relink.ensures.arena in
    let at = c.neighbours_in.ensures (without_entry c.args.self.now (g.P.Inx.BasePtrInx.number c.args.i)) holding c.requires.place in
    let closed = c.relink.ensures in
    let ends = c.relink-2.ensures in
    let done = Moves-linked st _ _ (IsSound-viewed _ _ c.self.inside.arena _ _ c.self.invariant _ c.self.view_is c.entry.ensures.sound) _ _ beside.prev beside.next beside.named_prev beside.named_next _ closed.arena (placed g.P.Inx.BasePtrInx.number c.args.kind) _ _ at
    _ _ closed.first closed.last _ _ _ c.set_next.ensures c.set_prev.ensures ends.arena _ _ ends.first ends.last in
    done.laid

pub returns : goal.returns
returns g c =
    let st = stood c.self.inside.arena _ _ c.args.self.now _ _ c.self.view_is c.self.invariant c.entry.ensures.value in
    let beside = c.prev_next.ensures in
    let holding = closed-holding st _ _ (IsSound-viewed _ _ c.self.inside.arena _ _ c.self.invariant _ c.self.view_is c.entry.ensures.sound) _ _ beside.prev beside.next beside.named_prev beside.named_next _ c.relink.ensures.arena in
    let at = c.neighbours_in.ensures (without_entry c.args.self.now (g.P.Inx.BasePtrInx.number c.args.i)) holding c.requires.place in
    let closed = c.relink.ensures in
    let ends = c.relink-2.ensures in
    let done = Moves-linked st _ _ (IsSound-viewed _ _ c.self.inside.arena _ _ c.self.invariant _ c.self.view_is c.entry.ensures.sound) _ _ beside.prev beside.next beside.named_prev beside.named_next _ closed.arena (placed g.P.Inx.BasePtrInx.number c.args.kind) _ _ at
    _ _ closed.first closed.last _ _ _ c.set_next.ensures c.set_prev.ensures ends.arena _ _ ends.first ends.last in
    done.chain
