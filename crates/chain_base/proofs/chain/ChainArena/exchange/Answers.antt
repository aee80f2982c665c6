use Rattle.chain_base.specs.declared.chain.compress.Side.TheVariants.{Before, After}
use Rattle.chain_base.proofs.Exchanging.{can_exchange, alike-swap, target, occupied-named, Lies-written}
use Rattle.chain_base.proofs.{LaidOut.alike-next, LaidOut.alike-prev, Ends.occupied-laid_out, Sound.IsSound-viewed}
use Rattle.chain_base.proofs.chain.ChainArena.exchange.Goals as goal

pub swap_inx-requires-clause-first : goal.swap_inx-requires-clause-first
swap_inx-requires-clause-first g c = occupied-laid_out c.self.inside.arena _ _ c.self.invariant _ (let held = rw (← c.self.view_is) at c.requires.first in held)

pub swap_inx-requires-clause-second : goal.swap_inx-requires-clause-second
swap_inx-requires-clause-second g c = occupied-laid_out c.self.inside.arena _ _ c.self.invariant _ (let held = rw (← c.self.view_is) at c.requires.second in held)

pub set_next-requires : goal.set_next-requires
set_next-requires g c = λ x is.
    let can = can_exchange c.self.inside.arena _ _ _ _ _ c.self.view_is c.self.invariant c.requires.first c.requires.second c.requires.even in
    target can g.P.Inx.BasePtrInx.number Before _ _ (alike-swap can _ c.swap_inx.ensures.after) _ _ c.exchanged_inx.ensures c.neighbours_at-of_i.ensures.before _ is

pub set_prev-requires : goal.set_prev-requires
set_prev-requires g c = λ x is.
    let can = can_exchange c.self.inside.arena _ _ _ _ _ c.self.view_is c.self.invariant c.requires.first c.requires.second c.requires.even in
    let alike = alike-next _ _ _ _ _ c.set_next.ensures (alike-swap can _ c.swap_inx.ensures.after) in
    target can g.P.Inx.BasePtrInx.number After _ _ alike _ _ c.exchanged_inx-2.ensures c.neighbours_at-of_i.ensures.behind _ is

pub set_next-requires-2 : goal.set_next-requires-2
set_next-requires-2 g c = λ x is.
    let can = can_exchange c.self.inside.arena _ _ _ _ _ c.self.view_is c.self.invariant c.requires.first c.requires.second c.requires.even in
    let alike = alike-prev _ _ _ _ _ c.set_prev.ensures (alike-next _ _ _ _ _ c.set_next.ensures (alike-swap can _ c.swap_inx.ensures.after)) in
    target can g.P.Inx.BasePtrInx.number Before _ _ alike _ _ c.exchanged_inx-3.ensures c.neighbours_at-of_j.ensures.before _ is

pub set_prev-requires-2 : goal.set_prev-requires-2
set_prev-requires-2 g c = λ x is.
    let can = can_exchange c.self.inside.arena _ _ _ _ _ c.self.view_is c.self.invariant c.requires.first c.requires.second c.requires.even in
    let alike = alike-prev _ _ _ _ _ c.set_prev.ensures (alike-next _ _ _ _ _ c.set_next.ensures (alike-swap can _ c.swap_inx.ensures.after)) in
    target can g.P.Inx.BasePtrInx.number After _ _ (alike-next _ _ _ _ _ c.set_next-2.ensures alike) _ _ c.exchanged_inx-4.ensures c.neighbours_at-of_j.ensures.behind _ is

pub invariant_of-self : goal.invariant_of-self
invariant_of-self g c =
    let can = can_exchange c.self.inside.arena _ _ _ _ _ c.self.view_is c.self.invariant c.requires.first c.requires.second c.requires.even in
    let of_i = c.neighbours_at-of_i.ensures in
    let of_j = c.neighbours_at-of_j.ensures in
    let done = Lies-written can _ _ _ _ _ _ _ _ _ _ _ _ (occupied-named _ _ c.args.self.now _ (IsSound-viewed _ _ c.self.inside.arena _ _ c.self.invariant _ c.self.view_is c.swap_inx.ensures.sound) c.requires.second) (occupied-named _ _ c.args.self.now _ (IsSound-viewed _ _ c.self.inside.arena _ _ c.self.invariant _ c.self.view_is c.swap_inx.ensures.sound) c.requires.first)
    c.exchanged_inx.ensures of_i.before c.exchanged_inx-2.ensures of_i.behind c.exchanged_inx-3.ensures of_j.before c.exchanged_inx-4.ensures of_j.behind
    c.exchanged_inx-self-inside.ensures c.exchanged_inx-self-inside-2.ensures _ _ _ _ _ c.swap_inx.ensures.after c.set_next.ensures c.set_prev.ensures c.set_next-2.ensures c.set_prev-2.ensures in
    done.laid

pub returns : goal.returns
returns g c =
    let can = can_exchange c.self.inside.arena _ _ _ _ _ c.self.view_is c.self.invariant c.requires.first c.requires.second c.requires.even in
    let of_i = c.neighbours_at-of_i.ensures in
    let of_j = c.neighbours_at-of_j.ensures in
    let done = Lies-written can _ _ _ _ _ _ _ _ _ _ _ _ (occupied-named _ _ c.args.self.now _ (IsSound-viewed _ _ c.self.inside.arena _ _ c.self.invariant _ c.self.view_is c.swap_inx.ensures.sound) c.requires.second) (occupied-named _ _ c.args.self.now _ (IsSound-viewed _ _ c.self.inside.arena _ _ c.self.invariant _ c.self.view_is c.swap_inx.ensures.sound) c.requires.first)
    c.exchanged_inx.ensures of_i.before c.exchanged_inx-2.ensures of_i.behind c.exchanged_inx-3.ensures of_j.before c.exchanged_inx-4.ensures of_j.behind
    c.exchanged_inx-self-inside.ensures c.exchanged_inx-self-inside-2.ensures _ _ _ _ _ c.swap_inx.ensures.after c.set_next.ensures c.set_prev.ensures c.set_next-2.ensures c.set_prev-2.ensures in
    done.chain

pub neighbours_at-of_i-requires : goal.neighbours_at-of_i-requires
neighbours_at-of_i-requires g c = c.requires.first

pub neighbours_at-of_j-requires : goal.neighbours_at-of_j-requires
neighbours_at-of_j-requires g c = c.requires.second
