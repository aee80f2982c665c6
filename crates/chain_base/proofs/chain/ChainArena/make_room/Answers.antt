use Rattle.std.proofs.Common.{◌∙◌, arith, sym, subst, IsSome}
use Rattle.chain_base.specs.Chain.{Chain, next_index}
use Rattle.chain_base.proofs.Room.{with_room-full, next-grown}
use Rattle.chain_base.proofs.chain.ChainArena.make_room.Goals as goal

pub returns-in-Ok-clause-ok : goal.returns-in-Ok-clause-ok
returns-in-Ok-clause-ok g c =
    c.in-Ok.ensures.ok ∙ with_room-full _ _ c.args.self.now c.len.ensures.sound (omega arith) c.doubled_capacity.result (omega arith) (omega arith)

pub returns-in-Ok-clause-next : goal.returns-in-Ok-clause-next
returns-in-Ok-clause-next g c =
    let N : Chain _ → Type 0 = λ chain. IsSome (next_index chain) in
    subst N (sym c.in-Ok.ensures.ok) (next-grown _ _ c.args.self.now c.len.ensures.sound (omega arith) c.doubled_capacity.result (omega arith))
