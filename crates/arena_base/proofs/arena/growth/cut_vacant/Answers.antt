use Rattle.arena_base.proofs.{Words.arith, Words.sym, Words.◌∙◌, Words.Vacant, Slots.front-parts}
use Rattle.arena_base.proofs.arena.growth.cut_vacant.Goals as goal

pub loop-slots-preserved : goal.loop-slots-preserved
loop-slots-preserved g c =
    let rest = c.take_last.new.self in
    let parts = front-parts c.args.slots.now.items rest.items c.take_last.result Vacant rest.len c.loop-slots.slots.len
    (sym c.take_last.ensures.items ∙ c.loop-slots.invariant.items) (omega arith) (omega (arith, rest.ok.0)) in
    record { items = parts.0; cut = omega arith; within = omega arith; capacity = omega arith }

pub unreachable-requires : goal.unreachable-requires
unreachable-requires g c =
    let rest = c.take_last.new.self in
    let parts = front-parts c.args.slots.now.items rest.items c.take_last.result Vacant rest.len c.loop-slots.slots.len
    (sym c.take_last.ensures.items ∙ c.loop-slots.invariant.items) (omega arith) (omega (arith, rest.ok.0)) in
    let vacant = c.requires rest.len (omega arith) in cc parts.1
