use Rattle.arena_base.proofs.Words.{◌≡◌, ℕ, ◌+◌, length, arith, drop, sym, ap, ◌∙◌, reverse, length-map, length-reverse, length-drop}
use Rattle.arena_base.proofs.{Words.common_steps, Words.vacant_slots, Slots.length-vacant_slots, Slots.vacant_slots-full}
use Rattle.arena_base.proofs.arena.growth.list_vacant.Goals as goal

pub returns-clause-items : goal.returns-clause-items
returns-clause-items g c =
    let position = c.loop-position.position in let here : 1 + position ≡ position + 1 = omega arith in
    let behind = vacant_slots-full 1 position c.args.slots.now (λ k below. c.requires.full k (omega (arith, below, c.loop-position-test.false))) in
    c.loop-position.invariant.items ∙ ap reverse (sym (behind ∙ ap (λ n. vacant_slots n (drop position c.args.slots.now)) here))

pub push_reserved-requires : goal.push_reserved-requires
push_reserved-requires g c =
    let position = c.loop-position.position in let vacant = c.loop-position.vacant in
    let listed = length-map vacant.items g.I.BasePtrInx.number in
    let few = length-vacant_slots (position + 1) (drop position c.args.slots.now) in let rest = length-drop position c.args.slots.now in
    omega (arith, vacant.ok.0, listed, ap length c.loop-position.invariant.items, length-reverse {A = ℕ}, few, rest)

pub loop-position-init : goal.loop-position-init
loop-position-init g c = grind (arith, common_steps)

pub loop-position-preserved : goal.loop-position-preserved
loop-position-preserved g c = grind (arith, common_steps)
