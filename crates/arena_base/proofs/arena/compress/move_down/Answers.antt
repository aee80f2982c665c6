use Rattle.arena_base.proofs.Compressing.{compressed-begins, compressed-vacant, compressed-free, compressed-filled, compressed-ends}
use Rattle.arena_base.proofs.{Words.◌<◌, Words.length, Words.get_or, Words.set, Words.arith, Words.sym, Words.ap, Words.◌∙◌, Words.rules, arena.compress.move_down.Goals.in-Some, arena.compress.move_down.Goals.in_default}
use Rattle.arena_base.proofs.arena.compress.move_down.Goals as goal

pub loop-from-init : goal.loop-from-init
loop-from-init g c =
    (c.requires.callable, compressed-begins g.P.BasePtr.numbers g.P.Gen.BasePtrGen.number g.M.MapEntry.step c.args.generation c.args.map c.args.slots.now.items)

pub fill-requires : goal.fill-requires
fill-requires g c =
    let at = c.loop-from in
    compressed-free at.invariant.1 (search rules) _
    (c.index_mut-slot-in-Some.ensures.value ∙ ap (λ v. get_or (set at.slots.items at.from v) at.to c.index_mut-slot-in-Some.result.now) c.vacate.ensures.after)

pub loop-from-preserved : goal.loop-from-preserved
loop-from-preserved g c =
    let at = c.loop-from in let inside : at.from < length c.args.slots.now.items = search rules in
    elim c.match-vacate.branch [
      | in-Some w ↦
          rw (w.slots-is, w.map-is, w.to-is, w.fill.ensures, c.vacate.ensures.after) (
            w.map_entry-answer.ensures.callable,
            compressed-filled at.invariant.1 inside _ c.index_mut-slot.ensures.value _ _ _ _ _ _ (sym c.vacate.ensures.value ∙ w.in-Some.is)
                w.pointer.ensures w.pointer-in-Some.ensures w.map_entry-answer.ensures.step,
          )
      | in_default w ↦
          rw (w.slots-is, w.map-is, w.to-is, c.vacate.ensures.after) (
            at.invariant.0,
            compressed-vacant at.invariant.1 inside _ c.index_mut-slot.ensures.value (sym c.vacate.ensures.value ∙ w.in_default.is),
          )
    ]

pub returns-clause-items : goal.returns-clause-items
returns-clause-items g c = compressed-ends c.loop-from.invariant.1 (omega arith) (omega arith)
