use Rattle.timeline.proofs.Places.{around-some, around-none}
use Rattle.timeline.proofs.changes.around.Goals.{in-Some, in-None}
use Rattle.timeline.proofs.changes.around.Goals as goal

pub returns : goal.returns
returns g c = elim c.match-after.branch [
  | in-Some w ↦
      rw (w.before-is, w.after-is) (around-some c.args.time c.args.changes.now.entries w.in-Some.ensures.sound.distinct w.in-Some.ensures.sound.sorted w.prev-before.result w.in-Some.p w.in-Some.ensures.value w.prev-before.ensures.value)
  | in-None w ↦
      rw (w.before-is, w.after-is, w.in-None.is) (around-none c.args.time c.args.changes.now.entries w.in-None.ensures.sound.distinct w.in-None.ensures.sound.sorted w.last-before.result w.in-None.ensures.value w.last-before.ensures.value)
]
