use Rattle.std.proofs.Common.{◌∙◌, arith, rules}
use Rattle.std.proofs.lemmas.Grind.{common_steps}
use Rattle.timeline.proofs.Taking.{at_now, taking-more, taking-done}
use Rattle.timeline.proofs.paint.take_behind.Goals as goal

pub loop-value-preserved : goal.loop-value-preserved
loop-value-preserved g c = (
  λ at. taking-more c.args.until c.args.changes.now.entries c.args.p at c.loop-value.moved c.loop-value.changes.entries (c.loop-value.invariant.0 at) c.in-Some.value c.take_next.new.changes.entries
      (c.in-Some.ensures.takes.taken (at_now c.args.until c.args.changes.now.entries c.args.p at c.loop-value.moved c.loop-value.changes.entries (c.loop-value.invariant.0 at))),
  c.in-Some.ensures.takes.keeps.capacity ∙ c.loop-value.invariant.1,
  omega (arith, c.in-Some.ensures.count, c.loop-value.invariant.2),
)

pub returns : goal.returns
returns g c = record {
  taken = λ at.
      taking-done c.args.until c.args.changes.now.entries c.args.p at c.loop-value.moved c.loop-value.changes.entries (c.loop-value.invariant.0 at) c.take_next.new.changes.entries
      (c.in_default.ensures.takes.taken (at_now c.args.until c.args.changes.now.entries c.args.p at c.loop-value.moved c.loop-value.changes.entries (c.loop-value.invariant.0 at)))
      c.in_default.ensures.takes.keeps.sound.sorted;
  keeps = record { capacity = search rules; sound = c.in_default.ensures.takes.keeps.sound };
  count = grind (arith, common_steps);
}
