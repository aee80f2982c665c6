use Rattle.std.proofs.{Common.◌∙◌, Common.refl, Common.sym, Common.ap, Common.is_some, Common.arith, lemmas.Grind.common_steps}
use Rattle.sorted_arena.specs.PlainPointer.{greatest_generation}
use Rattle.sorted_arena.proofs.CallerLemmas.{entries-without_entry}
use Rattle.timeline.proofs.Taking.{keeps-removed, none-next, beyond-next, takes-next}
use Rattle.timeline.proofs.paint.take_next.Goals as goal

pub returns-in_err-next-clause-takes : goal.returns-in_err-next-clause-takes
returns-in_err-next-clause-takes g c = record {
  taken = λ at. rw c.from_residual.ensures (none-next c.args.changes.now.entries c.in_err-next.ensures.sound.distinct c.args.p at c.args.until c.in_err-next.ensures.value);
  keeps = record { capacity = refl; sound = c.in_err-next.ensures.sound };
  count = omega arith;
}

pub returns-then-not-is_reached-clause-takes : goal.returns-then-not-is_reached-clause-takes
returns-then-not-is_reached-clause-takes g c = record {
  taken = λ at.
      (refl, beyond-next c.args.changes.now.entries c.in_ok-next.ensures.sound.distinct c.args.p at c.args.until c.in_ok-next.next c.in_ok-time.field-0.now c.in_ok-next.ensures.value c.in_ok-time.ensures (c.is_reached.ensures.no c.if-not-is_reached.true));
  keeps = record { capacity = refl; sound = c.in_ok-next.ensures.sound };
  count = omega arith;
}

pub returns-in-Some-clause-takes : goal.returns-in-Some-clause-takes
returns-in-Some-clause-takes g c = record {
  taken = λ at.
      takes-next c.args.changes.now.entries c.in_ok-next.ensures.sound.distinct c.args.p at c.args.until c.in_ok-next.next c.in_ok-time.field-0.now c.in_ok-next.ensures.value c.in_ok-time.ensures (c.is_reached.ensures.yes c.if-not-is_reached.false)
      (c.in-Some.field-0-0, c.in-Some.value) c.in-Some.ensures.value c.remove.new.self.entries (ap (λ a. a.entries) c.remove.ensures.after ∙ entries-without_entry greatest_generation c.args.changes.now c.in_ok-next.next (ap is_some (sym c.in-Some.ensures.value)));
  keeps = keeps-removed c.args.changes.now c.remove.new.self c.in_ok-next.next c.remove.ensures.after c.remove.ensures.sound;
  count = grind (arith, common_steps);
}
