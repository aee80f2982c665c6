use Rattle.std.proofs.{Common.◌∙◌, Common.refl, Common.sym, Common.ap, Common.is_some, Common.arith, lemmas.Grind.common_steps}
use Rattle.sorted_arena.specs.PlainPointer.{greatest_generation}
use Rattle.sorted_arena.proofs.CallerLemmas.{entries-without_entry}
use Rattle.timeline.proofs.Taking.{keeps-removed, none-before, apart-before, takes-same}
use Rattle.timeline.proofs.paint.take_same.Goals as goal

pub returns-in_err-before : goal.returns-in_err-before
returns-in_err-before g c = record {
  taken = λ at. rw c.from_residual.ensures (none-before c.args.changes.now.entries c.in_err-before.ensures.sound.distinct c.args.p at c.args.from c.in_err-before.ensures.value);
  keeps = record { capacity = refl; sound = c.in_err-before.ensures.sound };
  count = omega arith;
}

pub returns-then-branch-from : goal.returns-then-branch-from
returns-then-branch-from g c = record {
  taken = λ at. (refl, apart-before c.args.changes.now.entries c.in_ok-before.ensures.sound.distinct c.args.p at c.args.from c.in_ok-before.before c.in_ok-key.field-0.now c.in_ok-before.ensures.value c.in_ok-key.ensures c.if-branch-from.true);
  keeps = record { capacity = refl; sound = c.in_ok-before.ensures.sound };
  count = omega arith;
}

pub returns-in-Some : goal.returns-in-Some
returns-in-Some g c = record {
  taken = λ at.
      takes-same c.args.changes.now.entries c.in_ok-before.ensures.sound.distinct c.args.p at c.args.from c.in_ok-before.before c.in_ok-key.field-0.now c.in_ok-before.ensures.value c.in_ok-key.ensures c.if-branch-from.false
      (c.in-Some.field-0-0, c.in-Some.value) c.in-Some.ensures.value c.remove.new.self.entries (ap (λ a. a.entries) c.remove.ensures.after ∙ entries-without_entry greatest_generation c.args.changes.now c.in_ok-before.before (ap is_some (sym c.in-Some.ensures.value)));
  keeps = keeps-removed c.args.changes.now c.remove.new.self c.in_ok-before.before c.remove.ensures.after c.remove.ensures.sound;
  count = grind (arith, common_steps);
}
