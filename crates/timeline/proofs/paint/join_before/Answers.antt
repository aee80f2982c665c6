use Rattle.std.proofs.Common.{◌∙◌, sym, ap, inl, inr, refl, arith, is_some}
use Rattle.std.proofs.lemmas.Grind.{common_steps}
use Rattle.std.specs.Option.{option_and_then}
use Rattle.sorted_arena.specs.PlainPointer.{greatest_generation}
use Rattle.sorted_arena.proofs.CallerLemmas.{entries-without_entry}
use Rattle.timeline.proofs.{Places.value-there, Places.found-there, Places.without-there, Taking.keeps-removed}
use Rattle.timeline.proofs.paint.join_before.Goals as goal

pub returns-then-is_same : goal.returns-then-is_same
returns-then-is_same g c =
    let es = c.args.changes.now.entries in
    let distinct = c.prev-before.ensures.sound.distinct in
    record {
      taken = λ at.
          let found = found-there es distinct c.args.p at in
          let before = c.value_of.ensures ∙ value-there es distinct c.args.p at c.prev-before.result c.prev-before.ensures.value in
          let here = c.value_of-2.ensures ∙ ap (option_and_then (λ x. x.1)) found in
          inl (sym before ∙ c.is_same.ensures.0 c.if-is_same.true ∙ here, ap (λ a. a.entries) c.remove.ensures.after ∙ entries-without_entry greatest_generation c.args.changes.now c.args.p (ap is_some found) ∙ without-there es distinct c.args.p at);
      keeps = keeps-removed c.args.changes.now c.remove.new.self c.args.p c.remove.ensures.after c.remove.ensures.sound;
      count = grind (arith, common_steps);
    }

pub returns-else-is_same : goal.returns-else-is_same
returns-else-is_same g c =
    let es = c.args.changes.now.entries in
    let distinct = c.prev-before.ensures.sound.distinct in
    record {
      taken = λ at.
          let found = found-there es distinct c.args.p at in
          let before = c.value_of.ensures ∙ value-there es distinct c.args.p at c.prev-before.result c.prev-before.ensures.value in
          let here = c.value_of-2.ensures ∙ ap (option_and_then (λ x. x.1)) found in
          inr (λ same. absurd (let yes = c.is_same.ensures.1 (before ∙ same ∙ sym here) in cc), refl);
      keeps = record { capacity = refl; sound = c.prev-before.ensures.sound };
      count = omega arith;
    }
