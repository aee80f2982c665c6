use Rattle.std.proofs.Common.{◌∙◌, ◌≢◌, sym, ap, subst, is_some}
use Rattle.std.specs.{Option.option_and_then, Ordering.nat_cmp, Cmp.nat_cmp_total}
use Rattle.sorted_arena.specs.PlainPointer.{greatest_generation}
use Rattle.sorted_arena.proofs.CallerLemmas.{entries-without_entry, inserted-between}
use Rattle.timeline.specs.Timeline.{most_entries}
use Rattle.timeline.specs.Layout.{IsFinished, changes_of}
use Rattle.timeline.proofs.{Places.found-there, Places.without-there, Taking.keeps-removed, Painting.finished-same, Painting.finished-other}
use Rattle.timeline.proofs.paint.finish.Goals as goal

pub returns-in-Err-clause-err : goal.returns-in-Err-clause-err
returns-in-Err-clause-err g c at =
    let es = c.args.changes.now.entries in
    let distinct = c.requires.sound.distinct in
    ap (λ a. a.entries) c.remove.ensures.after ∙ entries-without_entry greatest_generation c.args.changes.now c.args.p (ap is_some (found-there es distinct c.args.p at)) ∙ without-there es distinct c.args.p at

pub returns-then-is_end-clause-finished : goal.returns-then-is_end-clause-finished
returns-then-is_end-clause-finished g c stands =
    let es = c.args.changes.now.entries in
    let here = c.value_of.ensures ∙ ap (option_and_then (λ x. x.1)) (found-there es c.requires.sound.distinct c.args.p stands.at) in
    let other : stands.at.entry.item.1 ≢ c.in-Ok.after = λ same. absurd (let yes = c.is_same-is_end.ensures.1 (here ∙ same ∙ sym c.as_ref.ensures.value) in let no = c.if-is_end.true in cc) in
    subst (λ v. IsFinished stands v (changes_of c.insert_at.new.changes)) (c.in-Ok.ensures.ok stands.at)
    (finished-other es c.args.p c.args.until stands c.join_before.new.changes (c.join_before.ensures.taken stands.at) c.in-Ok.after c.insert_at.result c.insert_at.new.changes other
    (inserted-between nat_cmp nat_cmp_total most_entries _ _ _ _ c.insert_at.ensures.inserted c.insert_at.ensures.keeps.sound.sorted))

pub returns-else-is_end-clause-finished : goal.returns-else-is_end-clause-finished
returns-else-is_end-clause-finished g c stands =
    let es = c.args.changes.now.entries in
    let here = c.value_of.ensures ∙ ap (option_and_then (λ x. x.1)) (found-there es c.requires.sound.distinct c.args.p stands.at) in
    subst (λ v. IsFinished stands v (changes_of c.join_before.new.changes)) (c.in-Ok.ensures.ok stands.at)
    (finished-same es c.args.p c.args.until stands c.join_before.new.changes (c.join_before.ensures.taken stands.at) c.in-Ok.after (sym here ∙ c.is_same-is_end.ensures.0 c.if-is_end.false ∙ c.as_ref.ensures.value))

pub returns-in-Err-clause-keeps : goal.returns-in-Err-clause-keeps
returns-in-Err-clause-keeps g c = keeps-removed c.args.changes.now c.remove.new.self c.args.p c.remove.ensures.after c.remove.ensures.sound
