use Rattle.std.proofs.Common.{◌≡◌, ◌∙◌, ap, subst}
use Rattle.sorted_arena.specs.{Chain.IsDistinct, Chain.last_pointer, Sorted.without_last}
use Rattle.arena_c.specs.Shown.{Arena, entry_found, greatest_generation}
use Rattle.arena_c.proofs.Answers.{changes, found-at, kept-last}
use Rattle.arena_c.proofs.pop.topscedar_arena_pop_last.Goals as goal

pub returns : goal.returns
returns c =
    let a : Arena = c.in-Some.content.value in
    let read : c.behind-content.inside.pairs ≡ a = c.behind-content.view_is ∙ c.deref-2.ensures in let written : c.behind-content-2.inside.pairs ≡ a = c.behind-content-2.view_is ∙ c.deref_mut.ensures.value in
    let found = found-at (λ (b : Arena). last_pointer b.entries) a c.deref.result.now c.behind-content.inside.pairs c.last.result c.entry_found-found.result c.deref.ensures read c.last.ensures.value c.entry_found-found.ensures in
    let after : c.pop_last.new.self ≡ without_last greatest_generation a = c.pop_last.ensures.after ∙ ap (λ (b : Arena). without_last greatest_generation b) written in
    changes (λ (b : Arena). entry_found b (last_pointer b.entries)) a _ _ _ _ _ _ c.in-Some.ensures.taken found c.answer.ensures.status c.answer.ensures.written
    (λ (b : Arena) (d : Arena). d ≡ without_last greatest_generation b) c.pop_last.new.self c.answer.ensures.arena (λ done. after)
    (kept-last a (subst (λ (b : Arena). IsDistinct b.entries) read c.last.ensures.sound.distinct) c.entry_found-found.result c.pop_last.new.self found after)
