use Rattle.std.proofs.Common.{◌≡◌, ◌∙◌, ap}
use Rattle.sorted_arena.specs.{Chain.first_pointer, Sorted.without_first}
use Rattle.arena_c.specs.Shown.{Arena, entry_found, greatest_generation}
use Rattle.arena_c.proofs.Answers.{changes, found-at, kept-first}
use Rattle.arena_c.proofs.pop.topscedar_arena_pop_first.Goals as goal

pub returns : goal.returns
returns c =
    let a : Arena = c.in-Some.content.value in
    let read : c.behind-content.inside.pairs ≡ a = c.behind-content.view_is ∙ c.deref-2.ensures in let written : c.behind-content-2.inside.pairs ≡ a = c.behind-content-2.view_is ∙ c.deref_mut.ensures.value in
    let found = found-at (λ (b : Arena). first_pointer b.entries) a c.deref.result.now c.behind-content.inside.pairs c.first.result c.entry_found-found.result c.deref.ensures read c.first.ensures.value c.entry_found-found.ensures in
    let after : c.pop_first.new.self ≡ without_first greatest_generation a = c.pop_first.ensures.after ∙ ap (λ (b : Arena). without_first greatest_generation b) written in
    changes (λ (b : Arena). entry_found b (first_pointer b.entries)) a _ _ _ _ _ _ c.in-Some.ensures.taken found c.answer.ensures.status c.answer.ensures.written
    (λ (b : Arena) (d : Arena). d ≡ without_first greatest_generation b) c.pop_first.new.self c.answer.ensures.arena (λ done. after)
    (kept-first a c.entry_found-found.result c.pop_first.new.self found after)
