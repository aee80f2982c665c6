use Rattle.std.proofs.Common.{◌≡◌, ◌∙◌, ℤ, ap, w64}
use Rattle.std.proofs.lemmas.Int.{to_z-of_z}
use Rattle.std.specs.Ordering.{int_cmp, is_eq}
use Rattle.sorted_arena.specs.Sorted.{first_where, key_of, without_where}
use Rattle.arena_c.specs.Shown.{Arena, entry_found, greatest_generation}
use Rattle.arena_c.proofs.Answers.{found-by, changes, kept-key}
use Rattle.arena_c.proofs.pop.topscedar_arena_remove_key.Goals as goal

pub returns : goal.returns
returns c =
    let a : Arena = c.in-Some.content.value in let read : c.behind-content.inside.pairs ≡ a = c.behind-content.view_is ∙ c.deref-2.ensures in
    let written : c.behind-content-2.inside.pairs ≡ a = c.behind-content-2.view_is ∙ c.deref_mut.ensures.value in
    let same_key = to_z-of_z w64 c.args.key c.ranges.key in
    let found = found-by is_eq a c.deref.result.now c.behind-content.inside.pairs c.args.key _ c.find.result c.entry_found-found.result same_key c.deref.ensures read c.find.ensures.value c.entry_found-found.ensures in
    let after : c.remove_key.new.self ≡ without_where greatest_generation a (λ e. is_eq (int_cmp c.args.key (key_of e))) =
    c.remove_key.ensures.after
    ∙ ap (λ (k : ℤ). without_where greatest_generation c.behind-content-2.inside.pairs (λ e. is_eq (int_cmp k (key_of e)))) same_key
    ∙ ap (λ (b : Arena). without_where greatest_generation b (λ e. is_eq (int_cmp c.args.key (key_of e)))) written in
    changes (λ (b : Arena). entry_found b (first_where (λ e. is_eq (int_cmp c.args.key (key_of e))) b.entries)) a _ _ _ _ _ _ c.in-Some.ensures.taken found c.answer.ensures.status c.answer.ensures.written
    (λ (b : Arena) (d : Arena). d ≡ without_where greatest_generation b (λ e. is_eq (int_cmp c.args.key (key_of e)))) c.remove_key.new.self c.answer.ensures.arena (λ done. after)
    (kept-key a c.behind-content-2.inside.pairs c.remove_key.new.self c.args.key _ c.remove_key.result c.entry_found-found.result written same_key found c.remove_key.ensures.value c.remove_key.ensures.none)
