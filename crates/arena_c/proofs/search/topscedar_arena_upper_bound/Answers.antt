use Rattle.std.proofs.Common.{◌∙◌, w64}
use Rattle.std.proofs.lemmas.Int.{to_z-of_z}
use Rattle.std.specs.Ordering.{int_cmp, is_lt}
use Rattle.sorted_arena.specs.Sorted.{first_where, key_of}
use Rattle.arena_c.specs.Shown.{Arena, entry_found}
use Rattle.arena_c.proofs.Answers.{found-by, looks}
use Rattle.arena_c.proofs.search.topscedar_arena_upper_bound.Goals as goal

pub returns : goal.returns
returns c =
    let found = found-by is_lt c.in-Some.content.value c.deref.result.now c.behind-content.inside.pairs c.args.key _ c.upper_bound.result c.entry_found-found.result (to_z-of_z w64 c.args.key c.ranges.key)
    c.deref.ensures (c.behind-content.view_is ∙ c.deref-2.ensures) c.upper_bound.ensures.value c.entry_found-found.ensures in
    looks (λ (a : Arena). entry_found a (first_where (λ e. is_lt (int_cmp c.args.key (key_of e))) a.entries)) c.in-Some.content.value _ _ _ _ _ _ c.in-Some.ensures.taken found c.answer.ensures.status
    c.answer.ensures.written c.answer.ensures.arena
