use Rattle.std.proofs.Common.{rules, ◌≡◌, ◌<◌, ◌≤◌, ◌+◌, ◌∙◌, ap, subst, ℤ, pos, get_or, w64, to_z, of_z, length, arith}
use Rattle.std.specs.Ordering.{int_cmp}
use Rattle.sorted_arena.specs.Sorted.{with_entry, count}
use Rattle.arena_c.specs.Shown.{Arena, most_entries}
use Rattle.arena_c.proofs.Runs.{append-step}
use Rattle.sorted_arena.proofs.CallerLemmas.{capacity-with_entry, generation-with_entry, keeps-more}
use Rattle.arena_c.proofs.content.Content.append.Goals as goal

pub loop-i-preserved : goal.loop-i-preserved
loop-i-preserved c =
    let ks = c.args.keys.now in let vs = c.args.values.now in let i = c.loop-i.i in let old = c.loop-i.self-inside.pairs in let new = c.insert.new.self in
    let in_ks : i < length ks = omega (arith, c.loop-i-test.true) in let in_vs : i < length vs = omega (arith, c.loop-i-test.true, c.requires.lengths) in
    let same : to_z w64 (of_z w64 (get_or ks i (pos 0))) ≡ get_or ks i (pos 0) = search rules in
    let put = subst (λ (k : ℤ). new ≡ with_entry int_cmp most_entries old c.in-Ok.field-0 (k, get_or vs i 0)) same c.in-Ok.ensures.ok in
    let room : count old + 1 ≤ old.capacity = omega (arith, in_ks, c.loop-i.invariant.counted, c.loop-i.invariant.capacity, c.requires.room) in
    let step = append-step old new c.in-Ok.field-0 _ ks vs i in_ks in_vs put c.loop-i.invariant.sorted c.loop-i.invariant.order c.loop-i.invariant.held in
    record { held = step.0; order = step.1; counted = omega (arith, c.in-Ok.ensures.count, c.loop-i.invariant.counted); capacity = ap (λ (a : Arena). a.capacity) put ∙ capacity-with_entry int_cmp most_entries old c.in-Ok.field-0 (get_or ks i (pos 0), get_or vs i 0) room ∙ c.loop-i.invariant.capacity; sorted = c.in-Ok.ensures.sound.sorted; keeps = keeps-more int_cmp most_entries c.args.self.now old new c.in-Ok.field-0 (get_or ks i (pos 0), get_or vs i 0) c.in-Ok.ensures.free put c.loop-i.invariant.keeps; generation = ap (λ (a : Arena). a.generation) put ∙ generation-with_entry int_cmp most_entries old c.in-Ok.field-0 (get_or ks i (pos 0), get_or vs i 0) ∙ c.loop-i.invariant.generation }
