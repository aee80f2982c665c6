use Rattle.std.proofs.Common.{◌≡◌, ◌+◌, ◌-◌, ◌<◌, ◌∙◌, ap, sym, subst, length, drop, map, ℤ, ℕ, List, arith}
use Rattle.std.specs.List.{zip}
use Rattle.sorted_arena.specs.{Sorted.count, Change.refusal_of}
use Rattle.sorted_arena.specs.PlainArena.{capacity_for}
use Rattle.arena_c.specs.Batch.{fall_behind, with_pointers, ExtendsAtOnce}
use Rattle.arena_c.specs.Shown.{Arena, most_entries}
use Rattle.arena_c.proofs.Extending.{length-zip, zip-keys, not-refused, counted, extended}
use Rattle.arena_c.proofs.content.Content.extend_sorted.Goals as goal

pub unreachable-requires : goal.unreachable-requires
unreachable-requires c =
    let ks = c.args.keys.now in let vs = c.args.values.now in let mid : Arena = c.reserve.new.self in let inside : Arena = c.self.inside.pairs in
    let long : length c.in-Ok.pairs.items ≡ length ks = ap length c.in-Ok.ensures.pairs ∙ length-zip ks vs c.requires.lengths in
    let same = ap length c.in_ok-reserve.ensures.kept.entries in
    not-refused inside mid c.extend_sorted.new.self ks c.in-Ok.pairs.items c.extend_sorted.result c.extend_sorted.ensures (omega (arith, long, same, c.in_ok-reserve.ensures.room)) c.in_ok-reserve.ensures.kept.entries
    c.in-Err.field-0.1 (ap refusal_of c.in-Err.is) (ap (map (λ (p : ℤ × ℕ). p.0)) c.in-Ok.ensures.pairs ∙ zip-keys ks vs c.requires.lengths) (ap (λ (a : Arena). fall_behind a ks) c.self.view_is ∙ c.requires.order)
    (λ over. let full : most_entries < count inside + length ks = omega (arith, long, same, over) in let refused = c.reserve.ensures.full.1 full in let passed = c.in_ok-reserve.was in cc)

pub write_last-requires : goal.write_last-requires
write_last-requires c =
    let ks = c.args.keys.now in let vs = c.args.values.now in let mid : Arena = c.reserve.new.self in let inside : Arena = c.self.inside.pairs in
    let long : length c.in-Ok.pairs.items ≡ length ks = ap length c.in-Ok.ensures.pairs ∙ length-zip ks vs c.requires.lengths in
    let same = ap length c.in_ok-reserve.ensures.kept.entries in
    omega (arith, long, counted inside mid c.extend_sorted.new.self ks c.in-Ok.pairs.items c.extend_sorted.result c.extend_sorted.ensures (omega (arith, long, same, c.in_ok-reserve.ensures.room)) c.in_ok-reserve.ensures.kept.entries c.in-Ok-extend_sorted.field-0 c.in-Ok-extend_sorted.is)

pub returns-clause-extends : goal.returns-clause-extends
returns-clause-extends c =
    let ks = c.args.keys.now in let vs = c.args.values.now in let mid : Arena = c.reserve.new.self in let inside : Arena = c.self.inside.pairs in let new : Arena = c.extend_sorted.new.self in
    let long : length c.in-Ok.pairs.items ≡ length ks = ap length c.in-Ok.ensures.pairs ∙ length-zip ks vs c.requires.lengths in
    let same = ap length c.in_ok-reserve.ensures.kept.entries in
    let whole = extended inside mid new ks c.in-Ok.pairs.items c.extend_sorted.result c.extend_sorted.ensures (omega (arith, long, same, c.in_ok-reserve.ensures.room)) c.in_ok-reserve.ensures.kept.entries c.in-Ok-extend_sorted.field-0 c.in-Ok-extend_sorted.is
    c.args.pointers.now c.write_last.new.pointers c.in_ok-reserve.ensures.kept.generation (c.in_ok-reserve.ensures.capacity ∙ ap (λ n. capacity_for most_entries inside.capacity (count inside + n)) (sym long))
    (c.write_last.ensures ∙ ap (λ n. with_pointers (drop (count new - n) new.entries) c.args.pointers.now) (sym long)) in
    subst (λ (a : Arena). ExtendsAtOnce (zip ks vs) a new c.args.pointers.now c.write_last.new.pointers) c.self.view_is
    (subst (λ (ps : List (ℤ × ℕ)). ExtendsAtOnce ps inside new c.args.pointers.now c.write_last.new.pointers) c.in-Ok.ensures.pairs whole)
