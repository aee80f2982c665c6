use Rattle.std.proofs.Common.{◌≡◌, ◌∙◌, ap, w64, to_z, of_z, ℕ, ℤ}
use Rattle.std.proofs.lemmas.Int.{to_z-of_z}
use Rattle.std.specs.{Option.option_map, Ordering.int_cmp}
use Rattle.sorted_arena.specs.Sorted.{get, with_key}
use Rattle.arena_c.specs.Shown.{Arena, numbers_of}
use Rattle.arena_c.proofs.Answers.{changes, found-rekeyed, kept-rekeyed}
use Rattle.arena_c.proofs.pointed.topscedar_arena_rekey.Goals as goal

pub returns : goal.returns
returns c =
    let a : Arena = c.in-Some.content.value in
    let p : ℕ × ℕ = numbers_of c.args.pointer in
    let k : ℤ = to_z w64 (of_z w64 c.args.key) in
    let inside : c.behind-content.inside.pairs ≡ a = c.behind-content.view_is ∙ c.deref_mut.ensures.value in
    let found : c.ok-found.result ≡ option_map (λ (x : ℤ × ℕ). x.0) (get a p) =
    c.ok-found.ensures.value ∙ found-rekeyed c.rekey.result (get c.behind-content.inside.pairs c.p0.result) c.rekey.ensures.before c.rekey.ensures.stale
    ∙ ap (λ (b : Arena). option_map (λ (x : ℤ × ℕ). x.0) (get b c.p0.result)) inside ∙ ap (λ (q : ℕ × ℕ). option_map (λ (x : ℤ × ℕ). x.0) (get a q)) c.p0.ensures in
    let after : c.rekey.new.self ≡ with_key int_cmp a p c.args.key =
    c.rekey.ensures.after ∙ ap (λ (b : Arena). with_key int_cmp b c.p0.result k) inside ∙ ap (λ (q : ℕ × ℕ). with_key int_cmp a q k) c.p0.ensures
    ∙ ap (λ (l : ℤ). with_key int_cmp a p l) (to_z-of_z w64 c.args.key c.ranges.key) in
    changes (λ (b : Arena). option_map (λ (x : ℤ × ℕ). x.0) (get b p)) a _ _ _ _ _ _ c.in-Some.ensures.taken found c.answer.ensures.status c.answer.ensures.written
    (λ (b : Arena) (d : Arena). d ≡ with_key int_cmp b p c.args.key) c.rekey.new.self c.answer.ensures.arena (λ done. after)
    (kept-rekeyed a p c.args.key c.ok-found.result c.rekey.new.self found after)
