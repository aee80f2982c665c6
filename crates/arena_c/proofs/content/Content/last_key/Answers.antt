use Rattle.std.proofs.Common.{◌∙◌, sym, ap, ℤ, ℕ}
use Rattle.std.specs.Option.{option_map}
use Rattle.sorted_arena.specs.Sorted.{last_item}
use Rattle.sorted_arena.proofs.CallerLemmas.{last-named}
use Rattle.arena_c.specs.Shown.{Arena}
use Rattle.arena_c.proofs.content.Content.last_key.Goals as goal

pub returns : goal.returns
returns c =
    let named = (last-named c.self.inside.pairs.entries c.in_ok-last.ensures.sound.distinct c.in_ok-last.last (sym c.in_ok-last.ensures.value)).0 in
    c.copied.ensures ∙ c.key.ensures ∙ ap (option_map (λ (e : ℤ × ℕ). e.0)) named ∙ ap (λ (a : Arena). option_map (λ (e : ℤ × ℕ). e.0) (last_item a.entries)) c.self.view_is
