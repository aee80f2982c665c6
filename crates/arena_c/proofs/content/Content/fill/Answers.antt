use Rattle.std.proofs.Common.{◌≡◌, ◌∙◌, ◌+◌, sym, ap, drop, ℕ, ℤ, [], ◌∷◌, List, arith}
use Rattle.sorted_arena.specs.Chain.{Entry, from_index}
use Rattle.arena_c.specs.Shown.{shown_entry}
use Rattle.arena_c.proofs.Runs.{drop-none, drop-some, drop-step, written-step}
use Rattle.arena_c.proofs.content.Content.fill.Goals as goal

pub returns-in-None-clause-filled : goal.returns-in-None-clause-filled
returns-in-None-clause-filled c =
    let run = from_index c.args.self.now.entries c.args.first.0 in
    let done : drop c.loop-i.i run ≡ [] = sym c.loop-i.invariant.rest ∙ c.in-None.ensures.steps.0 in
    record { count = omega (arith, drop-none run c.loop-i.i done, c.loop-i-test.true, c.loop-i.invariant.reached); written = c.loop-i.invariant.written }

pub loop-i-preserved : goal.loop-i-preserved
loop-i-preserved c =
    let run = from_index c.args.self.now.entries c.args.first.0 in let n = c.loop-i.i in
    let x : Entry (ℤ × ℕ) = record { index = c.in-Some-next.shown.0.0; generation = c.in-Some-next.shown.0.1; item = (c.in-Some-next.shown.1.now, c.in-Some-next.shown.2.now) } in
    let at : drop n run ≡ x ∷ c.next.new.self = sym c.loop-i.invariant.rest ∙ c.in-Some-next.ensures.steps in
    let behind = drop-step run c.next.new.self x n at in let cut : drop n run ≡ x ∷ drop (n + 1) run = at ∙ ap (λ (zs : List (Entry (ℤ × ℕ))). x ∷ zs) (sym behind) in
    let after = drop-some run (drop (n + 1) run) x n cut in
    record {
      rest = sym behind;
      written = written-step shown_entry run (drop (n + 1) run) c.args.entries.now c.loop-i.entries n x _ cut c.of.ensures c.loop-i.invariant.written (omega (arith, c.loop-i-test.true));
      reached = omega (arith, after);
    }
