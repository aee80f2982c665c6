use Rattle.std.proofs.Common.{◌≡◌, ◌+◌, ◌-◌, ◌∙◌, ◌++◌, ◌∷◌, [], sym, take, ℕ, ℤ, arith}
use Rattle.sorted_arena.specs.Chain.{Entry}
use Rattle.sorted_arena.specs.Sorted.{count}
use Rattle.arena_c.specs.Shown.{pointer_shown}
use Rattle.arena_c.proofs.Extending.{back-passed, put-either, take-some}
use Rattle.arena_c.proofs.content.Content.write_last.Goals as goal

pub loop-i-preserved : goal.loop-i-preserved
loop-i-preserved c =
    let es = c.args.self.now.entries in let n = c.args.n in let i = c.loop-i.i in let all = count c.args.self.now in
    let x : Entry (ℤ × ℕ) = record { index = c.in-Some.shown.0.0; generation = c.in-Some.shown.0.1; item = (c.in-Some.shown.1.now, c.in-Some.shown.2.now) } in
    let at : take (all - i) es ≡ c.next_back.new.self ++ x ∷ [] = sym c.loop-i.invariant.rest ∙ c.in-Some.ensures.steps in
    let step = back-passed es c.next_back.new.self x (all - i) (all - (i + 1)) (omega (arith, c.requires, c.loop-i-test.true)) (omega (arith, c.requires, c.loop-i-test.true)) at in
    record {
      rest = step.0;
      written = put-either pointer_shown es x c.args.pointers.now c.loop-i.pointers n (all - i) (all - (i + 1)) (n - i) (n - (i + 1)) step.1 (omega (arith, c.loop-i-test.true)) c.loop-i.invariant.written
          c.put_at.new.pointers c.of.result (n - 1 - i) c.of.ensures (omega (arith, c.loop-i-test.true)) c.loop-i.auto.pointers c.put_at.ensures.inside c.put_at.ensures.outside;
    }

pub returns-in-None : goal.returns-in-None
returns-in-None c =
    absurd (take-some c.args.self.now.entries (count c.args.self.now - c.loop-i.i) (omega (arith, c.requires, c.loop-i-test.true)) (omega (arith, c.requires, c.loop-i-test.true))
    (sym c.loop-i.invariant.rest ∙ c.in-None.ensures.steps.0))
