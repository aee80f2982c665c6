use Rattle.arena_base.proofs.{Words.◌≡◌, Words.ℕ, Words.◌+◌, Words.None, Words.◌∷◌, Words.◌-◌, Words.arith, Words.common_steps, Words.sym, Words.ap, Words.◌∙◌, Words.option_map, Words.generation_at, Words.falling_from, Walks.falling-none, Walks.falling-some}
use Rattle.arena_base.proofs.arena.Arena.last_before.Goals as goal

pub returns-in-Some-clause-finds : goal.returns-in-Some-clause-finds
returns-in-Some-clause-finds g c =
    let a = c.args.self.now in let n = c.loop-position.position in let next : n ≡ n - 1 + 1 = omega arith in
    let index : n ≡ (g.P.BasePtr.numbers c.pointer.result).0 = next ∙ sym c.pointer.ensures.index in
    record {
      pointers = sym c.loop-position.invariant
          ∙ (falling-some a.slots n (n - 1) next (omega arith) (g.P.Gen.BasePtrGen.number c.in-Some.generation) (rw (← next) at (sym c.in-Some.ensures))
          ∙ (ap (λ (i : ℕ). (i, g.P.Gen.BasePtrGen.number c.in-Some.generation) ∷ falling_from a (n - 1)) index
          ∙ ap (λ (e : ℕ). ((g.P.BasePtr.numbers c.pointer.result).0, e) ∷ falling_from a (n - 1)) (sym c.pointer.ensures.generation)));
      there = grind (arith, common_steps);
      next = grind (arith, common_steps);
    }

pub loop-position-preserved : goal.loop-position-preserved
loop-position-preserved g c =
    let a = c.args.self.now in let n = c.loop-position.position in let next : n ≡ n - 1 + 1 = omega arith in
    let none : generation_at a (n - 1 + 1) ≡ None = sym c.generation_at.ensures ∙ ap (option_map g.P.Gen.BasePtrGen.number) c.in_default.is in
    sym (falling-none a.slots n (n - 1) next (omega arith) (rw (← next) at none)) ∙ c.loop-position.invariant
