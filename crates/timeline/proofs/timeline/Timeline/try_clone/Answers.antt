use Rattle.std.proofs.Common.{ℕ, ◌<◌, ◌≤◌, List, [], ◌∷◌, arith}
use Rattle.std.proofs.lemmas.Grind.{common_steps}
use Rattle.sorted_arena.specs.Chain.{Entry, times, greatest_index}
use Rattle.timeline.proofs.timeline.Timeline.try_clone.Goals as goal

-- where each index is within a capacity, the greatest is
within : {T : Type 0} (es : List (Entry T)) (capacity : ℕ) → ((i : ℕ) → 1 ≤ times i es → (0 < i) × (i ≤ capacity)) → greatest_index es ≤ capacity
within [] capacity all = omega arith
within (e ∷ es) capacity all =
    let here : 1 ≤ times e.index (e ∷ es) = grind (arith, common_steps) in
    omega (arith, (all e.index here).1, within es capacity (λ i there. all i (omega (arith, there))))

pub returns-clause-capacity : goal.returns-clause-capacity
returns-clause-capacity g c = rw (← c.self.view_is) (omega (arith, c.in_ok-clone.ensures.capacity, within c.self.inside.changes.entries c.self.inside.changes.capacity c.len-2.ensures.sound.indexed))
