use Rattle.std.proofs.Common.{arith, ◌≡◌, ◌≢◌, Some, Option, ℕ, refl, sym, ap, option_map, ⊎_elim}
use Rattle.std.proofs.{lemmas.Bool.cases_eq, lemmas.Grind.common_steps}
use Rattle.ord_tree.specs.{TreeLinks.as_numbers, Slots.back_at}
use Rattle.ord_tree.proofs.Forks.{back-with_child}
use Rattle.ord_tree.proofs.nodes.replace_child.Goals as goal

pub returns-in-Some : goal.returns-in-Some
returns-in-Some g c =
    let number = g.N.Nodes.number in
    let p = number c.in-Some.p in
    let was = c.links-links.ensures in
    let is = c.set_child.ensures.here _ was in
    let backs : (j : ℕ) → back_at (g.N.Nodes.at c.args.nodes.now) j ≡ back_at (g.N.Nodes.at c.set_child.new.self) j
    = λ j. ⊎_elim (λ (same : j ≡ p). rw (same, was, is) (ap (λ (b : Option ℕ). Some b) (sym (back-with_child c.side_of-side.result (option_map number c.args.instead) (as_numbers number c.links-links.result)))))
    (λ (other : j ≢ p). rw (c.set_child.ensures.elsewhere j other) refl) (cases_eq j p) in
    grind (arith, common_steps, backs)
