-- What an append of many items keeps of a list.
use Rattle.std.proofs.Common.{◌≡◌, ℕ, List, [], ◌∷◌, ap, ◌∙◌}
use Rattle.chain_base.specs.Chain.{Chain}
use Rattle.chain_base.proofs.CallerLemmas.{after-insertion}
use Rattle.ord_tree.specs.Append.{AppendsOne, Appends}

module _ {T : Type 0} where
  -- generation, capacity and maximum stay
  abbrev pub KeepsNumbers : Chain T → Chain T → Type 0
  KeepsNumbers old new = (new.generation ≡ old.generation) × (new.capacity ≡ old.capacity) × (new.maximum ≡ old.maximum)

  numbers-same : (old new : Chain T) → new ≡ old → KeepsNumbers old new
  numbers-same old new is = (ap (λ (c : Chain T). c.generation) is, ap (λ (c : Chain T). c.capacity) is, ap (λ (c : Chain T). c.maximum) is)

  pub numbers-one : (old new : Chain T) (t : T) (p : ℕ × ℕ) → AppendsOne old t p new → KeepsNumbers old new
  numbers-one old new t p one = numbers-same _ new (after-insertion old new _ t p.0 p.1 one).1

  pub numbers-appended : (old new : Chain T) (ts : List T) → Appends old ts new → KeepsNumbers old new
  numbers-appended old new [] is = numbers-same old new is
  numbers-appended old new (t ∷ ts) more =
      let one = numbers-one old more.0 t more.1 more.2 in
      let rest = numbers-appended more.0 new ts more.3 in
      (rest.0 ∙ one.0, rest.1 ∙ one.1, rest.2 ∙ one.2)
