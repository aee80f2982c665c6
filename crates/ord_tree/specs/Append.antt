-- Items that are appended: one after another, each behind all entries.
use Rattle.std.specs.Prelude.{◌≡◌, ℕ, List, [], ◌∷◌, ◌++◌}
use Rattle.chain_base.specs.{Chain.Chain, Insert.IsInsertion}

module _ {T : Type 0} where
  -- `new` is `old` with this item inserted behind all entries, under the pointer `p`
  abbrev pub AppendsOne : Chain T → T → ℕ × ℕ → Chain T → Type 0
  AppendsOne old t p new = IsInsertion old new (λ e. old.entries ++ e ∷ []) t p.0 p.1

  -- `new` is `old` with these items inserted one after another, each behind all entries
  abbrev pub Appends : Chain T → List T → Chain T → Type 0
  Appends old [] new = new ≡ old
  Appends old (t ∷ ts) new = (middle : Chain T) × (p : ℕ × ℕ) × AppendsOne old t p middle × Appends middle ts new
