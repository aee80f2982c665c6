-- Values along lists of changes.
use Rattle.std.proofs.Common.{◌≡◌, ℕ, List, [], ◌∷◌, ◌++◌, Option, refl, sym, ◌∙◌, arith, inl, inr}
use Rattle.std.proofs.lemmas.Bool.Decides.{leb_tells}
use Rattle.timeline.specs.{Timeline.Change, Timeline.value_after, Layout.last_value}
use Rattle.timeline.proofs.Cutting.{AreUntil, AreAfter}

module _ {V : Type 0} where
  -- changes that are later say nothing
  pub value-early : (held : Option V) (cs : List (Change V)) (t : ℕ) → AreAfter t cs → value_after held cs t ≡ held
  value-early held [] t later = refl
  value-early held (c ∷ cs) t later = elim (leb_tells c.time t) [
    | inl h ↦ absurd (omega (arith, h.1, later.0))
    | inr h ↦ rw h.0 refl
  ]

  -- behind changes that are past, the rest says the value
  pub value-late : (held : Option V) (low high : List (Change V)) (t : ℕ) → AreUntil t low → value_after held (low ++ high) t ≡ value_after (last_value held low) high t
  value-late held [] high t past = refl
  value-late held (c ∷ low) high t past = elim (leb_tells c.time t) [
    | inl h ↦ rw h.0 (value-late c.value low high t past.1)
    | inr h ↦ absurd (omega (arith, h.1, past.0))
  ]

  -- where a list is cut at a time, the value there is the last before the cut
  pub value-cut : (held : Option V) (low high : List (Change V)) (t : ℕ) → AreUntil t low → AreAfter t high → value_after held (low ++ high) t ≡ last_value held low
  value-cut held low high t past later = value-late held low high t past ∙ value-early (last_value held low) high t later

  -- before a time what comes later doesn't matter
  pub value-before : (held : Option V) (low high other : List (Change V)) (t : ℕ) → AreAfter t high → AreAfter t other → value_after held (low ++ high) t ≡ value_after held (low ++ other) t
  value-before held [] high other t later too = value-early held high t later ∙ sym (value-early held other t too)
  value-before held (c ∷ low) high other t later too = elim (leb_tells c.time t) [
    | inl h ↦ rw h.0 (value-before c.value low high other t later too)
    | inr h ↦ rw h.0 refl
  ]
