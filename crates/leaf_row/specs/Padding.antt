-- The names of a row: those of its entries, and then ones that name nothing (layout).
use Rattle.std.specs.Prelude.{◌≡◌, ℕ, List, [], ◌∷◌}

-- all of them name nothing
abbrev pub AreNone : {I : Type 0} → (I → ℕ) → List I → Type 0
AreNone number [] = Unit {0}
AreNone number (n ∷ ns) = (number n ≡ 0) × AreNone number ns

-- there is a name for each key, and those behind name nothing
abbrev pub IsPadded : {K I : Type 0} → (I → ℕ) → List K → List I → Type 0
IsPadded number [] ns = AreNone number ns
IsPadded number (k ∷ ks) [] = ⊥
IsPadded number (k ∷ ks) (n ∷ ns) = IsPadded number ks ns
