-- Lists in the order of their keys.
use Rattle.std.specs.{declared.cmp.Ordering.Ordering, declared.cmp.Ordering.TheVariants.Greater, Prelude.◌≡◌, Prelude.◌≢◌, Prelude.List, Prelude.◌∷◌, Prelude.◌++◌}
use Rattle.ord_tree.specs.Chain.{Entry}

-- no entry's key is greater than that of the entry directly after it
abbrev pub IsInOrder : {T K : Type 0} → (T → K) → (K → K → Ordering) → List (Entry T) → Type 0
IsInOrder {T} key cmp entries =
    (front back : List (Entry T)) (e f : Entry T) → entries ≡ front ++ e ∷ f ∷ back → cmp (key e.item) (key f.item) ≢ Greater

-- each call keeps the key of the item
abbrev pub KeepsKeys : {P T K F : Type 0} → (T → K) → (F → P → T → P → T → F → Type 0) → Type 0
KeepsKeys {P} {T} {K} {F} key step = (f g : F) (p q : P) (before after : T) → step f p before q after g → key after ≡ key before
