-- Two lists of keys and values in one.
use Rattle.std.specs.Prelude.{List, [], ◌∷◌, if◌then◌else◌}
use Rattle.std.specs.{Ordering.is_lt, declared.cmp.Ordering.Ordering}

module _ {K V : Type 0} (cmp : K → K → Ordering) where
  -- the items with one more, which stands directly before the first whose key is greater
  abbrev pub with_item : K × V → List (K × V) → List (K × V)
  with_item item [] = item ∷ []
  with_item item (x ∷ items) = if is_lt (cmp item.0 x.0) then item ∷ x ∷ items else x ∷ with_item item items

  -- the items with the others, which are put in one after another
  abbrev pub merged : List (K × V) → List (K × V) → List (K × V)
  merged items [] = items
  merged items (x ∷ others) = merged (with_item x items) others
