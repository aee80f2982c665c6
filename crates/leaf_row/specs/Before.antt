-- What a search of a row passes, and how many keys it compares.
use Rattle.std.specs.Prelude.{◌≡◌, ◌<◌, ◌≤◌, ◌*◌, ◌^◌, ℕ, Bool, if◌then◌else◌}
use Rattle.std.specs.{Ordering.is_ge, Ordering.is_gt, declared.cmp.Ordering.Ordering}

-- whether a key is passed, by the order of the key that is looked for to it: a lesser one, and an equal one if equals are passed too
abbrev pub is_passed : Bool → Ordering → Bool
is_passed with_equals order = if with_equals then is_ge order else is_gt order

-- A search among n keys compares c of them, at most as many as n has binary digits.
pub record IsWithinHalvings (n c : ℕ) : Type 0 where
  pub few : 0 < n → 2 ^ c ≤ 2 * n
  pub none : n ≡ 0 → c ≡ 0
