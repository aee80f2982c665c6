-- Digits read from the left.
use Rattle.std.proofs.Common.{◌≡◌, ℕ, ◌+◌, ◌<◌, true, false, ◌&&◌, List, [], ◌∷◌, length, take, get_or, refl, sym, ◌∙◌, ap}
use Rattle.std.proofs.lemmas.List.Folds.{list_all_at, list_all_more}
use Rattle.std.specs.{List.list_all, Str.all_ascii_digits, Char.is_ascii_digit}

as_list_all : (word : List ℕ) → all_ascii_digits word ≡ list_all is_ascii_digit word
as_list_all [] = refl
as_list_all (c ∷ word) = ap (λ all. is_ascii_digit c && all) (as_list_all word)

-- a byte that isn't a digit, and one more digit
module _ (word : List ℕ) (i : ℕ) (within : i < length word) where
  pub all_ascii_digits_bad : is_ascii_digit (get_or word i 0) ≡ false → all_ascii_digits word ≡ false
  all_ascii_digits_bad bad = as_list_all word ∙ list_all_at is_ascii_digit word i 0 within bad

  pub all_ascii_digits_more : all_ascii_digits (take i word) ≡ true → is_ascii_digit (get_or word i 0) ≡ true
      → all_ascii_digits (take (i + 1) word) ≡ true
  all_ascii_digits_more so_far good =
      let digits = sym (as_list_all (take i word)) ∙ so_far in
      as_list_all (take (i + 1) word) ∙ list_all_more is_ascii_digit word i 0 within ∙ rw (digits, good) refl
