-- The first line of some bytes, and the first word of a line.
use Rattle.std.proofs.Common.{◌≡◌, ℕ, ◌+◌, ◌<◌, ◌≤◌, ◌==◌, zero, suc, Bool, true, false, cond, not}
use Rattle.std.proofs.Common.{List, [], ◌∷◌, length, take, drop, get_or, filter, All, refl, sym, ◌∙◌, ap, arith, Some, None, position, nat_lt, length-take, length-drop}
use Rattle.std.proofs.{lemmas.List.drop_more, lemmas.List.drop_all, lemmas.Bool.ltb-true, lemmas.Bool.ltb-false, lemmas.Bool.not-true, lemmas.Option.cond_some}
use Rattle.std.proofs.lemmas.List.Splits.{slice_split_first, slice_split_none, length-slice_split}
use Rattle.std.proofs.{lemmas.List.Sums.fails_before_first, lemmas.List.Quantifiers.position-Some, Math.Numerals.one-add, Math.Dec.eqb-suc-zero}
use Rattle.std.specs.Str.Lines.{lines, lines_of_parts, strip_carriage_return}
use Rattle.std.specs.List.{slice_split, position_or_len}
use Rattle.ord_script.specs.Script.{is_blank, words_of}

-- the parts at the first element that passes, if there is one
split_some : (p : ℕ → Bool) (xs : List ℕ) (n : ℕ) → Some n ≡ position p xs → slice_split p xs ≡ take n xs ∷ slice_split p (drop (n + 1) xs)
split_some p xs n is =
    let found = cond_some (nat_lt (position_or_len p xs) (length xs)) _ _ (sym is) in
    rw found.1 at (slice_split_first p xs 0 (ltb-true _ _ found.0))

-- if `position` found none, none passes
position_none : (p : ℕ → Bool) (xs : List ℕ) → None ≡ position p xs → length xs ≤ position_or_len p xs
position_none p xs is =
    (elim (nat_lt (position_or_len p xs) (length xs)) as (λ b. nat_lt (position_or_len p xs) (length xs) ≡ b → None ≡ cond b (Some (position_or_len p xs)) None → length xs ≤ position_or_len p xs)
    [ true ↦ λ _ other. cc | false ↦ λ past _. ltb-false _ _ past ]) refl is

none_passes : (p : ℕ → Bool) (xs : List ℕ) → None ≡ position p xs → All (λ x. p x ≡ false) xs
none_passes p xs is = λ k d within. fails_before_first p xs k d (omega (arith, within, position_none p xs is))

-- a line in front of some parts, and there is always a part
onto_some : (line : List ℕ) (parts : List (List ℕ)) → 0 < length parts
    → lines_of_parts (line ∷ parts) ≡ strip_carriage_return line ∷ lines_of_parts parts
onto_some line [] some = absurd (omega arith)
onto_some line (part ∷ parts) some = refl

pub lines_onto : (p : ℕ → Bool) (line rest : List ℕ)
    → lines_of_parts (line ∷ slice_split p rest) ≡ strip_carriage_return line ∷ lines_of_parts (slice_split p rest)
lines_onto p line rest = onto_some line (slice_split p rest) (omega (arith, length-slice_split p rest))

-- the first line ends at the first LF
pub lines_some : (bytes : List ℕ) (end : ℕ) → Some end ≡ position (λ b. b == 10) bytes → lines bytes ≡ strip_carriage_return (take end bytes) ∷ lines (drop (end + 1) bytes)
lines_some bytes end is =
    ap lines_of_parts (split_some (λ b. b == 10) bytes end is) ∙ lines_onto (λ b. b == 10) (take end bytes) (drop (end + 1) bytes)

-- or with the bytes, if there is none
pub lines_none : (bytes : List ℕ) → 0 < length bytes → None ≡ position (λ b. b == 10) bytes → lines bytes ≡ bytes ∷ []
lines_none [] some is = absurd (omega (arith, some))
lines_none (x ∷ xs) some is =
    ap lines_of_parts (slice_split_none (λ b. b == 10) (x ∷ xs) (none_passes (λ b. b == 10) (x ∷ xs) is)) ∙ rw eqb-suc-zero refl

-- a blank in front changes no word
words_of_blank : (x : ℕ) (xs : List ℕ) → is_blank x ≡ true → words_of (x ∷ xs) ≡ words_of xs
words_of_blank x xs blank = rw blank refl

-- the first word begins at the first byte that isn't a blank
words_of_start : (xs : List ℕ) → words_of (drop (position_or_len (λ b. not (is_blank b)) xs) xs) ≡ words_of xs
words_of_start [] = refl
words_of_start (x ∷ xs) =
    (elim (is_blank x) as (λ b. is_blank x ≡ b → words_of (drop (cond (not (not b)) (1 + position_or_len (λ c. not (is_blank c)) xs) 0) (x ∷ xs)) ≡ words_of (x ∷ xs))
    [ true ↦ λ blank. rw (one-add, words_of_blank x xs blank) (words_of_start xs) | false ↦ λ _. refl ]) refl

-- the parts that are words
abbrev pub words_among : List (List ℕ) → List (List ℕ)
words_among parts = filter (λ part. not (length part == 0)) parts

-- a part that isn't empty is a word
pub words_among-cons : (part : List ℕ) (parts : List (List ℕ)) → 0 < length part → words_among (part ∷ parts) ≡ part ∷ words_among parts
words_among-cons [] parts some = absurd (omega (arith, some))
words_among-cons (x ∷ part) parts some = rw eqb-suc-zero refl

-- a line of blanks has no words
pub words_none : (line : List ℕ) → None ≡ position (λ b. not (is_blank b)) line → words_of line ≡ []
words_none line is = sym (words_of_start line) ∙ rw (drop_all (position_or_len (λ b. not (is_blank b)) line) line (position_none (λ b. not (is_blank b)) line is)) refl

-- what isn't at the first place is behind it
behind_first : (p : ℕ → Bool) (xs : List ℕ) (i : ℕ) → p (get_or xs 0 0) ≡ false → p (get_or xs i 0) ≡ true → 0 < i
behind_first p xs zero before here = cc
behind_first p xs (suc i) before here = omega arith

-- the line from its first word on
module _ (line : List ℕ) (start : ℕ) (starts : Some start ≡ position (λ b. not (is_blank b)) line) where
  begun : (start < length line) × (is_blank (get_or (drop start line) 0 0) ≡ false)
  begun =
      let found = position-Some (λ b. not (is_blank b)) line start 0 (sym starts) in
      (found.0, rw (drop_more line start 0 found.0) (not-true _ found.1))

  words_from : words_of line ≡ words_of (drop start line)
  words_from =
      let found = cond_some (nat_lt (position_or_len (λ b. not (is_blank b)) line) (length line)) _ _ (sym starts) in
      sym (rw found.1 at (words_of_start line))

  -- a word that ends at a blank
  pub words_some : (end : ℕ) → Some end ≡ position is_blank (drop start line)
      → words_of line ≡ take end (drop start line) ∷ words_of (drop end (drop start line))
  words_some end ends =
      let rest : List ℕ = drop start line in
      let found = position-Some is_blank rest end 0 (sym ends) in
      let some = behind_first is_blank rest end begun.1 found.1 in
      let blank : words_of (drop (end + 1) rest) ≡ words_of (drop end rest) =
      rw (drop_more rest end 0 found.0) (sym (words_of_blank (get_or rest end 0) (drop (end + 1) rest) found.1)) in
      words_from ∙ ap words_among (split_some is_blank rest end ends)
      ∙ words_among-cons (take end rest) (slice_split is_blank (drop (end + 1) rest)) (omega (arith, length-take end rest, found.0, some))
      ∙ ap (λ words. take end rest ∷ words) blank

  -- a word that ends with the line
  pub words_last : None ≡ position is_blank (drop start line) → words_of line ≡ drop start line ∷ []
  words_last ends =
      words_from ∙ ap words_among (slice_split_none is_blank (drop start line) (none_passes is_blank _ ends))
      ∙ words_among-cons (drop start line) [] (omega (arith, length-drop start line, begun.0))
