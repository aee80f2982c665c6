-- The lines of some commands, cut into lines and words again.
use Rattle.std.proofs.Common.{◌≡◌, ℕ, ◌+◌, ◌-◌, ◌^◌, ◌<◌, ◌==◌, Bool, true, false, nat_lt, ◌&&◌, pos, negsuc, List, [], ◌∷◌, ◌++◌, length, get_or, map, All, Some, None, Ok, decimal, suc, refl, ◌∙◌, ap, arith, append_assoc, length-append}
use Rattle.std.proofs.lemmas.List.Elements.{All-from_recursion, recursion_from_All, All-nil, All-cons, All-head, All-tail, All-append, All-map, All-weaker, All-get_or}
use Rattle.std.proofs.{lemmas.List.Splits.slice_split_none, lemmas.List.Splits.slice_split_at, lemmas.Bool.ltb-true, lemmas.Bool.ne_eqb, lemmas.Bool.and_parts}
use Rattle.std.proofs.{lemmas.List.Recursion.and_at, lemmas.Fmt.decimal_nonempty, lemmas.Int.ints}
use Rattle.std.specs.Str.Lines.{lines, lines_of_parts, strip_carriage_return}
use Rattle.std.specs.List.{AllByRecursion, list_all, slice_split, join_with_byte}
use Rattle.ord_script.specs.Spelling.{Argument, key, value, index, count, pointer, flag, argument_text, IsInRange, saying_of, spelled, CanBeSaid, script_text}
use Rattle.ord_script.specs.{Script.is_blank, Script.words_of, Script.and_then, Script.script_from, Script.script_of, Pairs.PairCommand}
use Rattle.ord_script.specs.Commands.{word_text, said_by}
use Rattle.ord_script.specs.declared.word.Word.{Word}
use Rattle.ord_script.specs.declared.word.Word.TheVariants as words
use Rattle.ord_script.proofs.{Parts.words_among, Parts.words_among-cons, Parts.lines_onto, Spelled.command_text, Spelled.in_range}
use Rattle.ord_script.proofs.NumberTexts.{digits_all, decimal_digits}

-- a word that isn't cut: it has a byte, and none of its bytes is a blank or ends a line
record IsWhole (word : List ℕ) : Type 0 where
  some : 0 < length word
  dark : All (λ b. 32 < b) word

-- numbers in decimal, and the arguments made of them
number_dark : (n : ℕ) → n < 2 ^ 64 → All (λ b. 32 < b) (decimal n)
number_dark n fits = All-from_recursion (λ b. 32 < b) (decimal n) (digits_all (λ b. 32 < b) (λ b digit. omega (arith, digit.0)) (decimal n) (decimal_digits n fits))

number_whole : (n : ℕ) → n < 2 ^ 64 → IsWhole (decimal n)
number_whole n fits = record { some = decimal_nonempty n fits; dark = number_dark n fits }

argument_whole : (a : Argument) → IsInRange a → IsWhole (argument_text a)
argument_whole (key (pos n)) range = number_whole n (omega (arith, ints, range.1))
argument_whole (key (negsuc n)) range = record {
  some = omega arith;
  dark = All-cons (λ b. 32 < b) 45 (decimal (suc n)) (omega arith) (number_dark (suc n) (omega (arith, ints, range.0)));
}
argument_whole (value v) range = number_whole v range
argument_whole (index i) range = number_whole i (omega (arith, range))
argument_whole (count n) range = number_whole n range
argument_whole (pointer p) range =
    let before = number_whole p.0 (omega (arith, range.0)) in
    record {
      some = omega (arith, before.some, length-append (decimal p.0 ++ 46 ∷ []) (decimal p.1), length-append (decimal p.0) (46 ∷ []));
      dark = All-append (λ b. 32 < b) (decimal p.0 ++ 46 ∷ []) (decimal p.1)
          (All-append (λ b. 32 < b) (decimal p.0) (46 ∷ []) before.dark (All-cons (λ b. 32 < b) 46 [] (omega arith) (All-nil (λ b. 32 < b)))) (number_dark p.1 range.1);
    }
argument_whole (flag true) range = number_whole 1 (omega arith)
argument_whole (flag false) range = number_whole 0 (omega arith)

-- the words that begin a line
word_test : (word : Word) → nat_lt 0 (length (word_text word)) && list_all (nat_lt 32) (word_text word) ≡ true
word_test words.Insert = refl
word_test word = refl

word_whole : (word : Word) → IsWhole (word_text word)
word_whole word =
    let test = and_parts _ _ (word_test word) in
    record {
      some = ltb-true 0 (length (word_text word)) test.0;
      dark = λ k d within. ltb-true 32 (get_or (word_text word) k d) (and_at (list_all (nat_lt 32)) (nat_lt 32) refl (λ x xs. refl) (word_text word) k d within test.1);
    }

words_whole : (command : PairCommand) → CanBeSaid command → All IsWhole (spelled command)
words_whole command sayable =
    let word = (saying_of command).word in
    let arguments = (saying_of command).arguments in
    All-cons IsWhole (word_text word) (map argument_text arguments) (word_whole word)
    (All-map IsWhole argument_text arguments (All-weaker IsInRange (λ a. IsWhole (argument_text a)) argument_whole arguments (in_range command sayable)))

no_blank : (word : List ℕ) → IsWhole word → All (λ b. is_blank b ≡ false) word
no_blank word whole = All-weaker (λ b. 32 < b) (λ b. is_blank b ≡ false) other word whole.dark
  where
    other : (b : ℕ) → 32 < b → is_blank b ≡ false
    other b dark = rw (ne_eqb b 32 (λ same. omega (arith, dark, same)), ne_eqb b 9 (λ same. omega (arith, dark, same))) refl

-- words that were joined by a space are cut again
words_of-joined : (words : List (List ℕ)) → All IsWhole words → words_of (join_with_byte 32 words) ≡ words
words_of-joined [] whole = refl
words_of-joined (word ∷ []) whole =
    let first = All-head IsWhole word [] whole in
    ap words_among (slice_split_none is_blank word (no_blank word first)) ∙ words_among-cons word [] first.some
words_of-joined (word ∷ next ∷ words) whole =
    let first = All-head IsWhole word (next ∷ words) whole in
    let rest = join_with_byte 32 (next ∷ words) in
    ap words_among (slice_split_at is_blank word 32 rest (no_blank word first) refl)
    ∙ words_among-cons word (slice_split is_blank rest) first.some ∙ ap (λ ws. word ∷ ws) (words_of-joined (next ∷ words) (All-tail IsWhole word (next ∷ words) whole))

-- no byte of the line ends it
joined_light : (words : List (List ℕ)) → All IsWhole words → All (λ b. 31 < b) (join_with_byte 32 words)
joined_light [] whole = All-nil (λ b. 31 < b)
joined_light (word ∷ []) whole = All-weaker (λ b. 32 < b) (λ b. 31 < b) (λ b dark. omega (arith, dark)) word (All-head IsWhole word [] whole).dark
joined_light (word ∷ next ∷ words) whole =
    let rest = join_with_byte 32 (next ∷ words) in
    All-append (λ b. 31 < b) word (32 ∷ rest) (All-weaker (λ b. 32 < b) (λ b. 31 < b) (λ b dark. omega (arith, dark)) word (All-head IsWhole word (next ∷ words) whole).dark)
    (All-cons (λ b. 31 < b) 32 rest (omega arith) (joined_light (next ∷ words) (All-tail IsWhole word (next ∷ words) whole)))

strip_carriage_return-light : (line : List ℕ) → All (λ b. 31 < b) line → strip_carriage_return line ≡ line
strip_carriage_return-light [] light = refl
strip_carriage_return-light (b ∷ line) light =
    let end = length (b ∷ line) - 1 in
    let last = All-get_or (λ b. 31 < b) (b ∷ line) end 0 (omega arith) light in
    rw (ne_eqb (get_or (b ∷ line) end 0) 13 (λ same. omega (arith, last, same))) refl

-- a line in front of others
lines-light : (line rest : List ℕ) → All (λ b. 31 < b) line → lines (line ++ 10 ∷ rest) ≡ line ∷ lines rest
lines-light line rest light =
    ap lines_of_parts (slice_split_at (λ b. b == 10) line 10 rest (All-weaker (λ b. 31 < b) (λ b. (b == 10) ≡ false) (λ b dark. ne_eqb b 10 (λ same. omega (arith, dark, same))) line light) refl)
    ∙ lines_onto (λ b. b == 10) line rest ∙ ap (λ l. l ∷ lines rest) (strip_carriage_return-light line light)

-- all lines, the first of which has this number
script_from-text : (number : ℕ) (commands : List PairCommand) → AllByRecursion CanBeSaid commands
    → script_from number (lines (script_text commands)) ≡ record { commands = commands; fault = None }
script_from-text number [] sayable = refl
script_from-text number (command ∷ commands) sayable =
    let words = spelled command in
    let whole = words_whole command sayable.0 in
    let line = join_with_byte 32 words in
    let rest = script_text commands in
    ap (λ bytes. script_from number (lines bytes)) (append_assoc line (10 ∷ []) rest)
    ∙ ap (script_from number) (lines-light line rest (joined_light words whole))
    ∙ ap (λ ws. and_then number (said_by ws) (script_from (number + 1) (lines rest))) (words_of-joined words whole)
    ∙ ap (λ said. and_then number said (script_from (number + 1) (lines rest))) (command_text command sayable.0)
    ∙ ap (and_then number (Some (Ok command))) (script_from-text (number + 1) commands sayable.1)

pub script_of-text : (commands : List PairCommand) → All CanBeSaid commands → script_of (script_text commands) ≡ record { commands = commands; fault = None }
script_of-text commands sayable = script_from-text 1 commands (recursion_from_All CanBeSaid commands sayable)
