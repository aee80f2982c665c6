use Rattle.std.proofs.Common.{◌≡◌, ◌<◌, ℕ, ◌+◌, true, false, get_or, length, nat_lt, nat_le, cond, ◌&&◌, List, None, Some, arith, refl, sym}
use Rattle.std.proofs.{lemmas.Str.Parse.digits_value-take-le, lemmas.Int.Digits.digits_value_more, lemmas.Str.digit_value_digit}
use Rattle.std.proofs.lemmas.Bool.{lt-leb}
use Rattle.std.specs.{Str.Parse.digits_value, Str.all_ascii_digits}
use Rattle.ord_script.specs.Numbers.{number_up_to}
use Rattle.ord_script.proofs.Digits.{all_ascii_digits_bad, all_ascii_digits_more}
use Rattle.ord_script.proofs.numbers.number_up_to.Goals as goal

-- a byte that isn't a digit
no_digit : (greatest : ℕ) (word : List ℕ) → all_ascii_digits word ≡ false → None ≡ number_up_to greatest word
no_digit greatest word bad =
    rw bad (elim (nat_lt 0 (length word)) as (λ some. None ≡ cond (some && false && nat_le (digits_value 10 word) greatest) (Some (digits_value 10 word)) None) [ true ↦ refl | false ↦ refl ])

-- a number that is too great
too_great : (greatest : ℕ) (word : List ℕ) → greatest < digits_value 10 word → None ≡ number_up_to greatest word
too_great greatest word over =
    rw (lt-leb (digits_value 10 word) greatest over)
    (elim (nat_lt 0 (length word) && all_ascii_digits word) as (λ good. None ≡ cond (good && false) (Some (digits_value 10 word)) None) [ true ↦ refl | false ↦ refl ])

pub returns-then-not-is_ascii_digit : goal.returns-then-not-is_ascii_digit
returns-then-not-is_ascii_digit c =
    no_digit c.args.greatest c.args.word.now (all_ascii_digits_bad c.args.word.now c.loop-digit.digit-index c.loop-digit-test.true (sym c.if-not-is_ascii_digit.ensures.value))

pub returns-then-next-from : goal.returns-then-next-from
returns-then-next-from c =
    let word = c.args.word.now in
    let i = c.loop-digit.digit-index in
    let value = digits_value_more 10 word i c.loop-digit-test.true in
    let digit = digit_value_digit (get_or word i 0) c.if-not-is_ascii_digit.ensures.cases in
    too_great c.args.greatest word (omega (arith, value, digit, digits_value-take-le 10 word (i + 1) (omega arith)))

pub loop-digit-preserved : goal.loop-digit-preserved
loop-digit-preserved c =
    let word = c.args.word.now in
    let i = c.loop-digit.digit-index in
    let value = digits_value_more 10 word i c.loop-digit-test.true in
    let digit = digit_value_digit (get_or word i 0) c.if-not-is_ascii_digit.ensures.cases in
    record {
      digits = all_ascii_digits_more word i c.loop-digit-test.true c.loop-digit.invariant.digits (sym c.if-not-is_ascii_digit.ensures.value);
      value = omega (arith, value, digit);
      bound = omega arith;
    }
