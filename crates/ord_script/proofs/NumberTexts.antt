-- Numbers and pointers in decimal, and what is read from their texts.
use Rattle.std.proofs.Common.{◌≡◌, ℕ, suc, ◌-◌, ◌^◌, ◌<◌, ◌≤◌, Bool, true, false, ℤ, pos, negsuc, neg_ℤ, List, [], ◌∷◌, ◌++◌, length, decimal, Some, option_map, refl, ◌∙◌, ap, arith, append_assoc}
use Rattle.std.proofs.lemmas.Str.Parse.{IsNumeralModel, tells_all_ascii_digits, numerals_by_value}
use Rattle.std.proofs.{lemmas.Fmt.decimal_nonempty, lemmas.Fmt.digits_decimal, lemmas.Fmt.digits_value-decimal, Math.Numerals.one-add}
use Rattle.std.proofs.{lemmas.Bool.lt-ltb, lemmas.Bool.le-leb, lemmas.Bool.ne_eqb, Math.Seq.take-append_seam, Math.Seq.drop-append-add}
use Rattle.std.proofs.lemmas.Int.{ints}
use Rattle.std.specs.{List.AllByRecursion, List.position_or_len, List.before_first, List.after_first, Str.Parse.digits_value, Int.IsInRange}
use Rattle.std.specs.{Str.all_ascii_digits, Fmt.signed_decimal}
use Rattle.ord_script.specs.Numbers.{number_up_to, key_of, value_of, index_of, flag_of, pointer_of, is_point}
use Rattle.ord_script.specs.{Text.pointer_text, Pairs.Pointer}
use Rattle.ord_script.specs.Spelling as spelling

own : IsNumeralModel (λ ds. all_ascii_digits ds ≡ true) (digits_value 10)
own = numerals_by_value (λ ds. all_ascii_digits ds ≡ true) tells_all_ascii_digits

-- what holds of the ten digits holds of each digit of a word
pub digits_all : (P : ℕ → Type 0) → ((b : ℕ) → IsInRange 48 57 b → P b) → (word : List ℕ) → all_ascii_digits word ≡ true → AllByRecursion P word
digits_all P each [] digits = tt
digits_all P each (b ∷ word) digits =
    let parts = tells_all_ascii_digits.parts b word digits in
    (each b parts.0, digits_all P each word parts.1)

-- a number in decimal consists of digits
pub decimal_digits : (n : ℕ) → n < 2 ^ 64 → all_ascii_digits (decimal n) ≡ true
decimal_digits n fits = digits_decimal own n fits

-- a number that isn't too great
pub number_up_to-decimal : (greatest n : ℕ) → n ≤ greatest → n < 2 ^ 64 → number_up_to greatest (decimal n) ≡ Some n
number_up_to-decimal greatest n within fits =
    rw (digits_value-decimal own n fits, decimal_digits n fits, lt-ltb 0 (length (decimal n)) (decimal_nonempty n fits), le-leb n greatest within) refl

-- an index, a value or a generation
pub index_of-text : (i : ℕ) → i < 2 ^ 32 → index_of (decimal i) ≡ Some i
index_of-text i range = number_up_to-decimal (2 ^ 32 - 1) i (omega (arith, range)) (omega (arith, range))

pub value_of-text : (v : ℕ) → v < 2 ^ 64 → value_of (decimal v) ≡ Some v
value_of-text v range = number_up_to-decimal (2 ^ 64 - 1) v (omega (arith, range)) range

-- a flag
pub flag_of-text : (b : Bool) → flag_of (decimal (spelling.flag_number b)) ≡ Some b
flag_of-text true = rw (number_up_to-decimal 1 1 (omega arith) (omega arith)) refl
flag_of-text false = rw (number_up_to-decimal 1 0 (omega arith) (omega arith)) refl

-- a key without a sign
key_of_digits : (word : List ℕ) → 0 < length word → all_ascii_digits word ≡ true → key_of word ≡ option_map pos (number_up_to (2 ^ 63 - 1) word)
key_of_digits [] some digits = absurd (omega (arith, some))
key_of_digits (b ∷ word) some digits =
    let range : IsInRange 48 57 b = (tells_all_ascii_digits.parts b word digits).0 in
    rw (ne_eqb b 45 (λ same. omega (arith, range.0, same))) refl

-- a key
pub key_of-text : (k : ℤ) → spelling.IsInRange (spelling.key k) → key_of (signed_decimal k) ≡ Some k
key_of-text (pos n) range =
    let fits : n < 2 ^ 63 = omega (arith, ints, range.1) in
    key_of_digits (decimal n) (decimal_nonempty n (omega (arith, fits))) (decimal_digits n (omega (arith, fits)))
    ∙ ap (option_map pos) (number_up_to-decimal (2 ^ 63 - 1) n (omega (arith, fits)) (omega (arith, fits)))
key_of-text (negsuc n) range =
    let fits : n < 2 ^ 63 = omega (arith, ints, range.0) in
    ap (option_map (λ m. neg_ℤ (pos m))) (number_up_to-decimal (2 ^ 63) (suc n) (omega (arith, fits)) (omega (arith, fits)))

-- the position of the first element that passes, behind some that don't
position_or_len-at : (p : ℕ → Bool) (xs : List ℕ) (y : ℕ) (ys : List ℕ) → AllByRecursion (λ x. p x ≡ false) xs → p y ≡ true → position_or_len p (xs ++ y ∷ ys) ≡ length xs
position_or_len-at p [] y ys none here = rw here refl
position_or_len-at p (x ∷ xs) y ys none here = rw (none.0, position_or_len-at p xs y ys none.1 here, one-add) refl

-- the elements before it, and those behind it
before_first-at : (p : ℕ → Bool) (xs : List ℕ) (y : ℕ) (ys : List ℕ) → AllByRecursion (λ x. p x ≡ false) xs → p y ≡ true → before_first p (xs ++ y ∷ ys) ≡ xs
before_first-at p xs y ys none here = rw (position_or_len-at p xs y ys none here) (take-append_seam xs (y ∷ ys))

after_first-at : (p : ℕ → Bool) (xs : List ℕ) (y : ℕ) (ys : List ℕ) → AllByRecursion (λ x. p x ≡ false) xs → p y ≡ true → after_first p (xs ++ y ∷ ys) ≡ ys
after_first-at p xs y ys none here = rw (position_or_len-at p xs y ys none here) (drop-append-add xs (y ∷ ys) 1)

-- a pointer
pub pointer_of-text : (p : Pointer) → spelling.IsInRange (spelling.pointer p) → pointer_of (pointer_text p) ≡ Some p
pointer_of-text p range =
    let index = decimal p.0 in
    let generation = decimal p.1 in
    let dark = digits_all (λ b. is_point b ≡ false) (λ b digit. ne_eqb b 46 (λ same. omega (arith, digit.0, same))) index (decimal_digits p.0 (omega (arith, range.0))) in
    let joined : pointer_text p ≡ index ++ 46 ∷ generation = append_assoc index (46 ∷ []) generation in
    let before = before_first-at is_point index 46 generation dark refl in
    let after = after_first-at is_point index 46 generation dark refl in
    ap pointer_of joined ∙ rw (before, after, index_of-text p.0 range.0, value_of-text p.1 range.1) refl
