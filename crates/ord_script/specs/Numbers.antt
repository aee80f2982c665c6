-- Numbers and pointers as a script writes them.
use Rattle.std.specs.Prelude.{ℕ, ◌-◌, ◌^◌, ◌==◌, ℤ, pos, neg_ℤ, List, [], ◌∷◌, Bool, ◌&&◌, nat_lt, nat_le, length, if◌then◌else◌, Option, Some, None, option_and_then, option_map}
use Rattle.std.specs.{List.before_first, List.after_first, Str.Parse.digits_value, Str.all_ascii_digits}
use Rattle.ord_script.specs.Pairs.{Pointer}

-- one or more digits whose number is at most `greatest`; leading zeros are allowed
abbrev pub is_number_up_to : ℕ → List ℕ → Bool
is_number_up_to greatest word =
    nat_lt 0 (length word) && all_ascii_digits word && nat_le (digits_value 10 word) greatest

-- the number in such a word
abbrev pub number_up_to : ℕ → List ℕ → Option ℕ
number_up_to greatest word = if is_number_up_to greatest word then Some (digits_value 10 word) else None

-- a key of 64 bits: a number with an optional '-' before it
abbrev pub key_of : List ℕ → Option ℤ
key_of [] = None
key_of (b ∷ word) =
    if b == 45 then option_map (λ n. neg_ℤ (pos n)) (number_up_to (2 ^ 63) word)
    else option_map pos (number_up_to (2 ^ 63 - 1) (b ∷ word))

-- a value of 64 bits, or a generation
abbrev pub value_of : List ℕ → Option ℕ
value_of word = number_up_to (2 ^ 64 - 1) word

-- an index of 32 bits
abbrev pub index_of : List ℕ → Option ℕ
index_of word = number_up_to (2 ^ 32 - 1) word

-- a flag: 0 or 1
abbrev pub flag_of : List ℕ → Option Bool
flag_of word = option_map (λ n. n == 1) (number_up_to 1 word)

-- a point
abbrev pub is_point : ℕ → Bool
is_point b = b == 46

-- an index and a generation, with the first point between them
abbrev pub pointer_of : List ℕ → Option Pointer
pointer_of word =
    option_and_then (λ index. option_map (λ generation. (index, generation)) (value_of (after_first is_point word)))
    (index_of (before_first is_point word))
