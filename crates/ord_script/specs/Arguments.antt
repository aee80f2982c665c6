-- The arguments of a command: what the words after its first one are read as.
use Rattle.std.specs.Prelude.{ℕ, List, [], ◌∷◌, ok_or, Option, Some, None, option_map, option_and_then, Result, Err}
use Rattle.std.specs.Option.{option_zip}
use Rattle.ord_script.specs.declared.fault.FaultKind.TheVariants.{WrongArguments, BadNumber}
use Rattle.ord_script.specs.{declared.fault.FaultKind.FaultKind, Numbers.key_of, Numbers.value_of, Pairs.Pair}

-- How an X is read from the front of some words. If there are too few words, the result is None. Otherwise it is the X, if the words in
-- front are valid, and the words behind them.
abbrev pub Reader : Type 0 → Type 0
Reader X = List (List ℕ) → Option (Option X × List (List ℕ))

-- no word
abbrev pub nothing : Reader (Unit {0})
nothing words = Some (Some tt, words)

-- one word
abbrev pub one : {X : Type 0} → (List ℕ → Option X) → Reader X
one of [] = None
one of (word ∷ rest) = Some (of word, rest)

-- one X and then one Y
abbrev pub both : {X Y : Type 0} → Reader X → Reader Y → Reader (X × Y)
both first second words = option_and_then (λ x. option_map (λ y. (option_zip x.0 y.0, y.1)) (second x.1)) (first words)

-- a key and its value
abbrev pub key_and_value : Reader Pair
key_and_value = both (one key_of) (one value_of)

-- the number of words is checked first, and then what they say
abbrev pub none_left : {X : Type 0} → Option (Option X × List (List ℕ)) → Result X FaultKind
none_left (Some (read, [])) = ok_or read BadNumber
none_left other = Err WrongArguments

-- what all words together are read as
unfoldable pub arguments_in : {X : Type 0} → Reader X → List (List ℕ) → Result X FaultKind
arguments_in reader words = none_left (reader words)
