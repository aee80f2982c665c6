-- What a script says for each command: the words of its line.
use Rattle.std.specs.Prelude.{◌≡◌, Bool, true, false, ℕ, ◌^◌, ◌<◌, ℤ, pos, neg_ℤ, ◌≤ℤ◌, ◌<ℤ◌, List, [], ◌∷◌, ◌++◌, All, map, flat_map, decimal}
use Rattle.std.specs.declared.cmp.Ordering.TheVariants.{Less, Equal, Greater}
use Rattle.std.specs.{List.join_with_byte, Fmt.signed_decimal}
use Rattle.ord_machine.specs.OrdInsertKind.{OrdInsertKind}
use Rattle.ord_machine.specs.OrdInsertKind.TheVariants as kinds
use Rattle.ord_machine.specs.declared.command.Command.TheVariants as commands
use Rattle.ord_script.specs.declared.word.Word.{Word}
use Rattle.ord_script.specs.declared.word.Word.TheVariants as words
use Rattle.ord_script.specs.{Commands.word_text, Pairs.Pair, Pairs.Pointer, Pairs.PairCommand, Text.pointer_text}

-- an argument of a command
pub data Argument : Type 0 where
  key : ℤ → Argument
  value : ℕ → Argument
  index : ℕ → Argument
  count : ℕ → Argument
  pointer : Pointer → Argument
  flag : Bool → Argument

-- the number of a flag
abbrev pub flag_number : Bool → ℕ
flag_number true = 1
flag_number false = 0

-- the text of an argument, with its numbers in decimal
abbrev pub argument_text : Argument → List ℕ
argument_text (key k) = signed_decimal k
argument_text (value v) = decimal v
argument_text (index i) = decimal i
argument_text (count n) = decimal n
argument_text (pointer p) = pointer_text p
argument_text (flag b) = decimal (flag_number b)

-- A key has 64 bits with a sign. A value, a generation, and a number of steps, entries or slots have 64 bits without one, an index 32.
abbrev pub IsInRange : Argument → Type 0
IsInRange (key k) = (neg_ℤ (pos (2 ^ 63)) ≤ℤ k) × (k <ℤ pos (2 ^ 63))
IsInRange (value v) = v < 2 ^ 64
IsInRange (index i) = i < 2 ^ 32
IsInRange (count n) = n < 2 ^ 64
IsInRange (pointer p) = (p.0 < 2 ^ 32) × (p.1 < 2 ^ 64)
IsInRange (flag b) = Unit {0}

-- the word of a command, and its arguments
pub record Saying : Type 0 where
  pub word : Word
  pub arguments : List Argument

-- a pair is a key and a value
abbrev pub pair_arguments : Pair → List Argument
pair_arguments pair = key pair.0 ∷ value pair.1 ∷ []

-- what a script says for each command
abbrev pub saying_of : PairCommand → Saying
saying_of (commands.Insert pair) = record { word = words.Insert; arguments = pair_arguments pair }
saying_of (commands.InsertWithin pair) = record { word = words.Within; arguments = pair_arguments pair }
saying_of (commands.Entry kinds.Empty pair) = record { word = words.Empty; arguments = pair_arguments pair }
saying_of (commands.Entry (kinds.Nonhereditary k) pair) = record { word = words.Nonhereditary; arguments = pair_arguments pair }
saying_of (commands.Entry (kinds.Linear i n k) pair) =
    record { word = words.Linear; arguments = index i ∷ count n ∷ pair_arguments pair }
saying_of (commands.Entry (kinds.NonhereditaryLinear i n k) pair) =
    record { word = words.NonhereditaryLinear; arguments = index i ∷ count n ∷ pair_arguments pair }
saying_of (commands.Entry (kinds.Manual i Less) pair) = record { word = words.Before; arguments = index i ∷ pair_arguments pair }
saying_of (commands.Entry (kinds.Manual i Equal) pair) = record { word = words.At; arguments = index i ∷ pair_arguments pair }
saying_of (commands.Entry (kinds.Manual i Greater) pair) = record { word = words.After; arguments = index i ∷ pair_arguments pair }
-- it says nothing for these two; they have the words of insertions by key
saying_of (commands.Entry (kinds.Normal k) pair) = record { word = words.Insert; arguments = [] }
saying_of (commands.EntryWithin kind pair) = record { word = words.Within; arguments = [] }
saying_of (commands.Set p pair) = record { word = words.Set; arguments = pointer p ∷ pair_arguments pair }
saying_of (commands.Rekey p pair) = record { word = words.Rekey; arguments = pointer p ∷ pair_arguments pair }
saying_of (commands.Remove p) = record { word = words.Remove; arguments = pointer p ∷ [] }
saying_of (commands.RemoveInx i) = record { word = words.RemoveInx; arguments = index i ∷ [] }
saying_of (commands.Invalidate p) = record { word = words.Invalidate; arguments = pointer p ∷ [] }
saying_of commands.Clear = record { word = words.Clear; arguments = [] }
saying_of commands.IncGeneration = record { word = words.IncGeneration; arguments = [] }
saying_of (commands.Compress b) = record { word = words.Compress; arguments = flag b ∷ [] }
saying_of (commands.Canonical b) = record { word = words.Canonical; arguments = flag b ∷ [] }
saying_of (commands.Find k) = record { word = words.Find; arguments = key k ∷ [] }
saying_of (commands.FindLinear p n k) = record { word = words.FindLinear; arguments = pointer p ∷ count n ∷ key k ∷ [] }
saying_of (commands.Similar k) = record { word = words.Similar; arguments = key k ∷ [] }
saying_of (commands.SimilarLinear i n k) = record { word = words.SimilarLinear; arguments = index i ∷ count n ∷ key k ∷ [] }
-- it says nothing for these two; they have the words of searches by key
saying_of commands.FindWith = record { word = words.Find; arguments = [] }
saying_of commands.SimilarWith = record { word = words.Similar; arguments = [] }
saying_of (commands.Visits k) = record { word = words.Visits; arguments = key k ∷ [] }
saying_of (commands.Get p) = record { word = words.Get; arguments = pointer p ∷ [] }
saying_of commands.First = record { word = words.First; arguments = [] }
saying_of commands.Last = record { word = words.Last; arguments = [] }
saying_of (commands.Neighbours i) = record { word = words.Neighbours; arguments = index i ∷ [] }
saying_of commands.List = record { word = words.List; arguments = [] }
saying_of commands.Ranks = record { word = words.Ranks; arguments = [] }
saying_of commands.Check = record { word = words.Check; arguments = [] }
saying_of (commands.Reserve n) = record { word = words.Reserve; arguments = count n ∷ [] }
saying_of (commands.SetMax n) = record { word = words.SetMax; arguments = count n ∷ [] }
saying_of (commands.DrainOrdered n) = record { word = words.DrainOrdered; arguments = count n ∷ [] }
saying_of commands.Stats = record { word = words.Stats; arguments = [] }

-- the words of its line
abbrev pub spelled : PairCommand → List (List ℕ)
spelled command = word_text (saying_of command).word ∷ map argument_text (saying_of command).arguments

-- a line can name this place for a pair: by the pair's own key, if by a key
abbrev pub GoesByItsKey : OrdInsertKind Pointer ℤ ℕ ℕ → Pair → Type 0
GoesByItsKey kinds.Empty pair = Unit {0}
GoesByItsKey (kinds.Normal k) pair = ⊥
GoesByItsKey (kinds.Nonhereditary k) pair = pair.0 ≡ k
GoesByItsKey (kinds.Linear i n k) pair = pair.0 ≡ k
GoesByItsKey (kinds.NonhereditaryLinear i n k) pair = pair.0 ≡ k
GoesByItsKey (kinds.Manual i order) pair = Unit {0}

-- A script can say the command: it isn't a search by a closure, nor an insertion that no line can name, and its numbers are in range.
abbrev pub CanBeSaid : PairCommand → Type 0
CanBeSaid commands.FindWith = ⊥
CanBeSaid commands.SimilarWith = ⊥
CanBeSaid (commands.EntryWithin kind pair) = ⊥
CanBeSaid (commands.Entry kind pair) = GoesByItsKey kind pair × All IsInRange (saying_of (commands.Entry kind pair)).arguments
CanBeSaid command = All IsInRange (saying_of command).arguments

-- a line for each command, the words joined by a space
abbrev pub script_text : List PairCommand → List ℕ
script_text commands = flat_map (λ command. join_with_byte 32 (spelled command) ++ 10 ∷ []) commands
