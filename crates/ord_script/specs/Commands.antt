-- Commands as spelled by the words of a line.
use Rattle.std.specs.Prelude.{ℕ, ℤ, List, [], ◌∷◌, ◌==◌, ok_or, Option, Some, None, Result, Ok, Err, codes, bytes_eq, slice_index, if◌then◌else◌}
use Rattle.std.specs.declared.cmp.Ordering.TheVariants.{Less, Equal, Greater}
use Rattle.std.specs.declared.cmp.Ordering.{Ordering}
use Rattle.ord_machine.specs.OrdInsertKind.TheVariants as kinds
use Rattle.ord_script.specs.Arguments.{Reader, nothing, one, both, key_and_value, arguments_in}
use Rattle.ord_script.specs.Numbers.{key_of, value_of, index_of, flag_of, pointer_of}
use Rattle.ord_script.specs.{declared.fault.FaultKind.TheVariants.UnknownCommand, Pairs.Pair, Pairs.Pointer, Pairs.PairCommand}
use Rattle.ord_script.specs.{declared.fault.FaultKind.FaultKind, declared.word.Word.Word}
use Rattle.ord_machine.specs.declared.command.Command.TheVariants as commands
use Rattle.ord_script.specs.declared.word.Word.TheVariants as words

-- the text of the first word of a command
abbrev pub word_text : Word → List ℕ
word_text words.Insert = codes "insert"
word_text words.Within = codes "within"
word_text words.Empty = codes "empty"
word_text words.Nonhereditary = codes "nonhereditary"
word_text words.Linear = codes "linear"
word_text words.NonhereditaryLinear = codes "nonhereditary-linear"
word_text words.Before = codes "before"
word_text words.At = codes "at"
word_text words.After = codes "after"
word_text words.Set = codes "set"
word_text words.Rekey = codes "rekey"
word_text words.Remove = codes "remove"
word_text words.RemoveInx = codes "remove-index"
word_text words.Invalidate = codes "invalidate"
word_text words.Clear = codes "clear"
word_text words.IncGeneration = codes "next-generation"
word_text words.Compress = codes "compress"
word_text words.Canonical = codes "canonical"
word_text words.Find = codes "find"
word_text words.FindLinear = codes "find-linear"
word_text words.Similar = codes "similar"
word_text words.SimilarLinear = codes "similar-linear"
word_text words.Visits = codes "visits"
word_text words.Get = codes "get"
word_text words.First = codes "first"
word_text words.Last = codes "last"
word_text words.Neighbours = codes "neighbours"
word_text words.List = codes "list"
word_text words.Ranks = codes "ranks"
word_text words.Check = codes "check"
word_text words.Reserve = codes "reserve"
word_text words.SetMax = codes "max"
word_text words.DrainOrdered = codes "drain"
word_text words.Stats = codes "stats"

-- all words
abbrev pub all_words : List Word
all_words =
    words.Insert ∷ words.Within ∷ words.Empty ∷ words.Nonhereditary ∷ words.Linear ∷ words.NonhereditaryLinear
    ∷ words.Before ∷ words.At ∷ words.After ∷ words.Set ∷ words.Rekey ∷ words.Remove ∷ words.RemoveInx ∷ words.Invalidate ∷ words.Clear
    ∷ words.IncGeneration ∷ words.Compress ∷ words.Canonical ∷ words.Find ∷ words.FindLinear ∷ words.Similar ∷ words.SimilarLinear
    ∷ words.Visits ∷ words.Get ∷ words.First ∷ words.Last ∷ words.Neighbours ∷ words.List ∷ words.Ranks
    ∷ words.Check ∷ words.Reserve ∷ words.SetMax ∷ words.DrainOrdered ∷ words.Stats ∷ []

-- the word in the list with this text
abbrev pub word_in : List Word → List ℕ → Option Word
word_in [] text = None
word_in (word ∷ rest) text = if bytes_eq text (word_text word) then Some word else word_in rest text

-- go on with f, unless there was a fault
infixl 10 ◌>>=◌
abbrev pub ◌>>=◌ : {A B : Type 0} → Result A FaultKind → (A → Result B FaultKind) → Result B FaultKind
(Ok x) >>= f = f x
(Err kind) >>= f = Err kind

-- a command whose arguments are all read by `reader`
abbrev pub taking : {X : Type 0} → Reader X → (X → PairCommand) → List (List ℕ) → Result PairCommand FaultKind
taking reader command arguments = arguments_in reader arguments >>= λ x. Ok (command x)

-- a command without arguments
abbrev pub without_arguments : PairCommand → List (List ℕ) → Result PairCommand FaultKind
without_arguments command = taking nothing (λ _. command)

-- Insertions at a place that the line names: as a new entry beside those with the pair's key; from a hint, which is an index and a number
-- of steps; and before, at or after the entry with an index.
abbrev pub nonhereditary : Pair → PairCommand
nonhereditary pair = commands.Entry (kinds.Nonhereditary pair.0) pair

abbrev pub linear : ℕ × (ℕ × Pair) → PairCommand
linear a = commands.Entry (kinds.Linear a.0 a.1.0 a.1.1.0) a.1.1

abbrev pub nonhereditary_linear : ℕ × (ℕ × Pair) → PairCommand
nonhereditary_linear a = commands.Entry (kinds.NonhereditaryLinear a.0 a.1.0 a.1.1.0) a.1.1

abbrev pub entry_beside : Ordering → ℕ × Pair → PairCommand
entry_beside order a = commands.Entry (kinds.Manual a.0 order) a.1

-- another item for the entry of a pointer
abbrev pub set : Pointer × Pair → PairCommand
set a = commands.Set a.0 a.1

-- another item for it, by whose key the entry moves to its place
abbrev pub rekey : Pointer × Pair → PairCommand
rekey a = commands.Rekey a.0 a.1

-- searches from a hint: the entry of a pointer, or the one at an index, and a number of steps
abbrev pub find_linear : Pointer × (ℕ × ℤ) → PairCommand
find_linear a = commands.FindLinear a.0 a.1.0 a.1.1

abbrev pub similar_linear : ℕ × (ℕ × ℤ) → PairCommand
similar_linear a = commands.SimilarLinear a.0 a.1.0 a.1.1

-- an index and a pair; a hint and a pair
abbrev pub index_and_pair : Reader (ℕ × Pair)
index_and_pair = both (one index_of) key_and_value

abbrev pub hint_and_pair : Reader (ℕ × (ℕ × Pair))
hint_and_pair = both (one index_of) (both (one value_of) key_and_value)

-- the command that begins with a word
abbrev pub command_by : Word → List (List ℕ) → Result PairCommand FaultKind
command_by words.Insert = taking key_and_value commands.Insert
command_by words.Within = taking key_and_value commands.InsertWithin
command_by words.Empty = taking key_and_value (commands.Entry kinds.Empty)
command_by words.Nonhereditary = taking key_and_value nonhereditary
command_by words.Linear = taking hint_and_pair linear
command_by words.NonhereditaryLinear = taking hint_and_pair nonhereditary_linear
command_by words.Before = taking index_and_pair (entry_beside Less)
command_by words.At = taking index_and_pair (entry_beside Equal)
command_by words.After = taking index_and_pair (entry_beside Greater)
command_by words.Set = taking (both (one pointer_of) key_and_value) set
command_by words.Rekey = taking (both (one pointer_of) key_and_value) rekey
command_by words.Remove = taking (one pointer_of) commands.Remove
command_by words.RemoveInx = taking (one index_of) commands.RemoveInx
command_by words.Invalidate = taking (one pointer_of) commands.Invalidate
command_by words.Clear = without_arguments commands.Clear
command_by words.IncGeneration = without_arguments commands.IncGeneration
command_by words.Compress = taking (one flag_of) commands.Compress
command_by words.Canonical = taking (one flag_of) commands.Canonical
command_by words.Find = taking (one key_of) commands.Find
command_by words.FindLinear = taking (both (one pointer_of) (both (one value_of) (one key_of))) find_linear
command_by words.Similar = taking (one key_of) commands.Similar
command_by words.SimilarLinear = taking (both (one index_of) (both (one value_of) (one key_of))) similar_linear
command_by words.Visits = taking (one key_of) commands.Visits
command_by words.Get = taking (one pointer_of) commands.Get
command_by words.First = without_arguments commands.First
command_by words.Last = without_arguments commands.Last
command_by words.Neighbours = taking (one index_of) commands.Neighbours
command_by words.List = without_arguments commands.List
command_by words.Ranks = without_arguments commands.Ranks
command_by words.Check = without_arguments commands.Check
command_by words.Reserve = taking (one value_of) commands.Reserve
command_by words.SetMax = taking (one value_of) commands.SetMax
command_by words.DrainOrdered = taking (one value_of) commands.DrainOrdered
command_by words.Stats = without_arguments commands.Stats

-- the faults are checked in order: the word, the number of arguments, and then each argument from the left
abbrev pub command_of : List ℕ → List (List ℕ) → Result PairCommand FaultKind
command_of text arguments = ok_or (word_in all_words text) UnknownCommand >>= λ word. command_by word arguments

-- The command of a line, or its fault. A line without words and a comment say nothing.
abbrev pub said_by : List (List ℕ) → Option (Result PairCommand FaultKind)
said_by [] = None
said_by (text ∷ arguments) = if slice_index text 0 == 35 then None else Some (command_of text arguments)
