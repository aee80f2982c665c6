-- Reading what a script says for a command: by the kinds of its arguments, and then for each command.
use Rattle.std.proofs.Common.{◌≡◌, ℕ, ℤ, Bool, List, [], ◌∷◌, ◌++◌, map, Option, Some, Ok, refl, sym, ◌∙◌, ap, append-nil}
use Rattle.std.proofs.lemmas.List.Elements.{recursion_from_All}
use Rattle.std.specs.declared.cmp.Ordering.TheVariants.{Less, Equal, Greater}
use Rattle.std.specs.List.{All, AllByRecursion}
use Rattle.ord_machine.specs.OrdInsertKind.{OrdInsertKind}
use Rattle.ord_machine.specs.OrdInsertKind.TheVariants as kinds
use Rattle.ord_machine.specs.declared.command.Command.TheVariants as commands
use Rattle.ord_script.specs.Spelling.{Argument, pair_arguments, key, value, index, count, pointer, flag, argument_text, IsInRange, saying_of, spelled, GoesByItsKey, CanBeSaid}
use Rattle.ord_script.specs.Commands.{◌>>=◌, taking, said_by, nonhereditary, linear, nonhereditary_linear, entry_beside, hint_and_pair}
use Rattle.ord_script.specs.Arguments.{Reader, nothing, one, both, key_and_value, none_left, arguments_in}
use Rattle.ord_script.specs.Numbers.{key_of, value_of, index_of, flag_of, pointer_of}
use Rattle.ord_script.specs.Pairs.{Pair, Pointer, PairCommand}
use Rattle.ord_script.proofs.NumberTexts.{key_of-text, pointer_of-text, index_of-text, value_of-text, flag_of-text}

-- a reader reads the texts of these arguments as x, if they are in range, and leaves the words behind them
record Reads {X : Type 0} (reader : Reader X) (arguments : List Argument) (x : X) : Type 0 where
  reads : AllByRecursion IsInRange arguments → (rest : List (List ℕ)) → reader (map argument_text arguments ++ rest) ≡ Some (Some x, rest)

-- no argument, one, and one after another
nothing-reads : Reads nothing [] tt
nothing-reads = record { reads = λ range rest. refl }

one-reads : {X : Type 0} (of : List ℕ → Option X) (a : Argument) (x : X) → (IsInRange a → of (argument_text a) ≡ Some x) → Reads (one of) (a ∷ []) x
one-reads of a x text = record { reads = λ range rest. ap (λ read. Some (read, rest)) (text range.0) }

module _ {Y : Type 0} {second : Reader Y} {arguments : List Argument} {y : Y} where
  both-reads : {X : Type 0} {first : Reader X} {a : Argument} {x : X} → Reads first (a ∷ []) x → Reads second arguments y → Reads (both first second) (a ∷ arguments) (x, y)
  both-reads front back = record { reads = λ range rest. rw (front.reads (range.0, tt) _, back.reads range.1 rest) refl }

-- each kind of argument
key-reads : (k : ℤ) → Reads (one key_of) (key k ∷ []) k
key-reads k = one-reads key_of (key k) k (key_of-text k)

value-reads : (v : ℕ) → Reads (one value_of) (value v ∷ []) v
value-reads v = one-reads value_of (value v) v (value_of-text v)

index-reads : (i : ℕ) → Reads (one index_of) (index i ∷ []) i
index-reads i = one-reads index_of (index i) i (index_of-text i)

count-reads : (n : ℕ) → Reads (one value_of) (count n ∷ []) n
count-reads n = one-reads value_of (count n) n (value_of-text n)

pointer-reads : (p : Pointer) → Reads (one pointer_of) (pointer p ∷ []) p
pointer-reads p = one-reads pointer_of (pointer p) p (pointer_of-text p)

flag-reads : (b : Bool) → Reads (one flag_of) (flag b ∷ []) b
flag-reads b = one-reads flag_of (flag b) b (λ _. flag_of-text b)

pair-reads : (p : Pair) → Reads key_and_value (pair_arguments p) p
pair-reads p = both-reads (key-reads p.0) (value-reads p.1)

hint-reads : (i n : ℕ) (p : Pair) → Reads hint_and_pair (index i ∷ count n ∷ pair_arguments p) (i, (n, p))
hint-reads i n p = both-reads (index-reads i) (both-reads (count-reads n) (pair-reads p))

-- the command with these arguments
module _ {X : Type 0} {reader : Reader X} {arguments : List Argument} {x : X} where
  taken : (command : X → PairCommand) → Reads reader arguments x → AllByRecursion IsInRange arguments → Some (taking reader command (map argument_text arguments)) ≡ Some (Ok (command x))
  unfolding arguments_in
  taken command read range =
      ap (λ words. Some (taking reader command words)) (sym (append-nil (map argument_text arguments)))
      ∙ ap (λ found. Some (none_left found >>= λ x. Ok (command x))) (read.reads range [])

-- the line of a command is read as the command
abbrev IsSaid : PairCommand → Type 0
IsSaid command = AllByRecursion IsInRange (saying_of command).arguments → said_by (spelled command) ≡ Some (Ok command)

-- an insertion at a place that a line names, by the pair's own key if by a key
said_by-entry : (kind : OrdInsertKind Pointer ℤ ℕ ℕ) (pair : Pair) → GoesByItsKey kind pair → IsSaid (commands.Entry kind pair)
said_by-entry kinds.Empty pair by range = taken (commands.Entry kinds.Empty) (pair-reads pair) range
said_by-entry (kinds.Normal k) pair by range = absurd by
said_by-entry (kinds.Nonhereditary k) pair by range =
    taken nonhereditary (pair-reads pair) range ∙ ap (λ key. Some (Ok (commands.Entry (kinds.Nonhereditary key) pair))) by
said_by-entry (kinds.Linear i n k) pair by range =
    taken linear (hint-reads i n pair) range ∙ ap (λ key. Some (Ok (commands.Entry (kinds.Linear i n key) pair))) by
said_by-entry (kinds.NonhereditaryLinear i n k) pair by range =
    taken nonhereditary_linear (hint-reads i n pair) range ∙ ap (λ key. Some (Ok (commands.Entry (kinds.NonhereditaryLinear i n key) pair))) by
said_by-entry (kinds.Manual i Less) pair by range = taken (entry_beside Less) (both-reads (index-reads i) (pair-reads pair)) range
said_by-entry (kinds.Manual i Equal) pair by range = taken (entry_beside Equal) (both-reads (index-reads i) (pair-reads pair)) range
said_by-entry (kinds.Manual i Greater) pair by range = taken (entry_beside Greater) (both-reads (index-reads i) (pair-reads pair)) range

-- each command
said_by-spelled : (command : PairCommand) → CanBeSaid command → IsSaid command
said_by-spelled (commands.Insert p) sayable range = taken commands.Insert (pair-reads p) range
said_by-spelled (commands.InsertWithin p) sayable range = taken commands.InsertWithin (pair-reads p) range
said_by-spelled (commands.Entry kind pair) sayable range = said_by-entry kind pair sayable.0 range
said_by-spelled (commands.EntryWithin kind pair) sayable range = absurd sayable
said_by-spelled (commands.Set p item) sayable range = taken (λ a. commands.Set a.0 a.1) (both-reads (pointer-reads p) (pair-reads item)) range
said_by-spelled (commands.Rekey p item) sayable range = taken (λ a. commands.Rekey a.0 a.1) (both-reads (pointer-reads p) (pair-reads item)) range
said_by-spelled (commands.Remove p) sayable range = taken commands.Remove (pointer-reads p) range
said_by-spelled (commands.RemoveInx i) sayable range = taken commands.RemoveInx (index-reads i) range
said_by-spelled (commands.Invalidate p) sayable range = taken commands.Invalidate (pointer-reads p) range
said_by-spelled (commands.Compress b) sayable range = taken commands.Compress (flag-reads b) range
said_by-spelled (commands.Canonical b) sayable range = taken commands.Canonical (flag-reads b) range
said_by-spelled (commands.Find k) sayable range = taken commands.Find (key-reads k) range
said_by-spelled (commands.FindLinear p n k) sayable range = taken (λ a. commands.FindLinear a.0 a.1.0 a.1.1) (both-reads (pointer-reads p) (both-reads (count-reads n) (key-reads k))) range
said_by-spelled (commands.Similar k) sayable range = taken commands.Similar (key-reads k) range
said_by-spelled (commands.SimilarLinear i n k) sayable range = taken (λ a. commands.SimilarLinear a.0 a.1.0 a.1.1) (both-reads (index-reads i) (both-reads (count-reads n) (key-reads k))) range
said_by-spelled commands.FindWith sayable range = absurd sayable
said_by-spelled commands.SimilarWith sayable range = absurd sayable
said_by-spelled (commands.Visits k) sayable range = taken commands.Visits (key-reads k) range
said_by-spelled (commands.Get p) sayable range = taken commands.Get (pointer-reads p) range
said_by-spelled (commands.Neighbours i) sayable range = taken commands.Neighbours (index-reads i) range
said_by-spelled (commands.Reserve n) sayable range = taken commands.Reserve (count-reads n) range
said_by-spelled (commands.SetMax n) sayable range = taken commands.SetMax (count-reads n) range
said_by-spelled (commands.DrainOrdered n) sayable range = taken commands.DrainOrdered (count-reads n) range
said_by-spelled command sayable range = taken (λ _. command) nothing-reads tt

-- its numbers are in range
pub in_range : (command : PairCommand) → CanBeSaid command → All IsInRange (saying_of command).arguments
in_range commands.FindWith sayable = absurd sayable
in_range commands.SimilarWith sayable = absurd sayable
in_range (commands.Insert pair) sayable = sayable
in_range (commands.Entry kind pair) sayable = sayable.1
in_range (commands.EntryWithin kind pair) sayable = absurd sayable
in_range command sayable = sayable

pub command_text : (command : PairCommand) → CanBeSaid command → said_by (spelled command) ≡ Some (Ok command)
command_text command sayable = said_by-spelled command sayable (recursion_from_All IsInRange (saying_of command).arguments (in_range command sayable))
