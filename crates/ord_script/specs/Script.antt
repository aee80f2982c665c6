-- A script: bytes cut into lines, lines cut into words, and the commands up to the first fault.
use Rattle.std.specs.Prelude.{ℕ, ◌+◌, ◌==◌, ◌||◌, Bool, not, List, [], ◌∷◌, length, filter, Option, Some, None, Result, Ok, Err}
use Rattle.std.specs.{List.slice_split, Str.Lines.lines}
use Rattle.ord_script.specs.{declared.fault.FaultKind.FaultKind, declared.fault.Fault.Fault, Pairs.PairCommand, Commands.said_by}

-- a space or a tab
abbrev pub is_blank : ℕ → Bool
is_blank b = (b == 32) || (b == 9)

-- the words between blanks
abbrev pub words_of : List ℕ → List (List ℕ)
words_of line = filter (λ word. not (length word == 0)) (slice_split is_blank line)

-- the commands up to the first fault, and that fault, if any
pub record Script : Type 0 where
  pub commands : List PairCommand
  pub fault : Option Fault

-- the meaning of a line, followed by the script of the lines after it
abbrev pub and_then : ℕ → Option (Result PairCommand FaultKind) → Script → Script
and_then number None script = script
and_then number (Some (Ok command)) script =
    record { commands = command ∷ script.commands; fault = script.fault }
and_then number (Some (Err kind)) script =
    record { commands = []; fault = Some (record { line = number; kind = kind }) }

-- the script of some lines, the first of which has this number
abbrev pub script_from : ℕ → List (List ℕ) → Script
script_from number [] = record { commands = []; fault = None }
script_from number (line ∷ lines) = and_then number (said_by (words_of line)) (script_from (number + 1) lines)

-- the script of some bytes; lines end as in a text, and are counted from 1
abbrev pub script_of : List ℕ → Script
script_of bytes = script_from 1 (lines bytes)
