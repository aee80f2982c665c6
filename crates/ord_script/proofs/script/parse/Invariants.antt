use Rattle.std.proofs.Common.{◌≡◌, ◌+◌, ◌≤◌, List, ◌++◌, length}
use Rattle.std.specs.Str.Lines.{lines}
use Rattle.ord_script.specs.{Pairs.PairCommand, Script.Script, Script.script_from, Script.script_of}
use Rattle.ord_script.proofs.script.parse.Given as goal

-- commands in front of a script
abbrev pub in_front : List PairCommand → Script → Script
in_front commands script = record { commands = commands ++ script.commands; fault = script.fault }

-- the commands so far, followed by the script of the lines that are left
abbrev pub invariant-loop-line : goal.invariant-loop-line
invariant-loop-line g l = record {
  script : in_front l.commands.items (script_from (l.number + 1) (lines l.rest)) ≡ script_of l.bytes;
  bound : l.number + length l.rest ≤ length l.bytes;
}

abbrev pub decreases-loop-line : goal.decreases-loop-line
decreases-loop-line g l = length l.rest
