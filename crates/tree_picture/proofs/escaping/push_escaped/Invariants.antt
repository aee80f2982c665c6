use Rattle.std.proofs.Common.{◌≡◌, ◌++◌, string_bytes}
use Rattle.std.specs.Prelude.{flat_map}
use Rattle.tree_picture.specs.Text.{entity_of}
use Rattle.tree_picture.proofs.escaping.push_escaped.Given as goal

-- what is appended so far
abbrev pub invariant-loop-c : goal.invariant-loop-c
invariant-loop-c g l = string_bytes l.xml ≡ string_bytes l.initial.xml ++ flat_map entity_of l.yielded
