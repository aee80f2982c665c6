use Rattle.std.proofs.Common.{◌≡◌, string_bytes}
use Rattle.std.specs.Prelude.{encode_utf8, flat_map}
use Rattle.tree_picture.proofs.key_text.beginning.Given as goal

-- the characters so far
abbrev pub invariant-loop-c : goal.invariant-loop-c
invariant-loop-c g l = string_bytes l.begun ≡ flat_map encode_utf8 l.yielded
