use Rattle.std.proofs.Common.{◌≡◌, ◌++◌, string_bytes, take, flat_map, codes}
use Rattle.ord_script.specs.Text.{entry_text}
use Rattle.ord_script.proofs.text.push_entries.Given as goal

-- the word, and the entries so far
abbrev pub invariant-loop-p : goal.invariant-loop-p
invariant-loop-p g l =
    string_bytes l.text ≡ string_bytes l.fn.text ++ (l.word ++ flat_map (λ e. codes " " ++ entry_text e) (take l.p-index l.entries))
