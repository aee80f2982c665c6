use Rattle.std.proofs.Common.{◌≡◌, ◌++◌, string_bytes}
use Rattle.std.specs.{Iterator.Adapters.zip_first, Iterator.Adapters.zip_second, Slice.Iter.iter_rest}
use Rattle.ord_script.specs.Text.{reply_lines}
use Rattle.ord_script.proofs.text.lines_of.Given as goal

-- the lines so far, followed by those that are left
abbrev pub invariant-loop-form : goal.invariant-loop-form
invariant-loop-form g l =
    string_bytes l.text ++ reply_lines (iter_rest (zip_first l.form-iterator)) (iter_rest (zip_second l.form-iterator)) ≡ reply_lines l.forms l.replies
