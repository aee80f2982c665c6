use Rattle.std.proofs.Common.{◌≡◌, ℕ, List, ◌++◌, length}
use Rattle.std.specs.Io.KnownBytes.{Appends}
use Rattle.ord_script.proofs.writing.write_all.Given as goal

-- what was written and what is left make up the bytes, and nothing has failed
abbrev pub invariant-loop-rest : goal.invariant-loop-rest
invariant-loop-rest g l =
    let contents = g.W.Write.contents in
    record {
      sent : (written : List ℕ) × Appends (contents l.fn.writer.device) (contents l.writer.device) written × (l.bytes ≡ written ++ l.rest);
      failed : l.writer.failed ≡ l.fn.writer.failed;
      ended : l.writer.ended ≡ l.fn.writer.ended;
    }

abbrev pub decreases-loop-rest : goal.decreases-loop-rest
decreases-loop-rest g l = length l.rest
