use Rattle.std.proofs.Common.{◌≡◌, ℕ, List, ◌++◌}
use Rattle.std.specs.Io.KnownBytes.{Appends}
use Rattle.jobs.proofs.serve.write_answers.Given as goal

-- what was written and what is left make up the answers
abbrev pub invariant-parts : goal.invariant-parts
invariant-parts g l =
    let contents = g.W.Write.contents in
    record { sent : (written : List ℕ) × Appends (contents l.fn.out) (contents l.out) written × (l.answers ≡ written ++ l.rest) }
