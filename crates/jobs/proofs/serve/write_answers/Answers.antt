use Rattle.std.proofs.Common.{◌≡◌, ℕ, ◌-◌, List, ◌++◌, length, take, drop, append_assoc}
use Rattle.std.proofs.lemmas.List.{take-append-drop, take_rest}
use Rattle.jobs.proofs.Steps.{appends_more}
use Rattle.jobs.proofs.serve.write_answers.Goals as goal

-- after some bytes of the rest were written
sent_more : (bytes written rest : List ℕ) (count : ℕ) → bytes ≡ written ++ rest → bytes ≡ (written ++ take count rest) ++ take (length rest - count) (drop count rest)
sent_more bytes written rest count parts = rw (take_rest, append_assoc, take-append-drop) parts

pub parts-preserved : goal.parts-preserved
parts-preserved g c =
    let sent = c.parts.invariant.sent in
    let rest = c.parts.rest.now in
    let count = c.in_ok-count.count in
    let wrote = c.in_ok-count.ensures.wrote in
    record { sent = (sent.0 ++ take count rest, appends_more _ _ _ _ _ sent.1 wrote.1, sent_more _ sent.0 rest count sent.2) }
