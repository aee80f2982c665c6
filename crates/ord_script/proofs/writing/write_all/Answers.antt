use Rattle.std.proofs.Common.{◌≡◌, ℕ, ◌-◌, List, ◌++◌, length, take, drop, rules, arith, append_assoc}
use Rattle.std.proofs.lemmas.List.{take-append-drop, take_rest}
use Rattle.ord_script.proofs.KnownBytes.{Appends-append}
use Rattle.ord_script.proofs.writing.write_all.Goals as goal

-- after some bytes of the rest were written
sent_more : (bytes written rest : List ℕ) (count : ℕ) → bytes ≡ written ++ rest → bytes ≡ (written ++ take count rest) ++ take (length rest - count) (drop count rest)
sent_more bytes written rest count parts = rw (take_rest, append_assoc, take-append-drop) parts

pub loop-rest-preserved : goal.loop-rest-preserved
loop-rest-preserved g c =
    let sent = c.loop-rest.invariant.sent in
    let rest = c.loop-rest.rest.now in
    record {
      sent = (sent.0 ++ take c.in-Ok.count rest, Appends-append _ _ _ _ _ sent.1 c.in-Ok.ensures.bytes, sent_more _ sent.0 rest c.in-Ok.count sent.2);
      failed = grind (arith, c.in-Ok.ensures.failed);
      ended = search rules;
    }
